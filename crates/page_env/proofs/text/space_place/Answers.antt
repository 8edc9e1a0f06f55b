use Rattle.std.proofs.Common.{◌∷◌}
use Rattle.device_profile.specs.declared.field.Field.TheVariants.{Size, Orientation}
use Rattle.page_env.specs.Settings.{settings_at, state_at}
use Rattle.page_env.specs.Places.{geometry_of, vertical_place, vertical_reads, column_of, column_reads}
use Rattle.page_env.specs.Text.{text_reads}
use Rattle.page_env.proofs.TextJudging.{unset_in_first, reads_fail}
use Rattle.page_env.proofs.text.space_place.Goals as goal

pub returns-in_err-geometry : goal.returns-in_err-geometry
unfolding text_reads
returns-in_err-geometry g c =
    reads_fail c.args.page.now.env (text_reads c.args.page.now.cursor.y (column_reads c.args.page.now.env.job))
    (λ panel. (
      geometry_of c.args.profile.now (state_at panel c.args.page.now),
      vertical_place (state_at panel c.args.page.now),
      column_of c.args.profile.now (state_at panel c.args.page.now),
    ))
    c.in_err-geometry.field-0.0 _ c.from_residual.ensures.1
    (λ panel. unset_in_first (settings_at panel c.args.page.now.env) c.in_err-geometry.field-0.0
    (Size ∷ Orientation ∷ vertical_reads c.args.page.now.cursor.y) (column_reads c.args.page.now.env.job)
    ((rw c.in_err-geometry.was at c.geometry_and_vertical.ensures) panel))
