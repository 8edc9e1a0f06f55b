use Rattle.std.proofs.Common.{[], ◌∷◌, None}
use Rattle.device_profile.specs.declared.field.Field.TheVariants.{Size, Orientation}
use Rattle.page_env.specs.Settings.{settings_at}
use Rattle.page_env.specs.FontInForce.{font_reads}
use Rattle.page_env.specs.Places.{page_reads}
use Rattle.page_env.proofs.TextJudging.{unset_in_second}
use Rattle.page_env.proofs.text_lines.page_and_request.Goals as goal

pub returns : goal.returns
unfolding page_reads
returns g c = λ panel.
    let env = c.args.page.now.env in
    let known = c.in-Some.ensures panel in
    let request = c.in-Ok.ensures panel in (
      unset_in_second (settings_at panel env) (Size ∷ Orientation ∷ []) (font_reads env.job.font) None known.0 request.0,
      known.1,
      known.2,
      request.1,
    )
