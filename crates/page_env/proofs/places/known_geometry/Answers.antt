use Rattle.std.proofs.Common.{rules, ◌≡◌, ◌∙◌, cond, None, Some, ap, sym}
use Rattle.std.specs.Prelude.{unwrap_or}
use Rattle.std.specs.Option.{option_copied}
use Rattle.device_profile.specs.declared.field.Field.TheVariants as fields
use Rattle.device_profile.specs.Printer.{geometry_at, row_at, no_page}
use Rattle.page_env.specs.declared.cell.Cell.TheVariants.{Known}
use Rattle.page_env.specs.Settings.{is_from_panel, value_at, state_at}
use Rattle.page_env.specs.Places.{geometry_of, origin_of, page_reads}
use Rattle.page_env.proofs.places.known_geometry.Goals as goal

pub returns : goal.returns
unfolding geometry_at page_reads
returns g c = λ panel.
    let env = c.args.page.now.env in
    let rows = c.args.profile.now.geometries in
    let size : env.fields.size ≡ Known c.in-Ok-Ok.size = c.in-Ok-Ok.ensures in
    let orientation : env.fields.orientation ≡ Known c.in-Ok-Ok.orientation = c.in-Ok-Ok.ensures' in
    let row : row_at rows c.in-Ok-Ok.size c.in-Ok-Ok.orientation ≡ Some c.in_ok-geometry.geometry.now =
    sym c.geometry.ensures.row ∙ ap option_copied c.in_ok-geometry.was in
    let is : geometry_of c.args.profile.now (state_at panel c.args.page.now) ≡ c.in_ok-geometry.geometry.now =
    ap (λ cell. geometry_at rows (value_at panel.size cell) (value_at panel.orientation env.fields.orientation)) size
    ∙ ap (λ cell. geometry_at rows c.in-Ok-Ok.size (value_at panel.orientation cell)) orientation
    ∙ ap (λ o. unwrap_or o no_page) row in
    let placed : origin_of c.args.profile.now (state_at panel c.args.page.now) ≡ c.origin_on.result = search rules in (
      ap (λ cell. cond (is_from_panel cell) (Some fields.Size) (cond (is_from_panel env.fields.orientation) (Some fields.Orientation) None))
          size
          ∙ ap (λ cell. cond (is_from_panel cell) (Some fields.Orientation) None) orientation,
      is,
      placed,
    )
