use Rattle.std.proofs.Common.{◌≡◌, List, ℕ, ℤ, None, Some, refl, ap, sym, ◌∙◌, ◌+ℤ◌}
use Rattle.device_profile.specs.declared.geometry.Geometry.{Geometry}
use Rattle.page_env.specs.declared.places.Origin.{Origin}
use Rattle.page_env.specs.Settings.{state_at}
use Rattle.page_env.specs.Effect.{first_finding, Goes}
use Rattle.page_env.specs.Answers.{Marks}
use Rattle.page_env.specs.Rasters.{up_to_black, row_checks, row_from, place_checks, print_row}
use Rattle.page_env.proofs.Lines.{late_line}
use Rattle.page_env.proofs.raster_rows.print_row.Goals as goal

pub returns-in-Err : goal.returns-in-Err
unfolding Marks
returns-in-Err g c = (
  λ panel.
      let s = state_at panel c.args.page.now in
      let line = print_row c.args.profile.now s c.args.bytes.now in
      let raster = s.settings.job.raster in
      let geometry = c.in_ok-geometry.geometry in
      let y = c.in_ok-geometry.y in
      let place = c.on_sheet-place.result in
      let black : List ℕ = c.up_to_black-black.result.now in
      let all : List ℕ = up_to_black c.args.bytes.now in
      let is : black ≡ all = c.up_to_black-black.ensures.value in
      let checks_before : first_finding line.checks_before ≡ None =
      ap (λ b. first_finding (row_checks raster s.raster b)) (sym is) ∙ c.in_ok-behind.ensures.1 in
      let after : first_finding line.checks_after ≡ Some c.in-Err.finding =
      ap
      (λ (r : Geometry × Origin × ℤ).
      first_finding (place_checks r.0 r.2 all (row_from raster.resolution (r.1.x +ℤ s.cursor.x) (r.1.y +ℤ r.2) all)))
      ((c.in_ok-geometry.ensures panel).1)
      ∙ (λ i. first_finding
      (place_checks geometry y all (row_from raster.resolution (sym c.on_sheet-place.ensures.x i) (sym c.on_sheet-place.ensures.y i) all)))
      ∙ ap (λ b. first_finding (place_checks geometry y b (row_from raster.resolution place.x place.y b))) (sym is) ∙ c.in-Err.ensures in
      late_line s.settings line (Goes line.state line.marks) c.in-Err.finding checks_before ((c.in_ok-geometry.ensures panel).0) after,
  record { env = refl; cursor = refl },
)
