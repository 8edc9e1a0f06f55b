use Rattle.std.proofs.Common.{ℤ, ◌+ℤ◌, ap, sym, ◌∙◌}
use Rattle.device_profile.specs.declared.geometry.Geometry.{Geometry}
use Rattle.page_env.specs.Places.{origin_on}
use Rattle.page_env.proofs.places.known_cursor.Goals as goal

pub returns : goal.returns
returns g c = λ panel.
    let read = c.in_ok-paper.ensures panel in
    let x : ℤ = c.args.page.now.cursor.x in (
      read.0,
      c.on_sheet.ensures.x ∙ ap (λ origin. origin.x +ℤ x) c.origin_on-origin.ensures
          ∙ sym (ap (λ (r : Geometry × ℤ). (origin_on r.0).x +ℤ x) read.1),
      c.on_sheet.ensures.y ∙ ap (λ origin. origin.y +ℤ c.in_ok-paper.y) c.origin_on-origin.ensures
          ∙ sym (ap (λ (r : Geometry × ℤ). (origin_on r.0).y +ℤ r.1) read.1),
    )
