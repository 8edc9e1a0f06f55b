use Rattle.std.proofs.Common.{◌≡◌, ◌∙◌, ◌++◌, ℕ, ℤ, List, ap, arith, sym}
use Rattle.std.specs.Int.{cast_signed, cast_unsigned, w64}
use Rattle.std.proofs.lemmas.Int.{ints, to_z-of_z}
use Rattle.page_pdf.specs.declared.page_parts.PagePart.TheVariants as parts
use Rattle.page_pdf.specs.Figures.{length_figure}
use Rattle.page_pdf.specs.PageParts.{page_part}
use Rattle.page_pdf.specs.Pages.{failure_text}
use Rattle.page_pdf.proofs.Appending.{four_appended}
use Rattle.page_pdf.proofs.pages.push_cross.Goals as goal

pub returns : goal.returns
unfolding failure_text
returns g c =
    let spot = c.args.spot in
    let x : ℤ = cast_signed w64 (cast_unsigned w64 spot.x) in
    let y : ℤ = cast_signed w64 (cast_unsigned w64 spot.y) in
    let x_is : x ≡ spot.x = grind (arith, ints, to_z-of_z, spot.near_x) in
    let y_is : y ≡ spot.y = grind (arith, ints, to_z-of_z, spot.near_y) in
    let begin : List ℕ = c.bytes.result.now in
    let end : List ℕ = c.bytes-2.result.now in
    four_appended c.extend_from_slice-2.result c.args.text.now.items c.extend_from_slice.new.self.items c.push_ticks.new.text.items
    c.push_ticks-2.new.text.items c.extend_from_slice-2.new.self.items begin (length_figure x) (length_figure y) end
    (failure_text spot.x spot.y)
    c.in_ok-extend_from_slice.ensures.items c.in_ok-push_ticks.ensures c.in_ok-push_ticks-2.ensures c.extend_from_slice-2.ensures.items
    (ap (λ (l : List ℕ). l ++ length_figure spot.x ++ length_figure spot.y ++ page_part parts.FailureEnd) (sym c.bytes.ensures)
    ∙ (ap (λ (z : ℤ). begin ++ length_figure z ++ length_figure spot.y ++ page_part parts.FailureEnd) (sym x_is)
    ∙ (ap (λ (z : ℤ). begin ++ length_figure x ++ length_figure z ++ page_part parts.FailureEnd) (sym y_is)
    ∙ ap (λ (l : List ℕ). begin ++ length_figure x ++ length_figure y ++ l) (sym c.bytes-2.ensures))))
