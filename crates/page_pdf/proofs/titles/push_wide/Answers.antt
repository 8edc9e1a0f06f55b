use Rattle.std.proofs.Common.{◌≡◌, ◌∙◌, ◌++◌, ℕ, List, ap, subst}
use Rattle.std.specs.Prelude.{OnOk}
use Rattle.page_pdf.specs.Hexes.{letter_codes}
use Rattle.page_pdf.specs.Titles.{unicode_digits, wide_codes}
use Rattle.page_pdf.proofs.TitleFacts.{text_of_utf8, text_of_others}
use Rattle.page_pdf.proofs.titles.push_wide.Goals as goal

pub returns-in-Ok : goal.returns-in-Ok
unfolding wide_codes
returns-in-Ok g c =
    let name = c.args.name.now in
    subst (λ (codes : List ℕ). OnOk c.push_unicode.result (c.push_unicode.new.text.items ≡ c.args.text.now.items ++ codes))
    (ap unicode_digits c.in-Ok.ensures.cases.0
    ∙ text_of_utf8 name (unicode_digits name) (letter_codes name) c.in-Ok.ensures.cases.1)
    c.push_unicode.ensures

pub returns-in-Err : goal.returns-in-Err
unfolding wide_codes
returns-in-Err g c =
    let name = c.args.name.now in
    subst (λ (codes : List ℕ). OnOk c.push_letters.result (c.push_letters.new.text.items ≡ c.args.text.now.items ++ codes))
    (text_of_others name (unicode_digits name) (letter_codes name) c.in-Err.ensures.cases.0)
    c.push_letters.ensures
