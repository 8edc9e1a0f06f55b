use Rattle.std.proofs.Common.{◌≡◌, ◌∙◌, ◌++◌, ℕ, List, ap, subst}
use Rattle.std.specs.List.{flat_map}
use Rattle.std.specs.Prelude.{OnOk}
use Rattle.std.specs.Str.{chars}
use Rattle.shown_bytes.specs.Shown.{shown_letter, shown_text}
use Rattle.shown_bytes.proofs.Texts.{text_of_utf8, text_of_others}
use Rattle.shown_bytes.proofs.letters.push_shown_text.Goals as goal

pub returns-in-Ok : goal.returns-in-Ok
unfolding shown_text
returns-in-Ok g c =
    let name = c.args.name.now in
    subst (λ (text : List ℕ). OnOk c.push_letters.result (c.push_letters.new.out.items ≡ c.args.out.now.items ++ text))
    (ap (λ (text : List ℕ). flat_map shown_letter (chars text)) c.in-Ok.ensures.cases.0
    ∙ text_of_utf8 name (flat_map shown_letter (chars name)) c.in-Ok.ensures.cases.1)
    c.push_letters.ensures

pub returns-in-Err : goal.returns-in-Err
unfolding shown_text
returns-in-Err g c =
    let name = c.args.name.now in
    subst (λ (text : List ℕ). OnOk c.push_shown.result (c.push_shown.new.out.items ≡ c.args.out.now.items ++ text))
    (text_of_others name (flat_map shown_letter (chars name)) c.in-Err.ensures.cases.0)
    c.push_shown.ensures
