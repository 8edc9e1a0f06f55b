use Rattle.std.proofs.Common.{◌≡◌, ◌∙◌, ◌++◌, List, ℕ, ap, append_assoc, codes}
use Rattle.std.proofs.lemmas.Result.{on_ok_weaker}
use Rattle.shown_bytes.specs.Shown.{shown_text}
use Rattle.line_words.specs.Figures.{named}
use Rattle.survey.specs.Lines.{first_words}
use Rattle.survey.proofs.lines.push_first.Goals as goal

pub returns : goal.returns
unfolding first_words
returns g c =
    let old : List ℕ = c.args.text.now.items in
    let place : List ℕ = named (codes ", first at byte ") c.args.place in
    let name : List ℕ = shown_text c.args.name.now in
    on_ok_weaker c.push_shown_text.result
    (λ (added : c.push_shown_text.new.out.items ≡ c.extend_from_slice.new.self.items ++ shown_text c.as_bytes.result.now).
    added ∙ ap (λ (bytes : List ℕ). c.extend_from_slice.new.self.items ++ shown_text bytes) c.as_bytes.ensures.value
    ∙ ap (λ (l : List ℕ). l ++ name)
    (c.in_ok-extend_from_slice.ensures.items ∙ ap (λ (l : List ℕ). l ++ codes " of ") c.in_ok-push_named.ensures
    ∙ append_assoc old place (codes " of "))
    ∙ append_assoc old (place ++ codes " of ") name)
    c.push_shown_text.ensures
