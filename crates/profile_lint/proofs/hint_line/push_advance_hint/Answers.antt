use Rattle.std.proofs.Common.{◌++◌, ℕ, List, ap, codes, decimal, ◌∙◌}
use Rattle.profile_lint.specs.FaceHints.{advance_by}
use Rattle.profile_lint.specs.HintLines.{advance_hint_words}
use Rattle.profile_lint.proofs.Pushed.{joined, last_is_pushed}
use Rattle.profile_lint.proofs.hint_line.push_advance_hint.Goals as goal

pub returns : goal.returns
unfolding advance_hint_words
returns g c =
    let old = c.args.out.now.items in
    let start : List ℕ = codes "face " ++ decimal c.args.face ++ codes ": a character advances by " in
    let advance : List ℕ = decimal c.args.advance ++ codes ", but by its pitch it is " in
    let unit : List ℕ = codes " in 1/7200 inch" in
    let wanted : List ℕ = decimal (advance_by c.args.pitch) ++ unit in
    last_is_pushed c.push_advance-2.result c.push_advance-2.new.out.items _ (old ++ ((start ++ advance) ++ wanted))
    (ap (λ (n : ℕ). c.push_advance.new.out.items ++ (decimal n ++ unit)) c.advance_by.ensures
    ∙ joined old (start ++ advance) _ wanted (c.in_ok-push_advance.ensures
    ∙ joined old start _ advance c.in_ok-push_number_in.ensures))
    c.push_advance-2.ensures
