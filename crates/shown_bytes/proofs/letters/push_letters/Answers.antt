use Rattle.std.proofs.Common.{◌∙◌, ◌++◌, ℕ, List, sym, ap, map-id}
use Rattle.std.specs.List.{flat_map}
use Rattle.std.proofs.lemmas.Iterator.{YieldsList-from_chars}
use Rattle.std.proofs.lemmas.Iterator.Consumers.{YieldsList-end}
use Rattle.std.proofs.lemmas.List.{flat_map_more}
use Rattle.shown_bytes.specs.Shown.{shown_letter}
use Rattle.shown_bytes.proofs.letters.push_letters.Goals as goal

pub loop-letter-preserved : goal.loop-letter-preserved
loop-letter-preserved g c =
    c.in_ok-push_letter.ensures
    ∙ ap (λ (l : List ℕ). l ++ shown_letter c.in-Some.letter) c.loop-letter.invariant
    ∙ flat_map_more shown_letter _ c.loop-letter.yielded c.in-Some.letter

pub returns : goal.returns
returns g c =
    let end = YieldsList-end (YieldsList-from_chars c.args.text.now c.utf8.text cc) c.loop-letter.yielded _ c.loop-letter.yielded_by
    _ _ c.in-None.is c.next.ensures.steps in
    c.loop-letter.invariant
    ∙ ap (λ (cs : List ℕ). c.args.out.now.items ++ flat_map shown_letter cs) (sym (map-id c.loop-letter.yielded) ∙ end.0)
