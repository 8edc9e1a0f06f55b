use Rattle.std.proofs.Common.{◌≡◌, false, take}
use Rattle.std.specs.List.{list_any}
use Rattle.meanings.specs.Explanations.{is_about}
use Rattle.meanings.proofs.explain.is_known.Given as goal

abbrev pub invariant-loop-text : goal.invariant-loop-text
invariant-loop-text l = list_any (λ text. is_about l.code text.now) (take l.text-index l.texts) ≡ false
