use Rattle.std.proofs.Common.{◌≡◌, decimal, drop, map}
use Rattle.meanings.specs.Explanations.{explained_by}
use Rattle.meanings.proofs.explain.explained_by.Given as goal

abbrev pub invariant-loop-text : goal.invariant-loop-text
invariant-loop-text l =
    explained_by (decimal l.number) (map (λ text. text.now) l.texts)
    ≡ explained_by (decimal l.number) (map (λ text. text.now) (drop l.text-index l.texts))
