use Rattle.std.proofs.Common.{IsFalse, map, option_map, take}
use Rattle.std.specs.List.{concat}
use Rattle.streams.specs.Outlet.{Adds}
use Rattle.meanings.proofs.ExplainFacts.{told}
use Rattle.meanings.specs.Explanations.{is_asked}
use Rattle.meanings.proofs.explain.write_asked.Given as goal

abbrev pub invariant-loop-text : goal.invariant-loop-text
invariant-loop-text g l =
    IsFalse (g.O.Outlet.state l.stdout).failed
    × Adds (g.O.Outlet.state l.initial.stdout) (g.O.Outlet.state l.stdout)
    (concat (map (λ text. told (is_asked (option_map (λ word. word.now) l.code)) text.now) (take l.text-index l.texts)))
