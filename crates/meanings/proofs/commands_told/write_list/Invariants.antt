use Rattle.std.proofs.Common.{IsFalse, map, take}
use Rattle.std.specs.List.{concat}
use Rattle.streams.specs.Outlet.{Adds}
use Rattle.meanings.specs.CommandsTold.{list_line}
use Rattle.meanings.proofs.commands_told.write_list.Given as goal

abbrev pub invariant-loop-text : goal.invariant-loop-text
invariant-loop-text g l =
    IsFalse (g.O.Outlet.state l.stdout).failed
    × Adds (g.O.Outlet.state l.initial.stdout) (g.O.Outlet.state l.stdout)
    (concat (map (λ text. list_line text.now) (take l.text-index l.commands)))
