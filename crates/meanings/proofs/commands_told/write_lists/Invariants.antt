use Rattle.std.proofs.Common.{IsFalse, map, take}
use Rattle.std.specs.List.{concat}
use Rattle.streams.specs.Outlet.{Adds}
use Rattle.command_names.specs.CommandNames.{texts_of}
use Rattle.meanings.specs.CommandsTold.{list_line}
use Rattle.meanings.proofs.commands_told.write_lists.Given as goal

abbrev pub invariant-loop-chapter : goal.invariant-loop-chapter
invariant-loop-chapter g l =
    IsFalse (g.O.Outlet.state l.stdout).failed
    × Adds (g.O.Outlet.state l.initial.stdout) (g.O.Outlet.state l.stdout)
    (concat (map (λ chapter. concat (map list_line (texts_of chapter))) (take l.chapter-index l.chapters)))
