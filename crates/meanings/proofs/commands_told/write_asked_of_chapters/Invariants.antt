use Rattle.std.proofs.Common.{IsFalse, filter, map, option_map, take}
use Rattle.std.specs.List.{concat}
use Rattle.streams.specs.Outlet.{Adds}
use Rattle.command_names.specs.CommandNames.{texts_of}
use Rattle.meanings.specs.CommandsTold.{asks_of}
use Rattle.meanings.proofs.commands_told.write_asked_of_chapters.Given as goal

abbrev pub invariant-loop-chapter : goal.invariant-loop-chapter
invariant-loop-chapter g l =
    IsFalse (g.O.Outlet.state l.stdout).failed
    × Adds (g.O.Outlet.state l.initial.stdout) (g.O.Outlet.state l.stdout)
    (concat (map (λ chapter. concat (filter (asks_of (option_map (λ word. word.now) l.code)) (texts_of chapter)))
    (take l.chapter-index l.chapters)))
