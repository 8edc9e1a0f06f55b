use Rattle.std.proofs.Common.{◌≡◌, false, option_map, take}
use Rattle.std.specs.List.{list_any}
use Rattle.command_names.specs.CommandNames.{texts_of}
use Rattle.meanings.specs.CommandsTold.{asks_of}
use Rattle.meanings.proofs.commands_told.asks_of_chapters.Given as goal

abbrev pub invariant-loop-chapter : goal.invariant-loop-chapter
invariant-loop-chapter l =
    list_any (λ chapter. list_any (asks_of (option_map (λ word. word.now) l.code)) (texts_of chapter)) (take l.chapter-index l.chapters)
    ≡ false
