use Rattle.std.proofs.Common.{◌≡◌, map, take}
use Rattle.printer_models.specs.Paper.{word_of}
use Rattle.profile_commands.proofs.from_pjl.names_of.Given as goal

abbrev pub invariant-loop-paper : goal.invariant-loop-paper
invariant-loop-paper g l = map (λ name. name.now) l.names.items ≡ map word_of (take l.paper-index l.papers)
