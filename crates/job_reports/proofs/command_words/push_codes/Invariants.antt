use Rattle.std.proofs.Common.{◌≡◌, ◌++◌, take}
use Rattle.std.specs.Prelude.{flat_map}
use Rattle.job_reports.specs.CommandWords.{code_words}
use Rattle.job_reports.proofs.command_words.push_codes.Given as goal

abbrev pub invariant-loop-byte : goal.invariant-loop-byte
invariant-loop-byte g l = l.words.items ≡ l.initial.words.items ++ flat_map code_words (take l.byte-index l.bytes)
