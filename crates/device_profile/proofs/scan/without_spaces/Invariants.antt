use Rattle.std.proofs.Common.{◌≡◌, drop}
use Rattle.device_profile.specs.Words.{words_of}
use Rattle.device_profile.proofs.scan.without_spaces.Given as goal

abbrev pub invariant-loop-i : goal.invariant-loop-i
invariant-loop-i l = words_of (drop l.i l.line) ≡ words_of l.line
