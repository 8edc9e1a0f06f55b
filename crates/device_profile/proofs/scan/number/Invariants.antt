use Rattle.std.proofs.Common.{◌≡◌, ◌<◌, ◌^◌, drop}
use Rattle.std.specs.List.{list_all}
use Rattle.device_profile.specs.Words.{value_after, is_digit}
use Rattle.device_profile.proofs.scan.number.Given as goal

abbrev pub invariant-loop-byte : goal.invariant-loop-byte
invariant-loop-byte l =
    (list_all is_digit l.word ≡ list_all is_digit (drop l.byte-index l.word))
    × (value_after 0 l.word ≡ value_after l.value (drop l.byte-index l.word)) × (l.value < 10 ^ l.byte-index)
