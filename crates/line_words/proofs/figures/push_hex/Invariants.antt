use Rattle.std.proofs.Common.{◌≡◌, ◌++◌, take}
use Rattle.std.specs.List.{flat_map}
use Rattle.shown_bytes.specs.Shown.{hex_byte}
use Rattle.line_words.proofs.figures.push_hex.Given as goal

abbrev pub invariant-loop-byte : goal.invariant-loop-byte
invariant-loop-byte g l = l.text.items ≡ l.initial.text.items ++ flat_map hex_byte (take l.byte-index l.bytes)
