use Rattle.std.proofs.Common.{◌≡◌, ◌++◌, take}
use Rattle.std.specs.List.{flat_map}
use Rattle.page_picture.specs.Texts.{byte_text}
use Rattle.page_picture.proofs.texts.push_sentence_text.Given as goal

abbrev pub invariant-loop-byte : goal.invariant-loop-byte
invariant-loop-byte g l = l.text.items ≡ l.initial.text.items ++ flat_map byte_text (take l.byte-index l.sentence)
