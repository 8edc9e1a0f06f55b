use Rattle.std.proofs.Common.{◌≡◌, flat_map, string_bytes}
use Rattle.std.specs.Str.{encode_utf8_all}
use Rattle.many_jobs.specs.JsonTexts.{backslash_doubled}
use Rattle.many_jobs.proofs.json_texts.with_backslashes_doubled.Given as goal

abbrev pub invariant-loop-character : goal.invariant-loop-character
invariant-loop-character l = string_bytes l.doubled ≡ flat_map backslash_doubled (encode_utf8_all l.yielded)
