use Rattle.std.proofs.Common.{◌≡◌, ◌<◌, ℕ, get_or, length, false}
use Rattle.device_profile.specs.Faces.{is_text_of}
use Rattle.device_profile.proofs.font.text_in.Given as goal

abbrev pub invariant-loop-code : goal.invariant-loop-code
invariant-loop-code l = (length l.codes ≡ 256) × ((code : ℕ) → code < l.code → get_or l.codes code false ≡ is_text_of l.ranges code)
