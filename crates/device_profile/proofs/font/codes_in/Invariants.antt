use Rattle.std.proofs.Common.{◌≡◌, ◌<◌, ℕ, get_or, length, false}
use Rattle.device_profile.specs.Faces.{has_code}
use Rattle.device_profile.proofs.font.codes_in.Given as goal

abbrev pub invariant-loop-code : goal.invariant-loop-code
invariant-loop-code l = (length l.codes ≡ 256) × ((code : ℕ) → code < l.code → get_or l.codes code false ≡ has_code l.ranges code)
