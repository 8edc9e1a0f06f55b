-- What an item does behind its own step.
use Rattle.std.proofs.Common.{ℕ, ℤ}
use Rattle.device_profile.specs.Printer.{Printer}
use Rattle.page_env.specs.Sound.{IsSoundByte, IsSoundMove}

-- it is carried out soundly: each byte of transparent print data, and each move of the pen
pub record AreSoundParts (printer : Printer) : Type 0 where
  pub bytes : (code : ℕ) → IsSoundByte printer code
  pub moves : (to : ℤ × ℤ) → IsSoundMove printer to
