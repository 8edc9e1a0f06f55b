-- A session that goes on has the room that its bytes leave.
use Rattle.std.proofs.Common.{◌+◌, ◌≤◌, ℕ, List, length, arith}
use Rattle.preflight.specs.Session.{SessionState, ChecksOn, HasRoom}

pub session_leaves : (first : SessionState) (bytes : List ℕ) (now : SessionState) (room more : ℕ) → HasRoom first room →
    ChecksOn first bytes now → length bytes + more ≤ room → HasRoom now more
session_leaves first bytes now room more has goes fits = (goes.is_open, omega (arith, has.1, goes.total_is, fits))
