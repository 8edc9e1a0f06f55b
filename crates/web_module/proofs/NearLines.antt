-- A lemma on the lines of items near a place.
use Rattle.std.proofs.Common.{◌≡◌, List, Ok, Some, ℕ}
use Rattle.many_jobs.specs.JobRow.{IsRightText, near_rendering}
use Rattle.renderings.specs.Expected.{IsExpected}
use Rattle.streams.specs.Source.{SourceState}
use Rattle.foreign_calls.proofs.Known.{known_by}
use Rattle.web_module.specs.Nearby.{IsNearby}

-- the text that a reading gave has those of the job, which is known
pub nearby_known : (place : ℕ) (start after : SourceState) (job text : List ℕ) →
    IsRightText (near_rendering place) start after (Ok text) → start.remaining ≡ Some job → IsNearby place job text
nearby_known place start after job text right known =
    let outcome = right.due.0 in
    (outcome, known_by start after job (λ bytes. IsExpected (near_rendering place) bytes text outcome) right.due.1 known)
