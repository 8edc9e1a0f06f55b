-- What the command `profile lint` leaves.
use Rattle.std.specs.Prelude.{◌≡◌, ◌⊎◌, ◌<◌, ℕ, List, [], ◌++◌, get_or, length, take, map, Bool, Option, IfSome, IsTrue}
use Rattle.std.specs.Prelude.{IsFalse, All}
use Rattle.streams.specs.declared.error.Error.TheVariants.{Memory, Write}
use Rattle.profile_lint.specs.Lint.{Named, lint_text, have_faults}
use Rattle.streams.specs.Outlet.{OutletState, Adds, AddsFront}
use Rattle.job_reports.specs.Refusals.{TellsOfProfile}
use Rattle.requests.specs.declared.status.Status.{Status}
use Rattle.requests.specs.declared.status.Status.TheVariants.{Help, Told, Stopped}
use Rattle.requests.specs.declared.status.Trouble.TheVariants.{Refused}

-- The texts that were read under these words, in their order;
-- each is the front of what its word names, where that is known.
pub record AreRead (text_of : List ℕ → Option (List ℕ)) (words old new : List (List ℕ))
    (texts : List Named) : Type 0 where
  pub words_are : map (λ named. named.word) texts ≡ words
  pub given : new ≡ old ++ map (λ named. named.text) texts
  pub fronts : All (λ named. IfSome (text_of named.word) (λ bytes. named.text ≡ take 65_537 bytes)) texts

-- How the text of all that was found is written:
-- whole, or a front of it where a write failed; or there was no memory for it.
abbrev pub WritesFindings : List ℕ → Bool → Status → OutletState → OutletState → Type 0
WritesFindings text has_faults Help out out' = IsFalse has_faults × IsFalse out'.failed × Adds out out' text
WritesFindings text has_faults (Told Refused) out out' = IsTrue has_faults × IsFalse out'.failed × Adds out out' text
WritesFindings text has_faults (Stopped Write) out out' = IsTrue out'.failed × AddsFront out out' text
WritesFindings text has_faults (Stopped Memory) out out' = out' ≡ out
WritesFindings text has_faults _ out out' = ⊥

-- Of the word at a place among these standard error is told that its text could not be read, since a read has failed;
-- or memory ran out, and nothing is told.
abbrev pub TellsOfNext : List (List ℕ) → ℕ → Bool → Status → OutletState → OutletState → Type 0
TellsOfNext words place failed status err err' =
    ((place < length words) × IsTrue failed × TellsOfProfile (get_or words place []) status err err')
    ⊎ ((status ≡ Stopped Memory) × (err' ≡ err))

-- the texts of the words before a place were read and no other, and why the reading stopped there
abbrev pub StopsReading : (List ℕ → Option (List ℕ)) → List (List ℕ) → List (List ℕ) → List (List ℕ) → Bool → Status →
    OutletState → OutletState → Type 0
StopsReading text_of words old new failed status err err' =
    (place : ℕ) × (texts : List Named) × AreRead text_of (take place words) old new texts
    × TellsOfNext words place failed status err err'

-- All texts were read, and what is found in them is written; or the reading stopped, and nothing is written.
abbrev pub LeavesLint : (List ℕ → Option (List ℕ)) → List (List ℕ) → List (List ℕ) → List (List ℕ) → Bool → Status →
    OutletState → OutletState → OutletState → OutletState → Type 0
LeavesLint text_of words old new failed status out out' err err' =
    ((texts : List Named) × AreRead text_of words old new texts
    × WritesFindings (lint_text texts) (have_faults texts) status out out' × (err' ≡ err))
    ⊎ (StopsReading text_of words old new failed status err err' × (out' ≡ out))
