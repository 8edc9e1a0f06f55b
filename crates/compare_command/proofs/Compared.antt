-- What is found on one printer after another, and what is written of it.
use Rattle.std.proofs.Common.{◌≡◌, ◌+◌, ◌++◌, ◌<◌, ◌≤◌, ℕ, List, [], ◌∷◌, false, length, drop, get_or, Result, Ok, Err, IfOk}
use Rattle.std.proofs.Common.{IfErr, ap, append_assoc, refl, subst, sym, ◌∙◌, Option, None, Some}
use Rattle.std.proofs.lemmas.List.{drop_all, drop_more}
use Rattle.streams.specs.declared.error.Error.{Error}
use Rattle.streams.specs.declared.error.Error.TheVariants.{Memory, Read, Write, Turns, NoProfile, Items}
use Rattle.streams.specs.Ended.{JobRead, job_read}
use Rattle.streams.specs.Outlet.{OutletState}
use Rattle.streams.specs.Pieces.{ByReads}
use Rattle.streams.specs.Source.{SourceState}
use Rattle.streams.specs.Writing.{Writes}
use Rattle.device_profile.specs.Printer.{Printer}
use Rattle.requests.specs.declared.status.Status.TheVariants.{Stopped}
use Rattle.comparison.specs.declared.compare.Which.{Which}
use Rattle.comparison.specs.declared.compare.Which.TheVariants.{Old, New}
use Rattle.comparison.specs.declared.difference.Comparison.TheVariants.{Same}
use Rattle.comparison.specs.Comparing.{is_unread_by}
use Rattle.comparison.specs.Running.{IsErrorOfJob}
use Rattle.sinks.specs.declared.counts.Counts.{Counts}
use Rattle.compare_command.specs.declared.found.Found.{Found}
use Rattle.compare_command.specs.declared.found.Manner.{Manner}
use Rattle.compare_command.specs.declared.found.Outcome.{Outcome}
use Rattle.compare_command.specs.declared.found.Outcome.TheVariants.{OfEvents}
use Rattle.compare_command.specs.declared.stops.Stop.{Stop}
use Rattle.compare_command.specs.Outcomes.{IsOutcome, same_counts, status_by}
use Rattle.compare_command.specs.Compare.{AreCompared, GoesOn, IsCompared, StopsAt, StopsJobs, StopsReading, WritesFound}
use Rattle.compare_command.specs.Compare.{first_counts, found_at}

-- ---- on one printer

-- one job was ended behind the other
both_ended : (old new old_word new_word : List ℕ) (old_now new_now : SourceState) (ended between ended' : List JobRead) →
    old_word ≡ old → new_word ≡ new → between ≡ ended ++ job_read old_word old_now ∷ [] →
    ended' ≡ between ++ job_read new_word new_now ∷ [] → ended' ≡ ended ++ (job_read old old_now ∷ job_read new new_now ∷ [])
both_ended old new old_word new_word old_now new_now ended between ended' old_is new_is first second =
    let one = subst (λ (n : List ℕ). between ≡ ended ++ job_read n old_now ∷ []) old_is first in
    let other = subst (λ (n : List ℕ). ended' ≡ between ++ job_read n new_now ∷ []) new_is second in
    other
    ∙ (ap (λ front. front ++ job_read new new_now ∷ []) one
    ∙ append_assoc ended (job_read old old_now ∷ []) (job_read new new_now ∷ []))

-- both jobs were read for a printer
is_compared : (manner : Manner) (start : List ℕ → SourceState) (old new old_word new_word : List ℕ) (number : ℕ) (printer : Printer)
    (old_first old_now new_first new_now : SourceState) (ended between ended' : List JobRead) → old_word ≡ old → new_word ≡ new →
    old_first ≡ start old_word → new_first ≡ start new_word → between ≡ ended ++ job_read old_word old_now ∷ [] →
    ended' ≡ between ++ job_read new_word new_now ∷ [] → (outcome : Outcome) →
    ByReads old_first old_now (λ one. ByReads new_first new_now (λ other. IsOutcome manner number printer one other outcome)) →
    IsCompared manner start old new number printer outcome ended ended'
is_compared manner start old new old_word new_word number printer old_first old_now new_first new_now ended between ended' old_is new_is
    old_begun new_begun first second outcome each =
    let begun =
    subst
    (λ (s : SourceState). ByReads s old_now (λ one. ByReads new_first new_now (λ other.
    IsOutcome manner number printer one other outcome)))
    (old_begun ∙ ap start old_is) each in
    let both =
    subst
    (λ (s : SourceState). ByReads (start old) old_now (λ one. ByReads s new_now (λ other.
    IsOutcome manner number printer one other outcome)))
    (new_begun ∙ ap start new_is) begun in
    record {
      old_read = old_now;
      new_read = new_now;
      each = both;
      ended_is = both_ended old new old_word new_word old_now new_now ended between ended' old_is new_is first second;
    }

pub jobs_compared : {E : Type 0} (r : Result Outcome E) (manner : Manner) (start : List ℕ → SourceState)
    (old new old_word new_word : List ℕ)
    (number : ℕ) (printer : Printer) (old_first old_now new_first new_now : SourceState) (ended between ended' : List JobRead) →
    old_word ≡ old → new_word ≡ new → old_first ≡ start old_word → new_first ≡ start new_word →
    between ≡ ended ++ job_read old_word old_now ∷ [] → ended' ≡ between ++ job_read new_word new_now ∷ [] →
    IfOk r (λ outcome. ByReads old_first old_now (λ one. ByReads new_first new_now (λ other.
    IsOutcome manner number printer one other outcome))) →
    IfOk r (λ outcome. IsCompared manner start old new number printer outcome ended ended')
jobs_compared (Ok outcome) manner start old new old_word new_word number printer old_first old_now new_first new_now ended between ended'
    old_is new_is old_begun new_begun first second each =
    is_compared manner start old new old_word new_word number printer old_first old_now new_first new_now ended between ended' old_is new_is
    old_begun new_begun first second outcome each
jobs_compared (Err e) manner start old new old_word new_word number printer old_first old_now new_first new_now ended between ended' old_is
    new_is old_begun new_begun first second each = tt

-- ---- not compared

pub jobs_stopped : {T : Type 0} (r : Result T Stop) (old new old_word new_word : List ℕ) (old_now new_now : SourceState)
    (ended between ended' : List JobRead) → old_word ≡ old → new_word ≡ new → between ≡ ended ++ job_read old_word old_now ∷ [] →
    ended' ≡ between ++ job_read new_word new_now ∷ [] →
    IfErr r (λ stop. StopsReading old_now new_now stop.which stop.error) →
    IfErr r (λ stop. StopsJobs old new stop.which stop.error ended ended')
jobs_stopped (Ok outcome) old new old_word new_word old_now new_now ended between ended' old_is new_is first second reads = tt
jobs_stopped (Err stop) old new old_word new_word old_now new_now ended between ended' old_is new_is first second reads = record {
  earlier = [];
  old_read = old_now;
  new_read = new_now;
  reads = reads;
  ended_is = both_ended old new old_word new_word old_now new_now ended between ended' old_is new_is first second;
}

pub ended_more : (ended now next earlier last : List JobRead) → now ≡ ended ++ earlier → next ≡ now ++ last →
    next ≡ ended ++ (earlier ++ last)
ended_more ended now next earlier last so_far more =
    more ∙ (ap (λ front. front ++ last) so_far ∙ append_assoc ended earlier last)

-- on a later printer
pub stopped_later : {old new : List ℕ} {which : Which} {error : Error} {ended now ended' : List JobRead} (earlier : List JobRead) →
    now ≡ ended ++ earlier → StopsJobs old new which error now ended' → StopsJobs old new which error ended ended'
stopped_later {old} {new} {which} {error} {ended} {now} {ended'} earlier so_far stops =
    let last : List JobRead = job_read old stops.old_read ∷ job_read new stops.new_read ∷ [] in
    record {
      earlier = earlier ++ stops.earlier;
      old_read = stops.old_read;
      new_read = stops.new_read;
      reads = stops.reads;
      ended_is =
          ended_more ended now ended' earlier (stops.earlier ++ last) so_far stops.ended_is
          ∙ ap (λ l. ended ++ l) (sym (append_assoc earlier stops.earlier last));
    }

-- without memory no read failed
pub memory_is_no_read : (one other : Which) → is_unread_by one other Memory ≡ false
memory_is_no_read Old Old = refl
memory_is_no_read Old New = refl
memory_is_no_read New Old = refl
memory_is_no_read New New = refl

-- an error that is neither a failed read nor one of memory stops the work, and nothing is told
pub error_stops : (manner : Manner) (name : List ℕ) (error : Error) (err : OutletState) → IsErrorOfJob error → (error ≡ Read → ⊥) →
    (error ≡ Memory → ⊥) → StopsAt manner name error (Stopped error) err err
error_stops manner name Memory err h unread full = absurd (full refl)
error_stops manner name Read err h unread full = absurd (unread refl)
error_stops manner name Turns err h unread full = (refl, refl)
error_stops manner name Write err h unread full = absurd h
error_stops manner name NoProfile err h unread full = absurd h
error_stops manner name Items err h unread full = absurd h

-- ---- on one printer after another

-- the jobs are the same on this printer, and it goes on with the next
same_here : (manner : Manner) (start : List ℕ → SourceState) (old new : List ℕ) (number : ℕ) (printer : Printer) (printers : List Printer)
    (counts now : Counts) (outcome : Outcome) (found : Found) (ended between ended' : List JobRead)
    → same_counts outcome ≡ Some now
    → IsCompared manner start old new number printer outcome ended between
    → AreCompared manner start old new (number + 1) printers (first_counts number counts now) found between ended'
    → AreCompared manner start old new number (printer ∷ printers) counts found ended ended'
same_here manner start old new number printer printers counts now outcome found ended between ended' alike compared on = (
  outcome,
  between,
  compared,
  subst
      (λ (same : Option Counts). GoesOn same
      (λ now. AreCompared manner start old new (number + 1) printers (first_counts number counts now) found between ended')
      ((found ≡ found_at number outcome) × (ended' ≡ between)))
      (sym alike) on,
)

-- they are not, and that is found
found_here : (manner : Manner) (start : List ℕ → SourceState) (old new : List ℕ) (number : ℕ) (printer : Printer) (printers : List Printer)
    (counts : Counts) (outcome : Outcome) (ended ended' : List JobRead)
    → same_counts outcome ≡ None
    → IsCompared manner start old new number printer outcome ended ended'
    → AreCompared manner start old new number (printer ∷ printers) counts (found_at number outcome) ended ended'
found_here manner start old new number printer printers counts outcome ended ended' other compared = (
  outcome,
  ended',
  compared,
  subst
      (λ (same : Option Counts). GoesOn same
      (λ now. AreCompared manner start old new (number + 1) printers (first_counts number counts now) (found_at number outcome) ended'
      ended')
      ((found_at number outcome ≡ found_at number outcome) × (ended' ≡ ended')))
      (sym other) (refl, refl),
)

module _ (manner : Manner) (start begun : List ℕ → SourceState) (same : begun ≡ start) (old new : List ℕ) (fleet : List Printer) (i : ℕ)
    (printer : Printer) (inside : i < length fleet) (is : printer ≡ get_or fleet i printer) (counts : Counts) (outcome : Outcome)
    (ended between : List JobRead) (compared : IsCompared manner begun old new (i + 1) printer outcome ended between) where
  rest_is : drop i fleet ≡ printer ∷ drop (i + 1) fleet
  rest_is = drop_more fleet i printer inside ∙ ap (λ p. p ∷ drop (i + 1) fleet) (sym is)

  from_start : IsCompared manner start old new (i + 1) printer outcome ended between
  from_start = subst (λ (s : List ℕ → SourceState). IsCompared manner s old new (i + 1) printer outcome ended between) same compared

  pub same_more : (now counts' : Counts) → same_counts outcome ≡ Some now → counts' ≡ first_counts (i + 1) counts now → (found : Found)
      (ended' : List JobRead) → AreCompared manner start old new (i + 1 + 1) (drop (i + 1) fleet) counts' found between ended' →
      AreCompared manner start old new (i + 1) (drop i fleet) counts found ended ended'
  same_more now counts' alike counts_are found ended' on =
      subst (λ printers. AreCompared manner start old new (i + 1) printers counts found ended ended') (sym rest_is)
      (same_here manner start old new (i + 1) printer (drop (i + 1) fleet) counts now outcome found ended between ended' alike from_start
      (subst (λ (c : Counts). AreCompared manner start old new (i + 1 + 1) (drop (i + 1) fleet) c found between ended') counts_are on))

  pub found_more : same_counts outcome ≡ None →
      AreCompared manner start old new (i + 1) (drop i fleet) counts (found_at (i + 1) outcome) ended between
  found_more other =
      subst (λ printers. AreCompared manner start old new (i + 1) printers counts (found_at (i + 1) outcome) ended between) (sym rest_is)
      (found_here manner start old new (i + 1) printer (drop (i + 1) fleet) counts outcome ended between other from_start)

-- there is no printer more
pub same_all : (manner : Manner) (start : List ℕ → SourceState) (old new : List ℕ) (fleet : List Printer) (i : ℕ) (counts : Counts)
    (ended : List JobRead) → length fleet ≤ i →
    AreCompared manner start old new (i + 1) (drop i fleet) counts (found_at 1 (OfEvents (Same counts))) ended ended
same_all manner start old new fleet i counts ended over =
    subst (λ printers. AreCompared manner start old new (i + 1) printers counts (found_at 1 (OfEvents (Same counts))) ended ended)
    (sym (drop_all i fleet over)) (refl, refl)

-- ---- what is written

pub written_whole : (same : Option Counts) (text : List ℕ) (out out' : OutletState) → Writes out out' text → out'.failed ≡ false →
    WritesFound text (status_by same) (status_by same) out out'
written_whole (Some counts) text out out' written working = (refl, working, written.whole working)
written_whole None text out out' written working = (refl, working, written.whole working)
