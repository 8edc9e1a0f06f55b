-- Laws of recorders and comparers over the events of a run.
use Rattle.std.proofs.Common.{◌≡◌, ◌↔◌, ℕ, List, [], ◌∷◌, ◌++◌, Option, Some, Bool, IsFalse, ap, sym, ◌∙◌, append_assoc}
use Rattle.std.proofs.lemmas.List.{append-nil}
use Rattle.std.specs.Option.{unwrap_or}
use Rattle.page_machine.specs.Event.{Event, TakesAll}
use Rattle.sinks.specs.Counts.{counts_after, pages_after}
use Rattle.sinks.specs.Recorder.{Recorded, recorded, recorded_all}
use Rattle.sinks.specs.Comparer.{Comparison, Compares}

-- what a recorder takes
abbrev pub recorder_takes : Recorded → Event → Recorded → Type 0
recorder_takes old event new = new ≡ recorded event old

-- the events that it took stand behind those before, and are counted
pub TakesAll-recorded : (old new : Recorded) (events : List Event) → TakesAll recorder_takes old events new → new ≡ recorded_all events old
TakesAll-recorded old new [] h = h ∙ (λ i. record { events = sym (append-nil old.events) i; counts = old.counts })
TakesAll-recorded old new (e ∷ es) h =
    TakesAll-recorded h.0 new es h.2
    ∙ ap (recorded_all es) h.1
    ∙ (λ i. record { events = append_assoc old.events (e ∷ []) es i; counts = counts_after (e ∷ es) old.counts })

-- what is still expected behind events that were compared
pub TakesAll-compared : (old new : Comparison) (events : List Event) → TakesAll Compares old events new → (rest : List Event) →
    (new.expected ≡ Some rest) ↔ (old.expected ≡ Some (events ++ rest))
TakesAll-compared old new [] h rest =
    let same : new.expected ≡ old.expected = ap (λ (c : Comparison). c.expected) h in (λ is. sym same ∙ is, λ is. same ∙ is)
TakesAll-compared old new (e ∷ es) h rest =
    let later = TakesAll-compared h.0 new es h.2 rest in
    let first = h.1.0 (es ++ rest) in
    (λ is. first.0 (later.0 is), λ is. later.1 (first.1 is))

-- and how many pages have ended
pub TakesAll-paged : (old new : Comparison) (events : List Event) → TakesAll Compares old events new →
    new.pages ≡ pages_after events old.pages
TakesAll-paged old new [] h = ap (λ (c : Comparison). c.pages) h
TakesAll-paged old new (e ∷ es) h = TakesAll-paged h.0 new es h.2 ∙ ap (pages_after es) h.1.1

-- a comparer that took these events differs exactly where they are not those that it was made for
pub differs_exactly : (expected events : List Event) (pages : ℕ) (new : Comparison) (differs : Bool) →
    TakesAll Compares (record { expected = Some expected; pages = pages }) events new → (IsFalse differs ↔ (new.expected ≡ Some [])) →
    IsFalse differs ↔ (events ≡ expected)
differs_exactly expected events pages new differs leads is =
    let begun : Comparison = record { expected = Some expected; pages = pages } in
    let done = TakesAll-compared begun new events leads [] in (
      λ same. sym (ap (λ (o : Option (List Event)). unwrap_or o []) (done.0 (is.0 same)) ∙ append-nil events),
      λ same. is.1 (done.1 (ap Some (sym same ∙ sym (append-nil events)))),
    )
