-- Two jobs that are the same make the same events.
use Rattle.std.proofs.Common.{◌≡◌, ℕ, Bool, true, false, List, [], ◌∷◌, ◌++◌, ◌&&◌, Option, None, Some, ap, map, refl, sym, ◌∙◌}
use Rattle.std.proofs.Common.{if◌then◌else◌}
use Rattle.std.specs.Bool.{Decides}
use Rattle.std.proofs.lemmas.Bool.Decides.{Decides-like}
use Rattle.std.proofs.lemmas.List.{map-append, map-id}
use Rattle.std.proofs.lemmas.Simd.{map-map}
use Rattle.pcl_lexer.specs.Laws.{HasOneReading}
use Rattle.pcl_lexer.specs.Reading.{Reading, Whole, IsReading}
use Rattle.device_profile.specs.declared.panel.Panel.{Panel}
use Rattle.device_profile.specs.Printer.{Printer}
use Rattle.page_env.specs.Mark.{Shape}
use Rattle.page_machine.specs.Event.{Event, Marked}
use Rattle.page_machine.specs.Job.{ItemRun, events_of, plain_run}
use Rattle.sinks.specs.Same.{is_same_event}
use Rattle.sinks.proofs.Same.{events_decide}
use Rattle.sinks.specs.declared.counts.Counts.{Counts}
use Rattle.verdict.specs.declared.failure.Failure.{Failure}
use Rattle.comparison.specs.declared.difference.Comparison.{Comparison}
use Rattle.comparison.specs.declared.difference.Comparison.TheVariants.{Same, Differs, OldFails, NewFails}
use Rattle.comparison.specs.declared.difference.Difference.{Difference}
use Rattle.comparison.specs.declared.difference.Spot.{Spot}
use Rattle.comparison.specs.Comparison.{Made, made_at, all_made, at_start, behind_event, compared, comparison_from, difference_at, end_of}
use Rattle.comparison.specs.Comparison.{failing_or, failure_on}
use Rattle.comparison.specs.Changes.{at_origin, change_of, is_moved}
use Rattle.comparison.specs.Laws.{SaysSame}

abbrev event_made : Made → Event
event_made made = made.event

-- ---- events and the places where they are made

made_events : (place : ℕ) (events : List Event) → map event_made (made_at place events) ≡ events
made_events place events = map-map event_made (λ event. record { place = place; event = event }) events ∙ map-id events

pub all_events : (items : List ItemRun) → map event_made (all_made items) ≡ events_of items
all_events [] = refl
all_events (item ∷ items) =
    map-append event_made (made_at item.place item.events) (all_made items)
    ∙ ap (λ front. front ++ map event_made (all_made items)) (made_events item.place item.events)
    ∙ ap (λ rest. item.events ++ rest) (all_events items)

-- ---- the same, event by event

pub same_event : (a b : Event) → is_same_event a b ≡ true → a ≡ b
same_event a b h =
    let lists : a ∷ [] ≡ b ∷ [] = (events_decide (a ∷ []) (b ∷ [])).0 (ap (λ t. t && true) h) in cc

and_true : (t : Bool) → t && true ≡ true → t ≡ true
and_true true h = refl
and_true false h = h

pub event_same : (a b : Event) → a ≡ b → is_same_event a b ≡ true
event_same a b e = and_true (is_same_event a b) ((events_decide (a ∷ []) (b ∷ [])).1 (ap (λ x. x ∷ []) e))

pub event_decides : (a b : Event) → Decides (is_same_event a b) (a ≡ b)
event_decides a b = (same_event a b, event_same a b)

-- two marks are the same at the origin just where one is moved to the other
pub moved_decides : (a b : Shape) → Decides (is_moved a b) (at_origin a ≡ at_origin b)
moved_decides a b =
    Decides-like _ (λ e. cc) (λ e. ap Marked e) (event_decides (Marked (at_origin a)) (Marked (at_origin b)))

-- a comparison by the test of the first events
abbrev by_test : Bool → Comparison → Difference → Comparison
by_test same later difference = if same then later else Differs difference

test_same : (same : Bool) (later : Comparison) (difference : Difference) (counts : Counts) →
    by_test same later difference ≡ Same counts → (same ≡ true) × (later ≡ Same counts)
test_same true later difference counts h = (refl, h)
test_same false later difference counts h = cc

pub compared_same : (spot : Spot) (old_end new_end : ℕ) (old new : List Made) (counts : Counts) →
    compared spot old_end new_end old new ≡ Same counts → map event_made old ≡ map event_made new
compared_same spot old_end new_end [] [] counts h = refl
compared_same spot old_end new_end (a ∷ old) [] counts h = cc
compared_same spot old_end new_end [] (b ∷ new) counts h = cc
compared_same spot old_end new_end (a ∷ old) (b ∷ new) counts h =
    let next : Spot = behind_event a.event spot in
    let both =
    test_same (is_same_event a.event b.event) (compared next old_end new_end old new)
    (difference_at spot a.place b.place (change_of a.event b.event)) counts h in
    let first : a.event ≡ b.event = same_event a.event b.event both.0 in
    let rest : map event_made old ≡ map event_made new = compared_same next old_end new_end old new counts both.1 in
    λ i. first i ∷ rest i

-- ---- neither fails

passed_over : (fails : Failure → Comparison) (failure : Option Failure) (otherwise : Comparison) (counts : Counts) →
    ((f : Failure) → fails f ≡ Same counts → ⊥) → failing_or fails failure otherwise ≡ Same counts → otherwise ≡ Same counts
passed_over fails None otherwise counts never h = h
passed_over fails (Some failure) otherwise counts never h = absurd (never failure h)

old_never : (counts : Counts) (f : Failure) → OldFails f ≡ Same counts → ⊥
old_never counts f h = cc

new_never : (counts : Counts) (f : Failure) → NewFails f ≡ Same counts → ⊥
new_never counts f h = cc

same_runs : (number : ℕ) (printer : Printer) (panel : Panel) (old new : Reading) (counts : Counts) →
    comparison_from number printer panel old new ≡ Same counts →
    events_of (plain_run printer panel old).items ≡ events_of (plain_run printer panel new).items
same_runs number printer panel old new counts h =
    let of_old = (plain_run printer panel old).items in
    let of_new = (plain_run printer panel new).items in
    let events : Comparison = compared at_start (end_of old) (end_of new) (all_made of_old) (all_made of_new) in
    let behind_new : Comparison = failing_or NewFails (failure_on number of_new new) events in
    let passed = passed_over OldFails (failure_on number of_old old) behind_new counts (old_never counts) h in
    let found = passed_over NewFails (failure_on number of_new new) events counts (new_never counts) passed in
    sym (all_events of_old)
    ∙ (compared_same at_start (end_of old) (end_of new) (all_made of_old) (all_made of_new) counts found ∙ all_events of_new)

-- ---- the laws

pub one_reading_alone : (bytes : List ℕ) → HasOneReading bytes → (a b : Reading) → IsReading bytes a → IsReading bytes b → a ≡ b
one_reading_alone bytes one a b is_a is_b = one.only a is_a ∙ sym (one.only b is_b)

pub says_same : ((bytes : List ℕ) → HasOneReading bytes) → (number : ℕ) (printer : Printer) (panel : Panel) (old new : List ℕ) →
    SaysSame number printer panel old new
says_same one number printer panel old new counts is old_reading new_reading is_old is_new =
    let events_from : Reading → List Event = λ reading. events_of (plain_run printer panel reading).items in
    ap events_from (one_reading_alone old (one old) old_reading is.0 is_old is.1)
    ∙ (same_runs number printer panel is.0 is.2 counts (sym is.4)
    ∙ ap events_from (one_reading_alone new (one new) is.2 new_reading is.3 is_new))
