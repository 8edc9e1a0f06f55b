-- How far two jobs were compared that are carried out side by side.
use Rattle.std.specs.Prelude.{◌≡◌, ℕ, List, [], ◌∷◌, ◌++◌, Bool, false, Option, None, Some, Result, Ok, Err, drop, map}
use Rattle.std.specs.Prelude.{if◌then◌else◌}
use Rattle.std.specs.List.{slice_get}
use Rattle.device_profile.specs.declared.panel.Panel.{Panel}
use Rattle.device_profile.specs.Printer.{Printer}
use Rattle.page_machine.specs.Event.{Event}
use Rattle.sinks.specs.Same.{is_same_event}
use Rattle.streams.specs.declared.error.Error.{Error}
use Rattle.streams.specs.Errors.{is_read}
use Rattle.streams.specs.Pieces.{ByReads}
use Rattle.streams.specs.Source.{SourceState}
use Rattle.comparison.specs.declared.compare.Unread.{Unread}
use Rattle.comparison.specs.declared.compare.Which.{Which}
use Rattle.comparison.specs.declared.compare.Which.TheVariants.{Old, New}
use Rattle.comparison.specs.declared.difference.Comparison.{Comparison}
use Rattle.comparison.specs.declared.difference.Comparison.TheVariants.{Same, Differs}
use Rattle.comparison.specs.declared.difference.Difference.{Difference}
use Rattle.comparison.specs.declared.difference.Spot.{Spot}
use Rattle.comparison.specs.declared.running_job.Progress.{Progress}
use Rattle.comparison.specs.Changes.{change_of, only_in_new}
use Rattle.comparison.specs.Comparison.{Made, IsComparison, at_start, behind_event, compared, difference_at}
use Rattle.comparison.specs.Running.{HasEnded, HasRun, MayMake, RunState, is_open, last_made}

-- ---- the job that follows

-- of what its last item made so many events are compared
pub record Following : Type 0 where
  pub run : RunState
  pub taken : ℕ

-- what was made and is not compared yet
abbrev pub still_made : Following → List Made
still_made following = drop following.taken (last_made following.run)

-- the next of these events, where one has come
abbrev pub next_of : Following → Option Event
next_of following = slice_get following.run.events following.taken

-- an event is still to come, and the job is not over
abbrev pub lacks : Option Event → Progress → Bool
lacks (Some event) progress = false
lacks None progress = is_open progress

abbrev pub lacks_next : Following → Bool
lacks_next following = lacks (next_of following) following.run.progress

-- the events that were compared, and behind them those that were not
pub record HasFollowed (printer : Printer) (panel : Panel) (first now : SourceState) (taken : List Made)
    (following : Following) : Type 0 where
  pub has_run : HasRun printer panel first now (taken ++ still_made following) following.run

-- it went on, and no event more was compared
abbrev pub FollowsOn : (now now' : SourceState) → (old new : Following) → Type 0
FollowsOn now now' old new =
    (printer : Printer) (panel : Panel) (first : SourceState) (taken : List Made) →
    HasFollowed printer panel first now taken old → HasFollowed printer panel first now' taken new

-- ---- what was found

-- the spot behind events that both made
abbrev pub spot_behind : List Event → Spot → Spot
spot_behind [] spot = spot
spot_behind (event ∷ events) spot = spot_behind events (behind_event event spot)

abbrev pub events_made : List Made → List Event
events_made made = map (λ m. m.event) made

-- Both made the same so far: OLD all of this, and NEW what is behind it.
pub record AreLevel (printer : Printer) (panel : Panel) (new_first new_now : SourceState) (spot : Spot)
    (old_made : List Made) (following : Following) : Type 0 where
  pub new_taken : List Made
  pub followed : HasFollowed printer panel new_first new_now new_taken following
  pub same : events_made old_made ≡ events_made new_taken
  pub spot_is : spot ≡ spot_behind (events_made old_made) at_start

-- It is found whatever the jobs still make behind this: the comparison, unless one of them fails.
abbrev pub IsFound : Comparison → (old new : RunState) → (old_made new_made : List Made) → Type 0
IsFound found old new old_made new_made =
    (old_more new_more : List Made) → (old_end new_end : ℕ) →
    MayMake old old_more old_end → MayMake new new_more new_end →
    compared at_start old_end new_end (old_made ++ old_more) (new_made ++ new_more) ≡ found

-- what differs between two events that are made at these places
abbrev pub difference_of : Spot → (old_place new_place : ℕ) → Event → Event → Option Difference
difference_of spot old_place new_place a b =
    if is_same_event a b then None else Some (difference_at spot old_place new_place (change_of a b))

-- the difference of the event that comes next in both, or of what one of them lacks
abbrev pub IsNextDifference : Spot → (old_place : ℕ) → Event → Following → Option Difference → Type 0
IsNextDifference spot old_place event following None =
    (next : Made) × (more : List Made) × (still_made following ≡ next ∷ more) × (next.event ≡ event)
IsNextDifference spot old_place event following (Some difference) =
    (old_end new_end : ℕ) → (old_more new_more : List Made) → MayMake following.run new_more new_end →
    compared spot old_end new_end (record { place = old_place; event = event } ∷ old_more)
    (still_made following ++ new_more)
    ≡ Differs difference

-- what NEW makes behind all of OLD, which ends at this place
abbrev pub first_further : Spot → ℕ → List Made → Option Difference
first_further spot old_end [] = None
first_further spot old_end (made ∷ more) = Some (difference_at spot old_end made.place (only_in_new made.event))

abbrev pub further_difference : Spot → ℕ → Following → Option Difference
further_difference spot old_end following = first_further spot old_end (still_made following)

-- ---- step by step

-- Events of OLD were compared, behind what OLD made before: NEW made the same, or the difference is found.
abbrev pub ItemCompared : Option Difference → Printer → Panel → (new_first new_now : SourceState) → Spot →
    (old_made : List Made) → Following → Type 0
ItemCompared None printer panel new_first new_now spot old_made following =
    AreLevel printer panel new_first new_now spot old_made following
ItemCompared (Some difference) printer panel new_first new_now spot old_made following =
    (new_made : List Made) × HasRun printer panel new_first new_now new_made following.run
    × ((old_more new_more : List Made) → (old_end new_end : ℕ) → MayMake following.run new_more new_end →
    compared at_start old_end new_end (old_made ++ old_more) (new_made ++ new_more) ≡ Differs difference)

-- An event of OLD was compared: what differs is found, whatever the item makes behind it.
abbrev pub EventCompared : Option Difference → Printer → Panel → (new_first new_now : SourceState) → Spot →
    (old_made : List Made) → Made → Following → Type 0
EventCompared None printer panel new_first new_now spot old_made event following =
    AreLevel printer panel new_first new_now spot (old_made ++ event ∷ []) following
EventCompared (Some difference) printer panel new_first new_now spot old_made event following =
    (later : List Made) →
    ItemCompared (Some difference) printer panel new_first new_now spot (old_made ++ event ∷ later) following

-- from where both stood before
abbrev pub EventCompares : (new_now new_now' : SourceState) → (spot spot' : Spot) → Made → (old new : Following) →
    Option Difference → Type 0
EventCompares new_now new_now' spot spot' event old new found =
    (printer : Printer) (panel : Panel) (new_first : SourceState) (old_made : List Made) →
    AreLevel printer panel new_first new_now spot old_made old →
    EventCompared found printer panel new_first new_now' spot' old_made event new

abbrev pub ItemCompares : (new_now new_now' : SourceState) → (spot spot' : Spot) → List Made →
    (old new : Following) → Option Difference → Type 0
ItemCompares new_now new_now' spot spot' made old new found =
    (printer : Printer) (panel : Panel) (new_first : SourceState) (old_made : List Made) →
    AreLevel printer panel new_first new_now spot old_made old →
    ItemCompared found printer panel new_first new_now' spot' (old_made ++ made) new

-- ---- all of it

-- What came of both jobs from the one states of their sources to the others, and what was found of them, where neither
-- fails.
pub record HasCompared (printer : Printer) (panel : Panel) (old_first old_now new_first new_now : SourceState)
    (old new : RunState) (found : Comparison) : Type 0 where
  pub old_made : List Made
  pub new_made : List Made
  pub old_run : HasRun printer panel old_first old_now old_made old
  pub new_run : HasRun printer panel new_first new_now new_made new
  pub is_found : IsFound found old new old_made new_made

-- OLD made this so far, and NEW the same
pub record GoAlike (printer : Printer) (panel : Panel) (old_first old_now new_first new_now : SourceState)
    (old : RunState) (spot : Spot) (new : Following) : Type 0 where
  pub old_made : List Made
  pub old_run : HasRun printer panel old_first old_now old_made old
  pub level : AreLevel printer panel new_first new_now spot old_made new

-- so it is behind a step of OLD, or the difference is found
abbrev pub StepCompared : Option Difference → Printer → Panel → (old_first old_now new_first new_now : SourceState) →
    RunState → Spot → Following → Type 0
StepCompared None printer panel old_first old_now new_first new_now old spot new =
    GoAlike printer panel old_first old_now new_first new_now old spot new
StepCompared (Some difference) printer panel old_first old_now new_first new_now old spot new =
    HasCompared printer panel old_first old_now new_first new_now old new.run (Differs difference)

abbrev pub StepCompares : (old_now old_now' new_now new_now' : SourceState) → (old old' : RunState) →
    (spot spot' : Spot) → (new new' : Following) → Option Difference → Type 0
StepCompares old_now old_now' new_now new_now' old old' spot spot' new new' found =
    (printer : Printer) (panel : Panel) (old_first new_first : SourceState) →
    GoAlike printer panel old_first old_now new_first new_now old spot new →
    StepCompared found printer panel old_first old_now' new_first new_now' old' spot' new'

-- what is found where OLD makes nothing more: that NEW makes this, or that both are the same
abbrev pub ends_found : Spot → Option Difference → Comparison
ends_found spot None = Same spot.counts
ends_found spot (Some difference) = Differs difference

abbrev pub EndsCompare : (new_now new_now' : SourceState) → RunState → Spot → (new new' : Following) → Comparison →
    Type 0
EndsCompare new_now new_now' old spot new new' found =
    (printer : Printer) (panel : Panel) (old_first old_now new_first : SourceState) →
    GoAlike printer panel old_first old_now new_first new_now old spot new →
    HasCompared printer panel old_first old_now new_first new_now' old new'.run found

-- two jobs that made the same before
abbrev pub EventsCompare : (old_now old_now' new_now new_now' : SourceState) → (old old' : RunState) → Spot →
    (new new' : Following) → Comparison → Type 0
EventsCompare old_now old_now' new_now new_now' old old' spot new new' found =
    (printer : Printer) (panel : Panel) (old_first new_first : SourceState) →
    GoAlike printer panel old_first old_now new_first new_now old spot new →
    HasCompared printer panel old_first old_now' new_first new_now' old' new'.run found

-- what is right for every two jobs that may be by what was read of them
abbrev pub IsRight : (number : ℕ) → Printer → Panel → (old_first old_now new_first new_now : SourceState) →
    Comparison → Type 0
IsRight number printer panel old_first old_now new_first new_now comparison =
    ByReads old_first old_now (λ old. ByReads new_first new_now (λ new.
    IsComparison number printer panel old new comparison))

-- of two jobs that were compared up to what was found, and then carried out to their ends, on one printer
abbrev pub EndsRight : (old_now old_now' new_now new_now' : SourceState) → (old new : RunState) →
    (found comparison : Comparison) → Type 0
EndsRight old_now old_now' new_now new_now' old new found comparison =
    (printer : Printer) (panel : Panel) (number : ℕ) (old_first new_first : SourceState) →
    HasCompared printer panel old_first old_now new_first new_now old new found →
    old.number ≡ number → new.number ≡ number →
    IsRight number printer panel old_first old_now' new_first new_now' comparison

-- the same of NEW, where OLD has these bytes and comes to its end
abbrev pub NewEndsRight : (new_now new_now' : SourceState) → (new : RunState) → (found comparison : Comparison) → Type 0
NewEndsRight new_now new_now' new found comparison =
    (printer : Printer) (panel : Panel) (number : ℕ) (new_first : SourceState) (new_made : List Made) →
    HasRun printer panel new_first new_now new_made new → new.number ≡ number →
    (old_bytes : List ℕ) (old_made : List Made) (old_place : ℕ) →
    HasEnded printer panel number old_bytes old_made old_place →
    ((new_more : List Made) (new_end : ℕ) → MayMake new new_more new_end →
    compared at_start old_place new_end old_made (new_made ++ new_more) ≡ found) →
    ByReads new_first new_now' (λ after. IsComparison number printer panel old_bytes after comparison)

-- ---- which job could not be read

abbrev pub is_unread_by : Which → Which → Error → Bool
is_unread_by Old Old error = is_read error
is_unread_by New New error = is_read error
is_unread_by _ _ error = false

-- the result is that a read of this job failed
abbrev pub is_unread : {T : Type 0} → Which → Result T Unread → Bool
is_unread which (Ok x) = false
is_unread which (Err unread) = is_unread_by which unread.which unread.error
