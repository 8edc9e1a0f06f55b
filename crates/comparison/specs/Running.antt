-- What a job has come to that is carried out item by item, and what is still to come of it.
use Rattle.std.specs.Prelude.{◌≡◌, ℕ, ◌+◌, ◌-◌, ◌*◌, ◌<◌, ◌≤◌, ◌^◌, List, [], ◌∷◌, ◌++◌, length, take, Bool, true}
use Rattle.std.specs.Prelude.{false, IfSome, Option, None, Some, if◌then◌else◌, ⊤}
use Rattle.std.specs.Io.KnownBytes.{Consumes, IsAtEnd}
use Rattle.pcl_items.specs.Items.{Placed}
use Rattle.pcl_items.specs.Modes.{follows}
use Rattle.pcl_lexer.specs.Lexing.Meaning.{HasRead, MayBe}
use Rattle.pcl_lexer.specs.Lexing.State.{LexerState, WantsMore}
use Rattle.pcl_lexer.specs.Modes.{mode_of}
use Rattle.pcl_lexer.specs.Reading.{Reading, Whole, Stopped, IsReading, left, with_item}
use Rattle.device_profile.specs.declared.panel.Panel.{Panel}
use Rattle.device_profile.specs.Printer.{Printer}
use Rattle.page_env.specs.Settings.{settings_at, state_at}
use Rattle.page_machine.specs.Event.{Event, TakesAll}
use Rattle.page_machine.specs.Job.{ItemRun, plain_run, reading_run}
use Rattle.page_machine.specs.MachineState.{MachineState}
use Rattle.streams.specs.declared.error.Error.{Error}
use Rattle.streams.specs.declared.error.Error.TheVariants.{Memory, Read, Write, Turns, NoProfile, Items}
use Rattle.streams.specs.Pieces.{Spell}
use Rattle.streams.specs.Source.{SourceState}
use Rattle.verdict.specs.declared.failure.Failure.{Failure}
use Rattle.comparison.specs.declared.running_job.Progress.{Progress}
use Rattle.comparison.specs.declared.running_job.Progress.TheVariants.{Open, Ended, Fails, OutOfMemory}
use Rattle.comparison.specs.declared.stepping.Stepped.{Stepped}
use Rattle.comparison.specs.declared.stepping.Stepped.TheVariants.{On, More, AtEnd, FailsBy, Refused}
use Rattle.comparison.specs.Comparison.{Made, made_at, all_made, end_of, failure_on}

-- ---- where it stands

-- the lexer and the machine; the events of the item that was carried out last, and where that stands; how many bytes
-- were fed, by how many reads; the number of the printer; and whether the job is over
pub record RunState : Type 0 where
  pub lexer : LexerState
  pub machine : MachineState
  pub events : List Event
  pub place : ℕ
  pub total : ℕ
  pub reads : ℕ
  pub number : ℕ
  pub progress : Progress

-- what the last item made
abbrev pub last_made : RunState → List Made
last_made run = made_at run.place run.events

abbrev pub is_open : Progress → Bool
is_open Open = true
is_open Ended = false
is_open (Fails failure) = false
is_open OutOfMemory = false

-- why the job fails, if it does
abbrev pub failure_of : Progress → Option Failure
failure_of Open = None
failure_of Ended = None
failure_of (Fails failure) = Some failure
failure_of OutOfMemory = None

-- where the last item stands behind a step, which stood at a place before it
abbrev pub place_after : Stepped → (last total : ℕ) → ℕ
place_after (On place) last total = place
place_after More last total = last
place_after AtEnd last total = total
place_after (FailsBy failure) last total = last
place_after Refused last total = last

-- whether the job is over behind a step
abbrev pub progress_after : Stepped → Progress
progress_after (On place) = Open
progress_after More = Open
progress_after AtEnd = Ended
progress_after (FailsBy failure) = Fails failure
progress_after Refused = OutOfMemory

-- ---- what is left to do

abbrev pub last_step : Progress → ℕ
last_step Open = 1
last_step Ended = 0
last_step (Fails failure) = 0
last_step OutOfMemory = 0

-- a read gives 4096 bytes at most, and each step takes some, or is the last one
abbrev pub work : RunState → ℕ
work run = last_step run.progress + left run.lexer.context run.lexer.rest + 8194 * (2 ^ 40 - run.reads)

-- a step leaves less of it, or waits for more bytes
abbrev pub TakesWork : Stepped → RunState → RunState → Type 0
TakesWork (On place) old new = work new < work old
TakesWork More old new = work new ≤ work old
TakesWork AtEnd old new = work new < work old
TakesWork (FailsBy failure) old new = work new < work old
TakesWork Refused old new = ⊤

-- it has made nothing more, and a piece may be fed, or the end of the job told
pub record IsWaiting (run : RunState) : Type 0 where
  pub running : is_open run.progress ≡ true
  pub wants_more : WantsMore run.lexer
  pub unended : run.lexer.ended ≡ false
  pub none : run.events ≡ []

-- ---- what the reads gave

-- the reads between gave these bytes, and then the end of the job where it has ended
pub record Gave (first now : SourceState) (ended : Bool) (bytes : List ℕ) : Type 0 where
  pub pieces : List (List ℕ)
  pub given_is : now.given ≡ first.given ++ (pieces ++ (if ended then [] ∷ [] else []))
  pub spelled : Spell pieces bytes
  pub consumed : Consumes first.remaining now.remaining bytes
  pub whole : ended ≡ true → IfSome first.remaining (λ job. bytes ≡ job)

-- ---- what came of the job

-- these items stand before the rest
abbrev pub behind : List Placed → Reading → Reading
behind xs (Whole items place) = Whole (xs ++ items) place
behind xs (Stopped items place cause) = Stopped (xs ++ items) place cause

-- a machine that knows its panel stands for one state, whatever this one is
abbrev pub any_panel : Panel
any_panel =
    record { size = 0; orientation = 0; vmi = 0; font = 0; copies = 0; sides = 0; tray = 0; line_termination = 0 }

-- the run of the rest of a job from where the machine stands
abbrev pub rest_items : MachineState → Reading → List ItemRun
rest_items machine reading =
    (reading_run machine.printer (settings_at any_panel machine.defaults) reading machine.macros
    (state_at any_panel machine.page)).items

-- Some items of these bytes were carried out, and made this: whatever the rest of the job is, it is what the plain run
-- makes first, and what is wrong on the printer of this number is behind them.
pub record IsUnderWay (printer : Printer) (panel : Panel) (number : ℕ) (bytes : List ℕ) (made : List Made)
    (lexer : LexerState) (machine : MachineState) : Type 0 where
  pub items : List Placed
  pub reads : HasRead lexer bytes items
  pub making : (rest : Reading) →
      all_made (plain_run printer panel (behind items rest)).items ≡ made ++ all_made (rest_items machine rest)
  pub failing : (rest : Reading) →
      failure_on number (plain_run printer panel (behind items rest)).items (behind items rest)
      ≡ failure_on number (rest_items machine rest) rest

-- the bytes are the whole job: it made this, does not fail, and ends at this place
pub record HasEnded (printer : Printer) (panel : Panel) (number : ℕ) (bytes : List ℕ) (made : List Made)
    (place : ℕ) : Type 0 where
  pub reading : Reading
  pub spelled : IsReading bytes reading
  pub making : all_made (plain_run printer panel reading).items ≡ made
  pub passing : failure_on number (plain_run printer panel reading).items reading ≡ None
  pub place_is : place ≡ end_of reading

-- so fails every job that the bytes may be
abbrev pub IsFailing : Printer → Panel → ℕ → Bool → List ℕ → Failure → Type 0
IsFailing printer panel number ended bytes failure =
    (job : List ℕ) → MayBe ended bytes job →
    (reading : Reading) × IsReading job reading
    × (failure_on number (plain_run printer panel reading).items reading ≡ Some failure)

-- An item was carried out: whatever follows it, the job makes this first, and what is wrong is behind it; or it has a
-- finding, by which the job fails. Where memory was refused nothing is said.
abbrev pub CarriedTo : Stepped → ℕ → Placed → MachineState → MachineState → List Event → Type 0
CarriedTo (On place) number x old new events =
    (place ≡ x.place) × (new.stopped ≡ false) × (follows old.mode x.item ≡ Some new.mode)
    × ((rest : Reading) →
    all_made (rest_items old (with_item x rest)) ≡ made_at x.place events ++ all_made (rest_items new rest))
    × ((rest : Reading) →
    failure_on number (rest_items old (with_item x rest)) (with_item x rest)
    ≡ failure_on number (rest_items new rest) rest)
CarriedTo (FailsBy failure) number x old new events =
    (rest : Reading) → failure_on number (rest_items old (with_item x rest)) (with_item x rest) ≡ Some failure
CarriedTo More number x old new events = ⊥
CarriedTo AtEnd number x old new events = ⊥
CarriedTo Refused number x old new events = ⊤

-- so of the end of the bytes, of which there are so many
abbrev pub EndsTo : Stepped → ℕ → ℕ → MachineState → List Event → Type 0
EndsTo AtEnd number total machine events =
    (all_made (rest_items machine (Whole [] total)) ≡ made_at total events)
    × (failure_on number (rest_items machine (Whole [] total)) (Whole [] total) ≡ None)
EndsTo (FailsBy failure) number total machine events =
    failure_on number (rest_items machine (Whole [] total)) (Whole [] total) ≡ Some failure
EndsTo (On place) number total machine events = ⊥
EndsTo More number total machine events = ⊥
EndsTo Refused number total machine events = ⊤

-- what one step came to, behind what was made of these bytes before
abbrev pub StepsTo : Stepped → Printer → Panel → ℕ → List ℕ → List Made → LexerState → MachineState → List Event →
    Type 0
StepsTo (On place) printer panel number bytes made lexer machine events =
    IsUnderWay printer panel number bytes (made ++ made_at place events) lexer machine
StepsTo More printer panel number bytes made lexer machine events =
    IsUnderWay printer panel number bytes made lexer machine
StepsTo AtEnd printer panel number bytes made lexer machine events =
    HasEnded printer panel number bytes (made ++ made_at (length bytes) events) (length bytes)
StepsTo (FailsBy failure) printer panel number bytes made lexer machine events =
    IsFailing printer panel number lexer.ended bytes failure
StepsTo Refused printer panel number bytes made lexer machine events = ⊤

-- so of every job of which so many bytes were fed
abbrev pub ComesBy : (number total : ℕ) → LexerState → MachineState → Stepped → LexerState → MachineState →
    List Event → Type 0
ComesBy number total lexer machine stepped lexer' machine' events =
    (printer : Printer) (panel : Panel) (bytes : List ℕ) (made : List Made) → total ≡ length bytes →
    IsUnderWay printer panel number bytes made lexer machine →
    StepsTo stepped printer panel number bytes made lexer' machine' events

-- where a step leaves lexer and machine: an item leaves less to be read; where more is wanted nothing was made, and a
-- piece may be fed, or the end of the job told
abbrev pub LeavesOff : Stepped → LexerState → LexerState → MachineState → List Event → Type 0
LeavesOff (On place) old new machine events =
    (machine.stopped ≡ false) × (machine.mode ≡ mode_of new.context)
    × (left new.context new.rest < left old.context old.rest)
LeavesOff More old new machine events =
    (machine.stopped ≡ false) × (machine.mode ≡ mode_of new.context) × (new.ended ≡ false) × WantsMore new
    × (events ≡ []) × (left new.context new.rest ≤ left old.context old.rest)
LeavesOff AtEnd old new machine events =
    (new.ended ≡ true) × (left new.context new.rest ≤ left old.context old.rest)
LeavesOff (FailsBy failure) old new machine events = left new.context new.rest ≤ left old.context old.rest
LeavesOff Refused old new machine events = ⊤

-- ---- what a sink took of it

-- these events, unless memory was refused
abbrev pub TakenBy : {S : Type 0} → (S → Event → S → Type 0) → Stepped → S → List Event → S → Type 0
TakenBy takes (On place) sink events sink' = TakesAll takes sink events sink'
TakenBy takes More sink events sink' = TakesAll takes sink events sink'
TakenBy takes AtEnd sink events sink' = TakesAll takes sink events sink'
TakenBy takes (FailsBy failure) sink events sink' = TakesAll takes sink events sink'
TakenBy takes Refused sink events sink' = ⊤

-- of an item
pub record CarriesTo {S : Type 0} (takes : S → Event → S → Type 0) (stepped : Stepped) (number : ℕ) (x : Placed)
    (old new : MachineState) (sink sink' : S) : Type 0 where
  pub events : List Event
  pub taken : TakenBy takes stepped sink events sink'
  pub carried : CarriedTo stepped number x old new events

-- of the end of the bytes
pub record EndsBy {S : Type 0} (takes : S → Event → S → Type 0) (stepped : Stepped) (number total : ℕ)
    (machine : MachineState) (sink sink' : S) : Type 0 where
  pub events : List Event
  pub taken : TakenBy takes stepped sink events sink'
  pub ends : EndsTo stepped number total machine events

-- of a step
pub record StepsBy {S : Type 0} (takes : S → Event → S → Type 0) (number total : ℕ) (lexer : LexerState)
    (machine : MachineState) (stepped : Stepped) (lexer' : LexerState) (machine' : MachineState) (sink sink' : S)
    : Type 0 where
  pub events : List Event
  pub taken : TakenBy takes stepped sink events sink'
  pub came : ComesBy number total lexer machine stepped lexer' machine' events
  pub leaves : LeavesOff stepped lexer lexer' machine' events

-- ---- all that was carried out

-- of a job of which memory was refused nothing is known
abbrev pub StandsBy : Progress → Printer → Panel → List ℕ → List Made → RunState → Type 0
StandsBy Open printer panel bytes made run =
    IsUnderWay printer panel run.number bytes made run.lexer run.machine
StandsBy Ended printer panel bytes made run =
    (run.lexer.ended ≡ true) × HasEnded printer panel run.number bytes made run.place
StandsBy (Fails failure) printer panel bytes made run =
    IsFailing printer panel run.number run.lexer.ended bytes failure
StandsBy OutOfMemory printer panel bytes made run = ⊥

-- From the one state of its source to the other the job was carried out so far:
-- it made this, the events of its last item at the end of that.
pub record HasRun (printer : Printer) (panel : Panel) (first now : SourceState) (made : List Made) (run : RunState)
    : Type 0 where
  pub bytes : List ℕ
  pub gave : Gave first now run.lexer.ended bytes
  pub total_is : run.total ≡ length bytes
  pub stands : StandsBy run.progress printer panel bytes made run

-- a step made this behind what was made before
abbrev pub GoesBy : Stepped → Printer → Panel → (first now : SourceState) → List Made → RunState → Type 0
GoesBy (On place) printer panel first now made run = HasRun printer panel first now (made ++ last_made run) run
GoesBy More printer panel first now made run = HasRun printer panel first now made run
GoesBy AtEnd printer panel first now made run = HasRun printer panel first now (made ++ last_made run) run
GoesBy (FailsBy failure) printer panel first now made run =
    HasRun printer panel first now (made ++ last_made run) run
GoesBy Refused printer panel first now made run = ⊤

-- of a job that was carried out so far, another piece was fed, or the end told
abbrev pub TakesPiece : List ℕ → RunState → RunState → Type 0
TakesPiece piece old new =
    (printer : Printer) (panel : Panel) (first mid now : SourceState) (made : List Made) →
    HasRun printer panel first mid made old → now.given ≡ mid.given ++ piece ∷ [] →
    Consumes mid.remaining now.remaining piece → HasRun printer panel first now made new

abbrev pub TakesEnd : RunState → RunState → Type 0
TakesEnd old new =
    (printer : Printer) (panel : Panel) (first mid now : SourceState) (made : List Made) (buf : List ℕ) (n : ℕ) →
    n ≡ 0 → HasRun printer panel first mid made old → now.given ≡ mid.given ++ take n buf ∷ [] →
    Consumes mid.remaining now.remaining (take n buf) → IsAtEnd now.remaining →
    HasRun printer panel first now made new

-- what one read gave was fed, where nothing is the end
abbrev pub TakesRead : List ℕ → RunState → RunState → Type 0
TakesRead piece old new =
    (printer : Printer) (panel : Panel) (first mid now : SourceState) (made : List Made) →
    HasRun printer panel first mid made old → now.given ≡ mid.given ++ piece ∷ [] →
    Consumes mid.remaining now.remaining piece → (piece ≡ [] → IsAtEnd now.remaining) →
    HasRun printer panel first now made new

-- a job went on while its source went from the one state to the other: by its last item
abbrev pub RunsOn : (now now' : SourceState) → (old new : RunState) → Type 0
RunsOn now now' old new =
    (printer : Printer) (panel : Panel) (first : SourceState) (made : List Made) →
    HasRun printer panel first now made old → HasRun printer panel first now' (made ++ last_made new) new

-- of a job that is over no more is made, and its end is where it stands
abbrev pub MayMake : RunState → List Made → ℕ → Type 0
MayMake run more end = is_open run.progress ≡ false → (more ≡ []) × (end ≡ run.place)

-- or by all that it makes
abbrev pub RunsOut : (now now' : SourceState) → (old new : RunState) → Type 0
RunsOut now now' old new =
    (printer : Printer) (panel : Panel) (first : SourceState) (made : List Made) →
    HasRun printer panel first now made old →
    (more : List Made) × HasRun printer panel first now' (made ++ more) new × MayMake old more new.place

-- why a job is not carried out further
abbrev pub IsErrorOfJob : Error → Type 0
IsErrorOfJob Memory = ⊤
IsErrorOfJob Read = ⊤
IsErrorOfJob Turns = ⊤
IsErrorOfJob Write = ⊥
IsErrorOfJob NoProfile = ⊥
IsErrorOfJob Items = ⊥
