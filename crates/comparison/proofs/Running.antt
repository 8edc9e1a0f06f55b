-- What a job has come to by a step, by a piece of its bytes and by their end.
use Rattle.std.proofs.Common.{◌≡◌, ◌+◌, ◌-◌, ◌*◌, ◌<◌, ◌≤◌, ◌^◌, ℕ, true, false, List, [], ◌∷◌, ◌++◌, length, take, refl, ap, sym, ◌∙◌}
use Rattle.std.proofs.Common.{subst, append-nil, append_assoc, length-append, arith, Result, Ok, Err, OnOk}
use Rattle.std.specs.Io.KnownBytes.{Consumes, IsAtEnd}
use Rattle.std.proofs.lemmas.Bool.{false≢true}
use Rattle.pcl_items.specs.Items.{Placed}
use Rattle.pcl_lexer.specs.Lexing.Contexts.{pending}
use Rattle.pcl_lexer.specs.Lexing.Meaning.{HasRead}
use Rattle.pcl_lexer.specs.Lexing.State.{LexerState, at_start}
use Rattle.pcl_lexer.specs.Modes.{mode_of}
use Rattle.pcl_lexer.specs.Reading.{left}
use Rattle.device_profile.specs.declared.panel.Panel.{Panel}
use Rattle.device_profile.specs.Printer.{Printer}
use Rattle.page_machine.specs.declared.machine.Start.TheVariants.{At}
use Rattle.page_machine.specs.Event.{Event}
use Rattle.page_machine.specs.Machine.{IsNew}
use Rattle.page_machine.specs.MachineState.{MachineState}
use Rattle.streams.specs.Source.{SourceState}
use Rattle.comparison.specs.declared.running_job.Progress.{Progress}
use Rattle.comparison.specs.declared.running_job.Progress.TheVariants.{Open, Ended, Fails, OutOfMemory}
use Rattle.comparison.specs.declared.stepping.Stepped.{Stepped}
use Rattle.comparison.specs.declared.stepping.Stepped.TheVariants.{On, More, AtEnd, FailsBy, Refused}
use Rattle.comparison.specs.Comparison.{Made, made_at}
use Rattle.comparison.specs.Running.{ComesBy, Gave, GoesBy, HasEnded, HasRun, IsUnderWay, IsWaiting, LeavesOff, MayMake, RunState}
use Rattle.comparison.specs.Running.{RunsOn, StandsBy, TakesEnd, TakesPiece, TakesRead, TakesWork}
use Rattle.comparison.specs.Running.{is_open, last_made, last_step, place_after, progress_after, work}
use Rattle.comparison.proofs.Given.{gave_end, gave_more, gave_none}
use Rattle.comparison.proofs.Steps.{still_under_way, under_way_at_start}

-- ---- a job that is not over

pub under_way : (progress : Progress) (printer : Printer) (panel : Panel) (bytes : List ℕ) (made : List Made) (run : RunState) →
    is_open progress ≡ true → StandsBy progress printer panel bytes made run →
    IsUnderWay printer panel run.number bytes made run.lexer run.machine
under_way Open printer panel bytes made run e h = h
under_way Ended printer panel bytes made run e h = absurd (false≢true e)
under_way (Fails failure) printer panel bytes made run e h = absurd (false≢true e)
under_way OutOfMemory printer panel bytes made run e h = absurd (false≢true e)

pub stands_open : (progress : Progress) (printer : Printer) (panel : Panel) (bytes : List ℕ) (made : List Made) (run : RunState) →
    is_open progress ≡ true → IsUnderWay printer panel run.number bytes made run.lexer run.machine →
    StandsBy progress printer panel bytes made run
stands_open Open printer panel bytes made run e h = h
stands_open Ended printer panel bytes made run e h = absurd (false≢true e)
stands_open (Fails failure) printer panel bytes made run e h = absurd (false≢true e)
stands_open OutOfMemory printer panel bytes made run e h = absurd (false≢true e)

opened : (progress : Progress) → is_open progress ≡ true → last_step progress ≡ 1
opened Open e = refl
opened Ended e = absurd (false≢true e)
opened (Fails failure) e = absurd (false≢true e)
opened OutOfMemory e = absurd (false≢true e)

-- ---- the start

pub starts : (printer : Printer) (panel : Panel) (number : ℕ) (first : SourceState) (lexer : LexerState) (machine : MachineState)
    (events : List Event) (place : ℕ) → lexer ≡ at_start → HasRead lexer [] [] → IsNew printer (At panel) machine →
    HasRun printer panel first first [] (record {
      lexer = lexer;
      machine = machine;
      events = events;
      place = place;
      total = 0;
      reads = 0;
      number = number;
      progress = Open;
    })
starts printer panel number first lexer machine events place begun reads new = record {
  bytes = [];
  gave = subst (λ e. Gave first first e []) (sym (ap (λ (s : LexerState). s.ended) begun)) (gave_none first);
  total_is = refl;
  stands = under_way_at_start printer panel number lexer machine new reads;
}

-- it may take a step
pub starts_ready : (printer : Printer) (panel : Panel) (lexer : LexerState) (machine : MachineState) → lexer ≡ at_start →
    IsNew printer (At panel) machine →
    (machine.stopped ≡ false) × (machine.mode ≡ mode_of lexer.context) × (lexer.place + length lexer.rest ≡ 0) × (0 ≤ 4096 * 0)
    × (0 ≤ 2 ^ 40)
starts_ready printer panel lexer machine begun new = (
  new.running,
  new.mode ∙ sym (ap (λ (s : LexerState). mode_of s.context) begun),
  ap (λ (s : LexerState). s.place + length s.rest) begun,
  omega arith,
  omega arith,
)

-- ---- a step

module _ (old : RunState) (lexer : LexerState) (machine : MachineState) (events : List Event) (place : ℕ) (progress : Progress) where
  abbrev pub stepped_run : RunState
  stepped_run = record {
    lexer = lexer;
    machine = machine;
    events = events;
    place = place;
    total = old.total;
    reads = old.reads;
    number = old.number;
    progress = progress;
  }

module _ (old : RunState) (lexer : LexerState) (machine : MachineState) (events : List Event) (running : is_open old.progress ≡ true)
    (ended : lexer.ended ≡ old.lexer.ended) (printer : Printer) (panel : Panel) (first now : SourceState) (made : List Made)
    (h : HasRun printer panel first now made old) where
  now_under_way : IsUnderWay printer panel old.number h.bytes made old.lexer old.machine
  now_under_way = under_way old.progress printer panel h.bytes made old running h.stands

  still_gave : Gave first now lexer.ended h.bytes
  still_gave = subst (λ e. Gave first now e h.bytes) (sym ended) h.gave

  -- it made the events behind what was made before, whichever of them are kept
  pub went_on : (kept : List Event) (stepped : Stepped) → (stepped ≡ Refused → ⊥) →
      ComesBy old.number old.total old.lexer old.machine stepped lexer machine events → LeavesOff stepped old.lexer lexer machine events →
      HasRun printer panel first now (made ++ made_at (place_after stepped old.place old.total) events)
      (stepped_run old lexer machine kept (place_after stepped old.place old.total) (progress_after stepped))
  went_on kept (On place) known came leaves = record {
    bytes = h.bytes;
    gave = still_gave;
    total_is = h.total_is;
    stands = came printer panel h.bytes made h.total_is now_under_way;
  }
  went_on kept More known came leaves = record {
    bytes = h.bytes;
    gave = still_gave;
    total_is = h.total_is;
    stands =
        subst (λ m. IsUnderWay printer panel old.number h.bytes m lexer machine)
        (sym (ap (λ es. made ++ made_at old.place es) leaves.4 ∙ append-nil made)) (came printer panel h.bytes made h.total_is
        now_under_way);
  }
  went_on kept AtEnd known came leaves = record {
    bytes = h.bytes;
    gave = still_gave;
    total_is = h.total_is;
    stands = (
      leaves.0,
      subst (λ n. HasEnded printer panel old.number h.bytes (made ++ made_at n events) n) (sym h.total_is)
          (came printer panel h.bytes made h.total_is now_under_way),
    );
  }
  went_on kept (FailsBy failure) known came leaves = record {
    bytes = h.bytes;
    gave = still_gave;
    total_is = h.total_is;
    stands = came printer panel h.bytes made h.total_is now_under_way;
  }
  went_on kept Refused known came leaves = absurd (known refl)

  advanced_by : (stepped : Stepped) → ComesBy old.number old.total old.lexer old.machine stepped lexer machine events →
      LeavesOff stepped old.lexer lexer machine events →
      GoesBy stepped printer panel first now made
      (stepped_run old lexer machine events (place_after stepped old.place old.total) (progress_after stepped))
  advanced_by (On place) came leaves = went_on events (On place) (λ e. absurd cc) came leaves
  advanced_by More came leaves = record {
    bytes = h.bytes;
    gave = still_gave;
    total_is = h.total_is;
    stands = came printer panel h.bytes made h.total_is now_under_way;
  }
  advanced_by AtEnd came leaves = went_on events AtEnd (λ e. absurd cc) came leaves
  advanced_by (FailsBy failure) came leaves = went_on events (FailsBy failure) (λ e. absurd cc) came leaves
  advanced_by Refused came leaves = tt

  pub advanced : (stepped : Stepped) (place : ℕ) (progress : Progress) → place ≡ place_after stepped old.place old.total →
      progress ≡ progress_after stepped → ComesBy old.number old.total old.lexer old.machine stepped lexer machine events →
      LeavesOff stepped old.lexer lexer machine events →
      GoesBy stepped printer panel first now made (stepped_run old lexer machine events place progress)
  advanced stepped place progress place_is progress_is came leaves =
      subst (λ (p : Progress). GoesBy stepped printer panel first now made (stepped_run old lexer machine events place p)) (sym progress_is)
      (subst
      (λ (n : ℕ). GoesBy stepped printer panel first now made (stepped_run old lexer machine events n (progress_after stepped)))
      (sym place_is) (advanced_by stepped came leaves))

-- what is left to do

less_on : (n o k l m : ℕ) → n ≡ 1 → o ≡ 1 → l < m → n + l + k < o + m + k
less_on n o k l m new old less = omega arith

no_more_on : (n o k l m : ℕ) → n ≡ 1 → o ≡ 1 → l ≤ m → n + l + k ≤ o + m + k
no_more_on n o k l m new old less = omega arith

less_over : (n o k l m : ℕ) → n ≡ 0 → o ≡ 1 → l ≤ m → n + l + k < o + m + k
less_over n o k l m new old less = omega arith

pub work_taken : (old : RunState) (lexer : LexerState) (machine : MachineState) (events kept : List Event) (place : ℕ)
    (progress : Progress) → is_open old.progress ≡ true → (stepped : Stepped) → progress ≡ progress_after stepped →
    LeavesOff stepped old.lexer lexer machine events → TakesWork stepped old (stepped_run old lexer machine kept place progress)
work_taken old lexer machine events kept place progress running (On there) is leaves =
    less_on (last_step progress) (last_step old.progress) (8194 * (2 ^ 40 - old.reads)) (left lexer.context lexer.rest)
    (left old.lexer.context old.lexer.rest) (ap last_step is) (opened old.progress running) leaves.2
work_taken old lexer machine events kept place progress running More is leaves =
    no_more_on (last_step progress) (last_step old.progress) (8194 * (2 ^ 40 - old.reads)) (left lexer.context lexer.rest)
    (left old.lexer.context old.lexer.rest) (ap last_step is) (opened old.progress running) leaves.5
work_taken old lexer machine events kept place progress running AtEnd is leaves =
    less_over (last_step progress) (last_step old.progress) (8194 * (2 ^ 40 - old.reads)) (left lexer.context lexer.rest)
    (left old.lexer.context old.lexer.rest) (ap last_step is) (opened old.progress running) leaves.1
work_taken old lexer machine events kept place progress running (FailsBy failure) is leaves =
    less_over (last_step progress) (last_step old.progress) (8194 * (2 ^ 40 - old.reads)) (left lexer.context lexer.rest)
    (left old.lexer.context old.lexer.rest) (ap last_step is) (opened old.progress running) leaves
work_taken old lexer machine events kept place progress running Refused is leaves = tt

-- where more bytes are wanted it waits for them
pub waits_now : (old : RunState) (lexer : LexerState) (machine : MachineState) (events : List Event) (place : ℕ) (progress : Progress)
    (stepped : Stepped) → progress ≡ progress_after stepped → LeavesOff stepped old.lexer lexer machine events → stepped ≡ More →
    IsWaiting (stepped_run old lexer machine events place progress)
waits_now old lexer machine events place progress stepped progress_is leaves more =
    let waits : LeavesOff More old.lexer lexer machine events =
    subst (λ s. LeavesOff s old.lexer lexer machine events) more leaves in
    record {
      running = ap is_open progress_is ∙ ap (λ s. is_open (progress_after s)) more;
      wants_more = waits.3;
      unended = waits.2;
      none = waits.4;
    }

-- so where nothing of it is kept
pub waits_counted : (old : RunState) (lexer : LexerState) (machine : MachineState) (events kept : List Event) (place : ℕ)
    (progress : Progress) (stepped : Stepped) → progress ≡ progress_after stepped → LeavesOff stepped old.lexer lexer machine events →
    kept ≡ [] → stepped ≡ More → IsWaiting (stepped_run old lexer machine kept place progress)
waits_counted old lexer machine events kept place progress stepped progress_is leaves none more =
    let waits = waits_now old lexer machine events place progress stepped progress_is leaves more in
    record { running = waits.running; wants_more = waits.wants_more; unended = waits.unended; none = none }

-- where the job is not over, lexer and machine stand in one mode
pub runs_after : (stepped : Stepped) (old new : LexerState) (machine : MachineState) (events : List Event) →
    is_open (progress_after stepped) ≡ true → LeavesOff stepped old new machine events →
    (machine.stopped ≡ false) × (machine.mode ≡ mode_of new.context)
runs_after (On place) old new machine events running leaves = (leaves.0, leaves.1)
runs_after More old new machine events running leaves = (leaves.0, leaves.1)
runs_after AtEnd old new machine events running leaves = absurd (false≢true running)
runs_after (FailsBy failure) old new machine events running leaves = absurd (false≢true running)
runs_after Refused old new machine events running leaves = absurd (false≢true running)

-- ---- what a step came to

module _ (stepped : Stepped) (wanted : stepped ≡ More → ⊥) (refused : stepped ≡ Refused → ⊥) where
  pub made_on : (printer : Printer) (panel : Panel) (first now : SourceState) (made : List Made) (run : RunState) →
      GoesBy stepped printer panel first now made run → HasRun printer panel first now (made ++ last_made run) run
  made_on printer panel first now made run = it stepped wanted refused
    where
      it : (s : Stepped) → (s ≡ More → ⊥) → (s ≡ Refused → ⊥) → GoesBy s printer panel first now made run →
          HasRun printer panel first now (made ++ last_made run) run
      it (On place) w r h = h
      it More w r h = absurd (w refl)
      it AtEnd w r h = h
      it (FailsBy failure) w r h = h
      it Refused w r h = absurd (r refl)

  pub less_made : (old new : RunState) → TakesWork stepped old new → work new < work old
  less_made old new = it stepped wanted refused
    where
      it : (s : Stepped) → (s ≡ More → ⊥) → (s ≡ Refused → ⊥) → TakesWork s old new → work new < work old
      it (On place) w r h = h
      it More w r h = absurd (w refl)
      it AtEnd w r h = h
      it (FailsBy failure) w r h = h
      it Refused w r h = absurd (r refl)

-- it waited, and a read went on
pub read_on : (stepped : Stepped) → stepped ≡ More → (now now' : SourceState) (old mid new : RunState) →
    ((printer : Printer) (panel : Panel) (first now : SourceState) (made : List Made) → HasRun printer panel first now made old →
    GoesBy stepped printer panel first now made mid) → RunsOn now now' mid new → RunsOn now now' old new
read_on stepped more now now' old mid new goes runs printer panel first made h =
    runs printer panel first made (subst (λ s. GoesBy s printer panel first now made mid) more (goes printer panel first now made h))

sooner : (a b c : ℕ) → a < b → b ≤ c → a < c
sooner a b c first second = omega arith

pub less_read : (stepped : Stepped) → stepped ≡ More → (old mid new : RunState) → TakesWork stepped old mid → work new < work mid →
    work new < work old
less_read stepped more old mid new taken less = sooner (work new) (work mid) (work old) less (subst (λ s. TakesWork s old mid) more taken)

-- nothing was made
pub nothing_made : (printer : Printer) (panel : Panel) (first now : SourceState) (made : List Made) (run : RunState) →
    run.events ≡ [] → HasRun printer panel first now made run → HasRun printer panel first now (made ++ last_made run) run
nothing_made printer panel first now made run none h =
    subst (λ m. HasRun printer panel first now m run) (sym (ap (λ es. made ++ made_at run.place es) none ∙ append-nil made)) h

-- ---- bytes that were read

less_fed : (n l m r size : ℕ) → size ≤ 4096 → m ≡ l + 2 * size → r < 2 ^ 40 →
    n + m + 8194 * (2 ^ 40 - (r + 1)) < n + l + 8194 * (2 ^ 40 - r)
less_fed n l m r size short is few = omega arith

wider : (l p all pending : ℕ) → all ≡ l + p → 2 * all + pending ≡ 2 * l + pending + 2 * p
wider l p all pending size = omega arith

module _ (old : RunState) (lexer : LexerState) (waits : IsWaiting old) where
  -- a further piece
  module _ (piece : List ℕ) (held : ℕ) (rest_is : lexer ≡ record old.lexer { rest = old.lexer.rest ++ piece; held = held }) where
    abbrev pub fed_run : RunState
    fed_run = record {
      lexer = lexer;
      machine = old.machine;
      events = old.events;
      place = old.place;
      total = old.total + length piece;
      reads = old.reads + 1;
      number = old.number;
      progress = old.progress;
    }

    fed_unended : lexer.ended ≡ false
    fed_unended = ap (λ (s : LexerState). s.ended) rest_is ∙ waits.unended

    pub piece_taken : ((bytes : List ℕ) (items : List Placed) → HasRead old.lexer bytes items → HasRead lexer (bytes ++ piece) items) →
        0 < length piece → (printer : Printer) (panel : Panel) (first mid now : SourceState) (made : List Made) →
        HasRun printer panel first mid made old → now.given ≡ mid.given ++ piece ∷ [] →
        Consumes mid.remaining now.remaining piece → HasRun printer panel first now made fed_run
    piece_taken reads some printer panel first mid now made h given consumed =
        let here = under_way old.progress printer panel h.bytes made old waits.running h.stands in record {
          bytes = h.bytes ++ piece;
          gave =
              subst (λ e. Gave first now e (h.bytes ++ piece)) (sym fed_unended)
              (gave_more first mid now h.bytes piece some (subst (λ e. Gave first mid e h.bytes) waits.unended h.gave) given consumed);
          total_is = ap (λ n. n + length piece) h.total_is ∙ sym (length-append h.bytes piece);
          stands =
              stands_open old.progress printer panel (h.bytes ++ piece) made fed_run waits.running
              (still_under_way printer panel old.number h.bytes made old.lexer old.machine here (h.bytes ++ piece) lexer
              (reads h.bytes here.items here.reads));
        }

    pub less_by_piece : length piece ≤ 4096 → old.reads < 2 ^ 40 → work fed_run < work old
    less_by_piece short few =
        less_fed (last_step old.progress) (left old.lexer.context old.lexer.rest) (left lexer.context lexer.rest) old.reads
        (length piece) short
        (ap (λ (s : LexerState). left s.context s.rest) rest_is
        ∙ wider (length old.lexer.rest) (length piece) (length (old.lexer.rest ++ piece)) (pending old.lexer.context)
        (length-append old.lexer.rest piece))
        few

  -- the end of the job
  module _ (ended_is : lexer ≡ record old.lexer { ended = true }) where
    abbrev pub ended_run : RunState
    ended_run = record {
      lexer = lexer;
      machine = old.machine;
      events = old.events;
      place = old.place;
      total = old.total;
      reads = old.reads + 1;
      number = old.number;
      progress = old.progress;
    }

    pub end_taken : ((bytes : List ℕ) (items : List Placed) → HasRead old.lexer bytes items → HasRead lexer bytes items) →
        (printer : Printer) (panel : Panel) (first mid now : SourceState) (made : List Made) (buf : List ℕ) (n : ℕ) → n ≡ 0 →
        HasRun printer panel first mid made old → now.given ≡ mid.given ++ take n buf ∷ [] →
        Consumes mid.remaining now.remaining (take n buf) → IsAtEnd now.remaining → HasRun printer panel first now made ended_run
    end_taken reads printer panel first mid now made buf n none h given consumed over =
        let here = under_way old.progress printer panel h.bytes made old waits.running h.stands in record {
          bytes = h.bytes;
          gave =
              subst (λ e. Gave first now e h.bytes) (sym (ap (λ (s : LexerState). s.ended) ended_is))
              (gave_end first mid now h.bytes buf n none (subst (λ e. Gave first mid e h.bytes) waits.unended h.gave) given consumed over);
          total_is = h.total_is;
          stands =
              stands_open old.progress printer panel h.bytes made ended_run waits.running
              (still_under_way printer panel old.number h.bytes made old.lexer old.machine here h.bytes lexer
              (reads h.bytes here.items here.reads));
        }

    pub less_by_end : old.reads < 2 ^ 40 → work ended_run < work old
    less_by_end few =
        let same : left lexer.context lexer.rest ≡ left old.lexer.context old.lexer.rest =
        ap (λ (s : LexerState). left s.context s.rest) ended_is in
        less_fed (last_step old.progress) (left old.lexer.context old.lexer.rest) (left lexer.context lexer.rest) old.reads
        0 (omega arith) (omega (arith, same)) few

-- ---- all of it

-- it went on by a step
pub ran_on : (now mid now' : SourceState) (first old new : RunState) → (is_open first.progress ≡ false → ⊥) →
    ((printer : Printer) (panel : Panel) (from : SourceState) (made : List Made) → HasRun printer panel from now made first →
    (more : List Made) × HasRun printer panel from mid (made ++ more) old × MayMake first more old.place) →
    RunsOn mid now' old new → (printer : Printer) (panel : Panel) (from : SourceState) (made : List Made) →
    HasRun printer panel from now made first →
    (more : List Made) × HasRun printer panel from now' (made ++ more) new × MayMake first more new.place
ran_on now mid now' first old new running so_far runs printer panel from made h =
    let before = so_far printer panel from made h in (
      before.0 ++ last_made new,
      subst (λ m. HasRun printer panel from now' m new) (append_assoc made before.0 (last_made new))
          (runs printer panel from (made ++ before.0) before.1),
      λ over. absurd (running over),
    )

pub ran_none : (now : SourceState) (run : RunState) (printer : Printer) (panel : Panel) (from : SourceState) (made : List Made) →
    HasRun printer panel from now made run →
    (more : List Made) × HasRun printer panel from now (made ++ more) run × MayMake run more run.place
ran_none now run printer panel from made h =
    ([], subst (λ m. HasRun printer panel from now m run) (sym (append-nil made)) h, λ over. (refl, refl))

-- ---- what one read gave

-- nothing, which is the end
pub read_ended : (piece : List ℕ) (old new : RunState) → piece ≡ [] → TakesEnd old new → TakesRead piece old new
read_ended piece old new none ends printer panel first mid now made h given consumed over =
    ends printer panel first mid now made piece 0 refl h (given ∙ ap (λ p. mid.given ++ p ∷ []) none)
    (subst (Consumes mid.remaining now.remaining) none consumed) (over none)

-- a piece
pub read_taken : {E : Type 0} (piece : List ℕ) (old new : RunState) (r : Result Unit E) → OnOk r (TakesPiece piece old new) →
    OnOk r (TakesRead piece old new)
read_taken piece old new (Ok done) takes = λ printer panel first mid now made h given consumed over.
    takes printer panel first mid now made h given consumed
read_taken piece old new (Err error) takes = tt
