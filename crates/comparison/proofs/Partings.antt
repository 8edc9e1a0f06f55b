-- Two jobs while the same was read of both.
use Rattle.std.proofs.Common.{◌≡◌, ◌<◌, ◌≤◌, ◌++◌, ℕ, true, List, [], ◌∷◌, length, map, take, Option, None, Some, refl, ap, sym, ◌∙◌}
use Rattle.std.proofs.Common.{subst, append-nil, append_assoc, arith}
use Rattle.std.specs.Io.KnownBytes.{Consumes, IsAtEnd}
use Rattle.std.proofs.lemmas.List.{length-take-le, map-append}
use Rattle.pcl_lexer.specs.Lexing.State.{LexerState}
use Rattle.device_profile.specs.declared.panel.Panel.{Panel}
use Rattle.device_profile.specs.Printer.{Printer}
use Rattle.page_env.specs.declared.text_lines.TextAppearance.{TextAppearance}
use Rattle.page_env.specs.declared.text_lines.TextLines.{TextLines}
use Rattle.page_env.specs.declared.text_lines.TextPlace.{TextPlace}
use Rattle.page_env.specs.Mark.{Shape}
use Rattle.page_machine.specs.Event.{Event, Marked, TakesAll}
use Rattle.page_machine.specs.MachineState.{MachineState}
use Rattle.sinks.proofs.TextLines.{shape_count, shapes_of}
use Rattle.streams.specs.Source.{SourceState}
use Rattle.comparison.specs.declared.difference.Spot.{Spot}
use Rattle.comparison.specs.declared.running_job.Progress.{Progress}
use Rattle.comparison.specs.declared.stepping.Stepped.{Stepped}
use Rattle.comparison.specs.declared.stepping.Stepped.TheVariants.{On, More, AtEnd, FailsBy, Refused}
use Rattle.comparison.specs.Comparison.{Made, at_start, behind_event, made_at}
use Rattle.comparison.specs.Comparing.{Following, GoAlike, events_made, spot_behind}
use Rattle.comparison.specs.Running.{ComesBy, HasRun, LeavesOff, RunState, StepsBy, TakenBy, TakesRead, is_open, place_after}
use Rattle.comparison.specs.Running.{progress_after}
use Rattle.comparison.specs.Texts.{GoNext, PassesLines, codes_ahead, text_made}
use Rattle.comparison.specs.Together.{CountsBy, CountsOn, GoTogether, StandBehind, TakenOfBoth}
use Rattle.comparison.proofs.Running.{stepped_run, went_on}
use Rattle.comparison.proofs.SameLines.{events_of_text, marks_of_text}
use Rattle.comparison.proofs.SoFar.{spot_behind-append}

-- ---- a spot that counts

abbrev pub spot_takes : Spot → Event → Spot → Type 0
spot_takes old event new = new ≡ behind_event event old

spot_taken : (events : List Event) (spot spot' : Spot) → TakesAll spot_takes spot events spot' → spot' ≡ spot_behind events spot
spot_taken [] spot spot' h = h
spot_taken (event ∷ events) spot spot' h = spot_taken events h.0 spot' h.2 ∙ ap (spot_behind events) h.1

events_at : (place : ℕ) (events : List Event) → events_made (made_at place events) ≡ events
events_at place [] = refl
events_at place (event ∷ events) = ap (λ l. event ∷ l) (events_at place events)

-- ---- a step that counts

-- one that is carried out
pub counts_on : (stepped : Stepped) → (stepped ≡ Refused → ⊥) → (old new : RunState) (spot spot' : Spot) →
    CountsBy stepped old new spot spot' → CountsOn old new spot spot'
counts_on (On place) known old new spot spot' h = h
counts_on More known old new spot spot' h = h
counts_on AtEnd known old new spot spot' h = h
counts_on (FailsBy failure) known old new spot spot' h = h
counts_on Refused known old new spot spot' h = absurd (known refl)

-- none was taken yet
pub counted_none : (run : RunState) (spot : Spot) → CountsOn run run spot spot
counted_none run spot = (
  [],
  refl,
  λ printer panel first now made h. subst (λ m. HasRun printer panel first now m run) (sym (append-nil made)) h,
)

-- one more was taken
pub count_more : (old mid new : RunState) (spot spot_mid spot' : Spot) → CountsOn old mid spot spot_mid →
    CountsOn mid new spot_mid spot' → CountsOn old new spot spot'
count_more old mid new spot spot_mid spot' one other = (
  one.0 ++ other.0,
  other.1
      ∙ (ap (spot_behind (events_made other.0)) one.1
      ∙ (sym (spot_behind-append (events_made one.0) (events_made other.0) spot)
      ∙ ap (λ es. spot_behind es spot) (sym (map-append (λ (m : Made). m.event) one.0 other.0)))),
  λ printer panel first now made h.
      subst (λ m. HasRun printer panel first now m new) (append_assoc made one.0 other.0)
      (other.2 printer panel first now (made ++ one.0) (one.2 printer panel first now made h)),
)

-- by a step, behind a look for lines that found none
pub count_step : (first old mid new : RunState) (spot_first spot spot_mid spot' : Spot) → mid ≡ old → spot_mid ≡ spot →
    CountsOn first old spot_first spot → CountsOn mid new spot_mid spot' → CountsOn first new spot_first spot'
count_step first old mid new spot_first spot spot_mid spot' same spot_same so_far counts =
    count_more first old new spot_first spot spot' so_far
    (subst (λ (s : RunState). CountsOn s new spot spot') same
    (subst (λ (s : Spot). CountsOn mid new s spot') spot_same counts))

module _ (old : RunState) (lexer : LexerState) (machine : MachineState) (kept : List Event) (running : is_open old.progress ≡ true)
    (ended : lexer.ended ≡ old.lexer.ended) (spot spot' : Spot) where
  abbrev after : Stepped → RunState
  after stepped = stepped_run old lexer machine kept (place_after stepped old.place old.total) (progress_after stepped)

  on_by : (stepped : Stepped) → (stepped ≡ Refused → ⊥) → (events : List Event) → TakesAll spot_takes spot events spot' →
      ComesBy old.number old.total old.lexer old.machine stepped lexer machine events → LeavesOff stepped old.lexer lexer machine events →
      CountsOn old (after stepped) spot spot'
  on_by stepped known events taken came leaves =
      let place : ℕ = place_after stepped old.place old.total in (
        made_at place events,
        spot_taken events spot spot' taken ∙ ap (λ es. spot_behind es spot) (sym (events_at place events)),
        λ printer panel first now made h.
            went_on old lexer machine events running ended printer panel first now made h kept stepped known came leaves,
      )

  counted_by : (stepped : Stepped) →
      StepsBy spot_takes old.number old.total old.lexer old.machine stepped lexer machine spot spot' →
      CountsBy stepped old (after stepped) spot spot'
  counted_by (On place) h = on_by (On place) (λ e. absurd cc) h.events h.taken h.came h.leaves
  counted_by More h = on_by More (λ e. absurd cc) h.events h.taken h.came h.leaves
  counted_by AtEnd h = on_by AtEnd (λ e. absurd cc) h.events h.taken h.came h.leaves
  counted_by (FailsBy failure) h = on_by (FailsBy failure) (λ e. absurd cc) h.events h.taken h.came h.leaves
  counted_by Refused h = tt

  pub counted : (stepped : Stepped) (place : ℕ) (progress : Progress) → place ≡ place_after stepped old.place old.total →
      progress ≡ progress_after stepped →
      StepsBy spot_takes old.number old.total old.lexer old.machine stepped lexer machine spot spot' →
      CountsBy stepped old (stepped_run old lexer machine kept place progress) spot spot'
  counted stepped place progress place_is progress_is h =
      subst (λ (p : Progress). CountsBy stepped old (stepped_run old lexer machine kept place p) spot spot') (sym progress_is)
      (subst (λ (n : ℕ). CountsBy stepped old (stepped_run old lexer machine kept n (progress_after stepped)) spot spot') (sym place_is)
      (counted_by stepped h))

-- ---- lines that are counted

pub lines_counted : (lines : TextLines) (look : TextAppearance) (from : TextPlace) (old new : RunState) (spot spot' : Spot) →
    GoNext look from lines old → PassesLines lines old new →
    ((shapes : List Shape) → length shapes ≡ lines.glyphs → spot' ≡ spot_behind (map Marked shapes) spot) → CountsOn old new spot spot'
lines_counted lines look from old new spot spot' next passes counted_are =
    let codes = codes_ahead lines old in
    let text = text_made look from old.lexer.place codes in (
      text,
      counted_are (shapes_of look from codes) (shape_count codes look from ∙ sym next.go.glyphs)
          ∙ ap (λ es. spot_behind es spot) (marks_of_text codes look from ∙ sym (events_of_text codes look from old.lexer.place)),
      λ printer panel first now made h. passes look from next printer panel first now made h,
    )

-- ---- what is left to do

pub sooner_read : (a b c : ℕ) → a < b → b ≤ c → a < c
sooner_read a b c first second = omega arith

pub at_most : (a b c : ℕ) → a ≤ b → b ≤ c → a ≤ c
at_most a b c first second = omega arith

pub less_at_most : (a b c : ℕ) → a < b → b ≤ c → a ≤ c
less_at_most a b c first second = omega arith

-- ---- both

-- nothing was carried out yet
pub together_none : (printer : Printer) (panel : Panel) (old_first new_first : SourceState) (run : RunState) (spot : Spot) →
    spot ≡ at_start → HasRun printer panel old_first old_first [] run → HasRun printer panel new_first new_first [] run →
    GoTogether printer panel old_first old_first new_first new_first run spot
together_none printer panel old_first new_first run spot begun old_run new_run =
    record { made = []; old_run = old_run; new_run = new_run; spot_is = begun }

pub stand_still : (old_now new_now : SourceState) (run : RunState) (spot : Spot) →
    StandBehind old_now old_now new_now new_now run run spot spot None
stand_still old_now new_now run spot printer panel old_first new_first h = h

together_on : (run run' : RunState) (spot spot' : Spot) → CountsOn run run' spot spot' → (printer : Printer) (panel : Panel)
    (old_first old_now new_first new_now : SourceState) → GoTogether printer panel old_first old_now new_first new_now run spot →
    GoTogether printer panel old_first old_now new_first new_now run' spot'
together_on run run' spot spot' counts printer panel old_first old_now new_first new_now h = record {
  made = h.made ++ counts.0;
  old_run = counts.2 printer panel old_first old_now h.made h.old_run;
  new_run = counts.2 printer panel new_first new_now h.made h.new_run;
  spot_is =
      counts.1
      ∙ (ap (spot_behind (events_made counts.0)) h.spot_is
      ∙ (sym (spot_behind-append (events_made h.made) (events_made counts.0) at_start)
      ∙ ap (λ es. spot_behind es at_start) (sym (map-append (λ (m : Made). m.event) h.made counts.0))));
}

-- what is counted came of both
pub stand_on : (old_now new_now : SourceState) (run run' : RunState) (spot spot' : Spot) → CountsOn run run' spot spot' →
    StandBehind old_now old_now new_now new_now run run' spot spot' None
stand_on old_now new_now run run' spot spot' counts printer panel old_first new_first =
    together_on run run' spot spot' counts printer panel old_first old_now new_first new_now

pub stand_further : (old_now old_mid old_now' new_now new_mid new_now' : SourceState) (run mid run' : RunState)
    (spot spot_mid spot' : Spot) (parted : Option Following) → StandBehind old_now old_mid new_now new_mid run mid spot spot_mid None →
    StandBehind old_mid old_now' new_mid new_now' mid run' spot_mid spot' parted →
    StandBehind old_now old_now' new_now new_now' run run' spot spot' parted
stand_further old_now old_mid old_now' new_now new_mid new_now' run mid run' spot spot_mid spot' parted one other printer panel old_first
    new_first h =
    other printer panel old_first new_first (one printer panel old_first new_first h)

-- ---- where they part

parts : (printer : Printer) (panel : Panel) (old_first old_now new_first new_now : SourceState) (run second : RunState) (spot : Spot)
    (made : List Made) → HasRun printer panel old_first old_now made run → HasRun printer panel new_first new_now made second →
    second.events ≡ [] → spot ≡ spot_behind (events_made made) at_start →
    GoAlike printer panel old_first old_now new_first new_now run spot (record { run = second; taken = 0 })
parts printer panel old_first old_now new_first new_now run second spot made old_run new_run none spot_is = record {
  old_made = made;
  old_run = old_run;
  level = record {
    new_taken = made;
    followed = record {
      has_run =
          subst (λ m. HasRun printer panel new_first new_now m second)
          (sym (ap (λ es. made ++ made_at second.place es) none ∙ append-nil made)) new_run;
    };
    same = refl;
    spot_is = spot_is;
  };
}

-- each goes by itself from where both stand
pub part_here : (old_now new_now : SourceState) (run second : RunState) (spot : Spot) (following : Following) → run.events ≡ [] →
    second ≡ run → following ≡ record { run = second; taken = 0 } →
    StandBehind old_now old_now new_now new_now run run spot spot (Some following)
part_here old_now new_now run second spot following none copy is printer panel old_first new_first h =
    subst (λ (f : Following). GoAlike printer panel old_first old_now new_first new_now run spot f) (sym is)
    (parts printer panel old_first old_now new_first new_now run second spot h.made h.old_run
    (subst (λ (s : RunState). HasRun printer panel new_first new_now h.made s) (sym copy) h.new_run)
    (ap (λ (s : RunState). s.events) copy ∙ none) h.spot_is)

-- a read gave nothing only at the end
pub over_by : (buf : List ℕ) (n : ℕ) (after : Option (List ℕ)) → n ≤ length buf → 0 < length buf →
    (n ≡ 0 → 0 < length buf → IsAtEnd after) → take n buf ≡ [] → IsAtEnd after
over_by buf n after few some over none = over (sym (length-take-le n buf few) ∙ ap length none) some

module _ (old_now old_now' new_now new_now' : SourceState) (piece other : List ℕ) (old_given : old_now'.given ≡ old_now.given ++ piece ∷ [])
    (new_given : new_now'.given ≡ new_now.given ++ other ∷ []) (old_consumed : Consumes old_now.remaining old_now'.remaining piece)
    (new_consumed : Consumes new_now.remaining new_now'.remaining other) (old_over : piece ≡ [] → IsAtEnd old_now'.remaining)
    (new_over : other ≡ [] → IsAtEnd new_now'.remaining) (run run' : RunState) (spot : Spot) where
  pub both_read : TakenOfBoth piece other run run' None → StandBehind old_now old_now' new_now new_now' run run' spot spot None
  both_read taken printer panel old_first new_first h =
      let new_taken : TakesRead other run run' = subst (λ p. TakesRead p run run') taken.0 taken.1 in record {
        made = h.made;
        old_run = taken.1 printer panel old_first old_now old_now' h.made h.old_run old_given old_consumed old_over;
        new_run = new_taken printer panel new_first new_now new_now' h.made h.new_run new_given new_consumed new_over;
        spot_is = h.spot_is;
      }

  pub parted_read : (second : RunState) (following : Following) → TakenOfBoth piece other run run' (Some second) →
      following ≡ record { run = second; taken = 0 } →
      StandBehind old_now old_now' new_now new_now' run run' spot spot (Some following)
  parted_read second following taken is printer panel old_first new_first h =
      subst (λ (f : Following). GoAlike printer panel old_first old_now' new_first new_now' run' spot f) (sym is)
      (parts printer panel old_first old_now' new_first new_now' run' second spot h.made
      (taken.0 printer panel old_first old_now old_now' h.made h.old_run old_given old_consumed old_over)
      (taken.1 printer panel new_first new_now new_now' h.made h.new_run new_given new_consumed new_over) taken.2 h.spot_is)
