-- Lines of text on the machines of a fleet, which go in step.
use Rattle.std.proofs.Common.{◌≡◌, ℕ, zero, suc, ◌+◌, ◌<◌, ◌≤◌, ◌==◌, Bool, is_some, true, false, cond, List, [], ◌∷◌, ◌++◌, length}
use Rattle.std.proofs.Common.{take, drop, set, get_or, map, Option, None, Some, refl, ap, sym, ◌∙◌, subst, append_assoc, append-nil, arith}
use Rattle.std.specs.List.{AllByRecursion}
use Rattle.std.proofs.lemmas.List.{take_more, take_more_set, drop_more, drop-set-lt, drop-drop, take_all, take-take}
use Rattle.std.proofs.lemmas.List.{length-set}
use Rattle.pcl_items.specs.declared.item.Mode.TheVariants as modes
use Rattle.pcl_lexer.specs.Lexing.Contexts.{Context, Pcl, Sequence, Frame, Letters, Numbered, Pjl, pending}
use Rattle.pcl_items.specs.Modes.{follows}
use Rattle.pcl_items.specs.Items.{CarriageReturn, Entry, LineFeed, Text, at, Placed}
use Rattle.pcl_lexer.specs.Modes.{mode_of}
use Rattle.pcl_lexer.specs.Reading.{left}
use Rattle.pcl_lexer.specs.Lexing.State.{LexerState}
use Rattle.pcl_lexer.specs.Lexing.Passing.{ahead_in, ahead_of, ReadsLines}
use Rattle.pcl_items.specs.Lines.{line_item, line_items}
use Rattle.device_profile.specs.Likeness.{IsLike}
use Rattle.device_profile.specs.Printer.{Printer}
use Rattle.page_env.specs.declared.mark.Glyph.{Glyph}
use Rattle.page_env.specs.declared.page.Page.{Page}
use Rattle.page_env.specs.declared.text_lines.TextAppearance.{TextAppearance}
use Rattle.page_env.specs.declared.text_lines.TextPlace.{TextPlace}
use Rattle.page_env.specs.Mark.{Shape, characters_of}
use Rattle.page_env.specs.Effect.{effect_of}
use Rattle.page_env.specs.Likeness.{asks_alike, GoesOnLike}
use Rattle.page_env.specs.Settings.{settings_at, state_at}
use Rattle.page_env.specs.TextLines.{AllGo, behind, glyph_at, page_behind, page_behind_all}
use Rattle.page_env.specs.TextMeasure.{AllHaveRoom, TextMeasure}
use Rattle.page_env.proofs.TextRooms.{room_goes}
use Rattle.page_machine.specs.Defining.{is_defining}
use Rattle.page_machine.specs.Event.{Marked}
use Rattle.page_machine.specs.Run.{peaks_of}
use Rattle.page_machine.specs.Job.{ItemRun, events_of}
use Rattle.page_machine.specs.MachineState.{MachineState}
use Rattle.page_machine.specs.Likeness.{standing_as}
use Rattle.page_machine.specs.TextLines.{IsMeasuredAt, machine_behind, glyph_events, PrintsLines}
use Rattle.page_machine.proofs.TextItems.{prints_lines}
use Rattle.sinks.specs.declared.counts.Counts.{Counts}
use Rattle.sinks.specs.Counts.{counts_after, no_counts}
use Rattle.sinks.proofs.TextLines.{shapes_of, lines_follow, line_mode}
use Rattle.preflight.specs.Carriers.Each.{Each}
use Rattle.preflight.specs.declared.fleet_mode.FleetMode.{FleetMode}
use Rattle.preflight.specs.declared.fleet_mode.FleetMode.TheVariants.{Alone, Together, Defining, Apart}
use Rattle.preflight.specs.Carriers.FleetMode.{others_in, DefinesNone, Follows, IsFormed, StandsAlike}
use Rattle.preflight.specs.Carriers.Lockstep.{Execute, AreRunning, AreIn, Does, GoesAlike}
use Rattle.preflight.specs.Carriers.TextInStep.{GoOn, GoOnAll, PrintInStep}
use Rattle.preflight.specs.Carriers.Checking.{Along, HasExecuted}
use Rattle.preflight.proofs.Answered.{running_on, in_next}
use Rattle.preflight.proofs.Printers.{done_item, along_more}
use Rattle.preflight.proofs.Fleets.{each_along, each_push, agreed_more, counts_more}

-- ---- the marks of bytes

-- the mark of a byte, and those behind it
count_one : (glyph : Option Glyph) (rest : List Shape) (counts : Counts) →
    counts_after (map Marked rest) (counts_after (map Marked (characters_of glyph)) counts)
    ≡ counts_after (map Marked (characters_of glyph ++ rest)) counts
count_one None rest counts = refl
count_one (Some glyph) rest counts = refl

-- ---- machines that print bytes print them in step

nothing_done : (look : TextAppearance) (place : TextPlace) (old new : List MachineState) →
    Each (PrintsLines look place []) old new → new ≡ old
nothing_done look place [] [] h = refl
nothing_done look place [] (m ∷ new) h = absurd h
nothing_done look place (m ∷ old) [] h = absurd h
nothing_done look place (m ∷ old) (n ∷ new) h = λ i. h.0 i ∷ nothing_done look place old new h.1 i

each_does : (look : TextAppearance) (place : TextPlace) (code : ℕ) (codes : List ℕ) (old new : List MachineState) → AreRunning old →
    AreIn modes.Pcl old → Each (PrintsLines look place (code ∷ codes)) old new →
    Each (Does (Execute (line_item code)) (glyph_events look place code)) old (map (machine_behind look place code) old)
each_does look place code codes [] new running in_pcl h = tt
each_does look place code codes (m ∷ old) [] running in_pcl h = absurd h
each_does look place code codes (m ∷ old) (n ∷ new) running in_pcl h = (
  record {
    is =
        λ i. record m {
          page = page_behind look place code m.page;
          macros = sym h.0.1 i;
          mode = sym (line_mode m.mode code in_pcl.0) i;
          stopped = running.0 i;
        };
    peaks = λ panel. peaks_of (state_at panel (page_behind look place code m.page));
    run = h.0.0;
  },
  each_does look place code codes old new running.1 in_pcl.1 h.1,
)

each_prints : (look : TextAppearance) (place : TextPlace) (code : ℕ) (codes : List ℕ) (old new : List MachineState) →
    Each (PrintsLines look place (code ∷ codes)) old new →
    Each (PrintsLines look (behind look code place) codes) (map (machine_behind look place code) old) new
each_prints look place code codes [] [] h = tt
each_prints look place code codes [] (n ∷ new) h = absurd h
each_prints look place code codes (m ∷ old) [] h = absurd h
each_prints look place code codes (m ∷ old) (n ∷ new) h = (h.0.2, each_prints look place code codes old new h.1)

still_running : (look : TextAppearance) (place : TextPlace) (code : ℕ) (old : List MachineState) → AreRunning old →
    AreRunning (map (machine_behind look place code) old)
still_running look place code [] running = tt
still_running look place code (m ∷ old) running = (running.0, still_running look place code old running.1)

still_in_pcl : (look : TextAppearance) (place : TextPlace) (code : ℕ) (old : List MachineState) → AreIn modes.Pcl old →
    AreIn modes.Pcl (map (machine_behind look place code) old)
still_in_pcl look place code [] in_pcl = tt
still_in_pcl look place code (m ∷ old) in_pcl = (in_pcl.0, still_in_pcl look place code old in_pcl.1)

pub print_in_step : (codes : List ℕ) (look : TextAppearance) (place : TextPlace) (old new : List MachineState) (counts : Counts) →
    AreRunning old →
    AreIn modes.Pcl old → Each (PrintsLines look place codes) old new →
    PrintInStep codes old new counts (counts_after (map Marked (shapes_of look place codes)) counts)
print_in_step [] look place old new counts running in_pcl h = (nothing_done look place old new h, refl)
print_in_step (code ∷ codes) look place old new counts running in_pcl h =
    let next = behind look code place in
    let mid = map (machine_behind look place code) old in
    let between = counts_after (glyph_events look place code) counts in (
      mid,
      between,
      (glyph_events look place code, each_does look place code codes old new running in_pcl h, refl),
      subst (λ c. PrintInStep codes mid new between c) (count_one (glyph_at look place code) (shapes_of look next codes) counts)
          (print_in_step codes look next mid new between (still_running look place code old running)
          (still_in_pcl look place code old in_pcl) (each_prints look place code codes old new h)),
    )

-- ---- machines that stand together

-- a definition is open or not
open_or_none : (m : MachineState) → is_defining m.macros ≡ true → DefinesNone m → ⊥
open_or_none m opened none = let both : true ≡ false = sym opened ∙ ap is_some none in absurd cc

-- lines of text ask nothing of the device
line_asks : (p q : Printer) (code : ℕ) → asks_alike p q (line_item code) ≡ true
line_asks p q code = by (code == 13) (code == 10)
  where
    by : (returns feeds : Bool) → asks_alike p q (cond returns CarriageReturn (cond feeds LineFeed (Text code))) ≡ true
    by true feeds = refl
    by false true = refl
    by false false = refl

-- where a machine is that printed lines
printed_is : (codes : List ℕ) (look : TextAppearance) (place : TextPlace) (old new : MachineState) → PrintsLines look place codes old new →
    new ≡ record old { page = page_behind_all look place codes old.page }
printed_is [] look place old new h = h
printed_is (code ∷ codes) look place old new h = printed_is codes look (behind look code place) (machine_behind look place code old) new h.2

module _ (law : (item : Entry) → GoesOnLike item) (look : TextAppearance) where
  goes_on_like : (p q : Printer) → IsLike p q → (codes : List ℕ) (place : TextPlace) (page : Page) → AllGo p look place page codes →
      AllGo q look place page codes
  goes_on_like p q like [] place page h = tt
  goes_on_like p q like (code ∷ codes) place page h = (
    record {
      byte = h.0.byte;
      no_raster = h.0.no_raster;
      goes = λ panel defaults.
          ap (effect_of (settings_at panel page.env))
          ((law (line_item code) p q defaults like (line_asks p q code)).same (state_at panel page))
          ∙ h.0.goes panel defaults;
    },
    goes_on_like p q like codes (behind look code place) (page_behind look place code page) h.1,
  )

  module _ (place : TextPlace) (codes : List ℕ) (first first' : MachineState) (go : AllGo first.printer look place first.page codes)
      (prints : PrintsLines look place codes first first') where
    follower_prints : (m : MachineState) → Follows first m → PrintsLines look place codes (standing_as first m) (standing_as first' m)
    follower_prints m follows =
        subst (λ f. PrintsLines look place codes (standing_as first m) (standing_as f m))
        (sym (printed_is codes look place first first' prints))
        (prints_lines codes look place (standing_as first m) follows.1
        (goes_on_like first.printer m.printer follows.0 codes place first.page go))

    followers_print : (others : List MachineState) → AllByRecursion (Follows first) others →
        Each (PrintsLines look place codes) (map (standing_as first) others) (map (standing_as first') others)
    followers_print [] follow = tt
    followers_print (m ∷ others) follow = (follower_prints m follow.0, followers_print others follow.1)

    still_follow : (others : List MachineState) → AllByRecursion (Follows first) others → AllByRecursion (Follows first') others
    still_follow others follow =
        subst (λ f. AllByRecursion (Follows f) others) (sym (printed_is codes look place first first' prints)) follow

    -- what the first prints the others print, and all stand so again
    pub all_print : (fleet_mode : FleetMode) (others others' : List MachineState) → IsFormed fleet_mode first others →
        DefinesNone first → (fleet_mode ≡ Apart → Each (PrintsLines look place codes) others others') →
        ((fleet_mode ≡ Apart → ⊥) → others' ≡ others) →
        Each (PrintsLines look place codes) (first ∷ others_in fleet_mode first others) (first' ∷ others_in fleet_mode first' others')
    all_print Alone others others' formed none apart same = (prints, tt)
    all_print Together others others' formed none apart same = (
      prints,
      subst
          (λ (ms : List MachineState).
          Each (PrintsLines look place codes) (map (standing_as first) others) (map (standing_as first') ms))
          (sym (same (λ e. cc))) (followers_print others formed.1),
    )
    all_print Defining others others' formed none apart same = absurd (open_or_none first formed.0 none)
    all_print Apart others others' formed none apart same = (prints, apart refl)

    pub stay_formed : (fleet_mode : FleetMode) (others others' : List MachineState) → IsFormed fleet_mode first others →
        DefinesNone first → ((fleet_mode ≡ Apart → ⊥) → others' ≡ others) → IsFormed fleet_mode first' others'
    stay_formed Alone others others' formed none same = same (λ e. cc) ∙ formed
    stay_formed Together others others' formed none same =
        subst (λ ms. IsFormed Together first' ms) (sym (same (λ e. cc)))
        (subst DefinesNone (sym (printed_is codes look place first first' prints)) formed.0, still_follow others formed.1, formed.2)
    stay_formed Defining others others' formed none same = absurd (open_or_none first formed.0 none)
    stay_formed Apart others others' formed none same = tt

-- machines on which the first one's lines go are in mode PCL as it is
pub all_in_pcl : (look : TextAppearance) (from : TextPlace) (codes : List ℕ) (fleet_mode : FleetMode) (first : MachineState)
    (others : List MachineState) → IsFormed fleet_mode first others → first.mode ≡ modes.Pcl →
    (fleet_mode ≡ Apart → GoOnAll look from codes others) →
    AreIn modes.Pcl (first ∷ others_in fleet_mode first others)
all_in_pcl look from codes fleet_mode first others formed in_pcl apart = (in_pcl, others_in_pcl fleet_mode formed apart)
  where
    follow_in_pcl : (ms : List MachineState) → AreIn modes.Pcl (map (standing_as first) ms)
    follow_in_pcl [] = tt
    follow_in_pcl (m ∷ ms) = (in_pcl, follow_in_pcl ms)

    go_in_pcl : (ms : List MachineState) → GoOnAll look from codes ms → AreIn modes.Pcl ms
    go_in_pcl [] h = tt
    go_in_pcl (m ∷ ms) h = (h.0.mode, go_in_pcl ms h.1)

    alike_in_pcl : (ms : List MachineState) → AllByRecursion (StandsAlike first) ms → AreIn modes.Pcl ms
    alike_in_pcl [] h = tt
    alike_in_pcl (m ∷ ms) h = (h.0.mode ∙ in_pcl, alike_in_pcl ms h.1)

    others_in_pcl : (fleet_mode : FleetMode) → IsFormed fleet_mode first others → (fleet_mode ≡ Apart → GoOnAll look from codes others) →
        AreIn modes.Pcl (others_in fleet_mode first others)
    others_in_pcl Alone formed apart = tt
    others_in_pcl Together formed apart = follow_in_pcl others
    others_in_pcl Defining formed apart = alike_in_pcl others formed.1
    others_in_pcl Apart formed apart = go_in_pcl others (apart refl)

-- ---- bytes that go on all machines

front_goes : (printer : Printer) (k : ℕ) (codes : List ℕ) (look : TextAppearance) (place : TextPlace) (page : Page) →
    AllGo printer look place page codes → AllGo printer look place page (take k codes)
front_goes printer zero codes look place page h = tt
front_goes printer (suc k) [] look place page h = tt
front_goes printer (suc k) (code ∷ codes) look place page h =
    (h.0, front_goes printer k codes look (behind look code place) (page_behind look place code page) h.1)

pub fewer_go : (look : TextAppearance) (from : TextPlace) (k : ℕ) (codes : List ℕ) (machines : List MachineState) →
    GoOnAll look from codes machines →
    GoOnAll look from (take k codes) machines
fewer_go look from k codes [] h = tt
fewer_go look from k codes (m ∷ machines) h = (
  record {
    stands = h.0.stands;
    go = front_goes m.printer k codes look from m.page h.0.go;
    no_definition = h.0.no_definition;
    mode = h.0.mode;
  },
  fewer_go look from k codes machines h.1,
)

one_more : (look : TextAppearance) (from : TextPlace) (codes : List ℕ) (machines : List MachineState) (m : MachineState) →
    GoOnAll look from codes machines → GoOn look from codes m → GoOnAll look from codes (machines ++ m ∷ [])
one_more look from codes [] m h go = (go, tt)
one_more look from codes (n ∷ machines) m h go = (h.0, one_more look from codes machines m h.1 go)

-- what has room from where a machine stands goes on it
pub measured_goes : (machine : MachineState) (m : TextMeasure) (look : TextAppearance) (from : TextPlace) (codes : List ℕ) →
    IsMeasuredAt machine m from → m.look ≡ look → AllHaveRoom m from codes → GoOn look from codes machine
measured_goes machine m look from codes is same room = record {
  stands = is.stands;
  go =
      subst (λ l. AllGo machine.printer l from machine.page codes) same
      (room_goes machine.printer m codes from machine.page is.measure is.stands room);
  no_definition = is.no_definition;
  mode = is.mode;
}

-- as many as go on one machine more
pub more_go : (look : TextAppearance) (from : TextPlace) (k count : ℕ) (bytes : List ℕ) (machines : List MachineState) (i : ℕ)
    (m : MachineState) →
    i < length machines → k ≤ count →
    m ≡ get_or machines i m → GoOnAll look from (take count bytes) (take i machines) → GoOn look from (take k (take count bytes)) m →
    GoOnAll look from (take k bytes) (take (i + 1) machines)
more_go look from k count bytes machines i m inside most is h go =
    let same : take k (take count bytes) ≡ take k bytes = take-take k count bytes most in
    let front : take (i + 1) machines ≡ take i machines ++ m ∷ [] =
    take_more machines i m inside ∙ ap (λ (n : MachineState). take i machines ++ n ∷ []) (sym is) in
    subst (λ (ms : List MachineState). GoOnAll look from (take k bytes) ms) (sym front)
    (subst (λ (codes : List ℕ). GoOnAll look from codes (take i machines ++ m ∷ [])) same
    (one_more look from (take k (take count bytes)) (take i machines) m (fewer_go look from k (take count bytes) (take i machines) h) go))

pub goes_at : (look : TextAppearance) (from : TextPlace) (codes : List ℕ) (machines : List MachineState) (i : ℕ) (d : MachineState) →
    i < length machines → GoOnAll look from codes machines → GoOn look from codes (get_or machines i d)
goes_at look from codes [] i d inside h = absurd (omega (arith, inside))
goes_at look from codes (m ∷ machines) zero d inside h = h.0
goes_at look from codes (m ∷ machines) (suc i) d inside h = goes_at look from codes machines i d (omega (arith, inside)) h.1

-- ---- a loop that changes each element

-- those before i were changed, and those from i on are as they were
abbrev pub ChangedUpTo : {X : Type 0} → (X → X → Type 0) → ℕ → List X → List X → Type 0
ChangedUpTo P i old new = (length new ≡ length old) × (drop i new ≡ drop i old) × Each P (take i old) (take i new)

module _ {X : Type 0} (P : X → X → Type 0) (i : ℕ) (old new : List X) (d : X) (h : ChangedUpTo P i old new) (inside : i < length new) where
  tails : get_or new i d ∷ drop (i + 1) new ≡ get_or old i d ∷ drop (i + 1) old
  tails = sym (drop_more new i d inside) ∙ h.1 ∙ drop_more old i d (omega (arith, inside, h.0))

  -- what stands at i is as it was
  pub unchanged_at : get_or new i d ≡ get_or old i d
  unchanged_at = ap (λ (l : List X). get_or l 0 d) tails

  pub changed_more : (x : X) → P (get_or old i d) x → ChangedUpTo P (i + 1) old (set new i x)
  changed_more x p =
      let front_new : take (i + 1) (set new i x) ≡ take i new ++ x ∷ [] = take_more_set new i x inside in
      let front_old : take (i + 1) old ≡ take i old ++ get_or old i d ∷ [] = take_more old i d (omega (arith, inside, h.0)) in (
        length-set new i x ∙ h.0,
        drop-set-lt (i + 1) new i x (omega arith) ∙ sym (drop-drop 1 i new) ∙ ap (drop 1) h.1 ∙ drop-drop 1 i old,
        subst (λ (l : List X). Each P (take (i + 1) old) l) (sym front_new)
            (subst (λ (l : List X). Each P l (take i new ++ x ∷ [])) (sym front_old)
            (each_push P (take i old) (take i new) (get_or old i d) x h.2 p)),
      )

pub changed_all : {X : Type 0} (P : X → X → Type 0) (i : ℕ) (old new : List X) → ChangedUpTo P i old new → length new ≤ i → Each P old new
changed_all P i old new h end =
    subst (λ (l : List _). Each P l new) (take_all i old (omega (arith, end, h.0)))
    (subst (λ (l : List _). Each P (take i old) l) (take_all i new end) h.2)

-- ---- what was executed behind them

-- items that were executed on each printer of a fleet, wherever they were read
record CarriedItems (fleet : List Printer) (items : List Placed) (machines : List MachineState) (counts : Counts) : Type 0 where
  done : List ItemRun
  agreed : AllByRecursion (λ item. item.finding ≡ None) done
  counts_are : counts ≡ counts_after (events_of done) no_counts
  along : Each (Along items done) fleet machines

module _ (fleet : List Printer) where
  item_on : (items : List Placed) (place code : ℕ) (machines mid : List MachineState) (counts between : Counts) →
      CarriedItems fleet items machines counts → GoesAlike (Execute (line_item code)) machines mid counts between →
      CarriedItems fleet (items ++ at place (line_item code) ∷ []) mid between
  item_on items place code machines mid counts between h step = record {
    done = h.done ++ done_item place step.0 ∷ [];
    agreed = agreed_more h.done place step.0 h.agreed;
    counts_are = counts_more h.done place step.0 counts between h.counts_are step.2;
    along =
        each_along (Along items h.done) (Does (Execute (line_item code)) step.0)
        (Along (items ++ at place (line_item code) ∷ []) (h.done ++ done_item place step.0 ∷ []))
        (λ printer machine machine' along does. along_more items h.done printer machine along (Execute (line_item code))
        (at place (line_item code)) (λ m. refl) step.0 machine' does)
        fleet machines mid h.along step.1;
  }

  items_on : (codes : List ℕ) (items : List Placed) (place : ℕ) (machines machines' : List MachineState) (counts counts' : Counts) →
      CarriedItems fleet items machines counts → PrintInStep codes machines machines' counts counts' →
      CarriedItems fleet (items ++ line_items place codes) machines' counts'
  items_on [] items place machines machines' counts counts' h step =
      let whole : items ≡ items ++ [] = sym (append-nil items) in
      subst (λ l. CarriedItems fleet l machines' counts') whole
      (subst (λ ms. CarriedItems fleet items ms counts') (sym step.0) (subst (λ c. CarriedItems fleet items machines c) (sym step.1) h))
  items_on (code ∷ codes) items place machines machines' counts counts' h step =
      subst (λ l. CarriedItems fleet l machines' counts')
      (append_assoc items (at place (line_item code) ∷ []) (line_items (place + 1) codes))
      (items_on codes (items ++ at place (line_item code) ∷ []) (place + 1) step.0 machines' step.1 counts'
      (item_on items place code machines step.0 counts step.1 h step.2) step.3)

  pub lines_done : (bytes codes : List ℕ) (old new : LexerState) (machines machines' : List MachineState) (counts counts' : Counts) →
      ReadsLines old codes new → PrintInStep codes machines machines' counts counts' → HasExecuted fleet bytes old machines counts →
      HasExecuted fleet bytes new machines' counts'
  lines_done bytes codes old new machines machines' counts counts' passes step executed =
      let h : CarriedItems fleet (executed.items ++ line_items old.place codes) machines' counts' =
      items_on codes executed.items old.place machines machines' counts counts'
      (record { done = executed.done; agreed = executed.agreed; counts_are = executed.counts_are; along = executed.along }) step in
      record {
        some = executed.some;
        items = executed.items ++ line_items old.place codes;
        reads = passes.reads bytes executed.items executed.reads;
        done = h.done;
        agreed = h.agreed;
        counts_are = h.counts_are;
        along = h.along;
      }

pub still_run : (codes : List ℕ) (machines machines' : List MachineState) (counts counts' : Counts) →
    PrintInStep codes machines machines' counts counts' → AreRunning machines → AreRunning machines'
still_run [] machines machines' counts counts' step running = subst AreRunning (sym step.0) running
still_run (code ∷ codes) machines machines' counts counts' step running =
    still_run codes step.0 machines' step.1 counts' step.3 (running_on (Execute (line_item code)) step.2.0 machines step.0 refl step.2.1)

-- they are in mode PCL, and leave it
lines_in_pcl : (codes : List ℕ) (machines machines' : List MachineState) (counts counts' : Counts) →
    PrintInStep codes machines machines' counts counts' → AreIn modes.Pcl machines → AreIn modes.Pcl machines'
lines_in_pcl [] machines machines' counts counts' step in_pcl = subst (AreIn modes.Pcl) (sym step.0) in_pcl
lines_in_pcl (code ∷ codes) machines machines' counts counts' step in_pcl =
    lines_in_pcl codes step.0 machines' step.1 counts' step.3
    (in_next modes.Pcl modes.Pcl (line_item code) step.2.0 machines step.0 (lines_follow code) step.2.1 in_pcl)

-- they stand ahead in mode PCL alone
ahead_in_pcl : (c : Context) (rest : List ℕ) (machines : List MachineState) → AreIn (mode_of c) machines → 0 < length (ahead_in c rest) →
    AreIn modes.Pcl machines
ahead_in_pcl Pcl rest machines in_mode some = in_mode
ahead_in_pcl (Sequence g) rest machines in_mode some = in_mode
ahead_in_pcl Frame rest machines in_mode some = absurd (omega (arith, some))
ahead_in_pcl (Letters m n) rest machines in_mode some = absurd (omega (arith, some))
ahead_in_pcl (Numbered x gap n) rest machines in_mode some = absurd (omega (arith, some))
ahead_in_pcl Pjl rest machines in_mode some = absurd (omega (arith, some))

pub lines_ahead_in_pcl : (lexer : LexerState) (machines : List MachineState) → AreIn (mode_of lexer.context) machines →
    0 < length (ahead_of lexer) → AreIn modes.Pcl machines
lines_ahead_in_pcl lexer machines in_mode some = ahead_in_pcl lexer.context lexer.rest machines in_mode some

module _ (codes : List ℕ) (old new : LexerState) (passes : ReadsLines old codes new) where
  pub line_modes : (machines machines' : List MachineState) (counts counts' : Counts) →
      PrintInStep codes machines machines' counts counts' → AreIn (mode_of old.context) machines → AreIn (mode_of new.context) machines'
  line_modes machines machines' counts counts' step in_mode =
      subst (λ c. AreIn (mode_of c) machines') (sym passes.ends_in_pcl)
      (lines_in_pcl codes machines machines' counts counts' step (subst (λ c. AreIn (mode_of c) machines) passes.begins_in_pcl in_mode))

  -- bytes of it leave less to be read
  pub lines_less : 1 ≤ length codes → left new.context new.rest < left old.context old.rest
  lines_less some = omega (arith, passes.total, passes.place, ap pending passes.begins_in_pcl, ap pending passes.ends_in_pcl)
