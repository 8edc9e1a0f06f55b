-- Where a printer stood, and which font it was asked for, as it came to the item that a job fails at.
use Rattle.std.proofs.Common.{◌≡◌, inl, inr, ◌+◌, ◌<◌, ◌≤◌, ℕ, zero, suc, true, List, [], ◌∷◌, ◌++◌, length, get_or, Option, None, Some}
use Rattle.std.proofs.Common.{IfSome, refl, ap, sym, ◌∙◌, subst, append-nil, arith}
use Rattle.pcl_items.specs.Items.{Entry, Placed}
use Rattle.pcl_lexer.specs.Lexing.State.{LexerState}
use Rattle.pcl_lexer.specs.Reading.{Reading, IsReading, items_of}
use Rattle.device_profile.specs.declared.panel.Panel.{Panel}
use Rattle.device_profile.specs.Nearest.{nearest_request}
use Rattle.device_profile.specs.Printer.{Printer, IsAllowed}
use Rattle.macro_store.specs.Store.{no_macros}
use Rattle.page_env.specs.declared.cursor.Cursor.{Cursor}
use Rattle.page_env.specs.FontInForce.{request_of}
use Rattle.page_env.specs.Places.{x_on_sheet, y_on_sheet}
use Rattle.page_env.specs.Settings.{Settings, State, settings_at, start_state, state_at}
use Rattle.page_machine.specs.Job.{ItemRun, JobRun, items_run, no_end}
use Rattle.page_machine.specs.MachineState.{MachineState}
use Rattle.page_machine.specs.Run.{Done}
use Rattle.page_machine.specs.Still.{StopsStill, is_one_step}
use Rattle.sinks.specs.declared.counts.Counts.{Counts}
use Rattle.streams.specs.declared.error.Error.{Error}
use Rattle.verdict.specs.declared.reason.Reason.{Reason}
use Rattle.verdict.specs.declared.reason.Reason.TheVariants.{Fault, Finding, Differs, Unpinnable}
use Rattle.verdict.specs.declared.verdict.Verdict.{Verdict}
use Rattle.verdict.specs.declared.verdict.Verdict.TheVariants.{Pass, Fail}
use Rattle.judgement.specs.declared.failing_item.FailingItem.{FailingItem}
use Rattle.judgement.specs.declared.failing_item.MissingFont.{MissingFont}
use Rattle.judgement.specs.declared.failing_item.SheetSpot.{SheetSpot}
use Rattle.preflight.specs.declared.check_state.CheckState.{CheckState}
use Rattle.preflight.specs.declared.check_state.CheckState.TheVariants.{Open, Judged, Stopped}
use Rattle.preflight.specs.Carriers.Checking.{Along, HasExecuted}
use Rattle.preflight.specs.Carriers.Each.{Each}
use Rattle.preflight.specs.Carriers.Lockstep.{Action, StopsAt, StopsThere, carrying_of}
use Rattle.judgement.specs.FailingItem.{IsFailingItem, Names}
use Rattle.preflight.specs.Stood.{HoldsStill, IsAskedOf, IsAt, IsCursorOf, IsFinder, IsOfSession, IsOfStopped, IsFontOf}
use Rattle.preflight.specs.Stood.{IsSpotOf, IsThere, LacksFont, MachineStood}
use Rattle.preflight.specs.Stood.{StoodBefore, StoppedAt, run_of_items}
use Rattle.preflight.proofs.Printers.{IsItem}

-- ---- the machine of a number

not_below : (number n : ℕ) (machine : MachineState) (machines : List MachineState) → IsThere number n machine machines → n ≤ number
not_below number n machine [] h = absurd h
not_below number n machine (m ∷ ms) (inl h) = omega (arith, h.0)
not_below number n machine (m ∷ ms) (inr h) = omega (arith, not_below number (n + 1) machine ms h)

-- it is one alone
only_there : (number n : ℕ) (a b : MachineState) (machines : List MachineState) → IsThere number n a machines →
    IsThere number n b machines → a ≡ b
only_there number n a b [] h k = absurd h
only_there number n a b (m ∷ ms) (inl h) (inl k) = h.1 ∙ sym k.1
only_there number n a b (m ∷ ms) (inl h) (inr k) =
    let least : n + 1 ≤ number = not_below number (n + 1) b ms k in absurd (omega (arith, h.0, least))
only_there number n a b (m ∷ ms) (inr h) (inl k) =
    let least : n + 1 ≤ number = not_below number (n + 1) a ms h in absurd (omega (arith, k.0, least))
only_there number n a b (m ∷ ms) (inr h) (inr k) = only_there number (n + 1) a b ms h k

-- an element of a list is there
pub there_at : (number n i : ℕ) (machine : MachineState) (machines : List MachineState) → i < length machines →
    machine ≡ get_or machines i machine → number ≡ i + n → IsThere number n machine machines
there_at number n i machine [] inside is same = absurd (omega (arith, inside))
there_at number n zero machine (m ∷ ms) inside is same = inl (omega (arith, same), is)
there_at number n (suc i) machine (m ∷ ms) inside is same =
    inr (there_at number (n + 1) i machine ms (omega (arith, inside)) is (omega (arith, same)))

-- ---- the printer of a finding

-- of printers that are counted from a number on, the one of this number, and its machine before the item and where it
-- was stopped
record Stopper (items : List Placed) (done : List ItemRun) (action : Action) (number n : ℕ) (fleet : List Printer)
    (machines' : List MachineState) : Type 0 where
  printers_before : List Printer
  printer : Printer
  after : List Printer
  fleet_is : fleet ≡ printers_before ++ printer ∷ after
  number_is : number ≡ length printers_before + n
  machine : MachineState
  along : Along items done printer machine
  machine' : MachineState
  stops : StopsStill (carrying_of machine action).one_step machine machine'
  there : IsThere number n machine' machines'

module _ (items : List Placed) (done : List ItemRun) (action : Action) (number : ℕ) where
  stopper : (n : ℕ) (fleet : List Printer) (machines machines' : List MachineState) → Each (Along items done) fleet machines →
      StopsThere action number n machines machines' → Stopper items done action number n fleet machines'
  stopper n [] [] [] along h = absurd h
  stopper n [] [] (k ∷ ks) along h = absurd h
  stopper n [] (m ∷ ms) machines' along h = absurd along
  stopper n (p ∷ ps) [] machines' along h = absurd along
  stopper n (p ∷ ps) (m ∷ ms) [] along h = absurd h
  stopper n (p ∷ ps) (m ∷ ms) (k ∷ ks) along (inl h) = record {
    printers_before = [];
    printer = p;
    after = ps;
    fleet_is = refl;
    number_is = omega (arith, h.0);
    machine = m;
    along = along.0;
    machine' = k;
    stops = h.1;
    there = inl (h.0, refl);
  }
  stopper n (p ∷ ps) (m ∷ ms) (k ∷ ks) along (inr h) =
      let rest = stopper (n + 1) ps ms ks along.1 h in
      record {
        printers_before = p ∷ rest.printers_before;
        printer = rest.printer;
        after = rest.after;
        fleet_is = ap (λ (qs : List Printer). p ∷ qs) rest.fleet_is;
        number_is = omega (arith, rest.number_is);
        machine = rest.machine;
        along = rest.along;
        machine' = rest.machine';
        stops = rest.stops;
        there = inr rest.there;
      }

-- the items that were executed lead to where a machine stands
led_there : (items : List Placed) (done : List ItemRun) (printer : Printer) (machine : MachineState) → Along items done printer machine →
    (panel : Panel) → IsAllowed printer panel → (run_of_items printer panel items).ending ≡ Done (state_at panel machine.page)
led_there items done printer machine along panel allowed =
    let defaults : Settings = settings_at panel machine.defaults in
    ap
    (λ (d : Settings).
    (items_run printer d no_end items (no_macros printer.memory) (start_state printer.most_items d)).ending)
    (sym (along.defaults panel allowed))
    ∙ (ap
    (λ (xs : List Placed).
    (items_run printer defaults no_end xs (no_macros printer.memory) (start_state printer.most_items defaults)).ending)
    (sym (append-nil items))
    ∙ ap (λ (r : JobRun). r.ending) (along.run panel no_end []))

module _ (fleet : List Printer) (bytes : List ℕ) (lexer : LexerState) (machines : List MachineState) (counts : Counts)
    (executed : HasExecuted fleet bytes lexer machines counts) (job : List ℕ) (reading : Reading) (is_reading : IsReading job reading)
    (action : Action) (x : Placed) (is : IsItem action x.item) (rest : List Placed)
    (items : items_of reading ≡ (executed.items ++ x ∷ []) ++ rest) (machines' : List MachineState) where
  stood : (number : ℕ) (failing_item : FailingItem) → Names (Some failing_item) x.item → StopsThere action number 1 machines machines' →
      (machine : MachineState) → IsThere number 1 machine machines' →
      StoodBefore fleet job x.place number (HoldsStill failing_item machine)
  stood number failing_item names stopped machine there =
      let its = stopper executed.items executed.done action number 1 fleet machines machines' executed.along stopped in
      let same : machine ≡ its.machine' = only_there number 1 machine its.machine' machines' there its.there in
      record {
        reading = reading;
        is_reading = is_reading;
        items_before = executed.items;
        item = x.item;
        after = rest;
        items_are = items;
        printer = its.printer;
        is_numbered = record {
          printers_before = its.printers_before;
          after = its.after;
          fleet_is = its.fleet_is;
          number_is = its.number_is;
        };
        led = λ panel allowed. (
          state_at panel its.machine.page,
          led_there executed.items executed.done its.printer its.machine its.along panel allowed,
          record {
            names = names;
            printer_is = ap (λ (m : MachineState). m.printer) same ∙ its.stops.printer ∙ its.along.printer_is;
            stays = λ one.
                let put = its.stops.stays (ap (λ c. c.one_step) (is its.machine) ∙ one) panel in (
                  ap (λ (m : MachineState). settings_at panel m.page.env) same ∙ put.0,
                  ap (λ (m : MachineState). m.page.cursor) same ∙ put.1,
                );
          },
        );
      }

  -- an item that is wrong for a printer
  pub item_stood : (number : ℕ) (reason : Reason) (failing_item : Option FailingItem) → Names failing_item x.item →
      StopsAt action 1 machines machines' number reason → MachineStood fleet job (Fail x.place number reason) failing_item machines'
  item_stood number (Finding finding) (Some failing_item) names stopped = stood number failing_item names stopped
  item_stood number (Finding finding) None names stopped = tt
  item_stood number Differs failing_item names stopped = tt
  item_stood number (Fault cause) failing_item names stopped = tt
  item_stood number Unpinnable failing_item names stopped = tt

-- what is wrong at the end of the bytes is at no item
pub none_stood : (fleet : List Printer) (job : List ℕ) (place number : ℕ) (reason : Reason) (machines : List MachineState) →
    MachineStood fleet job (Fail place number reason) None machines
none_stood fleet job place number (Finding finding) machines = tt
none_stood fleet job place number Differs machines = tt
none_stood fleet job place number (Fault cause) machines = tt
none_stood fleet job place number Unpinnable machines = tt

-- ---- what is told

-- what holds as a printer comes to an item says less
stood_on : (fleet : List Printer) (job : List ℕ) (place number : ℕ) (P Q : Entry → Printer → Panel → State → Type 0) →
    ((item : Entry) (printer : Printer) (panel : Panel) (s : State) → P item printer panel s → Q item printer panel s) →
    StoodBefore fleet job place number P → StoodBefore fleet job place number Q
stood_on fleet job place number P Q on h = record {
  reading = h.reading;
  is_reading = h.is_reading;
  items_before = h.items_before;
  item = h.item;
  after = h.after;
  items_are = h.items_are;
  printer = h.printer;
  is_numbered = h.is_numbered;
  led = λ panel allowed. let s = h.led panel allowed in (s.0, s.1, on h.item h.printer panel s.0 s.2);
}

-- a number that the printer, the settings and the cursor tell
module _ (machine : MachineState) (printer : Printer) (panel : Panel) (s : State) (is : machine.printer ≡ printer)
    (settings : settings_at panel machine.page.env ≡ s.settings) (cursor : machine.page.cursor ≡ s.cursor) where
  abbrev here : State
  here = state_at panel machine.page

  told_there : {T : Type 0} (f : Printer → Settings → Cursor → T) →
      f machine.printer here.settings here.cursor ≡ f printer s.settings s.cursor
  told_there f =
      ap (λ (p : Printer). f p here.settings here.cursor) is
      ∙ ap (λ (k : Settings). f printer k here.cursor) settings
      ∙ ap (λ (k : Cursor). f printer s.settings k) cursor

  spot_there : (spot : SheetSpot) → IsAt spot machine.printer here → IsAt spot printer s
  spot_there spot h = (
    h.0 ∙ told_there (λ p k c. x_on_sheet p (record here { settings = k; cursor = c })),
    h.1 ∙ told_there (λ p k c. y_on_sheet p (record here { settings = k; cursor = c })),
  )

  font_there : (font : MissingFont) → IsAskedOf font machine.printer here → IsAskedOf font printer s
  font_there font h = (
    h.0 ∙ told_there (λ p k c. request_of p (record here { settings = k; cursor = c })),
    h.1 ∙ ap (λ (p : Printer). nearest_request p.faces font.asked) is,
  )

-- where the cursor stood
pub cursor_right : (fleet : List Printer) (job : List ℕ) (verdict : Verdict) (failing_item : Option FailingItem)
    (machines : List MachineState)
    (told : Option SheetSpot) → IsOfStopped IsSpotOf verdict failing_item machines told →
    MachineStood fleet job verdict failing_item machines →
    IsCursorOf fleet job verdict told
cursor_right fleet job verdict failing_item machines None h stands = tt
cursor_right fleet job (Pass pages marks) failing_item machines (Some spot) h stands = absurd h.1
cursor_right fleet job (Fail place number Differs) failing_item machines (Some spot) h stands = absurd h.1
cursor_right fleet job (Fail place number (Fault cause)) failing_item machines (Some spot) h stands = absurd h.1
cursor_right fleet job (Fail place number Unpinnable) failing_item machines (Some spot) h stands = absurd h.1
cursor_right fleet job (Fail place number (Finding finding)) None machines (Some spot) h stands = absurd h.1
cursor_right fleet job (Fail place number (Finding finding)) (Some failing_item) machines (Some spot) h stands =
    stood_on fleet job place number (HoldsStill failing_item h.0) (λ item printer panel s. IsAt spot printer s)
    (λ item printer panel s still.
    let put = still.stays (h.1.1 item still.names) in
    spot_there h.0 printer panel s still.printer_is put.0 put.1 spot (h.2 panel))
    (stands h.0 h.1.0)

-- which font was asked for
pub font_right : (fleet : List Printer) (job : List ℕ) (verdict : Verdict) (failing_item : Option FailingItem)
    (machines : List MachineState)
    (told : Option MissingFont) → IsOfStopped LacksFont verdict failing_item machines told →
    MachineStood fleet job verdict failing_item machines →
    IsFontOf fleet job verdict told
font_right fleet job verdict failing_item machines None h stands = tt
font_right fleet job (Pass pages marks) failing_item machines (Some font) h stands = absurd h.1
font_right fleet job (Fail place number Differs) failing_item machines (Some font) h stands = absurd h.1
font_right fleet job (Fail place number (Fault cause)) failing_item machines (Some font) h stands = absurd h.1
font_right fleet job (Fail place number Unpinnable) failing_item machines (Some font) h stands = absurd h.1
font_right fleet job (Fail place number (Finding finding)) None machines (Some font) h stands = absurd h.1
font_right fleet job (Fail place number (Finding finding)) (Some failing_item) machines (Some font) h stands =
    stood_on fleet job place number (HoldsStill failing_item h.0) (λ item printer panel s. IsAskedOf font printer s)
    (λ item printer panel s still.
    let put = still.stays (h.1.1 item still.names) in
    font_there h.0 printer panel s still.printer_is put.0 put.1 font (h.2 panel))
    (stands h.0 h.1.0)

-- ---- a part of what is told

-- the machine of the number that has the finding
pub stopped_is : (verdict : Verdict) (failing_item : Option FailingItem) (machines : List MachineState) (number : ℕ) (item : FailingItem)
    (machine : MachineState) → IsFinder number verdict → failing_item ≡ Some item →
    ((entry : Entry) → IsFailingItem item entry → is_one_step entry ≡ true) → IsThere number 1 machine machines →
    StoppedAt verdict failing_item machines machine
stopped_is (Pass pages marks) failing_item machines number item machine finder is one there = absurd finder
stopped_is (Fail place profile (Finding finding)) None machines number item machine finder is one there = absurd cc
stopped_is (Fail place profile (Finding finding)) (Some failing_item) machines number item machine finder is one there =
    let same : item ≡ failing_item = cc in (
      subst (λ n. IsThere n 1 machine machines) finder there,
      subst (λ c. (entry : Entry) → IsFailingItem c entry → is_one_step entry ≡ true) same one,
    )
stopped_is (Fail place profile (Fault cause)) failing_item machines number item machine finder is one there = absurd finder
stopped_is (Fail place profile Differs) failing_item machines number item machine finder is one there = absurd finder
stopped_is (Fail place profile Unpinnable) failing_item machines number item machine finder is one there = absurd finder

-- what is told of the machine that was stopped
pub told_of : {T : Type 0} (Is : MachineState → T → Type 0) (verdict : Verdict) (failing_item : Option FailingItem)
    (machines : List MachineState)
    (machine : MachineState) → StoppedAt verdict failing_item machines machine → (told : Option T) → IfSome told (λ x. Is machine x) →
    IsOfStopped Is verdict failing_item machines told
told_of Is verdict failing_item machines machine stopped None h = tt
told_of Is verdict failing_item machines machine stopped (Some x) h = (machine, stopped, h)

-- what a session tells where it stands so
module _ {T : Type 0} (Is : MachineState → T → Type 0) (failing_item : Option FailingItem) (machines : List MachineState)
    (told : Option T) where
  pub told_open : (state : CheckState) → state ≡ Open → told ≡ None → IsOfSession Is state failing_item machines told
  told_open state is none = subst (λ s. IsOfSession Is s failing_item machines told) (sym is) none

  pub told_judged : (state : CheckState) (verdict : Verdict) → state ≡ Judged verdict →
      IsOfStopped Is verdict failing_item machines told → IsOfSession Is state failing_item machines told
  told_judged state verdict is h = subst (λ s. IsOfSession Is s failing_item machines told) (sym is) h

  pub told_stopped : (state : CheckState) (error : Error) → state ≡ Stopped error → told ≡ None →
      IsOfSession Is state failing_item machines told
  told_stopped state error is none = subst (λ s. IsOfSession Is s failing_item machines told) (sym is) none

  pub judged_told : (state : CheckState) (verdict : Verdict) → state ≡ Judged verdict →
      IsOfSession Is state failing_item machines told → IsOfStopped Is verdict failing_item machines told
  judged_told state verdict is h = subst (λ s. IsOfSession Is s failing_item machines told) is h
