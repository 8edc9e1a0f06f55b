-- The page on which a job fails.
use Rattle.std.proofs.Common.{◌≡◌, inl, inr, ◌+◌, ℕ, Bool, List, [], ◌∷◌, ◌++◌, length, take, Some, refl, ap, sym, ◌∙◌, append-nil}
use Rattle.std.proofs.Common.{append_assoc, arith}
use Rattle.std.proofs.lemmas.List.{take-append-le, take_all}
use Rattle.std.specs.List.{Contains}
use Rattle.pcl_items.specs.declared.fault.LexCause.{LexCause}
use Rattle.pcl_items.specs.Items.{Placed}
use Rattle.pcl_lexer.specs.Laws.{HasOneReading}
use Rattle.pcl_lexer.specs.Lexing.Meaning.{MayBe, Decides, Settles}
use Rattle.pcl_lexer.specs.Lexing.State.{LexerState}
use Rattle.pcl_lexer.specs.Reading.{Reading, Whole, Stopped, IsReading, items_of, reading_of}
use Rattle.device_profile.specs.declared.panel.Panel.{Panel}
use Rattle.device_profile.specs.Printer.{Printer, IsAllowed}
use Rattle.page_env.specs.declared.finding.Finding.{Finding}
use Rattle.page_machine.specs.Job.{ItemRun, events_of, watched_run}
use Rattle.page_machine.specs.MachineState.{MachineState}
use Rattle.sinks.specs.declared.counts.Counts.{Counts}
use Rattle.sinks.specs.Counts.{pages_after}
use Rattle.verdict.specs.declared.reason.Reason.{Reason}
use Rattle.verdict.specs.declared.reason.Reason.TheVariants.{Fault as FaultOfBytes, Finding as FindingOfRun, Differs, Unpinnable}
use Rattle.verdict.specs.declared.verdict.Verdict.TheVariants.{Fail}
use Rattle.judgement.specs.Verdict.{runs_of}
use Rattle.preflight.specs.Where.{page_behind, DiffersOnPage, FailsOnPage, FindsOnPage, IsOnPage, StopsOnPage, open_page}
use Rattle.judgement.specs.Wrong.{Wrong, first_wrong, wrong as wrong_at}
use Rattle.preflight.specs.Carriers.Checking.{Along, HasExecuted}
use Rattle.preflight.specs.Carriers.Each.{Each}
use Rattle.preflight.specs.Carriers.Lockstep.{Action, Finds, FindsAt, IsWrong, PagesAt}
use Rattle.preflight.proofs.Counting.{page_open}
use Rattle.preflight.proofs.Fleets.{each_left, each_run}
use Rattle.preflight.proofs.Passing.{all_contained}
use Rattle.preflight.proofs.Printers.{IsEnd, IsItem, begins_with, comes_to_end, comes_to_item, ends_at_end, ends_at_item, stops_there}
use Rattle.preflight.proofs.WrongFirst.{Comes, wrong_first}

-- the printer whose machine has the finding, of printers that are counted from a number on
record Finder (items : List Placed) (done : List ItemRun) (action : Action) (finding : Finding) (pages pages' number n : ℕ)
    (fleet : List Printer) : Type 0 where
  printers_before : List Printer
  printer : Printer
  after : List Printer
  fleet_is : fleet ≡ printers_before ++ printer ∷ after
  number_is : number ≡ length printers_before + n
  machine : MachineState
  along : Along items done printer machine
  finds : Finds action finding machine
  pages_are : pages' ≡ pages_after finds.events pages

module _ (items : List Placed) (done : List ItemRun) (action : Action) (finding : Finding) (pages pages' number : ℕ) where
  finder : (n : ℕ) (fleet : List Printer) (machines : List MachineState) → Each (Along items done) fleet machines →
      FindsAt action finding pages pages' number n machines → Finder items done action finding pages pages' number n fleet
  finder n [] [] along h = absurd h
  finder n [] (m ∷ ms) along h = absurd along
  finder n (p ∷ ps) [] along h = absurd h
  finder n (p ∷ ps) (m ∷ ms) along (inl h) = record {
    printers_before = [];
    printer = p;
    after = ps;
    fleet_is = refl;
    number_is = omega (arith, h.0);
    machine = m;
    along = along.0;
    finds = h.1.0;
    pages_are = h.1.1;
  }
  finder n (p ∷ ps) (m ∷ ms) along (inr h) =
      let rest = finder (n + 1) ps ms along.1 h in
      record {
        printers_before = p ∷ rest.printers_before;
        printer = rest.printer;
        after = rest.after;
        fleet_is = ap (λ (qs : List Printer). p ∷ qs) rest.fleet_is;
        number_is = omega (arith, rest.number_is);
        machine = rest.machine;
        along = rest.along;
        finds = rest.finds;
        pages_are = rest.pages_are;
      }

-- the first of two lists
front_taken : (xs ys : List ItemRun) → take (0 + length xs) (xs ++ ys) ≡ xs
front_taken xs ys = take-append-le (0 + length xs) xs ys (omega arith) ∙ take_all (0 + length xs) xs (omega arith)

module _ (fleet : List Printer) (bytes : List ℕ) (lexer : LexerState) (machines : List MachineState) (counts : Counts)
    (executed : HasExecuted fleet bytes lexer machines counts) where
  -- what holds of each printer with its run so far holds of those of the fleet
  of_fleet : (Q : Printer → Type 0) →
      ((printer : Printer) (machine : MachineState) → Along executed.items executed.done printer machine → Q printer) →
      (printer : Printer) → Contains fleet printer → Q printer
  of_fleet Q make printer has =
      all_contained Q fleet printer (each_left (Along executed.items executed.done) Q make fleet machines executed.along) has

  -- the page that is open behind the items
  page_here : (counts' : Counts) → counts'.pages ≡ counts.pages → open_page counts' ≡ page_behind (events_of executed.done)
  page_here counts' same =
      page_open (events_of executed.done) [] counts counts'.pages executed.counts_are same
      ∙ ap page_behind (append-nil (events_of executed.done))

  module _ (reading : Reading) where
    -- each run begins with the items that were executed
    abbrev Begins : Printer → Type 0
    Begins printer =
        (panel : Panel) → IsAllowed printer panel →
        (more : List ItemRun) × ((watched_run printer panel reading).items ≡ executed.done ++ more)

    module _ (action : Action) (place : ℕ) (comes : Each (Comes action place executed.done) (runs_of fleet reading) machines)
        (begins : (printer : Printer) → Contains fleet printer → Begins printer) where
      differs_page : (number : ℕ) → IsWrong action machines number Differs → (counts' : Counts) → counts'.pages ≡ counts.pages →
          DiffersOnPage fleet reading (open_page counts')
      differs_page number wrong counts' same =
          let w : Wrong = wrong_at (0 + length executed.done) place number Differs in (
            w,
            wrong_first action place executed.done executed.agreed number Differs (runs_of fleet reading) machines comes wrong,
            λ printer has panel allowed.
                let run = begins printer has panel allowed in
                page_here counts' same
                ∙ ap (λ (done : List ItemRun). page_behind (events_of done))
                (sym (ap (take (0 + length executed.done)) run.1 ∙ front_taken executed.done run.0)),
          )

      module _ (ends : (finding : Finding) (printer : Printer) (machine : MachineState) →
          Along executed.items executed.done printer machine → (panel : Panel) → IsAllowed printer panel →
          (finds : Finds action finding machine) →
          events_of (watched_run printer panel reading).items ≡ events_of executed.done ++ finds.events) where
        finds_page : (finding : Finding) (number : ℕ) (counts' : Counts) →
            FindsAt action finding counts.pages counts'.pages number 1 machines → FindsOnPage fleet reading number (open_page counts')
        finds_page finding number counts' h =
            let its =
            finder executed.items executed.done action finding counts.pages counts'.pages number 1 fleet machines executed.along h in (
              its.printer,
              record { printers_before = its.printers_before; after = its.after; fleet_is = its.fleet_is; number_is = its.number_is },
              λ panel allowed.
                  page_open (events_of executed.done) its.finds.events counts counts'.pages executed.counts_are its.pages_are
                  ∙ ap page_behind (sym (ends finding its.printer its.machine its.along panel allowed its.finds)),
            )

        fails_page : (number : ℕ) (reason : Reason) → IsWrong action machines number reason → (counts' : Counts) →
            PagesAt action counts.pages counts'.pages 1 machines number reason → FailsOnPage fleet reading number reason (open_page counts')
        fails_page number (FindingOfRun finding) wrong counts' paged = finds_page finding number counts' paged
        fails_page number Differs wrong counts' paged = differs_page number wrong counts' paged
        fails_page number (FaultOfBytes cause) wrong counts' paged = absurd wrong
        fails_page number Unpinnable wrong counts' paged = absurd wrong

  -- ---- an item, the end of the bytes, and a fault of them

  pub item_page : (one : (job : List ℕ) → HasOneReading job) (ended : Bool) (action : Action) (x : Placed) → IsItem action x.item →
      Decides ended bytes (executed.items ++ x ∷ []) → (number : ℕ) (reason : Reason) → IsWrong action machines number reason →
      (counts' : Counts) → PagesAt action counts.pages counts'.pages 1 machines number reason → (job : List ℕ) → MayBe ended bytes job →
      IsOnPage fleet job (Fail x.place number reason) (Some (open_page counts'))
  item_page one ended action x is decides number reason wrong counts' paged job may_be =
      let reading : Reading = reading_of job in
      let is_reading : IsReading job reading = (one job).read in
      let split = decides job reading may_be is_reading in
      let items : items_of reading ≡ executed.items ++ (x ∷ split.0) = split.1 ∙ append_assoc executed.items (x ∷ []) split.0 in
      let comes : Each (Comes action x.place executed.done) (runs_of fleet reading) machines =
      each_run reading (Along executed.items executed.done) (Comes action x.place executed.done)
      (λ printer machine along. comes_to_item executed.items executed.done printer machine along action x is reading split.0 items)
      fleet machines executed.along in
      let begins : (printer : Printer) → Contains fleet printer → Begins reading printer =
      of_fleet (Begins reading) (λ printer machine along panel allowed.
      begins_with executed.items executed.done printer machine along panel allowed reading (x ∷ split.0) items) in (
        reading,
        is_reading,
        fails_page reading action x.place comes begins (λ finding printer machine along panel allowed finds.
            ends_at_item executed.items executed.done printer machine along panel allowed action finding finds x is reading split.0 items)
            number reason wrong counts' paged,
      )

  pub end_page : (action : Action) → IsEnd action → IsReading bytes (Whole executed.items (length bytes)) → (number : ℕ) (reason : Reason) →
      IsWrong action machines number reason → (counts' : Counts) → PagesAt action counts.pages counts'.pages 1 machines number reason →
      IsOnPage fleet bytes (Fail (length bytes) number reason) (Some (open_page counts'))
  end_page action is spelled number reason wrong counts' paged =
      let reading : Reading = Whole executed.items (length bytes) in
      let comes : Each (Comes action (length bytes) executed.done) (runs_of fleet reading) machines =
      each_run reading (Along executed.items executed.done) (Comes action (length bytes) executed.done)
      (λ printer machine along. comes_to_end executed.items executed.done printer machine along action (length bytes) is)
      fleet machines executed.along in
      let begins : (printer : Printer) → Contains fleet printer → Begins reading printer =
      of_fleet (Begins reading) (λ printer machine along panel allowed.
      begins_with executed.items executed.done printer machine along panel allowed reading [] (sym (append-nil executed.items))) in (
        reading,
        spelled,
        fails_page reading action (length bytes) comes begins (λ finding printer machine along panel allowed finds.
            ends_at_end executed.items executed.done printer machine along panel allowed action finding finds (length bytes) is)
            number reason wrong counts' paged,
      )

  pub fault_page : (ended : Bool) (place : ℕ) (cause : LexCause) → Settles ended bytes (Stopped executed.items place cause) →
      (job : List ℕ) → MayBe ended bytes job → IsOnPage fleet job (Fail place 0 (FaultOfBytes cause)) (Some (open_page counts))
  fault_page ended place cause settles job may_be =
      let reading : Reading = Stopped executed.items place cause in
      let stops : StopsOnPage fleet reading (open_page counts) =
      of_fleet (λ printer. (panel : Panel) → IsAllowed printer panel →
      open_page counts ≡ page_behind (events_of (watched_run printer panel reading).items))
      (λ printer machine along panel allowed.
      page_here counts refl
      ∙ ap (λ (done : List ItemRun). page_behind (events_of done))
      (sym (stops_there executed.items executed.done printer machine along panel allowed place cause))) in
      (reading, settles job may_be, stops)
