-- What a call of the renderer puts, and leaves due.
use Rattle.std.proofs.Common.{◌≡◌, ℕ, Bool, true, false, Ok, Err, List, [], ◌++◌, Option, None, Some, Result, ap, sym, ◌∙◌, subst}
use Rattle.std.proofs.Common.{append_assoc}
use Rattle.std.specs.Result.{IsErr}
use Rattle.pcl_items.specs.declared.fault.LexCause.{LexCause}
use Rattle.pcl_items.specs.Items.{Entry, Placed, at}
use Rattle.pcl_lexer.specs.Reading.{Reading, Whole, Stopped}
use Rattle.page_env.specs.declared.finding.Finding.{Finding}
use Rattle.page_env.specs.Settings.{State, state_at}
use Rattle.page_machine.specs.Run.{Run, Ending, Done, Halts}
use Rattle.page_machine.specs.MachineState.{MachineState}
use Rattle.page_machine.specs.Machine.{item_of, end_of}
use Rattle.page_pdf.specs.Document.{Pdf}
use Rattle.streams.specs.declared.error.Error.{Error}
use Rattle.renderings.specs.declared.outcome.Outcome.{Outcome}
use Rattle.renderings.specs.declared.outcome.Outcome.TheVariants.{Done as AllDone, Fail}
use Rattle.renderings.specs.Expected.{Rendering}
use Rattle.renderings.specs.Carriers.PageRendering.{any_panel}
use Rattle.renderings.specs.Carriers.Rendering.{RestGoesOn, StartsWith, Ended, RendersItem}
use Rattle.streams.specs.Writing.{Puts}
use Rattle.renderings.proofs.Renderings.{Puts-kept, Puts-trans, Puts-cut-front, tells_err, ended_err}
use Rattle.streams.specs.Outlet.{OutletState, AddsFront}
use Rattle.requests.specs.Selection.{is_behind}
use Rattle.verdict.specs.declared.failure.Failure.{Failure}
use Rattle.verdict.specs.declared.reason.Reason.TheVariants.{Fault as FaultOfBytes, Finding as FindingOfRun}
use Rattle.verdict.specs.Failing.{fault_at, found_at}
use Rattle.job_pdf.specs.declared.sheet.Sheet.{Sheet}
use Rattle.job_pdf.specs.Carriers.Drawing.{Draws, DrawsFront, Steps, Finishes}
use Rattle.job_pdf.specs.Carriers.Rest.{drawn_from}
use Rattle.job_pdf.specs.JobPdf.{failed_end, failure_end, whole_end}
use Rattle.job_pdf.specs.Plan.{Plan}
use Rattle.job_pdf.specs.Sheet.{Spot, drawn_events, drawn_failure, pdf_behind_all, sheet_of, spot_of, start_if_due, started}
use Rattle.job_pdf.specs.Telling.{told_failure}
use Rattle.job_pdf.proofs.Drawings.{item_goes, item_over, item_found, item_begun, end_over, end_goes, end_found, end_begun}

-- ---- what was put

-- behind a text that was kept more was put
pub puts_behind : (old new : OutletState) (kept mid kept' start more : List ℕ) → mid ≡ kept ++ start → Puts old new mid kept' more →
    Puts old new kept kept' (start ++ more)
puts_behind old new kept mid kept' start more begun puts =
    Puts-trans old old new kept mid kept' start more (Puts-kept old kept mid start begun) puts

-- and behind it a text was kept
pub puts_before : (old new : OutletState) (kept mid kept' text more : List ℕ) → Puts old new kept mid text → kept' ≡ mid ++ more →
    Puts old new kept kept' (text ++ more)
puts_before old new kept mid kept' text more puts told =
    Puts-trans old new new kept mid kept' text more puts (Puts-kept new mid kept' more told)

-- of a text behind one that was kept a front was written
front_behind : (old new : OutletState) (kept mid start more : List ℕ) → mid ≡ kept ++ start → AddsFront old new (mid ++ more) →
    AddsFront old new (kept ++ (start ++ more))
front_behind old new kept mid start more begun front =
    subst (AddsFront old new) (ap (λ t. t ++ more) begun ∙ append_assoc kept start more) front

module _ (plan : Plan) (machine : MachineState) (before : Pdf) (is_started : Bool) (old new : OutletState)
    (kept mid kept' : List ℕ) (begun : mid ≡ kept ++ start_if_due is_started) where
  abbrev pdf : Pdf
  pdf = started is_started before

  abbrev here : State
  here = state_at any_panel machine.page

  abbrev here_sheet : Sheet
  here_sheet = sheet_of plan machine.printer here

  abbrev start : List ℕ
  start = start_if_due is_started

  abbrev rendering : Rendering
  rendering = drawn_from plan machine before is_started

  -- what a failure adds
  abbrev failing : Failure → Pdf → List ℕ
  failing failure pdf' = failure_end plan machine.printer here pdf' failure

  -- ---- an item

  module _ (x : Placed) where
    abbrev item_run : Run
    item_run = (item_of machine x.item).run any_panel

    -- work stopped at it
    pub tells_front : (after : Rendering) → DrawsFront here_sheet item_run old new mid pdf →
        (r : Result (Option Outcome) Error) → IsErr r →
        RendersItem rendering after x old new kept kept' r
    tells_front after draws r is =
        let drawn : List ℕ = drawn_events here_sheet pdf draws.events in
        tells_err rendering after x old new kept kept' r is (start ++ drawn) (front_behind old new kept mid start drawn begun draws.front)
        (item_begun plan machine before is_started x draws.events draws.others draws.is)

    module _ (mid' : List ℕ) (pdf' : Pdf) where
      -- or behind its events
      pub tells_cut : (ending : Ending) (after : Rendering) → Draws here_sheet item_run ending old new mid mid' pdf pdf' →
          (r : Result (Option Outcome) Error) → IsErr r → RendersItem rendering after x old new kept kept' r
      tells_cut ending after draws r is =
          let drawn : List ℕ = drawn_events here_sheet pdf draws.events in
          tells_front after
          (record {
            events = draws.events;
            others = [];
            is = ap (λ (r : Run). r.events) draws.is;
            front = Puts-cut-front old new mid mid' drawn draws.puts;
          })
          r is

      -- it went
      pub tells_goes : (machine' : MachineState) → kept' ≡ mid' →
          Steps here_sheet machine machine' x.item old new mid mid' pdf pdf' (Ok None) →
          is_behind plan.selection pdf'.page ≡ false
          → RendersItem rendering (drawn_from plan machine' pdf' true) x old new kept kept' (Ok None)
      tells_goes machine' same steps goes =
          let draws = steps.1 in
          let drawn : List ℕ = drawn_events here_sheet pdf draws.events in
          let known : is_behind plan.selection (pdf_behind_all here_sheet pdf draws.events).page ≡ false =
          ap (λ (q : Pdf). is_behind plan.selection q.page) (sym draws.pdf_is) ∙ goes in (
            start ++ drawn,
            subst (λ l. Puts old new kept l (start ++ drawn)) (sym same) (puts_behind old new kept mid mid' start drawn begun draws.puts),
            subst (λ q. RestGoesOn rendering (drawn_from plan machine' q true) x (start ++ drawn)) (sym draws.pdf_is)
                (item_goes plan machine before is_started x machine' draws.events draws.peaks steps.0 draws.is known),
          )

      -- all is written behind it
      pub tells_over : kept' ≡ mid' ++ whole_end plan pdf' → (ending : Ending) →
          Draws here_sheet item_run ending old new mid mid' pdf pdf' →
          is_behind plan.selection pdf'.page ≡ true → Ended rendering (StartsWith x) old new kept kept' (Ok AllDone)
      tells_over told ending draws over =
          let drawn : List ℕ = drawn_events here_sheet pdf draws.events in
          let q : Pdf = pdf_behind_all here_sheet pdf draws.events in
          let known : is_behind plan.selection q.page ≡ true =
          ap (λ (q : Pdf). is_behind plan.selection q.page) (sym draws.pdf_is) ∙ over in
          let told_is : kept' ≡ mid' ++ whole_end plan q = told ∙ ap (λ q. mid' ++ whole_end plan q) draws.pdf_is in (
            start ++ drawn ++ whole_end plan q,
            puts_before old new kept mid' kept' (start ++ drawn) (whole_end plan q)
                (puts_behind old new kept mid mid' start drawn begun draws.puts) told_is,
            item_over plan machine before is_started x draws.events draws.peaks ending draws.is known,
          )

      -- it had a finding
      pub tells_found : (finding : Finding) → kept' ≡ mid' ++ failing (found_at x.place 1 finding) pdf' →
          Draws here_sheet item_run (Halts finding) old new mid mid' pdf pdf' →
          is_behind plan.selection pdf'.page ≡ false
          → Ended rendering (StartsWith x) old new kept kept' (Ok (Fail x.place 1 (FindingOfRun finding)))
      tells_found finding told draws goes =
          let drawn : List ℕ = drawn_events here_sheet pdf draws.events in
          let q : Pdf = pdf_behind_all here_sheet pdf draws.events in
          let failure : Failure = found_at x.place 1 finding in
          let known : is_behind plan.selection q.page ≡ false =
          ap (λ (q : Pdf). is_behind plan.selection q.page) (sym draws.pdf_is) ∙ goes in
          let told_is : kept' ≡ mid' ++ failing failure q = told ∙ ap (λ q. mid' ++ failing failure q) draws.pdf_is in (
            start ++ drawn ++ failing failure q,
            puts_before old new kept mid' kept' (start ++ drawn) (failing failure q)
                (puts_behind old new kept mid mid' start drawn begun draws.puts) told_is,
            item_found plan machine before is_started x finding draws.events draws.peaks draws.is known,
          )

  -- ---- the end of the bytes

  module _ (place : ℕ) where
    abbrev end_run : Run
    end_run = (end_of machine).run any_panel

    abbrev IsEnd : Reading → Type 0
    IsEnd reading = reading ≡ Whole [] place

    pub tells_end_front : DrawsFront here_sheet end_run old new mid pdf → (r : Result Outcome Error) → IsErr r →
        Ended rendering IsEnd old new kept kept' r
    tells_end_front draws r is =
        let drawn : List ℕ = drawn_events here_sheet pdf draws.events in
        ended_err rendering IsEnd old new kept kept' r is (start ++ drawn) (front_behind old new kept mid start drawn begun draws.front)
        (end_begun plan machine before is_started place draws.events draws.others draws.is)

    module _ (mid' : List ℕ) (pdf' : Pdf) where
      pub tells_end_cut : (ending : Ending) → Draws here_sheet end_run ending old new mid mid' pdf pdf' →
          (r : Result Outcome Error) → IsErr r →
          Ended rendering IsEnd old new kept kept' r
      tells_end_cut ending draws r is =
          let drawn : List ℕ = drawn_events here_sheet pdf draws.events in
          tells_end_front
          (record {
            events = draws.events;
            others = [];
            is = ap (λ (r : Run). r.events) draws.is;
            front = Puts-cut-front old new mid mid' drawn draws.puts;
          })
          r is

      pub tells_end_over : kept' ≡ mid' ++ whole_end plan pdf' → (ending : Ending) →
          Draws here_sheet end_run ending old new mid mid' pdf pdf' →
          is_behind plan.selection pdf'.page ≡ true → Ended rendering IsEnd old new kept kept' (Ok AllDone)
      tells_end_over told ending draws over =
          let drawn : List ℕ = drawn_events here_sheet pdf draws.events in
          let q : Pdf = pdf_behind_all here_sheet pdf draws.events in
          let known : is_behind plan.selection q.page ≡ true =
          ap (λ (q : Pdf). is_behind plan.selection q.page) (sym draws.pdf_is) ∙ over in
          let told_is : kept' ≡ mid' ++ whole_end plan q = told ∙ ap (λ q. mid' ++ whole_end plan q) draws.pdf_is in (
            start ++ drawn ++ whole_end plan q,
            puts_before old new kept mid' kept' (start ++ drawn) (whole_end plan q)
                (puts_behind old new kept mid mid' start drawn begun draws.puts) told_is,
            end_over plan machine before is_started place draws.events draws.peaks ending draws.is known,
          )

      pub tells_end_goes : (s : State) → kept' ≡ mid' ++ whole_end plan pdf' →
          Draws here_sheet end_run (Done s) old new mid mid' pdf pdf' →
          is_behind plan.selection pdf'.page ≡ false
          → Ended rendering IsEnd old new kept kept' (Ok AllDone)
      tells_end_goes s told draws goes =
          let drawn : List ℕ = drawn_events here_sheet pdf draws.events in
          let q : Pdf = pdf_behind_all here_sheet pdf draws.events in
          let known : is_behind plan.selection q.page ≡ false =
          ap (λ (q : Pdf). is_behind plan.selection q.page) (sym draws.pdf_is) ∙ goes in
          let told_is : kept' ≡ mid' ++ whole_end plan q = told ∙ ap (λ q. mid' ++ whole_end plan q) draws.pdf_is in (
            start ++ drawn ++ whole_end plan q,
            puts_before old new kept mid' kept' (start ++ drawn) (whole_end plan q)
                (puts_behind old new kept mid mid' start drawn begun draws.puts) told_is,
            end_goes plan machine before is_started place s draws.events draws.peaks draws.is known,
          )

      pub tells_end_found : (finding : Finding) → kept' ≡ mid' ++ failing (found_at place 1 finding) pdf' →
          Draws here_sheet end_run (Halts finding) old new mid mid' pdf pdf' → is_behind plan.selection pdf'.page ≡ false
          → Ended rendering IsEnd old new kept kept' (Ok (Fail place 1 (FindingOfRun finding)))
      tells_end_found finding told draws goes =
          let drawn : List ℕ = drawn_events here_sheet pdf draws.events in
          let q : Pdf = pdf_behind_all here_sheet pdf draws.events in
          let failure : Failure = found_at place 1 finding in
          let known : is_behind plan.selection q.page ≡ false =
          ap (λ (q : Pdf). is_behind plan.selection q.page) (sym draws.pdf_is) ∙ goes in
          let told_is : kept' ≡ mid' ++ failing failure q = told ∙ ap (λ q. mid' ++ failing failure q) draws.pdf_is in (
            start ++ drawn ++ failing failure q,
            puts_before old new kept mid' kept' (start ++ drawn) (failing failure q)
                (puts_behind old new kept mid mid' start drawn begun draws.puts) told_is,
            end_found plan machine before is_started place finding draws.events draws.peaks draws.is known,
          )

  -- ---- a fault of the bytes

  pub tells_fault : (place : ℕ) (cause : LexCause) → kept' ≡ mid ++ failing (fault_at place cause) pdf →
      Ended rendering (λ reading. reading ≡ Stopped [] place cause) old old kept kept' (Ok (Fail place 0 (FaultOfBytes cause)))
  tells_fault place cause told = (
    start ++ failing (fault_at place cause) pdf,
    puts_before old old kept mid kept' start (failing (fault_at place cause) pdf) (Puts-kept old kept mid start begun) told,
    record { due = λ reading is. ap rendering.text is; outcome_is = λ reading is. ap rendering.outcome is },
  )

  -- ---- a call of the machine on a sheet, in a document that is begun

  module _ (sheet : Sheet) (sheet_is : sheet ≡ here_sheet) (spot : Spot) (spot_is : spot ≡ spot_of sheet.page.paper here)
      (now : Pdf) (now_is : now ≡ pdf) where
    -- what is written of a failure
    abbrev written : Sheet → Spot → Failure → Pdf → List ℕ
    written s q failure pdf' =
        failed_end plan (told_failure plan pdf'.page failure) (drawn_failure s q (told_failure plan pdf'.page failure) pdf')

    failing_is : (failure : Failure) (pdf' : Pdf) (mid' : List ℕ) → kept' ≡ mid' ++ written sheet spot failure pdf' →
        kept' ≡ mid' ++ failing failure pdf'
    failing_is failure pdf' mid' told =
        told
        ∙ (ap (λ (q : Spot). mid' ++ written sheet q failure pdf') spot_is
        ∙ ap (λ (s : Sheet). mid' ++ written s (spot_of s.page.paper here) failure pdf') sheet_is)

    module _ (place : ℕ) (item : Entry) (machine' : MachineState) (mid' : List ℕ) (pdf' : Pdf) where
      abbrev placed : Placed
      placed = at place item

      item_here : (r : Result (Option Finding) Error) → Steps sheet machine machine' item old new mid mid' now pdf' r →
          Steps here_sheet machine machine' item old new mid mid' pdf pdf' r
      item_here r steps =
          subst (λ q. Steps here_sheet machine machine' item old new mid mid' q pdf' r) now_is
          (subst (λ (s : Sheet). Steps s machine machine' item old new mid mid' now pdf' r) sheet_is steps)

      item_some : (found : Option Finding) → Steps here_sheet machine machine' item old new mid mid' pdf pdf' (Ok found) →
          (ending : Ending) × Draws here_sheet ((item_of machine item).run any_panel) ending old new mid mid' pdf pdf'
      item_some None steps = (Done (state_at any_panel machine'.page), steps.1)
      item_some (Some finding) steps = (Halts finding, steps)

      item_halts : (found : Option Finding) (finding : Finding) → found ≡ Some finding →
          Steps sheet machine machine' item old new mid mid' now pdf' (Ok found) →
          Draws here_sheet ((item_of machine item).run any_panel) (Halts finding) old new mid mid' pdf pdf'
      item_halts found finding is steps =
          subst (λ f. Steps here_sheet machine machine' item old new mid mid' pdf pdf' (Ok f)) is (item_here (Ok found) steps)

      pub item_stops : (after : Rendering) (e : Error) → Steps sheet machine machine' item old new mid mid' now pdf' (Err e) →
          (r : Result (Option Outcome) Error) → IsErr r → RendersItem rendering after placed old new kept kept' r
      item_stops after e steps r is = tells_front placed after (item_here (Err e) steps) r is

      pub item_ends : (found : Option Finding) → kept' ≡ mid' ++ whole_end plan pdf' →
          Steps sheet machine machine' item old new mid mid' now pdf' (Ok found) →
          true ≡ is_behind plan.selection pdf'.page → Ended rendering (StartsWith placed) old new kept kept' (Ok AllDone)
      item_ends found told steps over =
          let some = item_some found (item_here (Ok found) steps) in
          tells_over placed mid' pdf' told some.0 some.1 (sym over)

      pub item_goes_on : (found : Option Finding) → found ≡ None → kept' ≡ mid' →
          Steps sheet machine machine' item old new mid mid' now pdf' (Ok found) → false ≡ is_behind plan.selection pdf'.page →
          RendersItem rendering (drawn_from plan machine' pdf' true) placed old new kept kept' (Ok None)
      item_goes_on found none same steps goes =
          tells_goes placed mid' pdf' machine' same
          (subst (λ f. Steps here_sheet machine machine' item old new mid mid' pdf pdf' (Ok f)) none (item_here (Ok found) steps))
          (sym goes)

      pub item_fails : (found : Option Finding) (finding : Finding) → found ≡ Some finding → (failure : Failure) →
          failure ≡ found_at place 1 finding → kept' ≡ mid' ++ written sheet spot failure pdf' →
          Steps sheet machine machine' item old new mid mid' now pdf' (Ok found) → false ≡ is_behind plan.selection pdf'.page
          → (outcome : Outcome) → outcome ≡ Fail place 1 (FindingOfRun finding)
          → Ended rendering (StartsWith placed) old new kept kept' (Ok outcome)
      item_fails found finding is failure failure_is told steps goes outcome outcome_is =
          let fails = failing_is failure pdf' mid' told ∙ ap (λ f. mid' ++ failing f pdf') failure_is in
          subst (λ o. Ended rendering (StartsWith placed) old new kept kept' (Ok o)) (sym outcome_is)
          (tells_found placed mid' pdf' finding fails (item_halts found finding is steps) (sym goes))

      pub item_cuts : (found : Option Finding) (after : Rendering) →
          Steps sheet machine machine' item old new mid mid' now pdf' (Ok found) → (r : Result (Option Outcome) Error) → IsErr r →
          RendersItem rendering after placed old new kept kept' r
      item_cuts found after steps r err =
          let some = item_some found (item_here (Ok found) steps) in
          tells_cut placed mid' pdf' some.0 after some.1 r err

    module _ (place : ℕ) (mid' : List ℕ) (pdf' : Pdf) where
      end_here : (r : Result (Option Finding) Error) → Finishes sheet machine old new mid mid' now pdf' r →
          Finishes here_sheet machine old new mid mid' pdf pdf' r
      end_here r finishes =
          subst (λ q. Finishes here_sheet machine old new mid mid' q pdf' r) now_is
          (subst (λ (s : Sheet). Finishes s machine old new mid mid' now pdf' r) sheet_is finishes)

      end_some : (found : Option Finding) → Finishes here_sheet machine old new mid mid' pdf pdf' (Ok found) →
          (ending : Ending) × Draws here_sheet ((end_of machine).run any_panel) ending old new mid mid' pdf pdf'
      end_some None finishes = (Done finishes.0, finishes.1)
      end_some (Some finding) finishes = (Halts finding, finishes)

      end_halts : (found : Option Finding) (finding : Finding) → found ≡ Some finding →
          Finishes sheet machine old new mid mid' now pdf' (Ok found) →
          Draws here_sheet ((end_of machine).run any_panel) (Halts finding) old new mid mid' pdf pdf'
      end_halts found finding is finishes =
          subst (λ f. Finishes here_sheet machine old new mid mid' pdf pdf' (Ok f)) is (end_here (Ok found) finishes)

      pub end_stops : (e : Error) → Finishes sheet machine old new mid mid' now pdf' (Err e) → (r : Result Outcome Error) → IsErr r →
          Ended rendering (λ reading. reading ≡ Whole [] place) old new kept kept' r
      end_stops e finishes r is = tells_end_front place (end_here (Err e) finishes) r is

      pub end_ends : (found : Option Finding) → kept' ≡ mid' ++ whole_end plan pdf' →
          Finishes sheet machine old new mid mid' now pdf' (Ok found) →
          true ≡ is_behind plan.selection pdf'.page → Ended rendering (λ reading. reading ≡ Whole [] place) old new kept kept' (Ok AllDone)
      end_ends found told finishes over =
          let some = end_some found (end_here (Ok found) finishes) in
          tells_end_over place mid' pdf' told some.0 some.1 (sym over)

      pub end_goes_on : (found : Option Finding) → found ≡ None → kept' ≡ mid' ++ whole_end plan pdf' →
          Finishes sheet machine old new mid mid' now pdf' (Ok found) → false ≡ is_behind plan.selection pdf'.page
          → Ended rendering (λ reading. reading ≡ Whole [] place) old new kept kept' (Ok AllDone)
      end_goes_on found none told finishes goes =
          let done : Finishes here_sheet machine old new mid mid' pdf pdf' (Ok None) =
          subst (λ f. Finishes here_sheet machine old new mid mid' pdf pdf' (Ok f)) none (end_here (Ok found) finishes) in
          tells_end_goes place mid' pdf' done.0 told done.1 (sym goes)

      pub end_fails : (found : Option Finding) (finding : Finding) → found ≡ Some finding → (failure : Failure) →
          failure ≡ found_at place 1 finding → kept' ≡ mid' ++ written sheet spot failure pdf' →
          Finishes sheet machine old new mid mid' now pdf' (Ok found) → false ≡ is_behind plan.selection pdf'.page
          → (outcome : Outcome) → outcome ≡ Fail place 1 (FindingOfRun finding)
          → Ended rendering (λ reading. reading ≡ Whole [] place) old new kept kept' (Ok outcome)
      end_fails found finding is failure failure_is told finishes goes outcome outcome_is =
          let fails = failing_is failure pdf' mid' told ∙ ap (λ f. mid' ++ failing f pdf') failure_is in
          subst (λ o. Ended rendering (λ reading. reading ≡ Whole [] place) old new kept kept' (Ok o)) (sym outcome_is)
          (tells_end_found place mid' pdf' finding fails (end_halts found finding is finishes) (sym goes))

      pub end_cuts : (found : Option Finding) → Finishes sheet machine old new mid mid' now pdf' (Ok found) →
          (r : Result Outcome Error) → IsErr r → Ended rendering (λ reading. reading ≡ Whole [] place) old new kept kept' r
      end_cuts found finishes r err =
          let some = end_some found (end_here (Ok found) finishes) in
          tells_end_cut place mid' pdf' some.0 some.1 r err

    -- and a fault of the bytes
    pub fault_fails : (place : ℕ) (cause : LexCause) (failure : Failure) → failure ≡ fault_at place cause → old ≡ new →
        kept' ≡ mid ++ written sheet spot failure now → (outcome : Outcome) →
        outcome ≡ Fail place 0 (FaultOfBytes cause)
        → Ended rendering (λ reading. reading ≡ Stopped [] place cause) old old kept kept' (Ok outcome)
    fault_fails place cause failure failure_is same told outcome outcome_is =
        let fails =
        failing_is failure now mid told
        ∙ (ap (λ f. mid ++ failing f now) failure_is ∙ ap (λ q. mid ++ failing (fault_at place cause) q) now_is) in
        subst (λ o. Ended rendering (λ reading. reading ≡ Stopped [] place cause) old old kept kept' (Ok o)) (sym outcome_is)
        (tells_fault place cause fails)
