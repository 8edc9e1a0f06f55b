-- What a call of the renderer puts, and leaves due.
use Rattle.std.proofs.Common.{◌≡◌, ℕ, Bool, true, false, Ok, Err, List, [], ◌++◌, Option, None, Some, Result, ap, sym, ◌∙◌, subst}
use Rattle.std.proofs.Common.{append_assoc}
use Rattle.std.specs.Result.{IsErr}
use Rattle.pcl_items.specs.declared.fault.LexCause.{LexCause}
use Rattle.pcl_items.specs.Items.{Entry, Placed, at}
use Rattle.pcl_lexer.specs.Reading.{Reading, Whole, Stopped}
use Rattle.device_profile.specs.declared.geometry.Geometry.{Geometry}
use Rattle.page_env.specs.declared.finding.Finding.{Finding}
use Rattle.page_env.specs.Places.{geometry_of}
use Rattle.page_env.specs.Settings.{State, state_at}
use Rattle.page_machine.specs.Run.{Run, Ending, Done, Halts}
use Rattle.page_machine.specs.MachineState.{MachineState}
use Rattle.page_machine.specs.Machine.{item_of, end_of}
use Rattle.streams.specs.declared.error.Error.{Error}
use Rattle.renderings.specs.declared.outcome.Outcome.{Outcome}
use Rattle.renderings.specs.declared.outcome.Outcome.TheVariants.{Done as AllDone, Fail}
use Rattle.renderings.specs.Expected.{Rendering}
use Rattle.renderings.specs.Carriers.PageRendering.{any_panel}
use Rattle.renderings.specs.Carriers.Rendering.{RestGoesOn, StartsWith, Ended, RendersItem}
use Rattle.streams.specs.Writing.{Puts}
use Rattle.renderings.proofs.Renderings.{Puts-kept, Puts-trans, Puts-cut-front, tells_err, ended_err}
use Rattle.streams.specs.Outlet.{OutletState, AddsFront}
use Rattle.verdict.specs.declared.reason.Reason.TheVariants.{Fault as FaultOfBytes, Finding as FindingOfRun}
use Rattle.job_picture.specs.declared.progress.Progress.{Progress}
use Rattle.requests.specs.declared.selection.Selection.{Selection}
use Rattle.job_picture.specs.declared.sheet.Sheet.{Sheet}
use Rattle.job_picture.specs.declared.failing.Spot.{Spot}
use Rattle.page_picture.specs.declared.failure.Outline.{Outline}
use Rattle.job_picture.specs.Carriers.Drawing.{Draws, DrawsFront, Steps, Finishes}
use Rattle.job_picture.specs.Carriers.Rest.{drawn_from}
use Rattle.job_picture.specs.Failing.{mark_of, spot_of}
use Rattle.job_picture.specs.JobPicture.{late_end, mark_on_page}
use Rattle.job_picture.specs.Progress.{progress_behind_all}
use Rattle.requests.specs.Selection.{is_behind}
use Rattle.job_picture.specs.Sheet.{drawn_events, drawn_failure, end_of_all, sheet_of, start_if_due}
use Rattle.job_picture.proofs.Drawings.{item_goes, item_over, item_found, item_begun, end_over, end_goes, end_found, end_begun}

-- ---- what was put

-- behind a text that was kept more was put
pub puts_behind : (old new : OutletState) (kept mid kept' start more : List ℕ) → mid ≡ kept ++ start → Puts old new mid kept' more →
    Puts old new kept kept' (start ++ more)
puts_behind old new kept mid kept' start more started puts =
    Puts-trans old old new kept mid kept' start more (Puts-kept old kept mid start started) puts

-- and behind it a text was kept
pub puts_before : (old new : OutletState) (kept mid kept' text more : List ℕ) → Puts old new kept mid text → kept' ≡ mid ++ more →
    Puts old new kept kept' (text ++ more)
puts_before old new kept mid kept' text more puts told =
    Puts-trans old new new kept mid kept' text more puts (Puts-kept new mid kept' more told)

-- of a text behind one that was kept a front was written
front_behind : (old new : OutletState) (kept mid start more : List ℕ) → mid ≡ kept ++ start → AddsFront old new (mid ++ more) →
    AddsFront old new (kept ++ (start ++ more))
front_behind old new kept mid start more started front =
    subst (AddsFront old new) (ap (λ t. t ++ more) started ∙ append_assoc kept start more) front

module _ (selection : Selection) (sentence : List ℕ) (machine : MachineState) (p : Progress) (is_started : Bool) (old new : OutletState)
    (kept mid kept' : List ℕ) (started : mid ≡ kept ++ start_if_due selection sentence is_started) where
  abbrev here : State
  here = state_at any_panel machine.page

  abbrev here_paper : Geometry
  here_paper = geometry_of machine.printer here

  abbrev here_sheet : ℕ → Sheet
  here_sheet place = sheet_of place selection sentence machine.printer here

  abbrev start : List ℕ
  start = start_if_due selection sentence is_started

  abbrev rendering : Rendering
  rendering = drawn_from selection sentence machine p is_started

  -- what a failure at a place adds, of an item that would make this mark, by a finding or a fault of the bytes
  abbrev failing : ℕ → Option Outline → Option Finding → Progress → List ℕ
  failing place mark why p' =
      drawn_failure (here_sheet place) p' (spot_of here_paper here mark) why sentence ++ end_of_all selection

  -- ---- an item

  module _ (x : Placed) where
    abbrev item_run : Run
    item_run = (item_of machine x.item).run any_panel

    abbrev item_mark : Option Outline
    item_mark = mark_on_page machine.printer here x.item

    -- work stopped at it
    pub tells_front : (after : Rendering) → DrawsFront (here_sheet x.place) item_run old new mid p →
        (r : Result (Option Outcome) Error) → IsErr r →
        RendersItem rendering after x old new kept kept' r
    tells_front after draws r is =
        let drawn : List ℕ = drawn_events (here_sheet x.place) p draws.events in
        tells_err rendering after x old new kept kept' r is (start ++ drawn) (front_behind old new kept mid start drawn started draws.front)
        (item_begun selection sentence machine p is_started x draws.events draws.others draws.is)

    module _ (mid' : List ℕ) (p' : Progress) where
      -- or behind its events
      pub tells_cut : (finding : Finding) (after : Rendering) → Draws (here_sheet x.place) item_run (Halts finding) old new mid mid' p p' →
          (r : Result (Option Outcome) Error) → IsErr r → RendersItem rendering after x old new kept kept' r
      tells_cut finding after draws r is =
          let drawn : List ℕ = drawn_events (here_sheet x.place) p draws.events in
          tells_front after
          (record {
            events = draws.events;
            others = [];
            is = ap (λ (r : Run). r.events) draws.is;
            front = Puts-cut-front old new mid mid' drawn draws.puts;
          })
          r is

      -- it went
      pub tells_goes : (machine' : MachineState) → kept' ≡ mid' →
          Steps (here_sheet x.place) machine machine' x.item old new mid mid' p p' (Ok None) →
          is_behind selection p'.page ≡ false
          → RendersItem rendering (drawn_from selection sentence machine' p' true) x old new kept kept' (Ok None)
      tells_goes machine' same steps goes =
          let draws = steps.1 in
          let drawn : List ℕ = drawn_events (here_sheet x.place) p draws.events in
          let known : is_behind selection (progress_behind_all p draws.events).page ≡ false =
          ap (λ (q : Progress). is_behind selection q.page) (sym draws.progress_is) ∙ goes in (
            start ++ drawn,
            subst (λ l. Puts old new kept l (start ++ drawn)) (sym same) (puts_behind old new kept mid mid' start drawn started draws.puts),
            subst (λ q. RestGoesOn rendering (drawn_from selection sentence machine' q true) x (start ++ drawn)) (sym draws.progress_is)
                (item_goes selection sentence machine p is_started x machine' draws.events draws.peaks steps.0 draws.is known),
          )

      -- all is drawn behind it
      pub tells_over : kept' ≡ mid' → (ending : Ending) → Draws (here_sheet x.place) item_run ending old new mid mid' p p' →
          is_behind selection p'.page ≡ true → Ended rendering (StartsWith x) old new kept kept' (Ok AllDone)
      tells_over same ending draws over =
          let drawn : List ℕ = drawn_events (here_sheet x.place) p draws.events in
          let known : is_behind selection (progress_behind_all p draws.events).page ≡ true =
          ap (λ (q : Progress). is_behind selection q.page) (sym draws.progress_is) ∙ over in (
            start ++ drawn,
            subst (λ l. Puts old new kept l (start ++ drawn)) (sym same) (puts_behind old new kept mid mid' start drawn started draws.puts),
            item_over selection sentence machine p is_started x draws.events draws.peaks ending draws.is known,
          )

      -- it had a finding
      pub tells_found : (finding : Finding) → kept' ≡ mid' ++ failing x.place item_mark (Some finding) p' →
          Draws (here_sheet x.place) item_run (Halts finding) old new mid mid' p p' →
          is_behind selection p'.page ≡ false
          → Ended rendering (StartsWith x) old new kept kept' (Ok (Fail x.place 1 (FindingOfRun finding)))
      tells_found finding told draws goes =
          let drawn : List ℕ = drawn_events (here_sheet x.place) p draws.events in
          let q : Progress = progress_behind_all p draws.events in
          let known : is_behind selection q.page ≡ false =
          ap (λ (q : Progress). is_behind selection q.page) (sym draws.progress_is) ∙ goes in
          let told_is : kept' ≡ mid' ++ failing x.place item_mark (Some finding) q =
          told ∙ ap (λ q. mid' ++ failing x.place item_mark (Some finding) q) draws.progress_is in (
            start ++ drawn ++ failing x.place item_mark (Some finding) q,
            puts_before old new kept mid' kept' (start ++ drawn) (failing x.place item_mark (Some finding) q)
                (puts_behind old new kept mid mid' start drawn started draws.puts) told_is,
            item_found selection sentence machine p is_started x finding draws.events draws.peaks draws.is known,
          )

  -- ---- the end of the bytes

  module _ (place : ℕ) where
    abbrev end_run : Run
    end_run = (end_of machine).run any_panel

    abbrev IsEnd : Reading → Type 0
    IsEnd reading = reading ≡ Whole [] place

    pub tells_end_front : DrawsFront (here_sheet place) end_run old new mid p → (r : Result Outcome Error) → IsErr r →
        Ended rendering IsEnd old new kept kept' r
    tells_end_front draws r is =
        let drawn : List ℕ = drawn_events (here_sheet place) p draws.events in
        ended_err rendering IsEnd old new kept kept' r is (start ++ drawn) (front_behind old new kept mid start drawn started draws.front)
        (end_begun selection sentence machine p is_started place draws.events draws.others draws.is)

    module _ (mid' : List ℕ) (p' : Progress) where
      pub tells_end_cut : (ending : Ending) → Draws (here_sheet place) end_run ending old new mid mid' p p' →
          (r : Result Outcome Error) → IsErr r →
          Ended rendering IsEnd old new kept kept' r
      tells_end_cut ending draws r is =
          let drawn : List ℕ = drawn_events (here_sheet place) p draws.events in
          tells_end_front
          (record {
            events = draws.events;
            others = [];
            is = ap (λ (r : Run). r.events) draws.is;
            front = Puts-cut-front old new mid mid' drawn draws.puts;
          })
          r is

      pub tells_end_over : kept' ≡ mid' → (ending : Ending) → Draws (here_sheet place) end_run ending old new mid mid' p p' →
          is_behind selection p'.page ≡ true → Ended rendering IsEnd old new kept kept' (Ok AllDone)
      tells_end_over same ending draws over =
          let drawn : List ℕ = drawn_events (here_sheet place) p draws.events in
          let known : is_behind selection (progress_behind_all p draws.events).page ≡ true =
          ap (λ (q : Progress). is_behind selection q.page) (sym draws.progress_is) ∙ over in (
            start ++ drawn,
            subst (λ l. Puts old new kept l (start ++ drawn)) (sym same) (puts_behind old new kept mid mid' start drawn started draws.puts),
            end_over selection sentence machine p is_started place draws.events draws.peaks ending draws.is known,
          )

      pub tells_end_goes : (s : State) → kept' ≡ mid' ++ end_of_all selection →
          Draws (here_sheet place) end_run (Done s) old new mid mid' p p' →
          is_behind selection p'.page ≡ false
          → Ended rendering IsEnd old new kept kept' (Ok (late_end selection place))
      tells_end_goes s told draws goes =
          let drawn : List ℕ = drawn_events (here_sheet place) p draws.events in
          let known : is_behind selection (progress_behind_all p draws.events).page ≡ false =
          ap (λ (q : Progress). is_behind selection q.page) (sym draws.progress_is) ∙ goes in (
            start ++ drawn ++ end_of_all selection,
            puts_before old new kept mid' kept' (start ++ drawn) (end_of_all selection)
                (puts_behind old new kept mid mid' start drawn started draws.puts) told,
            end_goes selection sentence machine p is_started place s draws.events draws.peaks draws.is known,
          )

      pub tells_end_found : (finding : Finding) → kept' ≡ mid' ++ failing place None (Some finding) p' →
          Draws (here_sheet place) end_run (Halts finding) old new mid mid' p p' → is_behind selection p'.page ≡ false
          → Ended rendering IsEnd old new kept kept' (Ok (Fail place 1 (FindingOfRun finding)))
      tells_end_found finding told draws goes =
          let drawn : List ℕ = drawn_events (here_sheet place) p draws.events in
          let q : Progress = progress_behind_all p draws.events in
          let known : is_behind selection q.page ≡ false =
          ap (λ (q : Progress). is_behind selection q.page) (sym draws.progress_is) ∙ goes in
          let told_is : kept' ≡ mid' ++ failing place None (Some finding) q =
          told ∙ ap (λ q. mid' ++ failing place None (Some finding) q) draws.progress_is in (
            start ++ drawn ++ failing place None (Some finding) q,
            puts_before old new kept mid' kept' (start ++ drawn) (failing place None (Some finding) q)
                (puts_behind old new kept mid mid' start drawn started draws.puts) told_is,
            end_found selection sentence machine p is_started place finding draws.events draws.peaks draws.is known,
          )

  -- ---- a fault of the bytes

  pub tells_fault : (place : ℕ) (cause : LexCause) → kept' ≡ mid ++ failing place None None p →
      Ended rendering (λ reading. reading ≡ Stopped [] place cause) old old kept kept' (Ok (Fail place 0 (FaultOfBytes cause)))
  tells_fault place cause told = (
    start ++ failing place None None p,
    puts_before old old kept mid kept' start (failing place None None p) (Puts-kept old kept mid start started) told,
    record { due = λ reading is. ap rendering.text is; outcome_is = λ reading is. ap rendering.outcome is },
  )

  -- ---- a call of the machine on a sheet

  module _ (place : ℕ) (sheet : Sheet) (sheet_is : sheet ≡ here_sheet place) (spot : Spot) where
    -- what is put for a failure, where the item would make this mark on a page of that paper
    failing_is : (mark : Geometry → Option Outline) → spot ≡ spot_of sheet.paper here (mark sheet.paper) → (why : Option Finding)
        (p' : Progress) (mid' : List ℕ) → kept' ≡ mid' ++ (drawn_failure sheet p' spot why sentence ++ end_of_all selection) →
        kept' ≡ mid' ++ failing place (mark here_paper) why p'
    failing_is mark spot_is why p' mid' told =
        told
        ∙ (ap (λ (q : Spot). mid' ++ (drawn_failure sheet p' q why sentence ++ end_of_all selection)) spot_is
        ∙ ap
        (λ (s : Sheet).
        mid' ++ (drawn_failure s p' (spot_of s.paper here (mark s.paper)) why sentence ++ end_of_all selection))
        sheet_is)

    module _ (item : Entry) (spot_is : spot ≡ spot_of sheet.paper here (mark_of machine.printer sheet.paper here item))
        (machine' : MachineState) (mid' : List ℕ) (p' : Progress) where
      abbrev placed : Placed
      placed = at place item

      item_here : (r : Result (Option Finding) Error) → Steps sheet machine machine' item old new mid mid' p p' r →
          Steps (here_sheet place) machine machine' item old new mid mid' p p' r
      item_here r steps = subst (λ (s : Sheet). Steps s machine machine' item old new mid mid' p p' r) sheet_is steps

      item_some : (found : Option Finding) → Steps (here_sheet place) machine machine' item old new mid mid' p p' (Ok found) →
          (ending : Ending) × Draws (here_sheet place) ((item_of machine item).run any_panel) ending old new mid mid' p p'
      item_some None steps = (Done (state_at any_panel machine'.page), steps.1)
      item_some (Some finding) steps = (Halts finding, steps)

      item_halts : (found : Option Finding) (finding : Finding) → found ≡ Some finding →
          Steps sheet machine machine' item old new mid mid' p p' (Ok found) →
          Draws (here_sheet place) ((item_of machine item).run any_panel) (Halts finding) old new mid mid' p p'
      item_halts found finding is steps =
          subst (λ f. Steps (here_sheet place) machine machine' item old new mid mid' p p' (Ok f)) is (item_here (Ok found) steps)

      pub item_stops : (after : Rendering) (e : Error) → Steps sheet machine machine' item old new mid mid' p p' (Err e) →
          (r : Result (Option Outcome) Error) → IsErr r → RendersItem rendering after placed old new kept kept' r
      item_stops after e steps r is = tells_front placed after (item_here (Err e) steps) r is

      pub item_ends : (found : Option Finding) → kept' ≡ mid' → Steps sheet machine machine' item old new mid mid' p p' (Ok found) →
          true ≡ is_behind selection p'.page → Ended rendering (StartsWith placed) old new kept kept' (Ok AllDone)
      item_ends found same steps over =
          let some = item_some found (item_here (Ok found) steps) in
          tells_over placed mid' p' same some.0 some.1 (sym over)

      pub item_goes_on : (found : Option Finding) → found ≡ None → kept' ≡ mid' →
          Steps sheet machine machine' item old new mid mid' p p' (Ok found) → false ≡ is_behind selection p'.page →
          RendersItem rendering (drawn_from selection sentence machine' p' true) placed old new kept kept' (Ok None)
      item_goes_on found none same steps goes =
          tells_goes placed mid' p' machine' same
          (subst (λ f. Steps (here_sheet place) machine machine' item old new mid mid' p p' (Ok f)) none (item_here (Ok found) steps))
          (sym goes)

      pub item_fails : (found : Option Finding) (finding : Finding) → found ≡ Some finding →
          kept' ≡ mid' ++ (drawn_failure sheet p' spot (Some finding) sentence ++ end_of_all selection) →
          Steps sheet machine machine' item old new mid mid' p p' (Ok found) → false ≡ is_behind selection p'.page
          → (outcome : Outcome) → outcome ≡ Fail place 1 (FindingOfRun finding)
          → Ended rendering (StartsWith placed) old new kept kept' (Ok outcome)
      item_fails found finding is told steps goes outcome outcome_is =
          let fails = failing_is (λ paper. mark_of machine.printer paper here item) spot_is (Some finding) p' mid' told in
          subst (λ o. Ended rendering (StartsWith placed) old new kept kept' (Ok o)) (sym outcome_is)
          (tells_found placed mid' p' finding fails (item_halts found finding is steps) (sym goes))

      pub item_cuts : (found : Option Finding) (finding : Finding) → found ≡ Some finding → (after : Rendering) →
          Steps sheet machine machine' item old new mid mid' p p' (Ok found) → (r : Result (Option Outcome) Error) → IsErr r →
          RendersItem rendering after placed old new kept kept' r
      item_cuts found finding is after steps r err = tells_cut placed mid' p' finding after (item_halts found finding is steps) r err

    module _ (spot_is : spot ≡ spot_of sheet.paper here None) (mid' : List ℕ) (p' : Progress) where
      end_here : (r : Result (Option Finding) Error) → Finishes sheet machine old new mid mid' p p' r →
          Finishes (here_sheet place) machine old new mid mid' p p' r
      end_here r finishes = subst (λ (s : Sheet). Finishes s machine old new mid mid' p p' r) sheet_is finishes

      end_some : (found : Option Finding) → Finishes (here_sheet place) machine old new mid mid' p p' (Ok found) →
          (ending : Ending) × Draws (here_sheet place) ((end_of machine).run any_panel) ending old new mid mid' p p'
      end_some None finishes = (Done finishes.0, finishes.1)
      end_some (Some finding) finishes = (Halts finding, finishes)

      end_halts : (found : Option Finding) (finding : Finding) → found ≡ Some finding →
          Finishes sheet machine old new mid mid' p p' (Ok found) →
          Draws (here_sheet place) ((end_of machine).run any_panel) (Halts finding) old new mid mid' p p'
      end_halts found finding is finishes =
          subst (λ f. Finishes (here_sheet place) machine old new mid mid' p p' (Ok f)) is (end_here (Ok found) finishes)

      pub end_stops : (e : Error) → Finishes sheet machine old new mid mid' p p' (Err e) → (r : Result Outcome Error) → IsErr r →
          Ended rendering (λ reading. reading ≡ Whole [] place) old new kept kept' r
      end_stops e finishes r is = tells_end_front place (end_here (Err e) finishes) r is

      pub end_ends : (found : Option Finding) → kept' ≡ mid' → Finishes sheet machine old new mid mid' p p' (Ok found) →
          true ≡ is_behind selection p'.page → Ended rendering (λ reading. reading ≡ Whole [] place) old new kept kept' (Ok AllDone)
      end_ends found same finishes over =
          let some = end_some found (end_here (Ok found) finishes) in
          tells_end_over place mid' p' same some.0 some.1 (sym over)

      pub end_goes_on : (found : Option Finding) → found ≡ None → kept' ≡ mid' ++ end_of_all selection →
          Finishes sheet machine old new mid mid' p p' (Ok found) → false ≡ is_behind selection p'.page
          → (outcome : Outcome) → outcome ≡ late_end selection place
          → Ended rendering (λ reading. reading ≡ Whole [] place) old new kept kept' (Ok outcome)
      end_goes_on found none told finishes goes outcome outcome_is =
          let done : Finishes (here_sheet place) machine old new mid mid' p p' (Ok None) =
          subst (λ f. Finishes (here_sheet place) machine old new mid mid' p p' (Ok f)) none (end_here (Ok found) finishes) in
          subst (λ o. Ended rendering (λ reading. reading ≡ Whole [] place) old new kept kept' (Ok o)) (sym outcome_is)
          (tells_end_goes place mid' p' done.0 told done.1 (sym goes))

      pub end_fails : (found : Option Finding) (finding : Finding) → found ≡ Some finding →
          kept' ≡ mid' ++ (drawn_failure sheet p' spot (Some finding) sentence ++ end_of_all selection) →
          Finishes sheet machine old new mid mid' p p' (Ok found) → false ≡ is_behind selection p'.page
          → (outcome : Outcome) → outcome ≡ Fail place 1 (FindingOfRun finding)
          → Ended rendering (λ reading. reading ≡ Whole [] place) old new kept kept' (Ok outcome)
      end_fails found finding is told finishes goes outcome outcome_is =
          let fails = failing_is (λ paper. None) spot_is (Some finding) p' mid' told in
          subst (λ o. Ended rendering (λ reading. reading ≡ Whole [] place) old new kept kept' (Ok o)) (sym outcome_is)
          (tells_end_found place mid' p' finding fails (end_halts found finding is finishes) (sym goes))

      pub end_cuts : (found : Option Finding) → Finishes sheet machine old new mid mid' p p' (Ok found) → (r : Result Outcome Error) →
          IsErr r → Ended rendering (λ reading. reading ≡ Whole [] place) old new kept kept' r
      end_cuts found finishes r err =
          let some = end_some found (end_here (Ok found) finishes) in
          tells_end_cut place mid' p' some.0 some.1 r err

    -- and a fault of the bytes
    pub fault_fails : spot ≡ spot_of sheet.paper here None → (cause : LexCause) → old ≡ new →
        kept' ≡ mid ++ (drawn_failure sheet p spot None sentence ++ end_of_all selection) → (outcome : Outcome) →
        outcome ≡ Fail place 0 (FaultOfBytes cause)
        → Ended rendering (λ reading. reading ≡ Stopped [] place cause) old old kept kept' (Ok outcome)
    fault_fails spot_is cause same told outcome outcome_is =
        let fails = failing_is (λ paper. None) spot_is None p mid told in
        subst (λ o. Ended rendering (λ reading. reading ≡ Stopped [] place cause) old old kept kept' (Ok o)) (sym outcome_is)
        (tells_fault place cause fails)
