-- What a call of the renderer keeps, and leaves due.
use Rattle.std.proofs.Common.{◌≡◌, ℕ, Bool, true, false, List, [], ◌++◌, Option, None, Some, Result, Ok, Err, ap, sym, ◌∙◌, subst}
use Rattle.pcl_items.specs.declared.fault.LexCause.{LexCause}
use Rattle.pcl_items.specs.Items.{Placed}
use Rattle.pcl_lexer.specs.Reading.{Reading, Whole, Stopped}
use Rattle.device_profile.specs.Printer.{Printer}
use Rattle.page_env.specs.declared.finding.Finding.{Finding}
use Rattle.page_env.specs.Settings.{State, state_at}
use Rattle.page_machine.specs.Run.{Ending, Done, Halts}
use Rattle.page_machine.specs.MachineState.{MachineState}
use Rattle.page_machine.specs.Machine.{item_of, end_of}
use Rattle.page_machine.specs.Still.{is_one_step}
use Rattle.sinks.specs.declared.counts.Counts.{Counts}
use Rattle.streams.specs.Outlet.{OutletState}
use Rattle.verdict.specs.declared.failure.Failure.{Failure}
use Rattle.verdict.specs.Failing.{fault_at, found_at}
use Rattle.judgement.specs.declared.failing_item.FailingItem.{FailingItem}
use Rattle.judgement.specs.declared.failing_item.MissingFont.{MissingFont}
use Rattle.judgement.specs.declared.failing_item.SheetSpot.{SheetSpot}
use Rattle.streams.specs.declared.error.Error.{Error}
use Rattle.renderings.specs.declared.outcome.Outcome.{Outcome}
use Rattle.renderings.specs.declared.outcome.Outcome.TheVariants.{Done as AllDone}
use Rattle.judgement.specs.FailingItem.{IsFailingItem}
use Rattle.renderings.specs.Expected.{Rendering}
use Rattle.renderings.specs.Carriers.PageRendering.{any_panel}
use Rattle.renderings.specs.Carriers.Rendering.{EndsWith, Ended, RendersItem, StartsWith}
use Rattle.streams.specs.Writing.{Puts}
use Rattle.renderings.proofs.Renderings.{Puts-kept, Puts-none, end_none}
use Rattle.requests.specs.declared.selection.Selection.{Selection}
use Rattle.requests.specs.Selection.{is_behind}
use Rattle.job_reports.specs.Groups.{Groups}
use Rattle.job_reports.specs.JobSentences.{FailsAt, fails_at, fails_where}
use Rattle.picture_command.specs.Carriers.{Finishes, HasRun, Keeps, Steps, search_from}
use Rattle.picture_command.specs.PageSearch.{Searched, at_item, font_where, found_at_failure, open_page, spot_where, text_at_end}
use Rattle.picture_command.proofs.Searches.{item_goes, item_over, item_found, end_over, end_goes, end_found}
use Rattle.picture_command.proofs.Spots.{font_still, spot_still}
use Rattle.picture_command.proofs.Words.{fails_at_item}

-- what was told and kept is due
kept_ended : (rendering : Rendering) (Is : Reading → Type 0) (old : OutletState) (kept kept' : List ℕ) (found : Searched)
    (r : Result Outcome Error) → EndsWith rendering Is found.text found.outcome → Keeps kept kept' found r →
    Ended rendering Is old old kept kept' r
kept_ended rendering Is old kept kept' found (Ok outcome) ends told = (
  found.text,
  Puts-kept old kept kept' found.text told.0,
  subst (EndsWith rendering Is found.text) (sym told.1) ends,
)
kept_ended rendering Is old kept kept' found (Err e) ends told = end_none rendering Is old kept kept' (Err e) cc

module _ (selection : Selection) (job : List ℕ) (group : Groups) (machine : MachineState) (counts counts' : Counts)
    (old : OutletState) (kept kept' : List ℕ) where
  abbrev rendering : Rendering
  rendering = search_from selection job group machine counts

  same_kept : kept' ≡ kept → Puts old old kept kept' []
  same_kept same = subst (λ k. Puts old old kept k []) (sym same) (Puts-none old kept)

  -- ---- an item

  module _ (x : Placed) (machine' : MachineState) where
    item_some : (found : Option Finding) → Steps machine machine' x.item counts counts' (Ok found) →
        (ending : Ending) × HasRun ((item_of machine x.item).run any_panel) ending counts counts'
    item_some None steps = (Done (state_at any_panel machine'.page), steps.1)
    item_some (Some finding) steps = (Halts finding, steps.0)

    pub item_goes_on : (found : Option Finding) → found ≡ None → Steps machine machine' x.item counts counts' (Ok found) →
        false ≡ is_behind selection (open_page counts') → kept' ≡ kept
        → RendersItem rendering (search_from selection job group machine' counts') x old old kept kept' (Ok None)
    item_goes_on found none steps goes same =
        let done : Steps machine machine' x.item counts counts' (Ok None) =
        subst (λ f. Steps machine machine' x.item counts counts' (Ok f)) none steps in
        ([], same_kept same, item_goes selection job group machine counts counts' x machine' done.0 done.1 (sym goes))

    pub item_ends : (found : Option Finding) → Steps machine machine' x.item counts counts' (Ok found) →
        true ≡ is_behind selection (open_page counts') → kept' ≡ kept → Ended rendering (StartsWith x) old old kept kept' (Ok AllDone)
    item_ends found steps over same =
        let some = item_some found steps in
        ([], same_kept same, item_over selection job group machine counts counts' x some.0 some.1 (sym over))

    pub item_fails : (found : Option Finding) (finding : Finding) → found ≡ Some finding →
        Steps machine machine' x.item counts counts' (Ok found) → false ≡ is_behind selection (open_page counts')
        → (failure : Failure) → failure ≡ found_at x.place 1 finding → (failing_item : FailingItem) → IsFailingItem failing_item x.item
        → (one_step : Bool) → is_one_step x.item ≡ one_step
        → (cursor : Option SheetSpot) → cursor ≡ spot_where one_step machine'.printer (state_at any_panel machine'.page)
        → (font : Option MissingFont) → font ≡ font_where one_step machine'.printer (state_at any_panel machine'.page)
        → (r : Result Outcome Error)
        → Keeps kept kept' (found_at_failure selection job group counts' (fails_where None cursor font (Some failing_item)) failure) r
        → Ended rendering (StartsWith x) old old kept kept' r
    item_fails found finding is steps goes failure failure_is failing_item named one_step one cursor stood font asked r told =
        let printer : Printer = machine.printer in
        let s : State = state_at any_panel machine.page in
        let at : FailsAt = at_item printer s x.item in
        let halts : Steps machine machine' x.item counts counts' (Ok (Some finding)) =
        subst (λ f. Steps machine machine' x.item counts counts' (Ok f)) is steps in
        let before : cursor ≡ spot_where (is_one_step x.item) printer s =
        stood ∙ (ap (λ b. spot_where b machine'.printer (state_at any_panel machine'.page)) (sym one)
        ∙ spot_still machine machine' (is_one_step x.item) halts.1) in
        let asked_before : font ≡ font_where (is_one_step x.item) printer s =
        asked ∙ (ap (λ b. font_where b machine'.printer (state_at any_panel machine'.page)) (sym one)
        ∙ font_still machine machine' (is_one_step x.item) halts.1) in
        kept_ended rendering (StartsWith x) old kept kept'
        (found_at_failure selection job group counts' at (found_at x.place 1 finding)) r
        (item_found selection job group machine counts counts' x finding halts.0 (sym goes))
        (subst (λ (f : Failure). Keeps kept kept' (found_at_failure selection job group counts' at f) r) failure_is
        (subst (λ at. Keeps kept kept' (found_at_failure selection job group counts' at failure) r)
        (fails_at_item failing_item x.item named printer s cursor before font asked_before) told))

  -- ---- the end of the bytes

  module _ (place : ℕ) where
    abbrev IsEnd : Reading → Type 0
    IsEnd reading = reading ≡ Whole [] place

    end_some : (found : Option Finding) → Finishes machine counts counts' (Ok found) →
        (ending : Ending) × HasRun ((end_of machine).run any_panel) ending counts counts'
    end_some None finishes = (Done finishes.0, finishes.1)
    end_some (Some finding) finishes = (Halts finding, finishes)

    pub end_ends : (found : Option Finding) → Finishes machine counts counts' (Ok found) → true ≡ is_behind selection (open_page counts') →
        kept' ≡ kept → Ended rendering (λ reading. reading ≡ Whole [] place) old old kept kept' (Ok AllDone)
    end_ends found finishes over same =
        let some = end_some found finishes in
        ([], same_kept same, end_over selection job group machine counts counts' place some.0 some.1 (sym over))

    pub end_goes_on : (found : Option Finding) → found ≡ None → Finishes machine counts counts' (Ok found) →
        false ≡ is_behind selection (open_page counts') → kept' ≡ kept ++ text_at_end selection job group counts'
        → Ended rendering (λ reading. reading ≡ Whole [] place) old old kept kept' (Ok AllDone)
    end_goes_on found none finishes goes told =
        let done : Finishes machine counts counts' (Ok None) = subst (λ f. Finishes machine counts counts' (Ok f)) none finishes in (
          text_at_end selection job group counts',
          Puts-kept old kept kept' (text_at_end selection job group counts') told,
          end_goes selection job group machine counts counts' place done.0 done.1 (sym goes),
        )

    pub end_fails : (found : Option Finding) (finding : Finding) → found ≡ Some finding → Finishes machine counts counts' (Ok found) →
        false ≡ is_behind selection (open_page counts')
        → (failure : Failure) → failure ≡ found_at place 1 finding
        → (r : Result Outcome Error) → Keeps kept kept' (found_at_failure selection job group counts' (fails_at None None) failure) r
        → Ended rendering (λ reading. reading ≡ Whole [] place) old old kept kept' r
    end_fails found finding is finishes goes failure failure_is r told =
        let halts : HasRun ((end_of machine).run any_panel) (Halts finding) counts counts' =
        subst (λ f. Finishes machine counts counts' (Ok f)) is finishes in
        kept_ended rendering IsEnd old kept kept'
        (found_at_failure selection job group counts' (fails_at None None) (found_at place 1 finding)) r
        (end_found selection job group machine counts counts' place finding halts (sym goes))
        (subst (λ (f : Failure). Keeps kept kept' (found_at_failure selection job group counts' (fails_at None None) f) r) failure_is told)

-- ---- a fault of the bytes

pub fault_fails : (selection : Selection) (job : List ℕ) (group : Groups) (machine : MachineState) (counts : Counts) (old : OutletState)
    (kept kept' : List ℕ) (place : ℕ) (cause : LexCause) (failure : Failure) →
    failure ≡ fault_at place cause
    → (r : Result Outcome Error) → Keeps kept kept' (found_at_failure selection job group counts (fails_at None None) failure) r
    → Ended (search_from selection job group machine counts) (λ reading. reading ≡ Stopped [] place cause) old old kept kept' r
fault_fails selection job group machine counts old kept kept' place cause failure failure_is r told =
    let rendering : Rendering = search_from selection job group machine counts in
    kept_ended rendering (λ reading. reading ≡ Stopped [] place cause) old kept kept'
    (found_at_failure selection job group counts (fails_at None None) (fault_at place cause)) r
    (record { due = λ reading is. ap rendering.text is; outcome_is = λ reading is. ap rendering.outcome is })
    (subst (λ (f : Failure). Keeps kept kept' (found_at_failure selection job group counts (fails_at None None) f) r) failure_is told)
