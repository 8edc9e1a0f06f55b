-- What is found where a page is closed stands in the order of findings.
use Rattle.std.proofs.Common.{◌≡◌, ◌∙◌, Bool, true, false, cond, List, [], ◌∷◌, ◌++◌, Option, None, Some, refl, sym, ap}
use Rattle.pcl_items.specs.declared.pcl.command.Command.{Command}
use Rattle.pcl_items.specs.declared.pcl.command.Command.TheVariants.{Sides, Source, PageSize, Orientation}
use Rattle.pcl_items.specs.declared.pcl.command.DataCommand.TheVariants.{TransparentText, RasterRow}
use Rattle.pcl_items.specs.Items.{Entry, Text, CarriageReturn, LineFeed, FormFeed, Reset, ClearMargins, HalfLineFeed, Parameterized}
use Rattle.pcl_items.specs.Items.{SymbolSet, DefaultFont, EnterFrame, LeaveFrame, Initialize, Set, Move, WithData, ExitLanguage, PjlLine}
use Rattle.pcl_items.specs.Escapes.Value.{Amount}
use Rattle.device_profile.specs.Printer.{Printer}
use Rattle.page_env.specs.declared.finding.Finding.{Finding}
use Rattle.page_env.specs.declared.finding.Finding.TheVariants.{InMacro}
use Rattle.page_env.specs.declared.motion.Feed.{Feed}
use Rattle.page_env.specs.declared.motion.Feed.TheVariants.{Line as WholeLine, HalfLine}
use Rattle.page_env.specs.Effect.{Check, check, first_finding, checking, moving, reading, Transition, Step, Closes, GoesThenCloses}
use Rattle.page_env.specs.Effect.{fails_or}
use Rattle.page_env.specs.JobControl.{sides_checks, set_sides}
use Rattle.page_env.specs.Motion.{at_home, fed_to, is_past_bottom, feed_down, feed_by, carriage_return, line_termination, before_feed}
use Rattle.page_env.specs.Order.{is_in_order}
use Rattle.page_env.specs.PageControl.{source_checks, set_source, size_checks, set_size, orientation_checks, set_orientation}
use Rattle.page_env.specs.Places.{page_and_line_reads}
use Rattle.page_env.specs.Settings.{State, start_state}
use Rattle.page_env.specs.Table.{command_transition, transition_of}
use Rattle.page_machine.specs.declared.nesting.Nesting.{Nesting}
use Rattle.page_machine.specs.declared.nesting.Nesting.TheVariants.{Job, Executed, Called, Overlaid}
use Rattle.page_machine.specs.Macros.{MacroContext}
use Rattle.page_machine.specs.Run.{Run, just, finding_or, effect_run, close_and_change, Halts, Conditions}
use Rattle.promises.specs.Closings.{ClosesInOrder, fixed_line, IsFixedInOrder, FixesInOrder}

-- ---- closings

pub closes_in_order : (context : MacroContext) (nesting : Nesting) (s : State) → ClosesInOrder context nesting s
closes_in_order context Job s = record { ordered = refl; reads_ordered = refl; closes = refl }
closes_in_order context Executed s = record { ordered = refl; reads_ordered = refl; closes = refl }
closes_in_order context Called s = record { ordered = refl; reads_ordered = refl; closes = refl }
closes_in_order context Overlaid s = record { ordered = refl; reads_ordered = refl; closes = refl }

-- ---- changes that set the paper

-- one more check before two lists of them
one_more : (applies : Bool) (finding : Finding) (o p : Option Finding) (r q : Run) → finding_or o r ≡ finding_or p q →
    finding_or (cond applies (Some finding) o) r ≡ finding_or (cond applies (Some finding) p) q
one_more true finding o p r q e = refl
one_more false finding o p r q e = e

-- a check that always applies, behind others
behind_all : (checks : List Check) (run : Run) →
    finding_or (first_finding (checks ++ check true InMacro ∷ [])) run ≡ finding_or (first_finding checks) (just [] (Halts InMacro))
behind_all [] run = refl
behind_all (c ∷ checks) run =
    one_more c.applies c.finding (first_finding (checks ++ check true InMacro ∷ [])) (first_finding checks) run (just [] (Halts InMacro))
    (behind_all checks run)

module _ (conditions : Conditions) (s : State) (change : State → State) where
  -- what comes of the checks' first finding, where the paper is fixed
  refuses : (o : Option Finding) → conditions.fixes_paper ≡ true →
      effect_run conditions (fails_or o (GoesThenCloses s true change)) ≡ finding_or o (just [] (Halts InMacro))
  refuses None fixed = ap (λ b. cond b (just [] (Halts InMacro)) (close_and_change conditions s change)) fixed
  refuses (Some finding) fixed = refl

  checked : (checks : List Check) → is_in_order (fixed_line (checking s checks)) ≡ true →
      IsFixedInOrder conditions s (checking s checks) change
  checked checks ordered = record {
    ordered = ordered;
    found = λ fixed run. refuses (first_finding checks) fixed ∙ sym (behind_all checks run);
  }

module _ (printer : Printer) (conditions : Conditions) (s : State) where
  either_fixes : (b : Bool) (m n : Transition) → FixesInOrder conditions s m → FixesInOrder conditions s n →
      FixesInOrder conditions s (cond b m n)
  either_fixes true m n h k = h
  either_fixes false m n h k = k

  -- a feed sets no paper
  feed_fixes : (by : Feed) (t : State) → FixesInOrder conditions s (feed_by printer t by)
  feed_fixes by t =
      either_fixes (is_past_bottom printer t (fed_to t by)) (Closes (reading t page_and_line_reads) false at_home)
      (Step (feed_down printer t (fed_to t by))) tt tt

  command_fixes : (command : Command) (n : Amount) →
      FixesInOrder conditions s (command_transition printer conditions.defaults s command n)
  command_fixes Sides n = checked conditions s (λ t. set_sides t n) (sides_checks printer n) refl
  command_fixes Source n = checked conditions s (λ t. set_source t n) (source_checks printer n) refl
  command_fixes PageSize n = checked conditions s (λ t. set_size t n) (size_checks printer n) refl
  command_fixes Orientation n =
      checked conditions s (λ t. set_orientation conditions.defaults t n) (orientation_checks printer n) refl
  -- all others set no paper
  command_fixes _ n = tt

  pub item_fixes : (item : Entry) → FixesInOrder conditions s (transition_of printer conditions.defaults s item)
  item_fixes (Text code) = tt
  item_fixes CarriageReturn =
      either_fixes (line_termination s).feeds_at_return (feed_by printer (carriage_return s) WholeLine) (Step (moving (carriage_return s)))
      (feed_fixes WholeLine (carriage_return s)) tt
  item_fixes LineFeed = feed_fixes WholeLine (before_feed (line_termination s) s)
  item_fixes FormFeed = tt
  item_fixes Reset = checked conditions s (λ t. start_state t.items_left conditions.defaults) [] refl
  item_fixes ExitLanguage = checked conditions s (λ t. start_state t.items_left conditions.defaults) [] refl
  item_fixes ClearMargins = tt
  item_fixes HalfLineFeed = feed_fixes HalfLine s
  item_fixes (Parameterized command n) = command_fixes command n
  item_fixes (SymbolSet n letter) = tt
  item_fixes DefaultFont = tt
  item_fixes (EnterFrame handover) = tt
  item_fixes (LeaveFrame handover) = tt
  item_fixes Initialize = tt
  item_fixes (Set setting n) = tt
  item_fixes (Move motion to) = tt
  item_fixes (WithData TransparentText bytes) = tt
  item_fixes (WithData RasterRow bytes) = tt
  item_fixes (PjlLine line) = tt
