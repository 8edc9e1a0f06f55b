-- The order of what is found where a page is closed, and where a change sets a paper that is fixed.
use Rattle.std.specs.Prelude.{◌≡◌, ◌&&◌, not, Bool, true, false, [], ◌∷◌, ◌++◌}
use Rattle.device_profile.specs.Printer.{Printer}
use Rattle.page_env.specs.declared.finding.Finding.TheVariants.{MacroDepth, InMacro}
use Rattle.page_env.specs.Effect.{check, first_finding, first_unset, TableLine, reading, Transition, Closes, Behind}
use Rattle.page_env.specs.Order.{is_in_order, reads_in_order}
use Rattle.page_env.specs.Settings.{Settings, State}
use Rattle.page_machine.specs.declared.nesting.Nesting.{Nesting}
use Rattle.page_machine.specs.declared.nesting.Nesting.TheVariants.{Overlaid}
use Rattle.page_machine.specs.Macros.{MacroContext, closing_reads, ended, overlay_run, is_too_deep, close_in}
use Rattle.page_machine.specs.Run.{Run, followed_by, finding_or, unset_or, Conditions, transition_run}

-- the first finding of a line, in the order of its checks and reads, or else this run
abbrev pub judged_run : Settings → TableLine → Run → Run
judged_run settings line run =
    finding_or (first_finding line.checks_before)
    (unset_or (first_unset settings line.reads) (finding_or (first_finding line.checks_after) run))

-- ---- closings

abbrev pub is_overlaid : Nesting → Bool
is_overlaid Overlaid = true
is_overlaid _ = false

-- the closing of a page as a line: 21 where its overlay has no level, 23 in an overlay, and what it reads
abbrev pub closing_line : Printer → Nesting → State → TableLine
closing_line printer nesting s = record (reading s closing_reads) {
  checks_before =
      check (not (is_overlaid nesting) && is_too_deep printer s) MacroDepth ∷ check (is_overlaid nesting) InMacro ∷ [];
}

-- A closing is a step of its own: its checks and its reads stand in the one order of findings, and it comes to the
-- first of these, or else to the overlay and the end of the page.
pub record ClosesInOrder (context : MacroContext) (nesting : Nesting) (s : State) : Type 0 where
  pub ordered : is_in_order (closing_line context.printer nesting s) ≡ true
  pub reads_ordered : reads_in_order (closing_line context.printer nesting s) ≡ true
  pub closes : close_in context nesting s
      ≡ judged_run s.settings (closing_line context.printer nesting s)
      (followed_by (overlay_run context s s.settings.job.overlay) ended)

-- ---- changes that set the paper

-- a line whose last check finds that the paper is fixed
abbrev pub fixed_line : TableLine → TableLine
fixed_line line = record line { checks_before = line.checks_before ++ check true InMacro ∷ [] }

-- Where the paper is fixed, that is found in its place behind the line's own checks, and nothing is closed.
pub record IsFixedInOrder (conditions : Conditions) (s : State) (line : TableLine)
    (change : State → State) : Type 0 where
  pub ordered : is_in_order (fixed_line line) ≡ true
  pub found : conditions.fixes_paper ≡ true → (run : Run) →
      transition_run conditions s (Closes line true change) ≡ judged_run s.settings (fixed_line line) run

-- so it is with each transition that sets the paper
abbrev pub FixesInOrder : Conditions → State → Transition → Type 0
FixesInOrder conditions s (Closes line true change) = IsFixedInOrder conditions s line change
FixesInOrder conditions s (Behind reads transition) = FixesInOrder conditions s transition
FixesInOrder conditions s _ = Unit {0}
