use Rattle.std.proofs.Common.{◌+◌, ◌*◌, ℕ, length}
use Rattle.page_env.specs.Settings.{state_at}
use Rattle.page_machine.specs.Follows.{TakesUpTo}
use Rattle.page_machine.specs.Macros.{macro_item_run}
use Rattle.page_machine.specs.Run.{entries_run}
use Rattle.page_machine.proofs.Levels.{levels_left}
use Rattle.page_machine.specs.Machine.{conditions_with}
use Rattle.page_machine.proofs.carrying.+run.Given as goal

abbrev pub decreases-run_items : goal.decreases-run_items
decreases-run_items g l = 16 * (levels_left l.around.now.profile.now.depth l.around.now.left l.around.now.nesting) + 15

abbrev pub decreases-run_macro_item : goal.decreases-run_macro_item
decreases-run_macro_item g l = 16 * (levels_left l.around.now.profile.now.depth l.around.now.left l.around.now.nesting) + 14

abbrev pub decreases-run_next : goal.decreases-run_next
decreases-run_next g l = 16 * (levels_left l.around.now.profile.now.depth l.around.now.left l.around.now.nesting) + 13

abbrev pub decreases-run_page_item : goal.decreases-run_page_item
decreases-run_page_item g l = 16 * (levels_left l.around.now.profile.now.depth l.around.now.left l.around.now.nesting) + 12

abbrev pub decreases-go_on : goal.decreases-go_on
decreases-go_on g l = 16 * (levels_left l.around.now.profile.now.depth l.around.now.left l.around.now.nesting) + 10

abbrev pub decreases-run_control : goal.decreases-run_control
decreases-run_control g l = 16 * (levels_left l.around.now.profile.now.depth l.around.now.left l.around.now.nesting) + 9

abbrev pub decreases-run_controlled : goal.decreases-run_controlled
decreases-run_controlled g l = 16 * (levels_left l.around.now.profile.now.depth l.around.now.left l.around.now.nesting) + 8

abbrev pub decreases-execute : goal.decreases-execute
decreases-execute g l = 16 * (levels_left l.around.now.profile.now.depth l.around.now.left l.around.now.nesting) + 7

abbrev pub decreases-call : goal.decreases-call
decreases-call g l = 16 * (levels_left l.around.now.profile.now.depth l.around.now.left l.around.now.nesting) + 7

abbrev pub decreases-run_body : goal.decreases-run_body
decreases-run_body g l = 16 * (levels_left l.around.now.profile.now.depth l.around.now.left l.nesting) + 0

abbrev pub decreases-close_and_change : goal.decreases-close_and_change
decreases-close_and_change g l = 16 * (levels_left l.around.now.profile.now.depth 0 l.around.now.nesting) + 8

abbrev pub decreases-close_marked : goal.decreases-close_marked
decreases-close_marked g l = 16 * (levels_left l.around.now.profile.now.depth 0 l.around.now.nesting) + 7

abbrev pub decreases-close_page : goal.decreases-close_page
decreases-close_page g l = 16 * (levels_left l.around.now.profile.now.depth 0 l.around.now.nesting) + 6

abbrev pub decreases-page_close : goal.decreases-page_close
decreases-page_close g l = 16 * (l.around.now.profile.now.depth + 1) + 5

abbrev pub decreases-run_overlay : goal.decreases-run_overlay
decreases-run_overlay g l = 16 * (l.around.now.profile.now.depth + 1) + 4

abbrev pub decreases-run_items-loop-item : goal.decreases-run_items-loop-item
decreases-run_items-loop-item g l = length l.body

abbrev pub invariant-run_items-loop-item : goal.invariant-run_items-loop-item
invariant-run_items-loop-item g l =
    (level : ℕ) → TakesUpTo g.S.MarkSink.takes l.fn.sink l.sink
    (λ panel. entries_run (macro_item_run l.around.profile.now (conditions_with l.around level panel)) l.fn.body (state_at panel l.fn.page))
    (λ panel. entries_run (macro_item_run l.around.profile.now (conditions_with l.around level panel)) l.body (state_at panel l.page))
