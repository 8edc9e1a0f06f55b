use Rattle.std.proofs.Common.{◌≡◌, ◌-◌, find}
use Rattle.page_comparison.specs.InOrder.{is_resumed, splits}
use Rattle.page_comparison.specs.Pages.{made_marks}
use Rattle.page_comparison.proofs.turn.resumed_by.Given as goal

abbrev pub invariant-loop-count : goal.invariant-loop-count
invariant-loop-count g l =
    find (is_resumed l.within (made_marks l.old) (made_marks l.new)) (splits l.count (l.together - l.count))
    ≡ find (is_resumed l.within (made_marks l.old) (made_marks l.new)) (splits 0 l.together)
