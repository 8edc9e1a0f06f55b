use Rattle.std.proofs.Common.{◌≡◌, ◌+◌, ◌-◌, find}
use Rattle.page_comparison.specs.InOrder.{is_resumed, leavings}
use Rattle.page_comparison.specs.Pages.{made_marks}
use Rattle.page_comparison.proofs.turn.first_resumed.Given as goal

abbrev pub invariant-loop-before : goal.invariant-loop-before
invariant-loop-before g l =
    find (is_resumed l.within (made_marks l.old) (made_marks l.new)) (leavings (l.before + 1) (l.most - l.before))
    ≡ find (is_resumed l.within (made_marks l.old) (made_marks l.new)) (leavings 1 l.most)
