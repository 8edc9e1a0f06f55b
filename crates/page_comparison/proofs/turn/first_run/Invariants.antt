use Rattle.std.proofs.Common.{◌≡◌, ◌+◌, ◌-◌, find}
use Rattle.page_comparison.specs.InOrder.{is_resumed, runs}
use Rattle.page_comparison.specs.Pages.{made_marks}
use Rattle.page_comparison.proofs.turn.first_run.Given as goal

abbrev pub invariant-loop-before : goal.invariant-loop-before
invariant-loop-before g l =
    find (is_resumed l.within (made_marks l.old) (made_marks l.new)) (runs (l.before + 65) (l.most - l.before))
    ≡ find (is_resumed l.within (made_marks l.old) (made_marks l.new)) (runs 65 l.most)
