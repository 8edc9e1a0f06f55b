use Rattle.std.proofs.Common.{◌≡◌, ◌-◌}
use Rattle.page_comparison.specs.InOrder.{in_order}
use Rattle.page_comparison.specs.Kept.{kept_all}
use Rattle.page_comparison.specs.Pages.{made_marks}
use Rattle.page_comparison.proofs.in_order.tell_in_order.Given as goal

abbrev pub invariant-loop : goal.invariant-loop
invariant-loop g l =
    kept_all (in_order l.setting (l.turns - l.counter) l.at (made_marks l.one) (made_marks l.other)) l.listing
    ≡ kept_all (in_order l.setting l.turns l.initial.at (made_marks l.old) (made_marks l.new)) l.initial.listing
