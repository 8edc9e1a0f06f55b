use Rattle.std.proofs.Common.{◌≡◌, drop}
use Rattle.page_comparison.specs.Kept.{kept_all}
use Rattle.page_comparison.specs.Pages.{made_marks}
use Rattle.page_comparison.specs.Told.{left_out}
use Rattle.page_comparison.proofs.in_order.tell_left_out.Given as goal

abbrev pub invariant-loop-index : goal.invariant-loop-index
invariant-loop-index g l =
    kept_all (left_out l.within l.next.0 l.next.1 l.at (made_marks (drop l.index l.old)) (made_marks (drop l.index l.new))) l.listing
    ≡ kept_all (left_out l.within l.next.0 l.next.1 l.initial.at (made_marks l.old) (made_marks l.new)) l.initial.listing
