use Rattle.std.proofs.Common.{◌≡◌, ◌+◌, drop}
use Rattle.page_comparison.specs.AnyOrder.{free_told}
use Rattle.page_comparison.specs.Kept.{kept_all}
use Rattle.page_comparison.specs.Pages.{made_marks}
use Rattle.page_comparison.proofs.any_order.tell_free.Given as goal

abbrev pub invariant-loop-index : goal.invariant-loop-index
invariant-loop-index g l =
    kept_all (free_told l.setting l.old_mark (l.index + 1) (made_marks (drop l.index l.new)) (drop l.index l.bag.taken)) l.listing
    ≡ kept_all (free_told l.setting l.old_mark 1 (made_marks l.new) l.bag.taken) l.initial.listing
