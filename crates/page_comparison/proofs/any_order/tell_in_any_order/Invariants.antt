use Rattle.std.proofs.Common.{◌≡◌, ◌+◌, ◌≤◌, drop, length}
use Rattle.page_comparison.specs.AnyOrder.{all_in_any_order, in_any_order}
use Rattle.page_comparison.specs.Kept.{kept_all}
use Rattle.page_comparison.specs.Pages.{made_marks}
use Rattle.page_comparison.proofs.any_order.tell_in_any_order.Given as goal

abbrev pub invariant-loop-index : goal.invariant-loop-index
invariant-loop-index g l = record {
  told : kept_all (in_any_order l.setting (made_marks l.new) (l.index + 1) l.bag (made_marks (drop l.index l.old))) l.listing
      ≡ kept_all (all_in_any_order l.setting (made_marks l.old) (made_marks l.new)) l.initial.listing;
  long : length l.bag.taken ≡ length l.new;
  inside : l.index ≤ length l.old;
}
