use Rattle.std.proofs.Common.{◌≡◌, drop}
use Rattle.page_comparison.specs.Kept.{kept_all}
use Rattle.page_comparison.specs.Pages.{made_marks}
use Rattle.page_comparison.specs.Told.{only_new}
use Rattle.page_comparison.proofs.in_order.tell_only_new.Given as goal

abbrev pub invariant-loop-mark : goal.invariant-loop-mark
invariant-loop-mark g l =
    kept_all (only_new l.old_place l.at (made_marks (drop l.mark-index l.marks))) l.listing
    ≡ kept_all (only_new l.old_place l.initial.at (made_marks l.marks)) l.initial.listing
