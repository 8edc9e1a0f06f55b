use Rattle.std.proofs.Common.{◌≡◌, ◌++◌, drop}
use Rattle.page_comparison.specs.Pages.{made_marks}
use Rattle.comparison_picture.specs.Differing.{unflagged}
use Rattle.comparison_picture.proofs.differing.unflagged.Given as goal

abbrev pub invariant-loop-mark : goal.invariant-loop-mark
invariant-loop-mark g l =
    l.flags.items ++ unflagged (made_marks (drop l.mark-index l.marks)) ≡ unflagged (made_marks l.marks)
