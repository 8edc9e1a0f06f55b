use Rattle.std.proofs.Common.{◌≡◌, ◌++◌, drop}
use Rattle.page_comparison.specs.Pages.{made_marks}
use Rattle.comparison_picture.specs.Marks.{marks_drawn}
use Rattle.comparison_picture.proofs.marks.push_marks.Given as goal

abbrev pub invariant-loop-mark : goal.invariant-loop-mark
invariant-loop-mark g l =
    l.text.items ++ marks_drawn l.layer l.left (made_marks (drop l.mark-index l.marks))
    ≡ l.initial.text.items ++ marks_drawn l.layer l.flags (made_marks l.marks)
