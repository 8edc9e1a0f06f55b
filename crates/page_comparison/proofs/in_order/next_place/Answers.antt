use Rattle.std.proofs.Common.{◌≡◌, List, ap, arith, length, sym}
use Rattle.page_comparison.specs.Pages.{MadeMark, made_marks}
use Rattle.page_comparison.specs.Told.{next_place}
use Rattle.page_comparison.proofs.Turns.{first_of, no_marks}
use Rattle.page_comparison.proofs.in_order.next_place.Goals as goal

pub returns-in-empty : goal.returns-in-empty
returns-in-empty g c =
    let none : length c.args.marks.now ≡ 0 = omega arith in
    ap (λ (l : List MadeMark). next_place c.args.end l) (sym (no_marks c.args.marks.now none))

pub returns-in-len1-up : goal.returns-in-len1-up
returns-in-len1-up g c =
    sym
    (ap (λ l. next_place c.args.end (made_marks l))
    (first_of c.args.marks.now c.mark-item.result c.in-len1-up.len_at_least c.mark-item.is))
