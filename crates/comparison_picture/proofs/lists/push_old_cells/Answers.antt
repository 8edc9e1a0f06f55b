use Rattle.std.proofs.Common.{codes, decimal, refl}
use Rattle.comparison_picture.specs.Lists.{old_cells}
use Rattle.comparison_picture.proofs.Appending.{four_told}
use Rattle.comparison_picture.proofs.lists.push_old_cells.Goals as goal

pub returns : goal.returns
unfolding old_cells
returns g c =
    let difference = c.args.difference.now in
    four_told c.push_number-2.result c.args.text.now.items _ _ _ _ (codes "</td><td class=\"old\">")
    (decimal difference.old_mark) (codes "</td><td class=\"old\">") (decimal difference.old_place) _
    c.in_ok-extend_from_slice.ensures.items c.in_ok-push_number.ensures c.in_ok-extend_from_slice-2.ensures.items
    c.push_number-2.ensures refl
