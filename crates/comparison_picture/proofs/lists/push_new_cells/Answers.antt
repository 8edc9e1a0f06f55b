use Rattle.std.proofs.Common.{codes, decimal, refl}
use Rattle.comparison_picture.specs.Lists.{new_cells}
use Rattle.comparison_picture.proofs.Appending.{five_appended}
use Rattle.comparison_picture.proofs.lists.push_new_cells.Goals as goal

pub returns : goal.returns
unfolding new_cells
returns g c =
    let difference = c.args.difference.now in
    five_appended c.extend_from_slice-3.result c.args.text.now.items _ _ _ _ _ (codes "</td><td class=\"new\">")
    (decimal difference.new_mark) (codes "</td><td class=\"new\">") (decimal difference.new_place) (codes "</td></tr>\n") _
    c.in_ok-extend_from_slice.ensures.items c.in_ok-push_number.ensures c.in_ok-extend_from_slice-2.ensures.items
    c.in_ok-push_number-2.ensures c.extend_from_slice-3.ensures.items refl
