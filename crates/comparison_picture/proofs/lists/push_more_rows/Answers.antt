use Rattle.std.proofs.Common.{codes, decimal, refl}
use Rattle.comparison_picture.specs.Lists.{more_rows}
use Rattle.comparison_picture.proofs.Appending.{three_appended}
use Rattle.comparison_picture.proofs.lists.push_more_rows.Goals as goal

pub returns : goal.returns
unfolding more_rows
returns g c =
    three_appended c.extend_from_slice-2.result c.args.text.now.items _ _ _ (codes "<tr><td colspan=\"5\">and ") (decimal c.args.count)
    (codes " more</td></tr>\n") _ c.in_ok-extend_from_slice.ensures.items c.in_ok-push_number.ensures
    c.extend_from_slice-2.ensures.items refl
