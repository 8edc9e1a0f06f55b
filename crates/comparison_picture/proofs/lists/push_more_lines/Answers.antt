use Rattle.std.proofs.Common.{codes, decimal, refl}
use Rattle.comparison_picture.specs.Lists.{more_lines}
use Rattle.comparison_picture.proofs.Appending.{three_appended}
use Rattle.comparison_picture.proofs.lists.push_more_lines.Goals as goal

pub returns : goal.returns
unfolding more_lines
returns g c =
    three_appended c.extend_from_slice-2.result c.args.text.now.items _ _ _ (codes "<tspan x=\"10\" dy=\"17\">and ") (decimal c.args.count)
    (codes " more</tspan>\n") _ c.in_ok-extend_from_slice.ensures.items c.in_ok-push_number.ensures
    c.extend_from_slice-2.ensures.items refl
