use Rattle.std.proofs.Common.{◌++◌, codes, sym}
use Rattle.comparison_picture.specs.Lists.{change_name, line_text, new_places, old_places}
use Rattle.comparison_picture.proofs.Appending.{four_told}
use Rattle.comparison_picture.proofs.lists.push_line.Goals as goal

pub returns : goal.returns
unfolding line_text
returns g c =
    let difference = c.args.difference.now in
    four_told c.push_new_places.result c.args.text.now.items _ _ _ _ (codes "<tspan x=\"10\" dy=\"17\">")
    c.change_name.result.now (old_places difference) (new_places difference) _ c.in_ok-extend_from_slice.ensures.items
    c.in_ok-extend_from_slice-2.ensures.items c.in_ok-push_old_places.ensures c.push_new_places.ensures
    (λ i. codes "<tspan x=\"10\" dy=\"17\">" ++ sym c.change_name.ensures i ++ old_places difference ++ new_places difference)
