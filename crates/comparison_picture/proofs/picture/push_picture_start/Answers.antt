use Rattle.std.proofs.Common.{codes, refl}
use Rattle.comparison_picture.specs.Picture.{picture_sides, picture_start, picture_view}
use Rattle.comparison_picture.proofs.Appending.{five_appended}
use Rattle.comparison_picture.proofs.picture.push_picture_start.Goals as goal

pub returns : goal.returns
unfolding picture_start
returns g c =
    let paper = c.args.paper.now in
    five_appended c.extend_from_slice-3.result c.args.text.now.items _ _ _ _ _
    (codes "<svg xmlns=\"http://www.w3.org/2000/svg\" width=\"") (picture_sides paper) (codes "\" viewBox=\"0 0 ")
    (picture_view paper) (codes "\">\n") _ c.in_ok-extend_from_slice.ensures.items c.in_ok-push_sides.ensures
    c.in_ok-extend_from_slice-2.ensures.items c.in_ok-push_view.ensures c.extend_from_slice-3.ensures.items refl
