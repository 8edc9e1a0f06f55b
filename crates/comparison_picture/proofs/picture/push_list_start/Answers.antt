use Rattle.std.proofs.Common.{codes, decimal, refl}
use Rattle.shown_bytes.specs.Lengths.{signed_hundredths}
use Rattle.comparison_picture.specs.Picture.{list_start, pixels}
use Rattle.comparison_picture.proofs.Appending.{five_appended}
use Rattle.comparison_picture.proofs.picture.push_list_start.Goals as goal

pub returns : goal.returns
unfolding list_start
returns g c =
    five_appended c.extend_from_slice-3.result c.args.text.now.items _ _ _ _ _ (codes "<text transform=\"translate(")
    (signed_hundredths (pixels c.args.paper.now.page_width 0))
    (codes ")\" y=\"8\" font-family=\"sans-serif\" font-size=\"12\"><tspan x=\"10\" dy=\"17\" font-weight=\"bold\">Page ")
    (decimal c.args.number)
    (codes "</tspan><tspan class=\"old\" x=\"150\">OLD</tspan><tspan class=\"new\" x=\"310\">NEW</tspan>\n") _
    c.in_ok-extend_from_slice.ensures.items c.in_ok-push_list_left.ensures c.in_ok-extend_from_slice-2.ensures.items
    c.in_ok-push_number.ensures c.extend_from_slice-3.ensures.items
    refl
