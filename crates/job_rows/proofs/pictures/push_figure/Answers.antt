use Rattle.std.proofs.Common.{◌++◌, List, ℕ, ap, codes, sym}
use Rattle.job_reports.proofs.Appending.{five_appended}
use Rattle.job_rows.specs.Pictures.{address_text, figure}
use Rattle.job_rows.proofs.pictures.push_figure.Goals as goal

abbrev behind : List ℕ
behind =
    codes "</figcaption>\n<img loading=\"lazy\" alt=\"The page\" src=\"data:image/svg+xml;base64,"

pub returns : goal.returns
unfolding figure
returns g c =
    let picture : List ℕ = address_text c.args.picture.now in
    five_appended c.extend_from_slice-4.result c.args.text.now.items _ _ _ _ _ (codes "<figure>\n<figcaption>") _ behind picture
    (codes "\">\n</figure>\n") _
    c.in_ok-extend_from_slice.ensures.items c.in_ok-extend_from_slice-2.ensures.items c.in_ok-extend_from_slice-3.ensures.items
    c.in_ok-push_address.ensures c.extend_from_slice-4.ensures.items
    (ap (λ (words : List ℕ). codes "<figure>\n<figcaption>" ++ words ++ behind ++ picture ++ codes "\">\n</figure>\n")
    (sym c.caption.ensures))
