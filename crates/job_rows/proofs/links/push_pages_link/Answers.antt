use Rattle.std.proofs.Common.{◌∙◌, ◌++◌, List, ℕ, ap, codes, sym}
use Rattle.job_reports.proofs.Appending.{five_appended}
use Rattle.job_rows.specs.Links.{address_of, link}
use Rattle.job_rows.proofs.links.push_pages_link.Goals as goal

abbrev start : List ℕ
start = codes "<p><a href=\""

abbrev behind : List ℕ
behind = codes ".pdf\">All pages as a PDF document</a></p>\n"

pub returns : goal.returns
unfolding link
returns g c =
    let folder : List ℕ = address_of c.args.document.now.folder.now in
    let part : List ℕ = address_of c.last_part.result.now in
    five_appended c.extend_from_slice-3.result c.args.text.now.items _ _ _ _ _ start (address_of c.as_bytes.result.now) (codes "/")
    part behind _
    c.in_ok-extend_from_slice.ensures.items c.in_ok-push_address.ensures c.in_ok-extend_from_slice-2.ensures.items
    c.in_ok-push_address-2.ensures c.extend_from_slice-3.ensures.items
    (ap (λ (name : List ℕ). start ++ folder ++ codes "/" ++ address_of name ++ behind) (sym c.last_part.ensures)
    ∙ ap (λ (path : List ℕ). start ++ address_of path ++ codes "/" ++ part ++ behind) (sym c.as_bytes.ensures.value))
