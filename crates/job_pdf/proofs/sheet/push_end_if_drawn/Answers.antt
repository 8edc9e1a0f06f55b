use Rattle.std.proofs.Common.{◌≡◌, ◌∙◌, true, false, ap, sym}
use Rattle.page_pdf.specs.Document.{end_written}
use Rattle.requests.specs.Selection.{is_drawn}
use Rattle.job_pdf.proofs.Sheets.{where_not, where_written}
use Rattle.job_pdf.proofs.sheet.push_end_if_drawn.Goals as goal

pub returns-then-is_drawn : goal.returns-then-is_drawn
returns-then-is_drawn g c =
    let old = c.args.document.now in
    let sheet = c.args.sheet.now in
    let drawn : true ≡ is_drawn sheet.selection old.page =
    sym c.if-is_drawn.true ∙ (c.is_drawn-is_drawn.ensures ∙ ap (is_drawn sheet.selection) c.page.ensures) in
    where_written c.end_page.result (end_written sheet.page c.args.end old) old c.end_page.new.self c.args.text.now.items
    c.end_page.new.text.items (is_drawn sheet.selection old.page) drawn c.end_page.ensures

pub returns : goal.returns
returns g c =
    let old = c.args.document.now in
    let sheet = c.args.sheet.now in
    let not_drawn : false ≡ is_drawn sheet.selection old.page =
    sym c.if-is_drawn.false ∙ (c.is_drawn-is_drawn.ensures ∙ ap (is_drawn sheet.selection) c.page.ensures) in
    where_not (end_written sheet.page c.args.end old) old c.args.text.now.items (is_drawn sheet.selection old.page) not_drawn
