use Rattle.std.proofs.Common.{◌≡◌, ◌∙◌, false, not, ◌&&◌, pos, sym, rules}
use Rattle.std.specs.Prelude.{int_lt, is_none}
use Rattle.pcl_items.specs.Items.{amount}
use Rattle.page_env.specs.Rectangles.{fill_of}
use Rattle.page_env.proofs.FormFacts.{fill_goes, lies_from}
use Rattle.page_env.proofs.forms.fill_on.Goals as goal

pub returns-clause-goes : goal.returns-clause-goes
returns-clause-goes c = λ printer has.
    let page = c.args.page.now in
    let bounds = c.args.bounds.now in
    let n = amount c.args.n in
    let job = page.env.job in
    let corner = c.on_sheet-corner.result in
    let fills : is_none (fill_of job n) ≡ false = search rules in
    let some : not (int_lt (pos 0) job.rectangle_width && int_lt (pos 0) job.rectangle_height) ≡ false =
    sym c.is_empty.ensures ∙ c.if-is_empty.false in
    let lies =
    lies_from bounds.area corner.x corner.y job.rectangle_width job.rectangle_height some (c.lies_on.ensures c.if-not-lies_on.false) in
    fill_goes printer page bounds has n corner.x corner.y c.in_ok-y.y fills some c.in_ok-y.was c.on_sheet-corner.ensures.x
    c.on_sheet-corner.ensures.y lies
