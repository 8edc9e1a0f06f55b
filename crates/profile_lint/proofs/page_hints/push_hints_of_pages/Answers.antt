use Rattle.profile_lint.specs.PageHints.{page_hints}
use Rattle.profile_lint.proofs.Loops.{further_item, of_all}
use Rattle.profile_lint.proofs.page_hints.push_hints_of_pages.Goals as goal

pub loop-page-preserved : goal.loop-page-preserved
loop-page-preserved g c =
    further_item page_hints c.args.pages.now c.loop-page.page-index c.page-item.result
    c.args.hints.now.items c.loop-page.hints.items c.push_page_hints.new.hints.items
    c.loop-page-test.true c.page-item.is c.loop-page.invariant c.in_ok-push_page_hints.ensures

pub returns : goal.returns
returns g c =
    of_all page_hints c.args.pages.now c.loop-page.page-index c.args.hints.now.items c.loop-page.hints.items
    c.loop-page-test.false c.loop-page.invariant
