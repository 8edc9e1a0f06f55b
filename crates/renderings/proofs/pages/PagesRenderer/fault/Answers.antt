use Rattle.std.proofs.Common.{refl, sym, [], append-nil}
use Rattle.pcl_lexer.specs.Reading.{Stopped}
use Rattle.renderings.specs.Carriers.PageRendering.{pages_from}
use Rattle.renderings.proofs.Renderings.{last_told}
use Rattle.renderings.proofs.pages.PagesRenderer.fault.Goals as goal

pub returns-clause-rendered : goal.returns-clause-rendered
returns-clause-rendered g c =
    let kept = c.args._kept.now.items in
    last_told (pages_from c.args.self.now.machine c.args.self.now.page) (Stopped [] c.args.fault.place c.args.fault.cause)
    (g.W.Outlet.state c.args._outlet.now) kept kept [] c.of_fault.result (sym (append-nil kept)) refl (sym c.of_fault.ensures)
