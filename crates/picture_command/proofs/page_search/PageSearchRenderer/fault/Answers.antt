use Rattle.picture_command.proofs.Endings.{fault_fails}
use Rattle.picture_command.proofs.page_search.PageSearchRenderer.fault.Goals as goal

pub returns-clause-rendered : goal.returns-clause-rendered
returns-clause-rendered g c =
    let own = c.args.self.now in
    fault_fails own.selection own.names.now.job.now own.names.now.printers.now own.machine own.counts
    (g.W.Outlet.state c.args._outlet.now) c.args.kept.now.items c.tell_failure.new.text.items c.args.fault.place c.args.fault.cause
    c.of_fault.result c.of_fault.ensures c.tell_failure.result c.tell_failure.ensures.told
