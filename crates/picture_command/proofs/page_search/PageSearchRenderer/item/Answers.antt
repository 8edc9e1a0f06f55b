use Rattle.std.proofs.Common.{refl, Ok}
use Rattle.pcl_items.specs.Items.{at, view}
use Rattle.renderings.proofs.Renderings.{item_none}
use Rattle.picture_command.specs.Carriers.{search_from}
use Rattle.picture_command.proofs.Endings.{item_ends, item_fails, item_goes_on}
use Rattle.picture_command.proofs.page_search.PageSearchRenderer.item.Goals as goal

pub returns-in_err-found-clause-rendered : goal.returns-in_err-found-clause-rendered
returns-in_err-found-clause-rendered g c =
    let own = c.args.self.now in
    let before = search_from own.selection own.names.now.job.now own.names.now.printers.now own.machine own.counts in
    let behind = search_from own.selection own.names.now.job.now own.names.now.printers.now c.step_on.new.machine c.step_on.new.counts in
    item_none before behind (at c.args.place (view c.args.item.now))
    (g.W.Outlet.state c.args._outlet.now) c.args.kept.now.items c.args.kept.now.items c.from_residual.result c.from_residual.ensures.0

pub returns-then-is_over-clause-rendered : goal.returns-then-is_over-clause-rendered
returns-then-is_over-clause-rendered g c =
    let own = c.args.self.now in
    item_ends own.selection own.names.now.job.now own.names.now.printers.now own.machine own.counts c.step_on.new.counts
    (g.W.Outlet.state c.args._outlet.now) c.args.kept.now.items c.args.kept.now.items
    (at c.args.place (view c.args.item.now)) c.step_on.new.machine
    c.in_ok-found.found c.in_ok-found.ensures.steps c.if-is_over.ensures refl

pub returns-in-None-clause-rendered : goal.returns-in-None-clause-rendered
returns-in-None-clause-rendered g c =
    let own = c.args.self.now in
    item_goes_on own.selection own.names.now.job.now own.names.now.printers.now own.machine own.counts c.step_on.new.counts
    (g.W.Outlet.state c.args._outlet.now) c.args.kept.now.items c.args.kept.now.items
    (at c.args.place (view c.args.item.now)) c.step_on.new.machine
    c.in_ok-found.found c.in-None.is c.in_ok-found.ensures.steps c.if-is_over.ensures refl

pub returns-in_err-outcome-in-Some-clause-rendered : goal.returns-in_err-outcome-in-Some-clause-rendered
returns-in_err-outcome-in-Some-clause-rendered g c =
    let own = c.args.self.now in
    let before = search_from own.selection own.names.now.job.now own.names.now.printers.now own.machine own.counts in
    let behind = search_from own.selection own.names.now.job.now own.names.now.printers.now c.step_on.new.machine c.step_on.new.counts in
    item_none before behind (at c.args.place (view c.args.item.now)) (g.W.Outlet.state c.args._outlet.now) c.args.kept.now.items
    c.tell_failure.new.text.items c.from_residual-in_err-outcome-in-Some.result c.from_residual-in_err-outcome-in-Some.ensures.0

pub returns-in_ok-outcome-in-Some-clause-rendered : goal.returns-in_ok-outcome-in-Some-clause-rendered
returns-in_ok-outcome-in-Some-clause-rendered g c =
    let own = c.args.self.now in
    item_fails own.selection own.names.now.job.now own.names.now.printers.now own.machine own.counts c.step_on.new.counts
    (g.W.Outlet.state c.args._outlet.now) c.args.kept.now.items c.tell_failure.new.text.items
    (at c.args.place (view c.args.item.now)) c.step_on.new.machine
    c.in_ok-found.found c.in-Some.finding c.in-Some.is c.in_ok-found.ensures.steps c.if-is_over.ensures c.of_finding-failure.result
    c.of_finding-failure.ensures c.of-failing_item.result c.of-failing_item.ensures
    c.is_one_step-one_step.result (c.is_one_step-one_step.ensures (view c.args.item.now) c.of-failing_item.ensures)
    c.spot_where-cursor.result c.spot_where-cursor.ensures
    c.font_where-font.result c.font_where-font.ensures
    (Ok c.in_ok-outcome-in-Some.outcome) c.in_ok-outcome-in-Some.ensures.told
