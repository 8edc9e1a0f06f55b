use Rattle.std.proofs.Common.{◌≡◌, refl, []}
use Rattle.pcl_lexer.specs.Reading.{Whole}
use Rattle.renderings.proofs.Renderings.{end_none}
use Rattle.picture_command.specs.Carriers.{search_from}
use Rattle.picture_command.proofs.Endings.{end_ends, end_fails, end_goes_on}
use Rattle.picture_command.proofs.page_search.PageSearchRenderer.end.Goals as goal

pub returns-in_err-found-clause-rendered : goal.returns-in_err-found-clause-rendered
returns-in_err-found-clause-rendered g c =
    let own = c.args.self.now in
    end_none (search_from own.selection own.names.now.job.now own.names.now.printers.now own.machine own.counts)
    (λ reading. reading ≡ Whole [] c.args.place)
    (g.W.Outlet.state c.args._outlet.now) c.args.kept.now.items c.args.kept.now.items c.from_residual.result c.from_residual.ensures.0

pub returns-then-is_over-clause-rendered : goal.returns-then-is_over-clause-rendered
returns-then-is_over-clause-rendered g c =
    let own = c.args.self.now in
    end_ends own.selection own.names.now.job.now own.names.now.printers.now own.machine own.counts c.finish_on.new.counts
    (g.W.Outlet.state c.args._outlet.now) c.args.kept.now.items c.args.kept.now.items c.args.place
    c.in_ok-found.found c.in_ok-found.ensures.finishes c.if-is_over.ensures refl

pub returns-in_err-push_end-in-None-clause-rendered : goal.returns-in_err-push_end-in-None-clause-rendered
returns-in_err-push_end-in-None-clause-rendered g c =
    let own = c.args.self.now in
    end_none (search_from own.selection own.names.now.job.now own.names.now.printers.now own.machine own.counts)
    (λ reading. reading ≡ Whole [] c.args.place) (g.W.Outlet.state c.args._outlet.now) c.args.kept.now.items c.push_end.new.text.items
    c.from_residual-in_err-push_end-in-None.result c.from_residual-in_err-push_end-in-None.ensures.0

pub returns-in_ok-push_end-in-None-clause-rendered : goal.returns-in_ok-push_end-in-None-clause-rendered
returns-in_ok-push_end-in-None-clause-rendered g c =
    let own = c.args.self.now in
    end_goes_on own.selection own.names.now.job.now own.names.now.printers.now own.machine own.counts c.finish_on.new.counts
    (g.W.Outlet.state c.args._outlet.now) c.args.kept.now.items c.push_end.new.text.items c.args.place
    c.in_ok-found.found c.in-None.is c.in_ok-found.ensures.finishes c.if-is_over.ensures c.in_ok-push_end-in-None.ensures

pub returns-in-Some-clause-rendered : goal.returns-in-Some-clause-rendered
returns-in-Some-clause-rendered g c =
    let own = c.args.self.now in
    end_fails own.selection own.names.now.job.now own.names.now.printers.now own.machine own.counts c.finish_on.new.counts
    (g.W.Outlet.state c.args._outlet.now) c.args.kept.now.items c.tell_failure.new.text.items c.args.place
    c.in_ok-found.found c.in-Some.finding c.in-Some.is c.in_ok-found.ensures.finishes c.if-is_over.ensures
    c.of_finding-failure.result c.of_finding-failure.ensures
    c.tell_failure.result c.tell_failure.ensures.told
