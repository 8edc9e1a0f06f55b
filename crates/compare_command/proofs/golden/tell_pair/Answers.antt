use Rattle.std.proofs.Common.{map, refl}
use Rattle.many_jobs.specs.JobChecks.{work}
use Rattle.compare_command.specs.Compare.{asked_for}
use Rattle.compare_command.proofs.Pairs.{pair_cut, pair_told}
use Rattle.compare_command.proofs.golden.tell_pair.Goals as goal

pub returns-in_default-clause-cut : goal.returns-in_default-clause-cut
returns-in_default-clause-cut g c = refl

pub returns-clause-told : goal.returns-clause-told
returns-clause-told g c =
    let told = c.in-Ok.told in
    pair_told (asked_for c.args.asked.now) c.args.printers.now.fleet.items (map (λ name. name.items) c.args.printers.now.names.items)
    (g.J.Jobs.start c.args.jobs.now) (work (g.O.Outlet.state c.args.stdout.now) (g.J.Jobs.ended c.args.jobs.now))
    (work (g.O.Outlet.state c.write_told.new.stdout) (g.J.Jobs.ended c.told_of_pair.new.jobs)) told.text.items c.as_slice.result.now
    told.ending c.as_slice.ensures.value c.in-Ok.ensures.told c.write_told.result c.write_told.ensures.ending
    c.write_told.ensures.written

pub returns-clause-cut : goal.returns-clause-cut
returns-clause-cut g c =
    let told = c.in-Ok.told in
    pair_cut (asked_for c.args.asked.now) c.args.printers.now.fleet.items (map (λ name. name.items) c.args.printers.now.names.items)
    (g.J.Jobs.start c.args.jobs.now) (work (g.O.Outlet.state c.args.stdout.now) (g.J.Jobs.ended c.args.jobs.now))
    (work (g.O.Outlet.state c.write_told.new.stdout) (g.J.Jobs.ended c.told_of_pair.new.jobs)) told.text.items c.as_slice.result.now
    told.ending c.as_slice.ensures.value c.in-Ok.ensures.told c.write_told.result c.write_told.ensures.error
    c.write_told.ensures.failed c.write_told.ensures.front
