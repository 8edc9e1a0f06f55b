use Rattle.std.proofs.Common.{map, option_map, subst, sym}
use Rattle.many_jobs.specs.Asked.{asked_for}
use Rattle.many_requests.specs.Checks.{LeavesWith}
use Rattle.many_requests.proofs.many.check_with_documents.Goals as goal

pub returns-in-None : goal.returns-in-None
returns-in-None g c =
    subst
    (λ folder. LeavesWith (option_map (λ word. word.now) folder) (option_map (λ path. path.now) c.args.names_from)
    (map (λ path. path.now) c.args.fleets.now) (asked_for c.args.many.now) c.check_all.result c.args.used.now c.check_all.new.used
    (g.O.Outlet.state c.args.stdout.now) (g.O.Outlet.state c.check_all.new.stdout)
    (g.E.Outlet.state c.args.stderr.now) (g.E.Outlet.state c.check_all.new.stderr))
    (sym c.in-None.is) c.check_all.ensures

pub returns-in-Some : goal.returns-in-Some
returns-in-Some g c =
    subst
    (λ folder. LeavesWith (option_map (λ word. word.now) folder) (option_map (λ path. path.now) c.args.names_from)
    (map (λ path. path.now) c.args.fleets.now) (asked_for c.args.many.now) c.check_into.result c.args.used.now c.check_into.new.used
    (g.O.Outlet.state c.args.stdout.now) (g.O.Outlet.state c.check_into.new.stdout)
    (g.E.Outlet.state c.args.stderr.now) (g.E.Outlet.state c.check_into.new.stderr))
    (sym c.in-Some.is) c.check_into.ensures
