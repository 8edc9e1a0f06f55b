use Rattle.std.proofs.Common.{map, option_map, subst, sym}
use Rattle.std.specs.Prelude.{IfErr, IsSomeAnd}
use Rattle.std.proofs.lemmas.Result.{IfOk-weaker}
use Rattle.job_reports.specs.Refusals.{TellsOfNames}
use Rattle.many_requests.specs.Names.{AreNamesAt}
use Rattle.many_requests.proofs.names.read_names.Goals as goal

pub returns-clause-read : goal.returns-clause-read
returns-clause-read g c =
    IfOk-weaker c.read_named.result _ _
    (λ names bytes.
    subst (λ path. AreNamesAt (option_map (λ path. path.now) path) c.args.used.now c.read_named.new.used names.items)
    (sym c.in-Some.is) bytes)
    c.read_named.ensures.read

pub returns-clause-end : goal.returns-clause-end
returns-clause-end g c =
    subst
    (λ path. IfErr c.read_named.result (λ status.
    IsSomeAnd path (λ path. TellsOfNames path.now status (g.E.Outlet.state c.args.stderr.now) (g.E.Outlet.state c.read_named.new.stderr))))
    (sym c.in-Some.is)
    c.read_named.ensures.end
