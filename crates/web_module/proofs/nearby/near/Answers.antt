use Rattle.std.proofs.Common.{Some, ap, subst, sym}
use Rattle.web_module.specs.Nearby.{IsNearby}
use Rattle.web_module.proofs.NearLines.{nearby_known}
use Rattle.web_module.proofs.nearby.near.Goals as goal

pub returns-in-Ok-clause-near : goal.returns-in-Ok-clause-near
returns-in-Ok-clause-near g c =
    subst (IsNearby c.args.place c.args.job.now) (sym c.of_text.ensures)
    (nearby_known c.args.place _ _ c.args.job.now _ c.in-Ok.ensures
    (ap (λ inner. Some inner.now) c.new-source.ensures.inner))
