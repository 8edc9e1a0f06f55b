use Rattle.std.proofs.Common.{map, ap, ◌∙◌, arith}
use Rattle.many_jobs.specs.CheckMany.{limited}
use Rattle.many_jobs.proofs.Limiting.{written_back}
use Rattle.many_jobs.proofs.limited.limited_fleet.Goals as goal

pub returns : goal.returns
returns g c =
    let old = c.args.fleet in
    let new = c.limit_each.new.fleet in
    written_back old.len old.items new (omega (arith, c.limit_each.auto.fleet, c.deref_mut.ensures.len)) (omega (arith, old.ok.0))
    ∙ (c.limit_each.ensures ∙ ap (map (limited c.args.most)) c.deref_mut.ensures.value)
