use Rattle.std.proofs.Common.{ap, inl, inr, map, refl}
use Rattle.compare_command.proofs.golden.compare_golden.Goals as goal

pub compare_pairs-requires : goal.compare_pairs-requires
compare_pairs-requires g c = λ k. ((refl, tt), c.requires.stdout)

pub returns-in-Ok-clause-left : goal.returns-in-Ok-clause-left
returns-in-Ok-clause-left g c =
    inl (
      c.in-Ok.printers.fleet.items,
      map (λ name. name.items) c.in-Ok.printers.names.items,
      c.in-Ok.ensures.printers,
      c.compare_pairs.ensures,
      ap g.E.Outlet.state c.in-Ok.ensures.quiet,
    )

pub returns-in-Err-clause-left : goal.returns-in-Err-clause-left
returns-in-Err-clause-left g c = inr (c.in-Err.ensures.refused, refl)
