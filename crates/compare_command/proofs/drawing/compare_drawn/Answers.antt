use Rattle.std.proofs.Common.{IsFalse, inl, inr, map, refl, subst, sym}
use Rattle.compare_command.specs.Compare.{asked_for}
use Rattle.compare_command.specs.Drawing.{LeavesDrawnFor}
use Rattle.compare_command.proofs.drawing.compare_drawn.Goals as goal

pub draw_on_printers-requires : goal.draw_on_printers-requires
draw_on_printers-requires g c =
    λ k. (
      (refl, tt),
      (
        c.requires.out,
        (c.requires.stdout, subst (λ stderr. IsFalse (g.E.Outlet.state stderr).failed) (sym c.in-Ok.ensures.quiet) c.requires.stderr),
      ),
    )

pub returns-in-Ok-clause-left : goal.returns-in-Ok-clause-left
returns-in-Ok-clause-left g c =
    let fleet = c.in-Ok.printers.fleet.items in
    let names = map (λ name. name.items) c.in-Ok.printers.names.items in
    inl (
      fleet,
      names,
      c.in-Ok.ensures.printers,
      subst
          (λ stderr. LeavesDrawnFor (asked_for c.args.asked.now) fleet names (g.J.Jobs.start c.args.jobs.now) c.draw_on_printers.result
          (g.J.Jobs.ended c.args.jobs.now) (g.J.Jobs.ended c.draw_on_printers.new.jobs) (g.D.Outlet.state c.args.out.now)
          (g.D.Outlet.state c.draw_on_printers.new.out) (g.O.Outlet.state c.args.stdout.now)
          (g.O.Outlet.state c.draw_on_printers.new.stdout) (g.E.Outlet.state stderr)
          (g.E.Outlet.state c.draw_on_printers.new.stderr))
          c.in-Ok.ensures.quiet c.draw_on_printers.ensures,
    )

pub returns-in-Err-clause-left : goal.returns-in-Err-clause-left
returns-in-Err-clause-left g c = inr (c.in-Err.ensures.refused, refl, refl, refl, refl)
