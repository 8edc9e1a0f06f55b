use Rattle.std.proofs.Common.{refl, subst, sym}
use Rattle.requests.specs.declared.status.Status.TheVariants.{Stopped}
use Rattle.streams.specs.declared.error.Error.TheVariants.{Memory}
use Rattle.compare_command.specs.declared.found.Manner.{Manner}
use Rattle.compare_command.specs.Compare.{LacksMemory}
use Rattle.compare_command.proofs.stops.tell_of_memory.Goals as goal

pub returns-in-ByEvents : goal.returns-in-ByEvents
returns-in-ByEvents g c =
    let err = g.E.Outlet.state c.args.stderr.now in
    subst (λ (manner : Manner). LacksMemory manner c.args.name.now (Stopped Memory) err err) (sym c.in-ByEvents.is) (refl, refl)

pub returns-in-ByPages : goal.returns-in-ByPages
returns-in-ByPages g c =
    subst
    (λ (manner : Manner). LacksMemory manner c.args.name.now c.tell_of_page.result (g.E.Outlet.state c.args.stderr.now)
    (g.E.Outlet.state c.tell_of_page.new.stderr))
    (sym c.in-ByPages.is) c.tell_of_page.ensures
