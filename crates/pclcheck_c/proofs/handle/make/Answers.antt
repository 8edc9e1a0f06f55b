-- What `make` leaves is the fleet that it made.
use Rattle.std.proofs.Common.{inl, refl, subst, sym}
use Rattle.pclcheck_c.specs.Fleets.{HasNone}
use Rattle.pclcheck_c.proofs.handle.make.Goals as goal

pub returns-in-Ok : goal.returns-in-Ok
returns-in-Ok c = inl (refl, c.in-Ok.fleet.value, c.put.ensures, subst HasNone (sym c.in-Ok.ensures.ok) c.new.ensures)
