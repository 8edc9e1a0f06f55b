use Rattle.std.proofs.Common.{inl, inr, refl}
use Rattle.compare_command.proofs.stops.tell_of_page.Goals as goal

pub returns-in-Some : goal.returns-in-Some
returns-in-Some g c = inl c.tell_cause.ensures

pub returns-in-None : goal.returns-in-None
returns-in-None g c = inr (refl, refl)
