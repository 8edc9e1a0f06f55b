use Rattle.std.proofs.Common.{inl, inr, refl}
use Rattle.compare_command.proofs.drawing.draw_created.Goals as goal

pub returns-in-Ok : goal.returns-in-Ok
returns-in-Ok g c =
    let working = c.in-Ok.ensures.status in
    inl (refl, (working, c.in-Ok.ensures.text.whole working), c.write_found-status.ensures)

pub returns-in-Err : goal.returns-in-Err
returns-in-Err g c = inr (refl, (c.in-Err.ensures.status, inl c.in-Err.ensures.text.front), refl)
