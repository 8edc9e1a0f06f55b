use Rattle.std.proofs.Common.{refl}
use Rattle.notes.specs.declared.note.Note.TheVariants.{SameOrientation, ShortRaster, BlankOverflow}
use Rattle.notes.proofs.ToldNotes.{WritesNotes-then, tells_at}
use Rattle.notes.proofs.state_before.StateBefore.tell.Goals as goal

pub returns : goal.returns
returns g c =
    WritesNotes-then
    (WritesNotes-then
    (WritesNotes-then
    (WritesNotes-then
    (tells_at _ _ _ _ _ _ _ _ _ SameOrientation c.orients-orients.ensures refl c.in_ok-tell.ensures)
    c.in_ok-tell-2.ensures)
    (tells_at _ _ _ _ _ _ _ _ _ ShortRaster c.ends_raster-ends.ensures refl c.in_ok-tell-3.ensures))
    (tells_at _ _ _ _ _ _ _ _ _ BlankOverflow c.overflows-overflows.ensures refl c.in_ok-tell-4.ensures))
    c.in_ok-tell-5.ensures
