use Rattle.std.proofs.Common.{refl}
use Rattle.notes.specs.declared.note.Note.TheVariants.{OpenStart, PjlAsText, FractionOfUnit, LaterLanguage}
use Rattle.notes.specs.declared.note.Note.TheVariants.{OtherLanguage}
use Rattle.notes.proofs.ToldNotes.{WritesNotes-then, tells_at}
use Rattle.notes.proofs.item_notes.tell_item.Goals as goal

pub returns : goal.returns
returns g c =
    WritesNotes-then
    (WritesNotes-then
    (WritesNotes-then
    (WritesNotes-then
    (tells_at _ _ _ _ _ _ _ _ _ OpenStart c.opens.ensures refl c.in_ok-tell.ensures)
    (tells_at _ _ _ _ _ _ _ _ _ PjlAsText c.ends_job_word-is_word.ensures c.saturating_sub-begins.ensures c.in_ok-tell-2.ensures))
    (tells_at _ _ _ _ _ _ _ _ _ FractionOfUnit c.is_fraction.ensures refl c.in_ok-tell-3.ensures))
    (tells_at _ _ _ _ _ _ _ _ _ LaterLanguage c.is_later.ensures refl c.in_ok-tell-4.ensures))
    (tells_at _ _ _ _ _ _ _ _ _ OtherLanguage c.ends_other_word-is_other.ensures c.saturating_sub-begins.ensures
    c.in_ok-tell-5.ensures)
