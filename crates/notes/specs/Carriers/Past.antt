-- What the code keeps of the items before an item, and the notes that it finds by that.
use Rattle.std.specs.Prelude.{ℕ, ◌-◌, ◌==◌, Bool, false, not, ◌&&◌, ◌||◌, cond, List, [], ◌∷◌, ◌++◌}
use Rattle.pcl_items.specs.Items.{Entry, Placed, Text, Reset, ExitLanguage, PjlLine}
use Rattle.page_env.specs.JobControl.{is_reset}
use Rattle.notes.specs.declared.note.Note.TheVariants.{OpenStart, PjlAsText, FractionOfUnit, LaterLanguage}
use Rattle.notes.specs.declared.note.Note.TheVariants.{OtherLanguage}
use Rattle.notes.specs.declared.past.TextPrefix.{TextPrefix}
use Rattle.notes.specs.declared.past.TextPrefix.TheVariants.{NoText, One, Two, Three, More}
use Rattle.notes.specs.declared.past.Past.{Past}
use Rattle.notes.specs.declared.past.Spelled.{Spelled}
use Rattle.notes.specs.declared.past.Spelled.TheVariants.{Nothing, At, AtP, AtPj, Other}
use Rattle.notes.specs.ItemNotes.{acts, has_reset, is_byte, is_fraction, is_later, is_open_end}
use Rattle.notes.specs.Note.{Told, told_if}

-- before the first item
abbrev pub no_past : Past
no_past = record { has_reset = false; is_open = false; spelled = Nothing; front = NoText }

-- behind a byte of text
abbrev pub spelled_with : Spelled → ℕ → Spelled
spelled_with Nothing code = cond (code == 64) At Other
spelled_with At code = cond (code == 80) AtP Other
spelled_with AtP code = cond (code == 74) AtPj Other
spelled_with AtPj code = Other
spelled_with Other code = Other

abbrev pub spelled_behind : Spelled → Entry → Spelled
spelled_behind spelled (Text code) = spelled_with spelled code
spelled_behind spelled _ = Nothing

-- behind a byte of text
abbrev pub front_with : TextPrefix → ℕ → TextPrefix
front_with NoText code = One code
front_with (One first) code = Two first code
front_with (Two first second) code = Three first second code
front_with (Three first second third) code = More
front_with More code = More

abbrev pub front_behind : TextPrefix → Entry → TextPrefix
front_behind front (Text code) = front_with front code
front_behind front Reset = NoText
front_behind front ExitLanguage = NoText
front_behind front (PjlLine line) = NoText
front_behind front _ = More

-- behind an item
abbrev pub past_behind : Past → Entry → Past
past_behind past item = record {
  has_reset = is_reset item || past.has_reset;
  is_open = not (is_reset item) && (past.is_open || acts item);
  spelled = spelled_behind past.spelled item;
  front = front_behind past.front item;
}

-- behind items, the nearest first
abbrev pub past_of : List Placed → Past
past_of [] = no_past
past_of (x ∷ items_before) = past_behind (past_of items_before) x.item

abbrev pub opens : Past → Entry → Bool
opens past item = acts item && not past.has_reset

abbrev pub ends_job_word : Spelled → Entry → Bool
ends_job_word AtPj item = is_byte 76 item
ends_job_word _ item = false

-- the bytes of text are these three
abbrev pub is_three : ℕ → ℕ → ℕ → TextPrefix → Bool
is_three first second third (Three a b c) = (c == third) && ((b == second) && (a == first))
is_three first second third _ = false

-- the bytes of text are the first three of these four, and the item is the fourth
abbrev pub spells : TextPrefix → Entry → (first second third fourth : ℕ) → Bool
spells front item first second third fourth = is_byte fourth item && is_three first second third front

-- a word of a document, `%!PS`, `%PDF` or `) HP`
abbrev pub ends_document_word : TextPrefix → Entry → Bool
ends_document_word front item =
    spells front item 37 33 80 83 || (spells front item 37 80 68 70 || spells front item 41 32 72 80)

-- a word of JPEG
abbrev pub ends_photo_word : TextPrefix → Entry → Bool
ends_photo_word front item =
    spells front item 255 216 255 224
    || (spells front item 255 216 255 225 || (spells front item 255 216 255 238 || spells front item 255 216 255 219))

-- a word of an image
abbrev pub ends_image_word : TextPrefix → Entry → Bool
ends_image_word front item =
    spells front item 71 73 70 56 || (spells front item 137 80 78 71 || ends_photo_word front item)

abbrev pub ends_other_word : TextPrefix → Entry → Bool
ends_other_word front item = ends_document_word front item || ends_image_word front item

-- the notes of an item by what was kept
abbrev pub past_notes : Past → Placed → List Told
past_notes past x =
    told_if (opens past x.item) x.place OpenStart
    ++ told_if (ends_job_word past.spelled x.item) (x.place - 3) PjlAsText
    ++ told_if (is_fraction x.item) x.place FractionOfUnit
    ++ told_if (is_later x.item) x.place LaterLanguage
    ++ told_if (ends_other_word past.front x.item) (x.place - 3) OtherLanguage

-- an item acted that was kept, or one of these does, and no reset stands behind it
abbrev pub ends_open : Past → List Placed → Bool
ends_open past items = (past.is_open && not (has_reset items)) || is_open_end items
