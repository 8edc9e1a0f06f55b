-- The notes that hold by the items of a job alone, wherever these stand: in the job, or in a macro definition.
use Rattle.std.specs.Prelude.{ℕ, ◌-◌, ◌==◌, Bool, true, false, not, ◌&&◌, ◌||◌, List, [], ◌∷◌, ◌++◌}
use Rattle.std.specs.List.{list_any}
use Rattle.pcl_items.specs.declared.pcl.command.Command.TheVariants.{HorizontalUnits, VerticalUnits, UnitOfMeasure}
use Rattle.pcl_items.specs.declared.pcl.command.Command.TheVariants.{RasterResolution}
use Rattle.pcl_items.specs.Items.{Entry, Placed, Text, Parameterized, PjlLine}
use Rattle.pcl_items.specs.Escapes.Value.{Amount, is_whole}
use Rattle.page_env.specs.JobControl.{is_reset}
use Rattle.page_env.specs.Numbers.{is_minus}
use Rattle.notes.specs.declared.note.Note.TheVariants.{OpenStart, PjlAsText, FractionOfUnit, LaterLanguage}
use Rattle.notes.specs.declared.note.Note.TheVariants.{OtherLanguage}
use Rattle.notes.specs.Note.{Told, told_if}

-- ---- where a job begins and ends (the manual's "Printer Reset Command", "Universal Exit Language Command")

abbrev pub is_line : Entry → Bool
is_line (PjlLine line) = true
is_line _ = false

-- an item that prints, moves or sets: each but a reset, the universal exit and a line of the job language
abbrev pub acts : Entry → Bool
acts item = not (is_line item) && not (is_reset item)

-- a reset is among these items, or the universal exit
abbrev pub has_reset : List Placed → Bool
has_reset items = list_any (λ (x : Placed). is_reset x.item) items

-- 101 OpenStart: an item acts, and no reset stands before it
abbrev pub is_open_start : List Placed → Entry → Bool
is_open_start items_before item = acts item && not (has_reset items_before)

-- 102 OpenEnd: of these items one acts, and no reset stands behind it
abbrev pub is_open_end : List Placed → Bool
is_open_end [] = false
is_open_end (x ∷ items) = (acts x.item && not (has_reset items)) || is_open_end items

-- ---- a line of the job language where the mode is PCL: its bytes are text

abbrev pub is_text : Entry → Bool
is_text (Text code) = true
is_text _ = false

abbrev pub is_byte : ℕ → Entry → Bool
is_byte code (Text byte) = byte == code
is_byte code _ = false

-- of items, the nearest first, the nearest one is text
abbrev pub is_behind_text : List Placed → Bool
is_behind_text [] = false
is_behind_text (x ∷ items_before) = is_text x.item

-- of items, the nearest first, the nearest are the bytes of a word, its last one first, with which a text begins
abbrev pub ends_word : List ℕ → List Placed → Bool
ends_word [] items_before = not (is_behind_text items_before)
ends_word (code ∷ word) [] = false
ends_word (code ∷ word) (x ∷ items_before) = is_byte code x.item && ends_word word items_before

-- `@PJL`, its last byte first
abbrev pub job_word : List ℕ
job_word = 76 ∷ 74 ∷ 80 ∷ 64 ∷ []

-- 104 PjlAsText: the item is the last byte of `@PJL`, with which a text begins
abbrev pub is_job_word : List Placed → Placed → Bool
is_job_word items_before x = ends_word job_word (x ∷ items_before)

-- ---- another language: the bytes with which its files begin are text where the mode is PCL

-- of items, the nearest first, the nearest one prints, moves or sets
abbrev pub is_behind_action : List Placed → Bool
is_behind_action [] = false
is_behind_action (x ∷ items_before) = acts x.item

-- Of items, the nearest first, the nearest are the bytes of a word, its last one first,
-- and before these stands nothing, or a reset, the universal exit or a line of the job language.
abbrev pub begins_with : List ℕ → List Placed → Bool
begins_with [] items_before = not (is_behind_action items_before)
begins_with (code ∷ word) [] = false
begins_with (code ∷ word) (x ∷ items_before) = is_byte code x.item && begins_with word items_before

-- the nearest are `%!PS`, `%PDF`, or `) HP` of PCL XL
abbrev pub begins_document : List Placed → Bool
begins_document items =
    begins_with (83 ∷ 80 ∷ 33 ∷ 37 ∷ []) items
    || (begins_with (70 ∷ 68 ∷ 80 ∷ 37 ∷ []) items || begins_with (80 ∷ 72 ∷ 32 ∷ 41 ∷ []) items)

-- the nearest are 255, 216 and 255 of JPEG with the byte of JFIF behind them, of Exif, of Adobe, or of a table
abbrev pub begins_photo : List Placed → Bool
begins_photo items =
    begins_with (224 ∷ 255 ∷ 216 ∷ 255 ∷ []) items
    || (begins_with (225 ∷ 255 ∷ 216 ∷ 255 ∷ []) items
    || (begins_with (238 ∷ 255 ∷ 216 ∷ 255 ∷ []) items || begins_with (219 ∷ 255 ∷ 216 ∷ 255 ∷ []) items))

-- the nearest are `GIF8`, or 137 and `PNG`, or those of JPEG
abbrev pub begins_image : List Placed → Bool
begins_image items =
    begins_with (56 ∷ 70 ∷ 73 ∷ 71 ∷ []) items || (begins_with (71 ∷ 78 ∷ 80 ∷ 137 ∷ []) items || begins_photo items)

-- 113 OtherLanguage: the item is the fourth byte of a document or an image of another language
abbrev pub is_other_language : List Placed → Placed → Bool
is_other_language items_before x = begins_document (x ∷ items_before) || begins_image (x ∷ items_before)

-- ---- what printers read otherwise

-- decimals other than 0
abbrev pub has_decimals : Amount → Bool
has_decimals n = not (is_whole n)

-- 107 FractionOfUnit: a move by PCL units, `*p#X` or `*p#Y`, with decimals
abbrev pub is_fraction : Entry → Bool
is_fraction (Parameterized HorizontalUnits n) = has_decimals n
is_fraction (Parameterized VerticalUnits n) = has_decimals n
is_fraction _ = false

-- a resolution of rasters that came with PCL 5e: exactly 200 or 600, in ten-thousandths
abbrev pub is_later_resolution : Amount → Bool
is_later_resolution n = not (is_minus n.sign) && ((n.ten_thousandths == 2_000_000) || (n.ten_thousandths == 6_000_000))

-- 108 LaterLanguage: `&u#D`, or `*t#R` of 200 or 600 pixels an inch
abbrev pub is_later : Entry → Bool
is_later (Parameterized UnitOfMeasure n) = true
is_later (Parameterized RasterResolution n) = is_later_resolution n
is_later _ = false

-- ---- all of these

-- The notes of an item by what stands before it, the nearest first.
-- What begins `@PJL` stands three bytes before the last of it, and so does what begins a word of another language.
abbrev pub item_notes : List Placed → Placed → List Told
item_notes items_before x =
    told_if (is_open_start items_before x.item) x.place OpenStart
    ++ told_if (is_job_word items_before x) (x.place - 3) PjlAsText
    ++ told_if (is_fraction x.item) x.place FractionOfUnit
    ++ told_if (is_later x.item) x.place LaterLanguage
    ++ told_if (is_other_language items_before x) (x.place - 3) OtherLanguage
