-- The notes: their numbers, names and short words, and the lines that tell them.
use Rattle.std.specs.Prelude.{ℕ, ◌==◌, Bool, List, [], ◌∷◌, ◌++◌, codes, decimal, cond}
use Rattle.std.specs.List.{list_any}
use Rattle.notes.specs.declared.note.Note.{Note}
use Rattle.notes.specs.declared.note.Note.TheVariants as note_kinds

abbrev pub note_number : Note → ℕ
note_number note_kinds.OpenStart = 101
note_number note_kinds.OpenEnd = 102
note_number note_kinds.NoPage = 103
note_number note_kinds.PjlAsText = 104
note_number note_kinds.SameOrientation = 105
note_number note_kinds.RoundedColumn = 106
note_number note_kinds.FractionOfUnit = 107
note_number note_kinds.LaterLanguage = 108
note_number note_kinds.ShortRaster = 109
note_number note_kinds.BlankOverflow = 110
note_number note_kinds.SourceMovesLeft = 111
note_number note_kinds.LongRun = 112
note_number note_kinds.OtherLanguage = 113

abbrev pub note_name : Note → List ℕ
note_name note_kinds.OpenStart = codes "OpenStart"
note_name note_kinds.OpenEnd = codes "OpenEnd"
note_name note_kinds.NoPage = codes "NoPage"
note_name note_kinds.PjlAsText = codes "PjlAsText"
note_name note_kinds.SameOrientation = codes "SameOrientation"
note_name note_kinds.RoundedColumn = codes "RoundedColumn"
note_name note_kinds.FractionOfUnit = codes "FractionOfUnit"
note_name note_kinds.LaterLanguage = codes "LaterLanguage"
note_name note_kinds.ShortRaster = codes "ShortRaster"
note_name note_kinds.BlankOverflow = codes "BlankOverflow"
note_name note_kinds.SourceMovesLeft = codes "SourceMovesLeft"
note_name note_kinds.LongRun = codes "LongRun"
note_name note_kinds.OtherLanguage = codes "OtherLanguage"

-- in short words
abbrev pub short_note : Note → List ℕ
short_note note_kinds.OpenStart = codes "something prints, moves or sets before the first reset"
short_note note_kinds.OpenEnd = codes "something prints, moves or sets behind the last reset"
short_note note_kinds.NoPage = codes "the job closes no page"
short_note note_kinds.PjlAsText = codes "a line of the job language is printed as text"
short_note note_kinds.SameOrientation = codes "the orientation is set again where spacing or a margin is set"
short_note note_kinds.RoundedColumn = codes "a column is used that is no whole number of PCL units"
short_note note_kinds.FractionOfUnit = codes "a move has a fraction of a PCL unit"
short_note note_kinds.LaterLanguage = codes "printers before PCL 5e pass over this command"
short_note note_kinds.ShortRaster = codes "a raster ends before the last row of its height"
short_note note_kinds.BlankOverflow = codes "a line feed leads past the bottom margin of a blank page"
short_note note_kinds.SourceMovesLeft = codes "a tray or sides are chosen where the left margin is not 0"
short_note note_kinds.LongRun = codes "macros carry out more than a million items"
short_note note_kinds.OtherLanguage = codes "this looks like PostScript, PDF, PCL XL or an image, and is no PCL"

-- ---- notes at their places

pub record Told : Type 0 where
  pub place : ℕ
  pub note : Note

-- the note at the place, where it holds there
abbrev pub told_if : Bool → ℕ → Note → List Told
told_if holds place note = cond holds (record { place = place; note = note } ∷ []) []

-- the place, the number and the name
abbrev pub note_line : Told → List ℕ
note_line told =
    decimal told.place ++ codes " " ++ decimal (note_number told.note) ++ codes " " ++ note_name told.note ++ codes "\n"

-- ---- each note once

abbrev pub is_same : Note → Note → Bool
is_same a b = note_number a == note_number b

-- the note is among these
abbrev pub is_among : List Note → Note → Bool
is_among told note = list_any (is_same note) told

-- the notes behind one more
abbrev pub among_behind : List Note → Note → List Note
among_behind told note = cond (is_among told note) told (told ++ note ∷ [])

-- of notes at their places the first of each, but for those that were told before
abbrev pub firsts : List Note → List Told → List Told
firsts told [] = []
firsts told (x ∷ notes) = cond (is_among told x.note) [] (x ∷ []) ++ firsts (among_behind told x.note) notes
