-- What is still to be written of the open page: rows of a raster are kept, and a string of letters is left open, until
-- a mark does not go on with them.
use Rattle.std.specs.Prelude.{ℕ, ◌+◌, ◌-◌, ◌^◌, min, Bool, true, false, if◌then◌else◌, List, []}
use Rattle.device_profile.specs.declared.geometry.Geometry.{Geometry}
use Rattle.page_env.specs.declared.mark.Glyph.{Glyph}
use Rattle.page_env.specs.Mark.{PixelRow, Shape, Rectangle, Character, Row, Line}
use Rattle.page_pdf.specs.declared.bands.Band.{Band}
use Rattle.page_pdf.specs.declared.mark_parts.MarkPart.TheVariants as parts
use Rattle.page_pdf.specs.declared.pending.Pending.{Pending}
use Rattle.page_pdf.specs.declared.mark_parts.MarkPart.TheVariants as parts
use Rattle.page_pdf.specs.declared.pending.Pending.TheVariants.{Nothing, Rows, Letters}
use Rattle.page_pdf.specs.Bands.{band_of, band_text, goes_below}
use Rattle.page_pdf.specs.MarkParts.{mark_part}
use Rattle.page_pdf.specs.Strings.{goes_behind, is_letter}

-- its text, with the pixels of the rows
abbrev pub pending_text : Pending → (pixels : List ℕ) → List ℕ
pending_text Nothing pixels = []
pending_text (Rows band) pixels = band_text band pixels
pending_text (Letters last) pixels = mark_part parts.TextEnd

-- whether a mark goes on with a band of so many bytes
abbrev pub goes_on_below : Geometry → Band → (kept : ℕ) → Shape → Bool
goes_on_below paper band kept (Rectangle area) = false
goes_on_below paper band kept (Character glyph) = false
goes_on_below paper band kept (Row row) = goes_below paper band kept row
goes_on_below paper band kept (Line line) = false

-- whether a mark goes on with a string whose last letter is this one
abbrev pub goes_on_behind : (last : Glyph) → Shape → Bool
goes_on_behind last (Rectangle area) = false
goes_on_behind last (Character glyph) = goes_behind last glyph
goes_on_behind last (Row row) = false
goes_on_behind last (Line line) = false

-- whether a mark goes on with it, where so many bytes of pixels are kept
abbrev pub goes_on : Geometry → Pending → (kept : ℕ) → Shape → Bool
goes_on paper Nothing kept mark = false
goes_on paper (Rows band) kept mark = goes_on_below paper band kept mark
goes_on paper (Letters last) kept mark = goes_on_behind last mark

-- how many rows there are with one more; counts stand still at 2^64 - 1
abbrev pub count_with : Pending → ℕ
count_with Nothing = 1
count_with (Rows band) = min (band.count + 1) (2 ^ 64 - 1)
count_with (Letters last) = 1

-- with one more row
abbrev pub with_row : Geometry → Pending → PixelRow → Pending
with_row paper pending row = Rows (band_of paper row (count_with pending))

-- whether a string of letters is open
abbrev pub is_string : Pending → Bool
is_string Nothing = false
is_string (Rows band) = false
is_string (Letters last) = true

-- behind a character
abbrev pub behind_glyph : Glyph → Pending
behind_glyph glyph = if is_letter glyph then Letters glyph else Nothing
