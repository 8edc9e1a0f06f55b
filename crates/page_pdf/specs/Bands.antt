-- Rows of rasters as images: those of one resolution that lie right below one another are one, a band.
use Rattle.std.specs.Prelude.{ℕ, ℤ, pos, ◌+◌, ◌-◌, ◌*◌, ◌/◌, ◌%◌, ◌+ℤ◌, ◌==◌, ◌&&◌, nat_le, unsigned_abs, Bool, List}
use Rattle.std.specs.Prelude.{◌++◌, decimal, length, replicate}
use Rattle.std.specs.Ordering.{int_eq}
use Rattle.device_profile.specs.declared.geometry.Geometry.{Geometry}
use Rattle.page_env.specs.declared.page.Resolution.{Resolution}
use Rattle.page_env.specs.Mark.{PixelRow, pixel_of, pixels_per_inch}
use Rattle.page_pdf.specs.declared.bands.Band.{Band}
use Rattle.page_pdf.specs.declared.mark_parts.MarkPart.TheVariants as parts
use Rattle.page_pdf.specs.Figures.{length_figure}
use Rattle.page_pdf.specs.MarkParts.{mark_part}

-- ---- the frame of a row: as wide as the sheet, so that rows that begin and end at other bytes go into one

-- how far the pixels of a byte go, in ticks
abbrev pub byte_of : Resolution → ℕ
byte_of resolution = 8 * pixel_of resolution

-- how many bytes of the frame come before a row, which is on the sheet: none lies left of it
abbrev pub bytes_ahead : PixelRow → ℕ
bytes_ahead row = unsigned_abs row.x / byte_of row.resolution

-- where the frame begins, in ticks: less than a byte right of the edge of the sheet
abbrev pub frame_left : PixelRow → ℕ
frame_left row = unsigned_abs row.x % byte_of row.resolution

-- how many bytes it is wide
abbrev pub frame_width : Geometry → Resolution → ℕ
frame_width paper resolution = unsigned_abs paper.page_width / byte_of resolution + 1

-- how many bytes of it come behind so many
abbrev pub bytes_behind : (width ahead count : ℕ) → ℕ
bytes_behind width ahead count = width - ahead - count

-- a row in a frame so many bytes wide
unfoldable pub framed : (width : ℕ) → PixelRow → List ℕ
framed width row =
    replicate (bytes_ahead row) 0 ++ row.bytes
    ++ replicate (bytes_behind width (bytes_ahead row) (length row.bytes)) 0

-- ---- a band

-- whose last row is this one, of so many
abbrev pub band_of : Geometry → PixelRow → (count : ℕ) → Band
band_of paper row count = record {
  resolution = row.resolution;
  left = frame_left row;
  width = frame_width paper row.resolution;
  last = row.y;
  count = count;
}

-- where its lower edge lies
abbrev pub bottom_of : Band → ℤ
bottom_of band = band.last +ℤ pos (pixel_of band.resolution)

-- how many units a pixel is wide, and high: an inch has 7200
abbrev pub pixel_units : Resolution → ℕ
pixel_units resolution = 7200 / pixels_per_inch resolution

-- whether a row has the same frame
abbrev pub is_in_frame : Geometry → Band → PixelRow → Bool
is_in_frame paper band row =
    pixel_units row.resolution == pixel_units band.resolution && frame_left row == band.left
    && frame_width paper row.resolution == band.width

-- whether there is room for a row behind so many bytes: an image of more than one row has at most 262,144
abbrev pub has_room : Band → (kept : ℕ) → Bool
has_room band kept = nat_le band.width (262_144 - kept)

-- whether a row goes on with a band of so many bytes: it lies right below it
abbrev pub goes_below : Geometry → Band → (kept : ℕ) → PixelRow → Bool
goes_below paper band kept row =
    is_in_frame paper band row && int_eq row.y (bottom_of band) && has_room band kept

-- ---- its text

-- how large it is, and where its lower left corner stands: its first row lies on top, and places count down
unfoldable pub band_place : Band → List ℕ
band_place band =
    decimal (8 * band.width * pixel_units band.resolution) ++ mark_part parts.BandHeight
    ++ decimal (band.count * pixel_units band.resolution)
    ++ mark_part parts.BandPlace ++ length_figure (pos band.left) ++ length_figure (bottom_of band)

-- how many pixels a row has, and how many rows there are
unfoldable pub band_counts : Band → List ℕ
band_counts band =
    mark_part parts.BandPixels ++ decimal (8 * band.width) ++ mark_part parts.BandRows ++ decimal band.count
    ++ mark_part parts.BandData

-- an image of these pixels, of which the black ones mark the page
unfoldable pub band_text : Band → (pixels : List ℕ) → List ℕ
band_text band pixels =
    mark_part parts.BandStart ++ band_place band ++ band_counts band ++ pixels ++ mark_part parts.BandEnd
