-- Which marks are near each other, what differs between two, and which overlap.
use Rattle.std.specs.Prelude.{ℕ, pos, ◌/◌, ◌+ℤ◌, ◌-ℤ◌, unsigned_abs, Bool, true, false, not, ◌&&◌}
use Rattle.std.specs.Prelude.{int_lt, int_le, ℤ, if◌then◌else◌}
use Rattle.page_env.specs.declared.mark.Bounds.{Bounds}
use Rattle.page_env.specs.declared.mark.Fill.{Fill}
use Rattle.page_env.specs.declared.mark.Fill.TheVariants.{Solid, Erase, Shade, Hatch}
use Rattle.page_env.specs.declared.mark.PenLine.{PenLine}
use Rattle.page_env.specs.Mark.{PixelRow, Shape, Rectangle, Character, Row, Line, row_bounds}
use Rattle.comparison.specs.Changes.{is_moved}
use Rattle.comparison.specs.Nearness.{is_near_shape}
use Rattle.page_comparison.specs.declared.differences.PageChange.{PageChange}
use Rattle.page_comparison.specs.declared.differences.PageChange.TheVariants.{Moved, Changed}
use Rattle.page_comparison.specs.declared.edges.Edges.{Edges}
use Rattle.page_comparison.specs.declared.footprint.Footprint.{Footprint}
use Rattle.page_comparison.specs.Pages.{MadeMark}

-- the same but for their places and boxes, whose edges lie that near; within 0 they are the same
abbrev pub is_near_mark : ℕ → MadeMark → MadeMark → Bool
is_near_mark within a b = is_near_shape within a.shape b.shape

abbrev pub changed : MadeMark → MadeMark → PageChange
changed a b = if is_moved a.shape b.shape then Moved else Changed

-- ---- the boxes of marks

abbrev pub edges_of_box : Bounds → Edges
edges_of_box box = record { left = box.left; top = box.top; right = box.right; bottom = box.bottom }

-- from its first black pixel to its last: white pixels at the ends of its bytes cover nothing
abbrev pub edges_of_row : PixelRow → Edges
edges_of_row row = edges_of_box (row_bounds row)

abbrev pub lesser : ℤ → ℤ → ℤ
lesser a b = if int_le a b then a else b

abbrev pub greater : ℤ → ℤ → ℤ
greater a b = if int_le a b then b else a

-- that of its ends, widened by half its width
abbrev pub edges_of_line : PenLine → Edges
edges_of_line line =
    let half = pos (unsigned_abs line.width / 2) in
    record {
      left = lesser line.x0 line.x1 -ℤ half;
      top = lesser line.y0 line.y1 -ℤ half;
      right = greater line.x0 line.x1 +ℤ half;
      bottom = greater line.y0 line.y1 +ℤ half;
    }

abbrev pub edges_of : Shape → Edges
edges_of (Rectangle area) = edges_of_box area.bounds
edges_of (Character glyph) = edges_of_box glyph.bounds
edges_of (Row row) = edges_of_row row
edges_of (Line line) = edges_of_line line

-- boxes that only touch do not overlap
abbrev pub overlap : Edges → Edges → Bool
overlap a b = int_lt a.left b.right && int_lt b.left a.right && int_lt a.top b.bottom && int_lt b.top a.bottom

-- ---- what covers

-- white alone covers what lies below it: through all else that shows
abbrev pub is_white_fill : Fill → Bool
is_white_fill Solid = false
is_white_fill Erase = true
is_white_fill (Shade percent) = false
is_white_fill (Hatch number) = false

abbrev pub is_white : Shape → Bool
is_white (Rectangle area) = is_white_fill area.fill
is_white (Character glyph) = false
is_white (Row row) = false
is_white (Line line) = false

abbrev pub footprint_of : Shape → Footprint
footprint_of shape = record { edges = edges_of shape; white = is_white shape }

abbrev pub is_one_white : (one other : Bool) → Bool
is_one_white one other = if one then not other else other

-- they overlap, and exactly one of them is white: it matters which one is made first
abbrev pub hides : Footprint → Footprint → Bool
hides a b = is_one_white a.white b.white && overlap a.edges b.edges
