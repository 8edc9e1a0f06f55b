-- What differs between two marks, or two ends of pages, that are not the same.
use Rattle.std.specs.Prelude.{Bool, pos, ◌-ℤ◌, if◌then◌else◌}
use Rattle.page_env.specs.declared.mark.Area.{Area}
use Rattle.page_env.specs.declared.mark.Bounds.{Bounds}
use Rattle.page_env.specs.declared.mark.Glyph.{Glyph}
use Rattle.page_env.specs.declared.mark.PenLine.{PenLine}
use Rattle.page_env.specs.Mark.{PixelRow, Shape, Rectangle, Character, Row, Line}
use Rattle.page_machine.specs.Event.{Event, Marked, Ended}
use Rattle.sinks.specs.Same.{is_same_shape}
use Rattle.comparison.specs.declared.difference.Change.{Change}
use Rattle.comparison.specs.declared.difference.Change.TheVariants.{Moved, Changed, OnlyInOld, OnlyInNew, PageEnds}
use Rattle.comparison.specs.declared.difference.Change.TheVariants.{PageOnlyInOld, PageOnlyInNew}

-- ---- put at the origin

-- a box of this width and height
abbrev pub box_at_origin : Bounds → Bounds
box_at_origin b =
    record { left = pos 0; top = pos 0; right = b.right -ℤ b.left; bottom = b.bottom -ℤ b.top }

abbrev pub area_at_origin : Area → Area
area_at_origin a = record { fill = a.fill; bounds = box_at_origin a.bounds }

-- the baseline stays as far below the upper edge
abbrev pub glyph_at_origin : Glyph → Glyph
glyph_at_origin g =
    record { code = g.code; request = g.request; y = g.y -ℤ g.bounds.top; bounds = box_at_origin g.bounds }

abbrev pub row_at_origin : PixelRow → PixelRow
row_at_origin r = record { resolution = r.resolution; x = pos 0; y = pos 0; bytes = r.bytes }

-- the line begins there
abbrev pub line_at_origin : PenLine → PenLine
line_at_origin l =
    record { width = l.width; x0 = pos 0; y0 = pos 0; x1 = l.x1 -ℤ l.x0; y1 = l.y1 -ℤ l.y0 }

abbrev pub at_origin : Shape → Shape
at_origin (Rectangle a) = Rectangle (area_at_origin a)
at_origin (Character a) = Character (glyph_at_origin a)
at_origin (Row a) = Row (row_at_origin a)
at_origin (Line a) = Line (line_at_origin a)

-- ---- what differs

-- the second mark is the first one at another place
abbrev pub is_moved : Shape → Shape → Bool
is_moved a b = is_same_shape (at_origin a) (at_origin b)

-- what differs between an event of OLD and one of NEW: where one of them ends the page, the other job has a mark more
abbrev pub change_of : Event → Event → Change
change_of (Marked a) (Marked b) = if is_moved a b then Moved else Changed
change_of (Marked a) (Ended b) = OnlyInOld
change_of (Ended a) (Marked b) = OnlyInNew
change_of (Ended a) (Ended b) = PageEnds

-- an event that one job makes where the other one makes nothing more: what ends there is a page that it has alone
abbrev pub only_in_old : Event → Change
only_in_old (Marked a) = OnlyInOld
only_in_old (Ended a) = PageOnlyInOld

abbrev pub only_in_new : Event → Change
only_in_new (Marked a) = OnlyInNew
only_in_new (Ended a) = PageOnlyInNew
