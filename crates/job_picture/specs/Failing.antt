-- What is known of a page before an item, if that fails on it: where the cursor stands, the boxes that marks may not
-- leave, and the mark that the item would make; and what is drawn of that.
use Rattle.std.specs.Prelude.{ℕ, ℤ, ◌+ℤ◌, ◌-ℤ◌, Option, None, Some, option_map, unwrap_or, List, [], ◌++◌}
use Rattle.pcl_items.specs.declared.pcl.command.Command.{Command}
use Rattle.pcl_items.specs.declared.pcl.command.Command.TheVariants.{FillRectangle}
use Rattle.pcl_items.specs.Items.{Entry, Text, Parameterized}
use Rattle.device_profile.specs.declared.geometry.Geometry.{Geometry}
use Rattle.device_profile.specs.Faces.{Face}
use Rattle.device_profile.specs.Printer.{Printer}
use Rattle.page_env.specs.declared.finding.Finding.{Finding}
use Rattle.page_env.specs.declared.finding.Finding.TheVariants.{NoGlyph, OffPage, PastRightMargin, NotPrintable}
use Rattle.page_env.specs.declared.finding.Finding.TheVariants.{OutsideFrame}
use Rattle.page_env.specs.declared.frames.Frame.{Frame}
use Rattle.page_env.specs.FontInForce.{face_of}
use Rattle.page_env.specs.Frames.{frame_on}
use Rattle.page_env.specs.Places.{cursor_x, cursor_y, origin_on}
use Rattle.page_env.specs.Settings.{State}
use Rattle.page_picture.specs.declared.failure.Outline.{Outline}
use Rattle.page_picture.specs.declared.failure_parts.Limit.TheVariants as limits
use Rattle.page_picture.specs.Failure.{limit_picture, unmade_picture}
use Rattle.page_picture.specs.Sheet.{failure_picture}
use Rattle.job_picture.specs.declared.failing.Spot.{Spot}

-- ---- the mark that an item would make

-- the box of a character of a face with its reference point at a place
abbrev pub character_on : Face → (x y : ℤ) → Outline
character_on face x y = record {
  left = x;
  top = y -ℤ face.ascent;
  right = x +ℤ face.advance;
  bottom = y +ℤ face.descent;
}

-- the same at the cursor
abbrev pub character_at : Geometry → State → Face → Outline
character_at paper s face = character_on face (cursor_x (origin_on paper) s) (cursor_y (origin_on paper) s)

-- the box of a rectangle with its corner at a place
abbrev pub rectangle_on : (width height x y : ℤ) → Outline
rectangle_on width height x y = record {
  left = x;
  top = y;
  right = x +ℤ width;
  bottom = y +ℤ height;
}

-- the next rectangle with its corner at the cursor
abbrev pub rectangle_at : Geometry → State → Outline
rectangle_at paper s =
    rectangle_on s.settings.job.rectangle_width s.settings.job.rectangle_height
    (cursor_x (origin_on paper) s) (cursor_y (origin_on paper) s)

-- of a command
abbrev pub mark_of_command : Geometry → State → Command → Option Outline
mark_of_command paper s FillRectangle = Some (rectangle_at paper s)
mark_of_command paper s _ = None

-- Of an item that makes one mark, at the cursor. The lines of a pen, the rows of rasters, and what data and the bodies
-- of macros print are not among these.
abbrev pub mark_of : Printer → Geometry → State → Entry → Option Outline
mark_of printer paper s (Text code) = option_map (character_at paper s) (face_of printer s)
mark_of printer paper s (Parameterized command n) = mark_of_command paper s command
mark_of printer paper s _ = None

-- ---- the boxes that marks may not leave

abbrev pub printable_outline : Geometry → Outline
printable_outline paper = record {
  left = paper.printable_left;
  top = paper.printable_top;
  right = paper.printable_right;
  bottom = paper.printable_bottom;
}

abbrev pub logical_outline : Geometry → Outline
logical_outline paper = record {
  left = paper.logical_left;
  top = paper.logical_top;
  right = paper.logical_left +ℤ paper.logical_width;
  bottom = paper.logical_top +ℤ paper.logical_height;
}

-- the logical page up to the right margin
abbrev pub text_outline : Geometry → State → Outline
text_outline paper s = record {
  left = paper.logical_left;
  top = paper.logical_top;
  right = paper.logical_left +ℤ unwrap_or s.settings.job.right_margin paper.logical_width;
  bottom = paper.logical_top +ℤ paper.logical_height;
}

abbrev pub frame_outline : Geometry → Frame → Outline
frame_outline paper frame = record {
  left = paper.logical_left +ℤ frame.left;
  top = paper.logical_top +ℤ frame.top;
  right = (paper.logical_left +ℤ frame.left) +ℤ frame.width;
  bottom = (paper.logical_top +ℤ frame.top) +ℤ frame.height;
}

-- ---- before an item

-- where the cursor stands on a sheet, what marks may not leave there, and the mark that would be made
abbrev pub spot_of : Geometry → State → (mark : Option Outline) → Spot
spot_of paper s mark = record {
  x = cursor_x (origin_on paper) s;
  y = cursor_y (origin_on paper) s;
  text = text_outline paper s;
  frame = frame_outline paper (frame_on paper s.settings.job.frame);
  mark = mark;
}

-- ---- what is drawn

-- the box that is left, where one is
abbrev pub limit_left : Geometry → Spot → Finding → List ℕ
limit_left paper spot OffPage = limit_picture paper limits.LogicalPage (logical_outline paper)
limit_left paper spot PastRightMargin = limit_picture paper limits.RightMargin spot.text
limit_left paper spot NotPrintable = limit_picture paper limits.PrintableArea (printable_outline paper)
limit_left paper spot OutsideFrame = limit_picture paper limits.PictureFrame spot.frame
limit_left paper spot _ = []

-- the mark that would be made, where that is what is wrong
abbrev pub unmade_mark : Finding → Option Outline → Option Outline
unmade_mark (NoGlyph code) mark = mark
unmade_mark OffPage mark = mark
unmade_mark PastRightMargin mark = mark
unmade_mark NotPrintable mark = mark
unmade_mark _ mark = None

-- that mark, or else a cross where the cursor stood
unfoldable pub mark_or_cross : Geometry → Spot → Option Outline → List ℕ
mark_or_cross paper spot None = failure_picture spot.x spot.y
mark_or_cross paper spot (Some mark) = unmade_picture paper mark

-- by a finding, or without one by a fault of the bytes
abbrev pub why_picture : Geometry → Spot → Option Finding → List ℕ
why_picture paper spot None = failure_picture spot.x spot.y
why_picture paper spot (Some finding) =
    limit_left paper spot finding ++ mark_or_cross paper spot (unmade_mark finding spot.mark)
