-- What shows why a job fails: the mark that it would have made, and the box that this leaves, each with its measures.
use Rattle.std.specs.Prelude.{ℕ, ℤ, List, ◌++◌}
use Rattle.device_profile.specs.declared.geometry.Geometry.{Geometry}
use Rattle.page_picture.specs.declared.attributes.Attribute.{Attribute}
use Rattle.page_picture.specs.declared.attributes.Attribute.TheVariants.{X, Y, Width, Height}
use Rattle.page_picture.specs.declared.failure.Outline.{Outline}
use Rattle.page_picture.specs.declared.failure_parts.FailurePart.{FailurePart}
use Rattle.page_picture.specs.declared.failure_parts.FailurePart.TheVariants as parts
use Rattle.page_picture.specs.declared.failure_parts.Limit.{Limit}
use Rattle.page_picture.specs.Attributes.{attribute, length_attribute, span}
use Rattle.page_picture.specs.FailureParts.{failure_part, limit_name}
use Rattle.shown_bytes.specs.Lengths.{millimetres}
use Rattle.page_picture.specs.Sheet.{middle}

-- over the marks before the failure, so that these look gray
unfoldable pub veil_picture : Geometry → List ℕ
veil_picture page =
    failure_part parts.VeilStart ++ length_attribute Width page.page_width ++ length_attribute Height page.page_height
    ++ failure_part parts.VeilEnd

-- ---- boxes

-- an attribute that is how far one place lies behind another
unfoldable pub span_attribute : (name : Attribute) → (first last : ℤ) → List ℕ
span_attribute name first last = attribute name (span first last)

-- the upper left corner of a box
unfoldable pub corner_attributes : Outline → List ℕ
corner_attributes box = length_attribute X box.left ++ length_attribute Y box.top

-- how wide it is, and how high
unfoldable pub width_attribute : Outline → List ℕ
width_attribute box = span_attribute Width box.left box.right

unfoldable pub height_attribute : Outline → List ℕ
height_attribute box = span_attribute Height box.top box.bottom

-- a box by these
unfoldable pub outline_attributes : Outline → List ℕ
outline_attributes box = corner_attributes box ++ width_attribute box ++ height_attribute box

-- from where to where it goes
unfoldable pub stretch : (first last : ℤ) → List ℕ
stretch first last = millimetres first ++ failure_part parts.MeasureTo ++ millimetres last

-- along the first axis, and along the second
unfoldable pub across : Outline → List ℕ
across box = failure_part parts.MeasureX ++ stretch box.left box.right

unfoldable pub down : Outline → List ℕ
down box = failure_part parts.MeasureY ++ stretch box.top box.bottom

-- the same of both axes, in millimetres from the left and the upper edge of the sheet
unfoldable pub measures : Outline → List ℕ
measures box = across box ++ down box ++ failure_part parts.MeasureEnd

-- where measures stand: in the middle of the sheet, where they can be read wherever the box is
unfoldable pub measure_place : (start : FailurePart) → Geometry → List ℕ
measure_place start page =
    failure_part start ++ attribute X (middle page.page_width) ++ attribute Y (middle page.page_height)
    ++ failure_part parts.MeasureText

-- the mark that would have been made
unfoldable pub unmade_picture : Geometry → Outline → List ℕ
unmade_picture page box =
    failure_part parts.MarkStart ++ outline_attributes box ++ failure_part parts.MarkEnd
    ++ measure_place parts.MarkMeasure page ++ failure_part parts.MarkName ++ measures box

-- the box that it leaves
unfoldable pub limit_picture : Geometry → Limit → Outline → List ℕ
limit_picture page limit box =
    failure_part parts.LimitStart ++ outline_attributes box ++ failure_part parts.LimitEnd
    ++ measure_place parts.LimitMeasure page ++ limit_name limit ++ measures box
