-- Rulers along the upper and the left edge of a sheet: ticks and numbers of millimetres, and longer ones of inches.
use Rattle.std.specs.Prelude.{ℕ, ℤ, pos, ◌+◌, ◌*◌, ◌/◌, unsigned_abs, min, List, ◌++◌, flat_map, decimal}
use Rattle.std.specs.List.{range_with_len}
use Rattle.device_profile.specs.declared.geometry.Geometry.{Geometry}
use Rattle.page_picture.specs.declared.attributes.Attribute.{Attribute}
use Rattle.page_picture.specs.declared.attributes.Attribute.TheVariants.{X, Y}
use Rattle.page_picture.specs.declared.ruler_parts.RulerPart.{RulerPart}
use Rattle.page_picture.specs.declared.ruler_parts.RulerPart.TheVariants as parts
use Rattle.page_picture.specs.declared.rulers.Scale.{Scale}
use Rattle.page_picture.specs.declared.rulers.Scale.TheVariants.{Millimetres, Inches}
use Rattle.page_picture.specs.Attributes.{length_attribute}
use Rattle.page_picture.specs.Figures.{length_units}
use Rattle.page_picture.specs.RulerParts.{ruler_part}

-- ---- ticks

-- a dashed line along an edge of this length
unfoldable pub edge_ticks : (start : RulerPart) → (length : ℤ) → (end : RulerPart) → List ℕ
edge_ticks start length end = ruler_part start ++ length_units length ++ ruler_part end

unfoldable pub upper_ticks : (width : ℤ) → List ℕ
upper_ticks width =
    edge_ticks parts.UpperMillimetres width parts.MillimetreTicks
    ++ edge_ticks parts.UpperCentimetres width parts.CentimetreTicks
    ++ edge_ticks parts.UpperInches width parts.InchTicks

unfoldable pub left_ticks : (height : ℤ) → List ℕ
left_ticks height =
    edge_ticks parts.LeftMillimetres height parts.MillimetreTicks
    ++ edge_ticks parts.LeftCentimetres height parts.CentimetreTicks
    ++ edge_ticks parts.LeftInches height parts.InchTicks

-- ---- numbers

-- how far a number is from the next, in ticks: a centimetre, or an inch
abbrev pub step_of : Scale → ℕ
step_of Millimetres = 14_400_000_000
step_of Inches = 36_576_000_000

-- how much a number is greater than the one before
abbrev pub counts_by : Scale → ℕ
counts_by Millimetres = 10
counts_by Inches = 1

-- how many numbers stand along an edge of this length: at most a thousand, however long it is
abbrev pub label_count : Scale → ℤ → ℕ
label_count scale length = min 1_000 (unsigned_abs length / step_of scale)

-- the number behind so many
unfoldable pub label : (start : RulerPart) → Attribute → Scale → ℕ → List ℕ
label start along scale n =
    ruler_part start ++ length_attribute along (pos ((n + 1) * step_of scale)) ++ ruler_part parts.LabelText
    ++ decimal ((n + 1) * counts_by scale) ++ ruler_part parts.LabelEnd

-- those along an edge
abbrev pub labels : (start : RulerPart) → Attribute → Scale → (length : ℤ) → List ℕ
labels start along scale length = flat_map (label start along scale) (range_with_len 0 (label_count scale length))

unfoldable pub upper_labels : (width : ℤ) → List ℕ
upper_labels width =
    labels parts.UpperMillimetreLabel X Millimetres width ++ labels parts.UpperInchLabel X Inches width

unfoldable pub left_labels : (height : ℤ) → List ℕ
left_labels height =
    labels parts.LeftMillimetreLabel Y Millimetres height ++ labels parts.LeftInchLabel Y Inches height

-- ---- both

unfoldable pub rulers_picture : Geometry → List ℕ
rulers_picture page =
    ruler_part parts.RulersStart ++ upper_ticks page.page_width ++ left_ticks page.page_height
    ++ upper_labels page.page_width ++ left_labels page.page_height ++ ruler_part parts.RulersEnd
