-- The fixed parts of the rulers along two edges of a sheet.
use Rattle.std.specs.Prelude.{ℕ, List, codes}
use Rattle.page_picture.specs.declared.ruler_parts.RulerPart.{RulerPart}
use Rattle.page_picture.specs.declared.ruler_parts.RulerPart.TheVariants as ruler_parts

unfoldable pub ruler_part : RulerPart → List ℕ
ruler_part ruler_parts.RulersStart = codes "<g class=\"rulers\" font-size=\"600\" text-anchor=\"middle\">\n"
ruler_part ruler_parts.RulersEnd = codes "</g>\n"
ruler_part ruler_parts.UpperMillimetres = codes "<path d=\"M0 100H"
ruler_part ruler_parts.LeftMillimetres = codes "<path d=\"M100 0V"
ruler_part ruler_parts.UpperCentimetres = codes "<path d=\"M0 200H"
ruler_part ruler_parts.LeftCentimetres = codes "<path d=\"M200 0V"
ruler_part ruler_parts.UpperInches = codes "<path d=\"M0 600H"
ruler_part ruler_parts.LeftInches = codes "<path d=\"M600 0V"
ruler_part ruler_parts.MillimetreTicks =
    codes "\" stroke=\"gray\" stroke-width=\"200\" stroke-dasharray=\"20 263.464567\" stroke-dashoffset=\"10\"/>\n"
ruler_part ruler_parts.CentimetreTicks =
    codes "\" stroke=\"gray\" stroke-width=\"400\" stroke-dasharray=\"20 2814.645669\" stroke-dashoffset=\"10\"/>\n"
ruler_part ruler_parts.InchTicks =
    codes "\" stroke=\"navy\" stroke-width=\"1200\" stroke-dasharray=\"20 7180\" stroke-dashoffset=\"10\"/>\n"
ruler_part ruler_parts.UpperMillimetreLabel = codes "<text fill=\"gray\" y=\"1000\""
ruler_part ruler_parts.LeftMillimetreLabel = codes "<text fill=\"gray\" x=\"800\" dy=\"200\""
ruler_part ruler_parts.UpperInchLabel = codes "<text fill=\"navy\" y=\"1900\""
ruler_part ruler_parts.LeftInchLabel = codes "<text fill=\"navy\" x=\"1700\" dy=\"200\""
ruler_part ruler_parts.LabelText = codes ">"
ruler_part ruler_parts.LabelEnd = codes "</text>\n"
