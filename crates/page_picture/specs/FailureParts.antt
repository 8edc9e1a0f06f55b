-- The fixed parts of what shows why a job fails, and what its mark leaves.
use Rattle.std.specs.Prelude.{ℕ, List, codes}
use Rattle.page_picture.specs.declared.failure_parts.FailurePart.{FailurePart}
use Rattle.page_picture.specs.declared.failure_parts.FailurePart.TheVariants as failure_parts
use Rattle.page_picture.specs.declared.failure_parts.Limit.{Limit}
use Rattle.page_picture.specs.declared.failure_parts.Limit.TheVariants as limits

unfoldable pub failure_part : FailurePart → List ℕ
failure_part failure_parts.VeilStart = codes "<rect class=\"veil\""
failure_part failure_parts.VeilEnd = codes " fill=\"white\" fill-opacity=\".65\"/>\n"
failure_part failure_parts.MarkStart = codes "<rect class=\"failure\""
failure_part failure_parts.MarkEnd = codes " fill=\"red\" fill-opacity=\".3\" stroke=\"red\" stroke-width=\"48\"/>\n"
failure_part failure_parts.LimitStart = codes "<rect class=\"limit\""
failure_part failure_parts.LimitEnd = codes " fill=\"none\" stroke=\"red\" stroke-width=\"72\"/>\n"
failure_part failure_parts.MarkMeasure =
    codes "<text class=\"measure\" text-anchor=\"middle\" font-size=\"900\" fill=\"red\""
failure_part failure_parts.LimitMeasure =
    codes "<text class=\"measure\" text-anchor=\"middle\" font-size=\"900\" fill=\"red\" dy=\"1200\""
failure_part failure_parts.MeasureText = codes ">"
failure_part failure_parts.MarkName = codes "what fails: "
failure_part failure_parts.MeasureX = codes "x "
failure_part failure_parts.MeasureTo = codes " to "
failure_part failure_parts.MeasureY = codes " mm, y "
failure_part failure_parts.MeasureEnd = codes " mm</text>\n"

-- what its measures are of
unfoldable pub limit_name : Limit → List ℕ
limit_name limits.PrintableArea = codes "printable area: "
limit_name limits.LogicalPage = codes "logical page: "
limit_name limits.RightMargin = codes "left of the right margin: "
limit_name limits.PictureFrame = codes "picture frame: "
