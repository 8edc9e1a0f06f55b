-- The fixed parts of what stands round the marks.
use Rattle.std.specs.Prelude.{ℕ, List, codes}
use Rattle.page_picture.specs.declared.sheet_parts.SheetPart.{SheetPart}
use Rattle.page_picture.specs.declared.sheet_parts.SheetPart.TheVariants as sheet_parts

unfoldable pub sheet_part : SheetPart → List ℕ
sheet_part sheet_parts.PictureStart = codes "<svg xmlns=\"http://www.w3.org/2000/svg\" width=\""
sheet_part sheet_parts.PictureHeight = codes "in\" height=\""
sheet_part sheet_parts.PictureView = codes "in\" viewBox=\"0 0 "
sheet_part sheet_parts.PictureFont = codes "\" font-family=\"Courier New, Courier, monospace\">\n"
sheet_part sheet_parts.PatternsStart = codes "<defs stroke=\"black\" stroke-width=\"48\">\n"
sheet_part sheet_parts.PatternStart = codes "<pattern id=\"pattern"
sheet_part sheet_parts.PatternSides = codes "\" patternUnits=\"userSpaceOnUse\" width=\"384\" height=\"384\"><path d=\""
sheet_part sheet_parts.PatternEnd = codes "\"/></pattern>\n"
sheet_part sheet_parts.Horizontal = codes "M0 192h384"
sheet_part sheet_parts.Vertical = codes "M192 0v384"
sheet_part sheet_parts.Rising = codes "M-96 96L96-96M-96 480L480-96M288 480L480 288"
sheet_part sheet_parts.Falling = codes "M-96 288L96 480M-96-96L480 480M288-96L480 96"
sheet_part sheet_parts.Cross = codes "M0 192h384M192 0v384"
sheet_part sheet_parts.DiagonalCross = codes "M-96-96L480 480M-96 480L480-96"
sheet_part sheet_parts.PatternsEnd = codes "</defs>\n"
sheet_part sheet_parts.SheetStart = codes "<rect class=\"sheet\""
sheet_part sheet_parts.SheetEnd = codes " fill=\"white\" stroke=\"black\" stroke-width=\"24\"/>\n"
sheet_part sheet_parts.LogicalStart = codes "<rect class=\"logical\""
sheet_part sheet_parts.LogicalEnd =
    codes " fill=\"none\" stroke=\"gray\" stroke-width=\"48\" stroke-dasharray=\"240\"/>\n"
sheet_part sheet_parts.PrintableStart = codes "<rect class=\"printable\""
sheet_part sheet_parts.PrintableEnd = codes " fill=\"none\" stroke=\"gray\" stroke-width=\"24\"/>\n"
sheet_part sheet_parts.FailureStart = codes "<path class=\"failure\" transform=\"translate("
sheet_part sheet_parts.FailureEnd =
    codes ")\" d=\"M-480-480L480 480M-480 480L480-480\" stroke=\"red\" stroke-width=\"72\"/>\n"
sheet_part sheet_parts.SentenceStart = codes "<text class=\"sentence\" text-anchor=\"middle\""
sheet_part sheet_parts.SentenceFill = codes " fill=\"red\">"
sheet_part sheet_parts.SentenceEnd = codes "</text>\n"
sheet_part sheet_parts.PictureEnd = codes "</svg>\n"
sheet_part sheet_parts.DocumentStart =
    codes
    "<!DOCTYPE html>\n<html lang=\"en\">\n<head>\n<meta charset=\"utf-8\"/>\n<title>Pages</title>\n<style>\n@page { margin: 8mm; }\nh2 { font-size: 1em; break-after: avoid; }\nsvg { display: block; max-width: 100%; max-height: 94vh; height: auto; margin: 0 auto 1em; overflow: visible; }\n@media print { ul { display: none; } svg { max-height: 85vh; break-after: page; } }\n</style>\n</head>\n<body>\n<p>"
sheet_part sheet_parts.DocumentLegend =
    codes
    "</p>\n<ul>\n<li>Dashed: the logical page. Thin: the printable area. At the edges: millimetres (gray) and inches (navy).</li>\n<li>Silver: the box of a character, with --boxes, or where its code has no known character.</li>\n<li>Red: where the job fails. The marks before that are gray there.</li>\n<li>Point at a mark to read what it is, the byte of its item, and its place from the left and the upper edge.</li>\n</ul>\n"
sheet_part sheet_parts.PageNumber = codes "<h2>Page "
sheet_part sheet_parts.PageNumberEnd = codes "</h2>\n"
sheet_part sheet_parts.DocumentEnd = codes "</body>\n</html>\n"
