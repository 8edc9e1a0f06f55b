-- The fixed parts of what marks a page.
use Rattle.std.specs.Prelude.{ℕ, List, codes}
use Rattle.page_pdf.specs.declared.mark_parts.MarkPart.{MarkPart}
use Rattle.page_pdf.specs.declared.mark_parts.MarkPart.TheVariants as mark_parts

unfoldable pub mark_part : MarkPart → List ℕ
mark_part mark_parts.White = codes "1 g "
mark_part mark_parts.Shade = codes "/S"
mark_part mark_parts.ShadeEnd = codes " gs "
mark_part mark_parts.Pattern = codes "/Pattern cs /P"
mark_part mark_parts.PatternEnd = codes " scn "
mark_part mark_parts.Rectangle = codes "re "
mark_part mark_parts.Filled = codes "f\n"
mark_part mark_parts.FilledBlackNext = codes "f 0 g\n"
mark_part mark_parts.FilledWholeNext = codes "f /S0 gs\n"
mark_part mark_parts.LineWidth = codes "w "
mark_part mark_parts.LineFrom = codes "m "
mark_part mark_parts.LineTo = codes "l S\n"
mark_part mark_parts.BandStart = codes "q "
mark_part mark_parts.BandHeight = codes " 0 0 -"
mark_part mark_parts.BandPlace = codes " "
mark_part mark_parts.BandPixels = codes "cm BI/W "
mark_part mark_parts.BandRows = codes "/H "
mark_part mark_parts.BandData = codes "/IM true/D[1 0]ID "
mark_part mark_parts.BandEnd = codes "\nEI Q\n"
mark_part mark_parts.BoxStart = codes "q .75 G 24 w "
mark_part mark_parts.BoxEnd = codes "S Q\n"
mark_part mark_parts.TextStart = codes "BT /"
mark_part mark_parts.HiddenStart = codes "BT 3 Tr /"
mark_part mark_parts.TextSize = codes " 1 Tf "
mark_part mark_parts.TextHeight = codes "0 0 -"
mark_part mark_parts.TextCode = codes "Tm <"
mark_part mark_parts.TextEnd = codes "> Tj ET\n"
mark_part mark_parts.HiddenEnd = codes "> Tj 0 Tr ET\n"
