-- The fixed parts of what stands round the marks of a page.
use Rattle.std.specs.Prelude.{ℕ, List, codes}
use Rattle.page_pdf.specs.declared.page_parts.PagePart.{PagePart}
use Rattle.page_pdf.specs.declared.page_parts.PagePart.TheVariants as page_parts

unfoldable pub page_part : PagePart → List ℕ
page_part page_parts.Start = codes "q .01 0 0 -.01 0 0 cm 1 J\n"
page_part page_parts.Logical = codes "q .5 G 48 w [240] 0 d "
page_part page_parts.Printable = codes "q .5 G 24 w "
page_part page_parts.End = codes "Q\n"
page_part page_parts.Foot = codes "q 1 0 0 1 0 -"
page_part page_parts.FootPlace = codes " cm "
page_part page_parts.Verdict = codes "/V Do "
page_part page_parts.FootNumber = codes "BT /F1 6 Tf 18 8 Td (page "
page_part page_parts.FootEnd = codes ") Tj ET Q\n"
page_part page_parts.Failure = codes "q 1 0 0 RG 72 w 1 0 0 1 "
page_part page_parts.FailureEnd = codes "cm -480 -480 m 480 480 l -480 480 m 480 -480 l S Q\n"
page_part page_parts.Sentence = codes "q 1 0 0 rg BT /F1 1 Tf "
page_part page_parts.SentenceHeight = codes "0 0 -"
page_part page_parts.SentenceText = codes "Tm <"
page_part page_parts.SentenceEnd = codes "> Tj ET Q\n"
