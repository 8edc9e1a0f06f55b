-- The fixed parts of the other objects of a document.
use Rattle.std.specs.Prelude.{ℕ, List, codes}
use Rattle.page_pdf.specs.declared.object_parts.ObjectPart.{ObjectPart}
use Rattle.page_pdf.specs.declared.object_parts.ObjectPart.TheVariants as object_parts

unfoldable pub object_part : ObjectPart → List ℕ
object_part object_parts.MapStart =
    codes
    "<</Length 1853>>\nstream\n/CIDInit /ProcSet findresource begin 12 dict begin begincmap /CIDSystemInfo <</Registry(Adobe) /Ordering(UCS) /Supplement 0>> def /CMapName /Codes def /CMapType 2 def 1 begincodespacerange <00> <ff> endcodespacerange 1 beginbfrange <00> <ff> ["
object_part object_parts.MapEnd =
    codes "] endbfrange endcmap CMapName currentdict /CMap defineresource pop end end\nendstream"
object_part object_parts.ObjectStart = codes " 0 obj\n"
object_part object_parts.ObjectEnd = codes "\nendobj\n"
object_part object_parts.ContentStart = codes "<</Length "
object_part object_parts.ContentStream = codes " 0 R>>\nstream\n"
object_part object_parts.ContentEnd = codes "\nendstream\nendobj\n"
object_part object_parts.Page = codes "<</Type/Page/Parent 2 0 R/Resources 5 0 R/MediaBox[0 -"
object_part object_parts.PageWidth = codes " "
object_part object_parts.PageContent = codes " 0]/Contents "
object_part object_parts.PageEnd = codes " 0 R>>"
object_part object_parts.Label = codes "<</P("
object_part object_parts.LabelCopies = codes ": copies "
object_part object_parts.LabelSides = codes ", sides "
object_part object_parts.LabelTray = codes ", tray "
object_part object_parts.LabelFails = codes ": fails"
object_part object_parts.LabelEnd = codes ")>>"
object_part object_parts.Catalog = codes "<</Type/Catalog/Pages 2 0 R/PageLabels<</Nums["
object_part object_parts.CatalogEnd = codes "]>>>>"
object_part object_parts.Pages = codes "<</Type/Pages/Count "
object_part object_parts.PagesKids = codes "/Kids["
object_part object_parts.PagesEnd = codes "]>>"
object_part object_parts.Between = codes " "
object_part object_parts.Reference = codes " 0 R "
object_part object_parts.Title = codes "<</Producer(pclcheck)/Title<"
object_part object_parts.Subject = codes ">/Subject<"
object_part object_parts.InformationEnd = codes ">>>"
object_part object_parts.Verdict =
    codes "<</Type/XObject /Subtype/Form /BBox[0 0 20000 30] /Resources<</Font<</F1 6 0 R>>>> /Length "
object_part object_parts.VerdictStream = codes ">>\nstream\nBT /F1 5 Tf 18 16 Td <"
object_part object_parts.VerdictEnd = codes "> Tj ET\nendstream"
object_part object_parts.Table = codes "xref\n0 "
object_part object_parts.TableFree = codes "\n0000000000 65535 f \n"
object_part object_parts.TableEntry = codes " 00000 n \n"
object_part object_parts.Trailer = codes "trailer\n<</Root 1 0 R/Info 3 0 R/Size "
object_part object_parts.TableStart = codes ">>\nstartxref\n"
object_part object_parts.FileEnd = codes "\n%%EOF\n"
