-- The objects of a document, by their numbers: 1 to 4 say what it is, 5 to 22 are what each page uses, and behind them
-- each page has four: what marks it, how long that is, the page, and its label.
use Rattle.std.specs.Prelude.{ℕ, ◌+◌, ◌*◌, List, ◌++◌, length, decimal, flat_map}
use Rattle.std.specs.List.{range_with_len}
use Rattle.device_profile.specs.declared.geometry.Geometry.{Geometry}
use Rattle.page_env.specs.declared.mark.PageEnd.{PageEnd}
use Rattle.page_pdf.specs.declared.object_parts.ObjectPart.TheVariants as parts
use Rattle.page_pdf.specs.Figures.{points}
use Rattle.page_pdf.specs.Hexes.{letter_codes}
use Rattle.page_pdf.specs.ObjectParts.{object_part}
use Rattle.page_pdf.specs.Titles.{title_codes}

-- ---- an object

unfoldable pub object_start : ℕ → List ℕ
object_start number = decimal number ++ object_part parts.ObjectStart

unfoldable pub object_text : (number : ℕ) → (body : List ℕ) → List ℕ
object_text number body = object_start number ++ body ++ object_part parts.ObjectEnd

-- ---- of a page

-- what marks it begins so; how long it is, the next object tells
unfoldable pub content_start : ℕ → List ℕ
content_start number =
    object_start number ++ object_part parts.ContentStart ++ decimal (number + 1) ++ object_part parts.ContentStream

abbrev pub content_end : List ℕ
content_end = object_part parts.ContentEnd

-- a page of these sides, which the object of this number marks; the zero of its box is its upper left corner, from
-- which patterns are counted, too
unfoldable pub page_body : Geometry → (content : ℕ) → List ℕ
page_body page content =
    object_part parts.Page ++ points page.page_height ++ object_part parts.PageWidth ++ points page.page_width
    ++ object_part parts.PageContent ++ decimal content ++ object_part parts.PageEnd

-- how it is printed
unfoldable pub end_words : PageEnd → List ℕ
end_words end =
    object_part parts.LabelCopies ++ decimal end.copies ++ object_part parts.LabelSides ++ decimal end.sides
    ++ object_part parts.LabelTray ++ decimal end.tray

-- the label of the page of this number, with these words
unfoldable pub label_body : ℕ → (words : List ℕ) → List ℕ
label_body number words =
    object_part parts.Label ++ decimal number ++ words ++ object_part parts.LabelEnd

-- on which the job fails
abbrev pub failing_words : List ℕ
failing_words = object_part parts.LabelFails

-- ---- of the document

-- the numbers of the page and of the label of the page that comes behind so many others
abbrev pub page_object : ℕ → ℕ
page_object index = 25 + 4 * index

abbrev pub label_object : ℕ → ℕ
label_object index = 26 + 4 * index

unfoldable pub page_reference : ℕ → List ℕ
page_reference index = decimal (page_object index) ++ object_part parts.Reference

unfoldable pub label_reference : ℕ → List ℕ
label_reference index =
    decimal index ++ object_part parts.Between ++ decimal (label_object index) ++ object_part parts.Reference

-- of so many pages
abbrev pub page_references : ℕ → List ℕ
page_references count = flat_map page_reference (range_with_len 0 count)

abbrev pub label_references : ℕ → List ℕ
label_references count = flat_map label_reference (range_with_len 0 count)

unfoldable pub catalog_body : ℕ → List ℕ
catalog_body count = object_part parts.Catalog ++ label_references count ++ object_part parts.CatalogEnd

unfoldable pub pages_body : ℕ → List ℕ
pages_body count =
    object_part parts.Pages ++ decimal count ++ object_part parts.PagesKids ++ page_references count
    ++ object_part parts.PagesEnd

-- the names of the job and of the printer
unfoldable pub information_body : (job printer : List ℕ) → List ℕ
information_body job printer =
    object_part parts.Title ++ title_codes job ++ object_part parts.Subject ++ title_codes printer
    ++ object_part parts.InformationEnd

-- the verdict, as it stands at the foot of each page: what stands round it has 29 bytes, and a letter has two
abbrev pub verdict_length : List ℕ → ℕ
verdict_length sentence = 29 + 2 * length sentence

unfoldable pub verdict_body : List ℕ → List ℕ
verdict_body sentence =
    object_part parts.Verdict ++ decimal (verdict_length sentence) ++ object_part parts.VerdictStream
    ++ letter_codes sentence ++ object_part parts.VerdictEnd
