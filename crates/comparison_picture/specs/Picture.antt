-- The SVG of a page on which two jobs differ, with the list of what differs beside it.
use Rattle.std.specs.Prelude.{ℕ, ℤ, pos, ◌+◌, ◌/◌, unsigned_abs, true, List, ◌++◌, codes, decimal}
use Rattle.shown_bytes.specs.Lengths.{signed_hundredths}
use Rattle.device_profile.specs.declared.geometry.Geometry.{Geometry}
use Rattle.page_picture.specs.Sheet.{foot_picture, sentence_picture}
use Rattle.comparison_picture.specs.DrawnPages.{ComparedPage}
use Rattle.comparison_picture.specs.FixedParts.{filters_text, style_text}
use Rattle.comparison_picture.specs.Lists.{list_text}
use Rattle.comparison_picture.specs.Sheets.{apart, common_sheet}
use Rattle.comparison_picture.specs.declared.lists.ListForm.TheVariants.{Lines}

-- ---- its sides

-- so many ticks in hundredths of a pixel, of which an inch has 96, and so many of these more
abbrev pub pixels : ℤ → ℕ → ℤ
pixels side more = pos (unsigned_abs side / 3_810_000 + more)

-- five inches wider than the page, for the list, and half an inch higher, for the sentence
unfoldable pub picture_sides : Geometry → List ℕ
picture_sides paper =
    signed_hundredths (pixels paper.page_width 48_000) ++ codes "\" height=\""
    ++ signed_hundredths (pixels paper.page_height 4_800)

-- the same once more, to which places refer
unfoldable pub picture_view : Geometry → List ℕ
picture_view paper =
    signed_hundredths (pixels paper.page_width 48_000) ++ codes " "
    ++ signed_hundredths (pixels paper.page_height 4_800)

unfoldable pub picture_start : Geometry → List ℕ
picture_start paper =
    codes "<svg xmlns=\"http://www.w3.org/2000/svg\" width=\"" ++ picture_sides paper ++ codes "\" viewBox=\"0 0 "
    ++ picture_view paper ++ codes "\">\n"

-- ---- the page

-- how the marks of OLD and of NEW look
unfoldable pub style_part : List ℕ
style_part = codes "<style>\n" ++ style_text ++ codes "</style>\n" ++ filters_text

-- a picture of its own, with the sentence below it
unfoldable pub page_sheet : ComparedPage → (sentence : List ℕ) → List ℕ
page_sheet page sentence =
    common_sheet page true true ++ apart page ++ sentence_picture page.paper sentence ++ foot_picture

-- ---- the list

-- what stands above it, to the right of the page
unfoldable pub list_start : Geometry → (number : ℕ) → List ℕ
list_start paper number =
    codes "<text transform=\"translate(" ++ signed_hundredths (pixels paper.page_width 0)
    ++ codes ")\" y=\"8\" font-family=\"sans-serif\" font-size=\"12\"><tspan x=\"10\" dy=\"17\" font-weight=\"bold\">Page "
    ++ decimal number
    ++ codes "</tspan><tspan class=\"old\" x=\"150\">OLD</tspan><tspan class=\"new\" x=\"310\">NEW</tspan>\n"

unfoldable pub list_part : ComparedPage → List ℕ
list_part page =
    list_start page.paper page.number ++ list_text Lines 55 page.differences ++ codes "</text>\n"

-- ---- all of it

-- the sentence tells what comes of both jobs
unfoldable pub difference_picture : ComparedPage → (sentence : List ℕ) → List ℕ
difference_picture page sentence =
    picture_start page.paper ++ style_part ++ page_sheet page sentence ++ list_part page ++ codes "</svg>\n"
