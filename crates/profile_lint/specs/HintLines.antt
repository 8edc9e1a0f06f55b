-- The line that is written for a hint.
use Rattle.std.specs.Prelude.{ℕ, ℤ, List, [], ◌∷◌, ◌++◌, codes, decimal, flat_map}
use Rattle.device_profile.specs.declared.field.Field.{Field}
use Rattle.device_profile.specs.declared.font.CodeRange.{CodeRange}
use Rattle.device_profile.specs.declared.geometry.Geometry.{Geometry}
use Rattle.device_profile.specs.Field.{field_key}
use Rattle.printer_models.specs.declared.face.CharacterSet.{CharacterSet}
use Rattle.printer_models.specs.declared.face.Metrics.{Metrics}
use Rattle.printer_models.specs.declared.paper.Paper.{Paper}
use Rattle.printer_models.specs.Face.{codes_in, metrics_of}
use Rattle.printer_models.specs.Page.{page_of}
use Rattle.printer_models.specs.Paper.{word_of}
use Rattle.profile_lint.specs.declared.hint.Area.{Area}
use Rattle.profile_lint.specs.declared.hint.Area.TheVariants.{Physical, Logical, Printable}
use Rattle.profile_lint.specs.declared.hint.Hint.{Hint}
use Rattle.profile_lint.specs.declared.hint.Hint.TheVariants.{OtherArea, OddAdvance, OtherNumbers, OtherCodes}
use Rattle.profile_lint.specs.declared.hint.Hint.TheVariants.{SeveralValues, FixedPanel}
use Rattle.profile_lint.specs.declared.hint_line.Numbers.{Numbers}
use Rattle.profile_lint.specs.FaceHints.{advance_by}
use Rattle.profile_lint.specs.PageHints.{area_lengths, units_in}
use Rattle.profile_lint.specs.Rules.{command_of}
use Rattle.shown_bytes.specs.Shown.{shown}

-- a length in whole 7200ths of an inch, behind a space
unfoldable pub length_word : ℤ → List ℕ
length_word length = 32 ∷ decimal (units_in length)

abbrev pub area_name : Area → List ℕ
area_name Physical = codes "physical page"
area_name Logical = codes "logical page"
area_name Printable = codes "printable area"

-- what the lengths of an area are
abbrev pub length_names : Area → List ℕ
length_names Physical = codes "width and height"
length_names Logical = codes "left, top, width and height"
length_names Printable = codes "left, top, right and bottom"

-- the line of a page in the profile
unfoldable pub page_place : Geometry → List ℕ
page_place page = codes "geometry " ++ decimal page.size ++ codes " " ++ decimal page.orientation ++ codes ": the "

-- the lengths of an area
unfoldable pub area_words : Area → Geometry → List ℕ
area_words area page = flat_map length_word (area_lengths area page)

-- what an area of a page is
unfoldable pub own_words : Area → Geometry → List ℕ
own_words area page = page_place page ++ area_name area ++ codes " is" ++ area_words area page ++ codes ", but"

-- of which paper the table has something else
unfoldable pub paper_words : Area → Paper → List ℕ
paper_words area paper = codes " on " ++ word_of paper ++ codes " paper in the table of papers (" ++ length_names area

-- what the table has
unfoldable pub table_words : Area → Geometry → Paper → List ℕ
table_words area page paper = area_words area page ++ paper_words area paper ++ codes " in 1/7200 inch)"

abbrev pub area_hint_words : Area → Geometry → Paper → List ℕ
area_hint_words area page paper = own_words area page ++ table_words area (page_of paper page.orientation) paper

unfoldable pub advance_hint_words : ℕ → ℕ → ℕ → List ℕ
advance_hint_words face pitch advance =
    (codes "face " ++ decimal face ++ codes ": a character advances by ")
    ++ (decimal advance ++ codes ", but by its pitch it is ")
    ++ (decimal (advance_by pitch) ++ codes " in 1/7200 inch")

-- why it matters
unfoldable pub differ_words : List ℕ
differ_words =
    codes
    " for its pitch, height and typeface in the table of faces: its letters will differ (33) from those of profiles that 'profile new' writes"

unfoldable pub lack_words : List ℕ
lack_words = codes " of its symbol set in the table of faces: a job with a letter that it lacks fails (14)"

-- advance, ascent and descent
abbrev pub numbers_of : Metrics → Numbers
numbers_of metrics = record { advance = metrics.advance; ascent = metrics.ascent; descent = metrics.descent }

unfoldable pub numbers_words : Numbers → List ℕ
numbers_words numbers =
    decimal numbers.advance ++ codes " " ++ decimal numbers.ascent ++ codes " " ++ decimal numbers.descent

unfoldable pub number_hint_words : ℕ → Numbers → Numbers → List ℕ
number_hint_words face own wanted =
    (codes "face " ++ decimal face ++ codes ": advance, ascent and descent are ") ++ numbers_words own ++ codes ", but "
    ++ numbers_words wanted
    ++ differ_words

-- ranges of codes, with commas between
unfoldable pub range_words : CodeRange → List ℕ
range_words range = decimal range.first ++ codes "-" ++ decimal range.last

unfoldable pub more_range_words : CodeRange → List ℕ
more_range_words range = 44 ∷ range_words range

unfoldable pub ranges_words : List CodeRange → List ℕ
ranges_words [] = []
ranges_words (range ∷ more) = range_words range ++ flat_map more_range_words more

unfoldable pub code_hint_words : ℕ → CharacterSet → List ℕ
code_hint_words face set =
    (codes "face " ++ decimal face ++ codes ": its codes are not the ") ++ ranges_words (codes_in set) ++ lack_words

unfoldable pub several_words : Field → List ℕ
several_words field =
    codes "'" ++ field_key field ++ codes "' has several values: each job has to send " ++ command_of field

abbrev pub fixed_hint_words : List ℕ
fixed_hint_words = codes "each list has one value, which promises that nobody uses the panel"

abbrev pub hint_words : Hint → List ℕ
hint_words (OtherArea area page paper) = area_hint_words area page paper
hint_words (OddAdvance face pitch advance) = advance_hint_words face pitch advance
hint_words (OtherNumbers face advance ascent descent cut) =
    number_hint_words face (record { advance = advance; ascent = ascent; descent = descent })
    (numbers_of (metrics_of cut))
hint_words (OtherCodes face set) = code_hint_words face set
hint_words (SeveralValues field) = several_words field ++ codes ", and hardly any does"
hint_words FixedPanel = fixed_hint_words

unfoldable pub hint_line : List ℕ → Hint → List ℕ
hint_line file hint = shown file ++ codes ": hint: " ++ hint_words hint ++ codes "\n"
