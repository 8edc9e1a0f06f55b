-- The papers that a page may be of.
use Rattle.std.specs.Prelude.{ℕ, ◌*◌, ◌/◌, ◌&&◌, Bool, List, [], ◌∷◌, nat_le, Option, find, codes}
use Rattle.std.specs.Str.{str_eq_ignore_ascii_case}
use Rattle.printer_models.specs.declared.paper.Measure.{Measure}
use Rattle.printer_models.specs.declared.paper.Measure.TheVariants.{Inch, Metric}
use Rattle.printer_models.specs.declared.paper.Paper.{Paper}
use Rattle.printer_models.specs.declared.paper.Paper.TheVariants as papers
use Rattle.printer_models.specs.declared.paper.Sheet.{Sheet}

-- a paper that is cut by inches: its number in `ESC &l#A`, and its width and height in thousandths of an inch
abbrev pub inches : ℕ → ℕ → ℕ → Sheet
inches code width height = record { code = code; measure = Inch; width = width; height = height }

-- one that is cut by millimetres
abbrev pub millimetres : ℕ → ℕ → ℕ → Sheet
millimetres code width height = record { code = code; measure = Metric; width = width; height = height }

-- THE TABLE OF PAPERS
abbrev pub sheet_of : Paper → Sheet
sheet_of papers.Executive = inches 1 7_250 10_500
sheet_of papers.Letter = inches 2 8_500 11_000
sheet_of papers.Legal = inches 3 8_500 14_000
sheet_of papers.Ledger = inches 6 11_000 17_000
sheet_of papers.A6 = millimetres 24 105 148
sheet_of papers.A5 = millimetres 25 148 210
sheet_of papers.A4 = millimetres 26 210 297
sheet_of papers.A3 = millimetres 27 297 420
sheet_of papers.JisB5 = millimetres 45 182 257
sheet_of papers.JisB4 = millimetres 46 257 364
sheet_of papers.Monarch = inches 80 3_875 7_500
sheet_of papers.Com10 = inches 81 4_125 9_500
sheet_of papers.Dl = millimetres 90 110 220
sheet_of papers.C5 = millimetres 91 162 229
sheet_of papers.B5 = millimetres 100 176 250

-- its number in `ESC &l#A`
abbrev pub code_of : Paper → ℕ
code_of paper = (sheet_of paper).code

-- the paper's name, as a user types it
abbrev pub word_of : Paper → List ℕ
word_of papers.Executive = codes "executive"
word_of papers.Letter = codes "letter"
word_of papers.Legal = codes "legal"
word_of papers.Ledger = codes "ledger"
word_of papers.A6 = codes "a6"
word_of papers.A5 = codes "a5"
word_of papers.A4 = codes "a4"
word_of papers.A3 = codes "a3"
word_of papers.JisB5 = codes "jis-b5"
word_of papers.JisB4 = codes "jis-b4"
word_of papers.Monarch = codes "monarch"
word_of papers.Com10 = codes "com-10"
word_of papers.Dl = codes "dl"
word_of papers.C5 = codes "c5"
word_of papers.B5 = codes "b5"

abbrev pub every_paper : List Paper
every_paper =
    papers.Executive ∷ papers.Letter ∷ papers.Legal ∷ papers.Ledger ∷ papers.A6 ∷ papers.A5 ∷ papers.A4 ∷ papers.A3
    ∷ papers.JisB5 ∷ papers.JisB4 ∷ papers.Monarch ∷ papers.Com10 ∷ papers.Dl ∷ papers.C5 ∷ papers.B5 ∷ []

-- whether a paper has this name, in any letter case
unfoldable pub is_named : List ℕ → Paper → Bool
is_named word paper = str_eq_ignore_ascii_case (word_of paper) word

-- the paper of a name
abbrev pub paper_named : List ℕ → Option Paper
paper_named word = find (is_named word) every_paper

-- the whole dots of a side, of which an inch has 300
abbrev pub dots_of : Measure → ℕ → ℕ
dots_of Inch side = side * 300 / 1_000
dots_of Metric side = side * 3_000 / 254

-- each side of a sheet is half an inch or more, and no number of it is above 20,000
abbrev pub has_sides : Sheet → Bool
has_sides sheet =
    nat_le 150 (dots_of sheet.measure sheet.width) && nat_le sheet.width 20_000
    && nat_le 150 (dots_of sheet.measure sheet.height) && nat_le sheet.height 20_000
