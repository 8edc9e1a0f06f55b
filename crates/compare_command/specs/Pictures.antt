-- The picture of what differs between two jobs.
use Rattle.std.specs.Prelude.{ℕ, ◌-◌, ◌==◌, Bool, List, [], ◌∷◌, Option, None, Some, if◌then◌else◌}
use Rattle.std.specs.Prelude.{get_or, length, map, take}
use Rattle.std.specs.List.{slice_get}
use Rattle.std.specs.declared.alloc.Global.{Global}
use Rattle.comparison_picture.specs.Document.{difference_document}
use Rattle.comparison_picture.specs.DrawnPages.{ComparedPage, paper_at}
use Rattle.comparison_picture.specs.Picture.{difference_picture}
use Rattle.device_profile.specs.Printer.{Printer}
use Rattle.page_comparison.specs.Comparison.{ToldDifferences, pair_differences, told_differences}
use Rattle.page_comparison.specs.Pages.{MadePair}
use Rattle.page_comparison.specs.declared.differences.Most.{Most}
use Rattle.page_comparison.specs.declared.differences.Nearness.{Nearness as PageNearness}
use Rattle.page_comparison.specs.declared.differences.PageComparison.{PageComparison}
use Rattle.page_comparison.specs.declared.differences.PageComparison.TheVariants as comparisons
use Rattle.page_comparison.specs.declared.differences.PageDifference.{PageDifference}
use Rattle.requests.specs.declared.compare_words.Extent.{Extent}
use Rattle.requests.specs.declared.compare_words.Extent.TheVariants.{First, All}
use Rattle.requests.specs.declared.compare_words.Nearness.{Nearness}
use Rattle.compare_command.specs.declared.found.Manner.{Manner}
use Rattle.compare_command.specs.declared.found.Manner.TheVariants.{ByPages}
use Rattle.compare_command.specs.declared.found.Outcome.{Outcome}
use Rattle.compare_command.specs.declared.found.Outcome.TheVariants.{OfEvents, OfPages}
use Rattle.compare_command.specs.Lines.{name_of}
use Rattle.compare_command.specs.Outcomes.{near_by}
use Rattle.compare_command.specs.Sentences.{difference_sentence}
use Rattle.compare_command.specs.Telling.{HowTold}

-- ---- how jobs are compared, to be drawn

-- the first page that differs is held, or of all of them the first 100
abbrev pub drawn_most : Extent → Most
drawn_most First = record { differences = 1; pages = 1 }
drawn_most (All most) = record { differences = most; pages = 100 }

abbrev pub drawn_manner : Nearness → Extent → Manner
drawn_manner nearness extent = ByPages (near_by nearness) (drawn_most extent)

-- ---- pages

abbrev pub drawn_page : PageNearness → Printer → MadePair → ComparedPage
drawn_page nearness printer pair = record {
  number = pair.number;
  paper = paper_at printer.geometries pair.old.end pair.new.end;
  old = pair.old.marks;
  new = pair.new.marks;
  differences = pair_differences nearness pair;
}

abbrev pub drawn_pages : PageNearness → Printer → List MadePair → List ComparedPage
drawn_pages nearness printer pairs = map (drawn_page nearness printer) pairs

-- ---- the sentence

-- a line without its end
abbrev pub without_line_end : List ℕ → List ℕ
without_line_end line = if get_or line (length line - 1) 0 == 10 then take (length line - 1) line else line

-- on the first difference that is told
abbrev pub sentence_on : HowTold → ℕ → List PageDifference → List ℕ
sentence_on telling number [] = []
sentence_on telling number (difference ∷ differences) =
    without_line_end
    (difference_sentence telling.old_name telling.new_name (name_of telling.names number) difference)

-- ---- the picture

-- of the first page an SVG, or where all differences are told a document; so many pages differ
abbrev pub pages_picture : (is_all : Bool) → List ComparedPage → (count : ℕ) → (sentence : List ℕ) → Option (List ℕ)
pages_picture is_all [] count sentence = None
pages_picture is_all (page ∷ pages) count sentence =
    Some (if is_all then difference_document (page ∷ pages) (count - length (page ∷ pages)) sentence
    else difference_picture page sentence)

-- what differs on this printer
abbrev pub picture_for : HowTold → PageNearness → Printer → ℕ → ToldDifferences → Option (List ℕ)
picture_for telling nearness printer number found =
    pages_picture telling.is_all (drawn_pages nearness printer found.pairs) found.pages
    (sentence_on telling number found.listed)

abbrev pub picture_on : HowTold → PageNearness → Option Printer → ℕ → ToldDifferences → Option (List ℕ)
picture_on telling nearness None number found = None
picture_on telling nearness (Some printer) number found = picture_for telling nearness printer number found

-- on the printer of this number, of these printers
abbrev pub picture_of_pages : HowTold → PageNearness → List Printer → ℕ → PageComparison Global → Option (List ℕ)
picture_of_pages telling nearness fleet number (comparisons.Same counts) = None
picture_of_pages telling nearness fleet number (comparisons.Differs differences) =
    picture_on telling nearness (slice_get fleet (number - 1)) number (told_differences differences)
picture_of_pages telling nearness fleet number (comparisons.OldFails failure) = None
picture_of_pages telling nearness fleet number (comparisons.NewFails failure) = None

abbrev pub picture_by : HowTold → PageNearness → List Printer → ℕ → Outcome → Option (List ℕ)
picture_by telling nearness fleet number (OfEvents comparison) = None
picture_by telling nearness fleet number (OfPages comparison) =
    picture_of_pages telling nearness fleet number comparison
