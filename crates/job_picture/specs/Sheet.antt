-- What an item draws on the sheet of its page.
use Rattle.std.specs.Prelude.{ℕ, nat_lt, Bool, false, if◌then◌else◌, Option, List, [], ◌∷◌, ◌++◌, length}
use Rattle.device_profile.specs.declared.geometry.Geometry.{Geometry}
use Rattle.device_profile.specs.Printer.{Printer}
use Rattle.page_env.specs.declared.finding.Finding.{Finding}
use Rattle.page_env.specs.Places.{geometry_of}
use Rattle.page_env.specs.Settings.{State}
use Rattle.page_machine.specs.Event.{Event, Marked, Ended}
use Rattle.page_picture.specs.Failure.{veil_picture}
use Rattle.page_picture.specs.Marks.{mark_picture}
use Rattle.page_picture.specs.Sheet.{head_picture, foot_picture, sentence_picture, page_number, document_start}
use Rattle.page_picture.specs.Sheet.{document_end}
use Rattle.job_picture.specs.declared.progress.Progress.{Progress}
use Rattle.requests.specs.declared.selection.Selection.{Selection}
use Rattle.requests.specs.declared.selection.DrawnPages.{DrawnPages}
use Rattle.requests.specs.declared.selection.DrawnPages.TheVariants.{All, One}
use Rattle.job_picture.specs.declared.sheet.Sheet.{Sheet}
use Rattle.job_picture.specs.declared.failing.Spot.{Spot}
use Rattle.job_picture.specs.Failing.{why_picture}
use Rattle.job_picture.specs.Progress.{progress_behind}
use Rattle.requests.specs.Selection.{has_patterns, is_drawn}

-- ---- the sheet

-- a page that is drawn alone has the sentence below it, if there is one
abbrev pub has_sentence : DrawnPages → List ℕ → Bool
has_sentence All sentence = false
has_sentence (One number) sentence = nat_lt 0 (length sentence)

-- the sheet of the page that is open, for the marks of an item with so many bytes before it
abbrev pub sheet_of : (place : ℕ) → Selection → (sentence : List ℕ) → Printer → State → Sheet
sheet_of place selection sentence printer s = record {
  place = place;
  selection = selection;
  paper = geometry_of printer s;
  has_sentence = has_sentence selection.pages sentence;
}

-- ---- marks, and ends of pages

-- in a document a page has its number above it
abbrev pub label_of : DrawnPages → ℕ → List ℕ
label_of All n = page_number n
label_of (One number) n = []

-- the head of a page stands before the first that is drawn of it
abbrev pub due_head : Sheet → Progress → List ℕ
due_head sheet p =
    if p.is_marked then []
    else (label_of sheet.selection.pages p.page
    ++ head_picture sheet.paper sheet.has_sentence (has_patterns sheet.selection p.page))

abbrev pub event_picture : Sheet → Event → List ℕ
event_picture sheet (Marked mark) = mark_picture mark sheet.selection.has_boxes sheet.place
event_picture sheet (Ended end) = foot_picture

-- an event is drawn where its page is
abbrev pub drawn_event : Sheet → Progress → Event → List ℕ
drawn_event sheet p event =
    if is_drawn sheet.selection p.page then due_head sheet p ++ event_picture sheet event else []

-- events on the sheet, one after another
abbrev pub drawn_events : Sheet → Progress → List Event → List ℕ
drawn_events sheet p [] = []
drawn_events sheet p (e ∷ es) = drawn_event sheet p e ++ drawn_events sheet (progress_behind p e) es

-- ---- a failure

abbrev pub sentence_below : Sheet → List ℕ → List ℕ
sentence_below sheet sentence = if sheet.has_sentence then sentence_picture sheet.paper sentence else []

-- what was drawn before it gray, and upon that why it is: the mark that fails, or a cross where the cursor stood
unfoldable pub cross_picture : Sheet → Progress → Spot → Option Finding → List ℕ
cross_picture sheet p spot why =
    due_head sheet p ++ veil_picture sheet.paper ++ why_picture sheet.paper spot why

-- the sentence, and the end of the page
unfoldable pub failed_foot : Sheet → (sentence : List ℕ) → List ℕ
failed_foot sheet sentence = sentence_below sheet sentence ++ foot_picture

-- a failure ends the page
abbrev pub failed_page : Sheet → Progress → Spot → Option Finding → (sentence : List ℕ) → List ℕ
failed_page sheet p spot why sentence = cross_picture sheet p spot why ++ failed_foot sheet sentence

-- it is drawn where its page is
abbrev pub drawn_failure : Sheet → Progress → Spot → Option Finding → (sentence : List ℕ) → List ℕ
drawn_failure sheet p spot why sentence =
    if is_drawn sheet.selection p.page then failed_page sheet p spot why sentence else []

-- ---- all pages

-- a document of all pages begins with the verdict
abbrev pub start_with : DrawnPages → (verdict : List ℕ) → List ℕ
start_with All verdict = document_start verdict
start_with (One number) verdict = []

abbrev pub start_of_all : Selection → (verdict : List ℕ) → List ℕ
start_of_all selection verdict = start_with selection.pages verdict

abbrev pub end_with : DrawnPages → List ℕ
end_with All = document_end
end_with (One number) = []

abbrev pub end_of_all : Selection → List ℕ
end_of_all selection = end_with selection.pages

-- the same, unless it is put
abbrev pub start_if_due : Selection → List ℕ → (is_started : Bool) → List ℕ
start_if_due selection verdict is_started = if is_started then [] else start_of_all selection verdict
