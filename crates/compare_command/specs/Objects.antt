-- The objects of JSON that tell what comes of two jobs.
use Rattle.std.specs.Prelude.{ℕ, List, [], ◌∷◌, ◌++◌, codes}
use Rattle.serde_json.specs.Data.{object, Members, no_members}
use Rattle.serde_json.specs.Written.{compact_text}
use Rattle.many_jobs.specs.JsonObject.{with_number, with_text}
use Rattle.many_jobs.specs.JsonTexts.{name_text, words_text}
use Rattle.sinks.specs.declared.counts.Counts.{Counts}
use Rattle.page_comparison.specs.declared.differences.PageDifference.{PageDifference}
use Rattle.compare_command.specs.Lines.{change_words, mark_of}

-- the names of both jobs
abbrev pub with_names : (old new : List ℕ) → Members → Members
with_names old new members =
    with_text (codes "new") (name_text new) (with_text (codes "old") (name_text old) members)

abbrev pub same_members : (old new : List ℕ) → Counts → Members
same_members old new counts =
    with_number (codes "marks") counts.marks
    (with_number (codes "pages") counts.pages
    (with_text (codes "verdict") (codes "SAME") (with_names old new no_members)))

-- where they differ
abbrev pub with_spot : PageDifference → Members → Members
with_spot difference members =
    with_number (codes "new_at") difference.new_place
    (with_number (codes "old_at") difference.old_place
    (with_number (codes "mark") (mark_of difference) (with_number (codes "page") difference.page members)))

abbrev pub difference_members : (old new name : List ℕ) → PageDifference → Members
difference_members old new name difference =
    with_text (codes "change") (words_text (change_words difference.change))
    (with_text (codes "printer") (name_text name)
    (with_spot difference (with_text (codes "verdict") (codes "DIFFERS") (with_names old new no_members))))

abbrev pub object_line : Members → List ℕ
object_line members = compact_text (object members) ++ 10 ∷ []

abbrev pub same_object : (old new : List ℕ) → Counts → List ℕ
same_object old new counts = object_line (same_members old new counts)

abbrev pub difference_object : (old new name : List ℕ) → PageDifference → List ℕ
difference_object old new name difference = object_line (difference_members old new name difference)

-- more differences are left out, and so many pages differ
abbrev pub more_members : (old new : List ℕ) → ℕ → Members
more_members old new pages =
    with_number (codes "pages") pages (with_text (codes "verdict") (codes "MORE") (with_names old new no_members))

abbrev pub more_object : (old new : List ℕ) → ℕ → List ℕ
more_object old new pages = object_line (more_members old new pages)
