-- The document of a job, a file beside others in a folder, to which the job's row leads.
use Rattle.std.specs.Prelude.{ℕ, ◌==◌, ◌||◌, nat_lt, Bool, true, false, if◌then◌else◌, List, [], ◌∷◌, ◌++◌}
use Rattle.std.specs.Prelude.{codes, flat_map, Option, None, Some, Result, Ok, Err}
use Rattle.shown_bytes.specs.Shown.{hex_byte}
use Rattle.streams.specs.declared.error.Error.{Error}
use Rattle.verdict.specs.declared.verdict.Verdict.{Verdict}
use Rattle.verdict.specs.declared.verdict.Verdict.TheVariants.{Pass, Fail}
use Rattle.job_rows.specs.Escapes.{is_between}
use Rattle.job_rows.specs.declared.links.JobDocument.{JobDocument}

-- ---- where it is

-- which part is the last one behind a byte
abbrev pub later_part : ℕ → (part behind : List ℕ) → List ℕ
later_part b part behind = if b == 47 then behind else part

-- what stands behind the last slash of these bytes, or else this
abbrev pub behind_slash : (part bytes : List ℕ) → List ℕ
behind_slash part [] = part
behind_slash part (b ∷ bytes) = behind_slash (later_part b part bytes) bytes

-- the name of what is at a path
abbrev pub last_part : List ℕ → List ℕ
last_part path = behind_slash path path

-- a folder, and the job whose document is in it
pub record DocumentTold : Type 0 where
  pub folder : List ℕ
  pub job : List ℕ

abbrev pub told_of : JobDocument → DocumentTold
told_of document = record { folder = document.folder.now; job = document.job.now }

-- it has the name of the job, and behind it how it is read
unfoldable pub document_path : DocumentTold → List ℕ
document_path document = document.folder ++ codes "/" ++ last_part document.job ++ codes ".pdf"

-- ---- the link

-- letters and digits, and `-`, `.`, `/`, `_` and `~`, which an address has as they are
abbrev pub is_letter_or_digit : ℕ → Bool
is_letter_or_digit b = is_between 48 57 b || is_between 65 90 b || is_between 97 122 b

abbrev pub is_plain : ℕ → Bool
is_plain b = is_letter_or_digit b || is_between 45 47 b || b == 95 || b == 126

-- every other byte by its digits
unfoldable pub address_byte : ℕ → List ℕ
address_byte b = if is_plain b then b ∷ [] else codes "%" ++ hex_byte b

abbrev pub address_of : List ℕ → List ℕ
address_of path = flat_map address_byte path

unfoldable pub link : DocumentTold → List ℕ
link document =
    codes "<p><a href=\"" ++ address_of document.folder ++ codes "/" ++ address_of (last_part document.job)
    ++ codes ".pdf\">All pages as a PDF document</a></p>\n"

-- whether a job of this verdict has pages
abbrev pub has_pages : Result Verdict Error → Bool
has_pages (Ok (Pass pages marks)) = nat_lt 0 pages
has_pages (Ok (Fail place profile reason)) = true
has_pages (Err error) = false

-- to the document, where the job has one and pages in it
abbrev pub link_part : Result Verdict Error → Option DocumentTold → List ℕ
link_part answer None = []
link_part answer (Some document) = if has_pages answer then link document else []
