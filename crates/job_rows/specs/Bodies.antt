-- What further readings of a job told, in its row.
use Rattle.std.specs.Prelude.{ℕ, nat_le, List, [], ◌++◌, codes, length, take, Bool, if◌then◌else◌, Option, None, Some}
use Rattle.std.specs.Prelude.{Result, Ok, Err}
use Rattle.requests.specs.Status.{error_words}
use Rattle.streams.specs.declared.error.Error.{Error}
use Rattle.streams.specs.Errors.{is_write}
use Rattle.verdict.specs.declared.verdict.Verdict.{Verdict}
use Rattle.job_rows.specs.Escapes.{html_text}
use Rattle.job_rows.specs.Pictures.{picture_part, too_large}

-- why this could not be had
unfoldable pub lost_part : List ℕ → Error → List ℕ
lost_part what error =
    codes "<p>" ++ what ++ codes " could not be had when the job was read again (" ++ error_words error
    ++ codes ").</p>\n"

-- the notes, as they are told
abbrev pub notes_part : Option (Result (List ℕ) Error) → List ℕ
notes_part None = []
notes_part (Some (Ok text)) = text
notes_part (Some (Err error)) = lost_part (codes "The notes") error

-- of a long list the beginning
unfoldable pub listed : (most : ℕ) → List ℕ → List ℕ
listed most text = if nat_le (length text) most then html_text text else html_text (take most text) ++ codes "..."

-- the items near the place at which a job fails, as a list has them
abbrev pub near_part : Option (Result (List ℕ) Error) → List ℕ
near_part None = []
near_part (Some (Ok text)) = codes "<pre>" ++ listed 4_000 text ++ codes "</pre>\n"
near_part (Some (Err error)) = lost_part (codes "The items near the place") error

-- the picture could not be written where it is too large
abbrev pub lost_page : Error → List ℕ
lost_page error = if is_write error then too_large else lost_part (codes "The page") error

abbrev pub page_part : Result Verdict Error → Option (Result (List ℕ) Error) → List ℕ
page_part answer None = []
page_part answer (Some (Ok text)) = picture_part answer text
page_part answer (Some (Err error)) = lost_page error

-- that nothing is told by further readings, where there can be none
unfoldable pub once_part : Bool → List ℕ
once_part is_once =
    if is_once then codes "<p>This job can be read only once, so no page of it is drawn.</p>\n" else []
