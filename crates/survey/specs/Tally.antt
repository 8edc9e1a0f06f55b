-- How refusals are counted: a row for those that are alike, in the order of the first of each.
use Rattle.std.specs.Prelude.{◌≡◌, ℕ, ◌+◌, ◌-◌, ◌^◌, ◌==◌, nat_lt, min, List, [], ◌∷◌, ◌++◌, length, slice_set}
use Rattle.std.specs.Prelude.{slice_index_or, if◌then◌else◌, Option, None, Some}
use Rattle.std.specs.List.{position}
use Rattle.survey.specs.declared.refusal.Refusal.{Refusal}
use Rattle.survey.specs.declared.table.Row.{Row}
use Rattle.survey.specs.Refusals.{is_same}

-- the rows, and how many refusals there were for which no row is left
pub record Tally : Type 0 where
  pub rows : List Row
  pub others : ℕ

abbrev pub no_refusals : Tally
no_refusals = record { rows = []; others = 0 }

abbrev pub most_rows : ℕ
most_rows = 256

-- a count, or where it stands still
abbrev pub capped : ℕ → ℕ
capped n = min n (2 ^ 64 - 1)

-- the row of a refusal in the job of this number
abbrev pub first_row : ℕ → Refusal → Row
first_row job refusal = record { first = refusal; first_job = job; times = 1; jobs = 1; last_job = job }

-- with one more, in the job of this number
abbrev pub counted : ℕ → Row → Row
counted job row = record row {
  times = capped (row.times + 1);
  jobs = if row.last_job == job then row.jobs else capped (row.jobs + 1);
  last_job = job;
}

-- the row at a place has one more; a row that stands nowhere is not asked for
abbrev pub IsCountedAt : (job place : ℕ) → (old new : List Row) → Type 0
IsCountedAt job place old new = (none : Row) → new ≡ slice_set old place (counted job (slice_index_or old place none))

-- one more refusal, where a row of what is like it stands there, or none
abbrev pub told_at : Option ℕ → ℕ → Refusal → Tally → Tally
told_at (Some place) job refusal tally = record tally {
  rows = slice_set tally.rows place (counted job (slice_index_or tally.rows place (first_row job refusal)));
}
told_at None job refusal tally =
    if nat_lt (length tally.rows) most_rows then record tally { rows = tally.rows ++ first_row job refusal ∷ [] }
    else record tally { others = capped (tally.others + 1) }

abbrev pub told_in : ℕ → Refusal → Tally → Tally
told_in job refusal tally = told_at (position (λ row. is_same row.first refusal) tally.rows) job refusal tally

-- those of a job of this number, one behind another
abbrev pub tallied : ℕ → List Refusal → Tally → Tally
tallied job [] tally = tally
tallied job (refusal ∷ told) tally = tallied job told (told_in job refusal tally)

-- those of jobs, of which the first has this number
abbrev pub tallied_jobs : ℕ → List (List Refusal) → Tally → Tally
tallied_jobs job [] tally = tally
tallied_jobs job (told ∷ others) tally = tallied_jobs (job + 1) others (tallied job told tally)
