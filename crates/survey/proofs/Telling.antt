-- One more refusal in a table, by its rows.
use Rattle.std.proofs.Common.{◌≡◌, ℕ, List, Option, None, Some, ap, ◌∙◌, position}
use Rattle.survey.specs.declared.refusal.Refusal.{Refusal}
use Rattle.survey.specs.declared.table.Row.{Row}
use Rattle.survey.specs.Refusals.{is_same}
use Rattle.survey.specs.Tally.{IsCountedAt, Tally, first_row, told_at, told_in}

abbrev pub of_rows : List Row → ℕ → Tally
of_rows rows others = record { rows = rows; others = others }

abbrev place_in : Refusal → List Row → Option ℕ
place_in refusal rows = position (λ row. is_same row.first refusal) rows

-- one that is like one before
pub told_again : (job : ℕ) (refusal : Refusal) (others place : ℕ) (seen rows rows' : List Row) → seen ≡ rows →
    Some place ≡ position (λ row. is_same row.first refusal) seen → IsCountedAt job place rows rows' →
    of_rows rows' others ≡ told_in job refusal (of_rows rows others)
told_again job refusal others place seen rows rows' same is counts =
    ap (λ (l : List Row). of_rows l others) (counts (first_row job refusal))
    ∙ ap (λ (o : Option ℕ). told_at o job refusal (of_rows rows others)) (is ∙ ap (place_in refusal) same)

-- one that is like none
pub told_anew : (job : ℕ) (refusal : Refusal) (others : ℕ) (seen rows : List Row) (old new : Tally) → seen ≡ rows →
    of_rows rows others ≡ old → None ≡ position (λ row. is_same row.first refusal) seen → new ≡ told_at None job refusal old →
    new ≡ told_in job refusal old
told_anew job refusal others seen rows old new same is none told =
    told
    ∙ ap (λ (o : Option ℕ). told_at o job refusal old)
    (none ∙ (ap (place_in refusal) same ∙ ap (λ (t : Tally). place_in refusal t.rows) is))
