-- What is written where a page is.
use Rattle.std.proofs.Common.{◌≡◌, ℕ, Bool, true, false, if◌then◌else◌, List, Result, append-nil, refl, subst, sym}
use Rattle.std.specs.Prelude.{OnOk}
use Rattle.page_pdf.specs.Document.{HasWritten, Pdf, Written, nothing}

pub where_written : {T E : Type 0} (answer : Result T E) (step : Written) (old pdf : Pdf) (text new : List ℕ) (is_drawn : Bool) →
    true ≡ is_drawn → OnOk answer (HasWritten step text new pdf) →
    OnOk answer (HasWritten (if is_drawn then step else nothing old) text new pdf)
where_written answer step old pdf text new is_drawn drawn written =
    subst (λ (b : Bool). OnOk answer (HasWritten (if b then step else nothing old) text new pdf)) drawn written

pub where_not : (step : Written) (old : Pdf) (text : List ℕ) (is_drawn : Bool) → false ≡ is_drawn →
    HasWritten (if is_drawn then step else nothing old) text text old
where_not step old text is_drawn not_drawn =
    subst (λ (b : Bool). HasWritten (if b then step else nothing old) text text old) not_drawn
    (record { text_is = sym (append-nil text); pdf_is = refl })
