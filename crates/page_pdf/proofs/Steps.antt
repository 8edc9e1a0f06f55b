-- Steps of a document, one behind another.
use Rattle.std.proofs.Common.{◌≡◌, ◌∙◌, ℕ, ◌+◌, ◌-◌, List, [], ◌++◌, Result, Ok, Err, ap, append_assoc, length}
use Rattle.std.specs.Prelude.{OnOk}
use Rattle.page_pdf.specs.Document.{HasWritten, Pdf, Written, and_last, and_then, capped, four, opens_page, writes}
use Rattle.page_pdf.proofs.Loops.{longer}

-- ---- a text

-- what was appended to nothing, as a slice
pub built : (nothing text slice more : List ℕ) → nothing ≡ [] → text ≡ nothing ++ more → slice ≡ text → slice ≡ more
built nothing text slice more none appended lent = lent ∙ (appended ∙ ap (λ l. l ++ more) none)

-- a text was appended, and counted
pub counted : (more text new : List ℕ) (old pdf : Pdf) (old_len new_len : ℕ) → new ≡ text ++ more → old_len ≡ length text →
    new_len ≡ length new → pdf ≡ record old { written = capped (old.written + (new_len - old_len)) } →
    HasWritten (writes more old) text new pdf
counted more text new old pdf old_len new_len appended old_is new_is pdf_is = record {
  text_is = appended;
  pdf_is =
      pdf_is
      ∙ (ap (λ (n : ℕ). record old { written = capped (old.written + (n - old_len)) }) new_is
      ∙ (ap (λ (n : ℕ). record old { written = capped (old.written + (length new - n)) }) old_is
      ∙ ap (λ (n : ℕ). record old { written = capped (old.written + n) }) (longer text more new appended)));
}

-- ---- two steps and more

pub both_written : (first : Written) (next : Pdf → Written) (text mid new : List ℕ) (between pdf : Pdf) →
    HasWritten first text mid between → HasWritten (next between) mid new pdf → HasWritten (and_then first next) text new pdf
both_written first next text mid new between pdf one other = record {
  text_is =
      other.text_is
      ∙ (ap (λ (l : List ℕ). l ++ (next between).text) one.text_is
      ∙ (append_assoc text first.text (next between).text
      ∙ ap (λ (p : Pdf). text ++ (first.text ++ (next p).text)) one.pdf_is));
  pdf_is = other.pdf_is ∙ ap (λ (p : Pdf). (next p).pdf) one.pdf_is;
}

-- the last by a call whose result is the answer
pub then_written : {T E : Type 0} (answer : Result T E) (first : Written) (next : Pdf → Written) (text mid new : List ℕ)
    (between pdf : Pdf) → HasWritten first text mid between → OnOk answer (HasWritten (next between) mid new pdf) →
    OnOk answer (HasWritten (and_then first next) text new pdf)
then_written (Ok x) first next text mid new between pdf one other = both_written first next text mid new between pdf one other
then_written (Err e) first next text mid new between pdf one other = tt

pub four_written : {T E : Type 0} (answer : Result T E) (a b c d : Pdf → Written) (t0 t1 t2 t3 t4 : List ℕ) (p0 p1 p2 p3 p4 : Pdf) →
    HasWritten (a p0) t0 t1 p1 → HasWritten (b p1) t1 t2 p2 → HasWritten (c p2) t2 t3 p3 → OnOk answer (HasWritten (d p3) t3 t4 p4) →
    OnOk answer (HasWritten (four a b c d p0) t0 t4 p4)
four_written answer a b c d t0 t1 t2 t3 t4 p0 p1 p2 p3 p4 first second third fourth =
    then_written answer (and_then (and_then (a p0) b) c) d t0 t3 t4 p3 p4
    (both_written (and_then (a p0) b) c t0 t2 t3 p2 p3 (both_written (a p0) b t0 t1 t2 p1 p2 first second) third) fourth

-- where a text comes last
pub then_last : {T E : Type 0} (answer : Result T E) (first : Written) (last : Pdf → List ℕ) (text mid new : List ℕ) (pdf : Pdf) →
    HasWritten first text mid pdf → OnOk answer (new ≡ mid ++ last pdf) → OnOk answer (new ≡ text ++ and_last first last)
then_last (Ok x) first last text mid new pdf one appended =
    appended
    ∙ (ap (λ (l : List ℕ). l ++ last pdf) one.text_is
    ∙ (append_assoc text first.text (last pdf) ∙ ap (λ (p : Pdf). text ++ (first.text ++ last p)) one.pdf_is))
then_last (Err e) first last text mid new pdf one appended = tt

-- ---- a page

-- what is known is changed behind a step
pub changed : (f : Pdf → Pdf) (step : Written) (text new : List ℕ) (pdf pdf' : Pdf) → HasWritten step text new pdf →
    pdf' ≡ f pdf → HasWritten (record { text = step.text; pdf = f step.pdf }) text new pdf'
changed f step text new pdf pdf' written is = record { text_is = written.text_is; pdf_is = is ∙ ap f written.pdf_is }

-- what marks it begins behind a step
pub opened : (step : Written) (text new : List ℕ) (pdf pdf' : Pdf) → HasWritten step text new pdf → pdf' ≡ opens_page pdf →
    HasWritten (record { text = step.text; pdf = opens_page step.pdf }) text new pdf'
opened step text new pdf pdf' written is =
    record { text_is = written.text_is; pdf_is = is ∙ ap (λ (p : Pdf). opens_page p) written.pdf_is }
