-- What is pending, as the steps of a document read it.
use Rattle.std.proofs.Common.{◌≡◌, ◌∙◌, ℕ, List, ◌++◌, Bool, ap, length}
use Rattle.device_profile.specs.declared.geometry.Geometry.{Geometry}
use Rattle.page_env.specs.Mark.{Shape}
use Rattle.page_pdf.specs.declared.pending.Pending.{Pending}
use Rattle.page_pdf.specs.Document.{Pdf}
use Rattle.page_pdf.specs.Pending.{goes_on, pending_text}

-- its text was appended
pub pending_appended : (old : Pdf) (text new pixels : List ℕ) (pending : Pending) → new ≡ text ++ pending_text pending pixels →
    pending ≡ old.pending → pixels ≡ old.pixels → new ≡ text ++ pending_text old.pending old.pixels
pending_appended old text new pixels pending appended pending_is pixels_are =
    appended
    ∙ (ap (λ (p : Pending). text ++ pending_text p pixels) pending_is
    ∙ ap (λ (l : List ℕ). text ++ pending_text old.pending l) pixels_are)

-- whether a mark goes on with it
pub on_is : (paper : Geometry) (mark : Shape) (old : Pdf) (pixels : List ℕ) (pending : Pending) (on : Bool) →
    on ≡ goes_on paper pending (length pixels) mark → pixels ≡ old.pixels → pending ≡ old.pending →
    on ≡ goes_on paper old.pending (length old.pixels) mark
on_is paper mark old pixels pending on is pixels_are pending_is =
    is
    ∙ (ap (λ (l : List ℕ). goes_on paper pending (length l) mark) pixels_are
    ∙ ap (λ (p : Pending). goes_on paper p (length old.pixels) mark) pending_is)
