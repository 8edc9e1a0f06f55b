-- Lemmas on what a document has round the lines of many jobs.
use Rattle.std.proofs.Common.{◌≡◌, ℕ, Bool, false, true, List, [], ap, refl, subst, sym, if◌then◌else◌}
use Rattle.streams.specs.declared.error.Error.{Error}
use Rattle.streams.specs.declared.error.Error.TheVariants.{Memory, Read, Write, Turns, NoProfile, Items}
use Rattle.streams.specs.Outlet.{OutletState, Adds, AddsFront}
use Rattle.streams.proofs.OutletFacts.{Adds-none}
use Rattle.job_rows.specs.Document.{document_end, document_start}
use Rattle.many_jobs.specs.Document.{CutsText, end_text, start_text}
use Rattle.many_jobs.specs.Telling.{is_html}
use Rattle.many_jobs.specs.declared.telling.Format.{Format}

-- a text of which nothing stands there, for want of memory, or a front
pub cut_front : (error : Error) (text : List ℕ) (out out' : OutletState) → CutsText error text out out' → AddsFront out out' text
cut_front Memory text out out' same = ([], text, refl, subst (λ o. Adds out o []) (sym same) (Adds-none out))
cut_front Write text out out' front = front
cut_front Read text out out' never = absurd never
cut_front Turns text out out' never = absurd never
cut_front NoProfile text out out' never = absurd never
cut_front Items text out out' never = absurd never

-- other forms have nothing there
pub no_start : (format : Format) (names : List (List ℕ)) (out : OutletState) → is_html format ≡ false →
    Adds out out (start_text format names)
no_start format names out plain =
    subst (λ (is : Bool). Adds out out (if is then document_start names else [])) (sym plain) (Adds-none out)

pub no_end : (format : Format) (out : OutletState) → is_html format ≡ false → Adds out out (end_text format)
no_end format out plain = subst (λ (is : Bool). Adds out out (if is then document_end else [])) (sym plain) (Adds-none out)

pub start_is : (format : Format) (names : List (List ℕ)) → is_html format ≡ true → document_start names ≡ start_text format names
start_is format names html = ap (λ (is : Bool). if is then document_start names else []) (sym html)

pub end_is : (format : Format) → is_html format ≡ true → document_end ≡ end_text format
end_is format html = ap (λ (is : Bool). if is then document_end else []) (sym html)
