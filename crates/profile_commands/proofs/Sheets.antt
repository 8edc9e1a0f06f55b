-- A sheet that passes on its printer, or fails.
use Rattle.std.proofs.Common.{◌≡◌, ◌∙◌, ℕ, Bool, List, [], ◌∷◌, ◌++◌, Option, IsTrue, ap, append_assoc, inl, inr, refl, subst}
use Rattle.device_profile.specs.Name.{printer_name}
use Rattle.profile_commands.specs.ProfileReading.{IsRead, IsTextOf, TellsFaults, TellsWhyNone}
use Rattle.streams.specs.Outlet.{OutletState}
use Rattle.job_reports.specs.Refusals.{TellsLine}
use Rattle.requests.specs.Status.{is_overwriting}
use Rattle.requests.specs.declared.status.Status.{Status}
use Rattle.requests.specs.declared.status.Status.TheVariants.{Overwrites}
use Rattle.requests.specs.declared.status.Trouble.{Trouble}
use Rattle.test_sheet.specs.Sheet.{sheet}
use Rattle.device_profile.specs.Printer.{Printer}
use Rattle.judgement.specs.Verdict.{IsExact, VerdictHolds}
use Rattle.profile_commands.specs.ProfileSheet.{FailsBy, IsEndOfCheck, LeavesSheet, LeavesSheetOf, Passes}
use Rattle.verdict.specs.declared.failure.Failure.{Failure}
use Rattle.verdict.specs.declared.verdict.Verdict.{Verdict}
use Rattle.verdict.specs.declared.verdict.Verdict.TheVariants.{Pass, Fail}
use Rattle.verdict.specs.Failing.{IsPass, failing}

pub passes : (printer : Printer) (fleet : List Printer) (job : List ℕ) (verdict : Verdict) → fleet ≡ printer ∷ [] → IsPass verdict →
    IsExact fleet job verdict → VerdictHolds fleet job verdict → Passes printer job
passes printer fleet job (Pass pages marks) one is exact promise = (
  pages,
  marks,
  subst (λ printers. IsExact printers job (Pass pages marks)) one exact,
  subst (λ printers. VerdictHolds printers job (Pass pages marks)) one promise,
)
passes printer fleet job (Fail place number reason) one is exact promise = absurd is

pub fails_by : (printer : Printer) (fleet : List Printer) (job : List ℕ) (verdict : Verdict) (failure : Failure) →
    fleet ≡ printer ∷ [] → verdict ≡ failing failure → IsExact fleet job verdict → FailsBy printer job failure
fails_by printer fleet job verdict failure one is exact =
    subst (λ printers. IsExact printers job (failing failure)) one (subst (λ (v : Verdict). IsExact fleet job v) is exact)

-- where a trouble is told, no OUT is refused
pub told_refuses_none : (status : Status) (trouble : Trouble) (line : List ℕ) (err err' : OutletState) →
    TellsLine status trouble line err err' → IsTrue (is_overwriting status) → ⊥
told_refuses_none (Overwrites input) trouble line err err' told is = told
told_refuses_none _ trouble line err err' told is = cc

-- nor where a check ends without a verdict
pub end_refuses_none : (status : Status) → IsEndOfCheck status → IsTrue (is_overwriting status) → ⊥
end_refuses_none (Overwrites input) end is = end
end_refuses_none _ end is = cc

-- four pieces of a text, one behind another, of which the second and the last are these
pub in_order : (one two three all a b b' c d d' : List ℕ) → one ≡ a → two ≡ one ++ b → three ≡ two ++ c → all ≡ three ++ d → b ≡ b' →
    d ≡ d' → all ≡ a ++ (b' ++ (c ++ d'))
in_order one two three all a b b' c d d' first second third fourth second_is last_is =
    fourth ∙ ap (λ l. l ++ d) (third ∙ ap (λ l. l ++ c) (second ∙ ap (λ l. l ++ b) first)) ∙ append_assoc (a ++ b) c d
    ∙ append_assoc a b (c ++ d)
    ∙ ap (λ l. a ++ (l ++ (c ++ d))) second_is ∙ ap (λ l. a ++ (b' ++ (c ++ l))) last_is

-- the text that was read has faults, which are told
pub faults_told : (known : Option (List ℕ)) (word : List ℕ) (old new : List (List ℕ)) (failed : Bool) (text slice : List ℕ)
    (status : Status) (err now err' : OutletState)
    → IsRead known old new text → slice ≡ text → now ≡ err → TellsFaults slice word status now err'
    → TellsWhyNone known word old new failed status err err'
faults_told known word old new failed text slice status err now err' read is quiet told =
    inr (text, read, subst (λ t. TellsFaults t word status err err') is (subst (λ e. TellsFaults slice word status e err') quiet told))

-- the sheet of the printer whose text was read
pub sheet_left : (known : Option (List ℕ)) (word : List ℕ) (old new : List (List ℕ)) (failed : Bool)
    (text slice slice' name job bytes : List ℕ) (printer : Printer) (status : Status) (out out' err now err' : OutletState)
    → IsRead known old new text → slice ≡ text → IsTextOf slice printer → slice' ≡ text → name ≡ printer_name slice'
    → job ≡ sheet name printer → bytes ≡ job → now ≡ err
    → LeavesSheetOf word printer bytes status out out' now err' → LeavesSheet known word old new failed status out out' err err'
sheet_left known word old new failed text slice slice' name job bytes printer status out out' err now err' read is_slice is_text is_slice'
    is_name is_job is_bytes quiet left =
    let made : bytes ≡ sheet (printer_name text) printer =
    is_bytes ∙ is_job ∙ ap (λ n. sheet n printer) (is_name ∙ ap printer_name is_slice') in
    inl (
      text,
      printer,
      read,
      subst (λ t. IsTextOf t printer) is_slice is_text,
      subst (λ b. LeavesSheetOf word printer b status out out' err err') made
          (subst (λ e. LeavesSheetOf word printer bytes status out out' e err') quiet left),
    )
