-- The reader's answer for a text is that of its draft.
use Rattle.std.proofs.Common.{◌≡◌, ℕ, ◌≤◌, false, nat_lt, List, length, Result, Ok, Err, ap, sym, ◌∙◌, arith}
use Rattle.std.specs.Prelude.{MatchResult}
use Rattle.std.specs.Str.Lines.{lines}
use Rattle.std.proofs.lemmas.Bool.Decides.{nat_tests}
use Rattle.device_profile.specs.declared.fault.ProfileFault.{ProfileFault}
use Rattle.device_profile.specs.declared.fault.ProfileFault.TheVariants.{Fault, Memory}
use Rattle.device_profile.specs.Printer.{Printer}
use Rattle.device_profile.specs.Draft.{Draft}
use Rattle.device_profile.specs.Text.{draft_of, printer_of, printer_of_text, IsErrorOfText}

abbrev printer_or_fault : Result Draft ProfileFault → Result Printer ProfileFault
printer_or_fault given = elim given [ Ok draft ↦ printer_of draft | Err fault ↦ Err fault ]

pub of_draft : (text : List ℕ) (draft : Draft) → length text ≤ 65_536 → draft_of (lines text) ≡ Ok draft →
    printer_of_text text ≡ printer_of draft
unfolding printer_of_text
of_draft text draft few is =
    let short : nat_lt 65_536 (length text) ≡ false = grind (arith, nat_tests) in
    rw short (ap printer_or_fault is)

told : (text : List ℕ) (result : Result Printer ProfileFault) → printer_of_text text ≡ result →
    MatchResult result (λ printer. printer_of_text text ≡ Ok printer) (IsErrorOfText text)
told text (Ok printer) is = is
told text (Err (Fault line cause)) is = is
told text (Err Memory) is = tt

-- what the draft's whole answers is the text's answer
pub draft_told : (text : List ℕ) (draft : Draft) (result : Result Printer ProfileFault) → length text ≤ 65_536 →
    draft_of (lines text) ≡ Ok draft → result ≡ printer_of draft
    → MatchResult result (λ printer. printer_of_text text ≡ Ok printer) (IsErrorOfText text)
draft_told text draft result few is same = told text result (of_draft text draft few is ∙ sym same)
