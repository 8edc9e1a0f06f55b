-- A profile's text is judged by its front.
use Rattle.std.proofs.Common.{◌≡◌, ◌≤◌, ◌<◌, ◌⊎◌, inl, inr, ℕ, List, take, length, nat_lt, Option, Some, None, IfSome, Result, Err, refl}
use Rattle.std.proofs.Common.{subst, sym, ◌∙◌, ap, arith}
use Rattle.std.proofs.lemmas.Bool.{cases_lt, cond-true, lt-ltb}
use Rattle.std.proofs.lemmas.List.{take_all, length-take}
use Rattle.device_profile.specs.declared.fault.Cause.TheVariants.{Range}
use Rattle.device_profile.specs.declared.fault.ProfileFault.{ProfileFault}
use Rattle.device_profile.specs.declared.fault.ProfileFault.TheVariants.{Fault, Memory}
use Rattle.device_profile.specs.Printer.{Printer}
use Rattle.device_profile.specs.Text.{printer_of_text, IsErrorOfText}
use Rattle.requests.specs.declared.status.Status.{Status}
use Rattle.named_inputs.specs.Fleet.{IsEndOfProfile}
use Rattle.requests.specs.Status.{refusal_of}

long_refused : (text : List ℕ) → 65_536 < length text → printer_of_text text ≡ Err (Fault 0 Range)
unfolding printer_of_text
long_refused text long = cond-true (nat_lt 65_536 (length text)) _ _ (lt-ltb 65_536 (length text) long)

-- a text is judged as its first 65,537 bytes are
front_judged : (text : List ℕ) → printer_of_text (take 65_537 text) ≡ printer_of_text text
front_judged text = go (cases_lt 65_536 (length text))
  where
    go : (65_536 < length text) ⊎ (length text ≤ 65_536) → printer_of_text (take 65_537 text) ≡ printer_of_text text
    go (inl long) =
        let cut : 65_536 < length (take 65_537 text) = omega (arith, length-take 65_537 text) in
        long_refused (take 65_537 text) cut ∙ sym (long_refused text long)
    go (inr fits) = ap printer_of_text (take_all 65_537 text (omega arith))

-- what is said of the bytes that were read of a text is said of the text
pub read_judged : (text : Option (List ℕ)) (bytes : List ℕ) (r : Result Printer ProfileFault) →
    IfSome text (λ known. bytes ≡ take 65_537 known) → printer_of_text bytes ≡ r → IfSome text (λ known. printer_of_text known ≡ r)
read_judged None bytes r read judged = tt
read_judged (Some known) bytes r read judged = sym (front_judged known) ∙ ap printer_of_text (sym read) ∙ judged

-- a fault in the bytes that were read of a text is the text's
pub read_refused : (text : Option (List ℕ)) (bytes : List ℕ) (number : ℕ) (fault : ProfileFault) (status : Status) →
    IfSome text (λ known. bytes ≡ take 65_537 known) → IsErrorOfText bytes fault → status ≡ refusal_of number fault →
    IsEndOfProfile number text status
read_refused text bytes number (Fault line cause) status read refused is =
    subst (IsEndOfProfile number text) (sym is) (refl, read_judged text bytes (Err (Fault line cause)) read refused)
read_refused text bytes number Memory status read refused is = subst (IsEndOfProfile number text) (sym is) tt
