-- The names of printers by their numbers, and the reports of jobs that fail or have no verdict.
use Rattle.std.proofs.Common.{◌≡◌, ◌<◌, ◌≤◌, ℕ, Bool, false, List, [], length, map, get_or, Option, None, Ok, Err, ap, arith}
use Rattle.std.proofs.Common.{subst, sym, ◌∙◌}
use Rattle.std.proofs.lemmas.List.{get_or-map, get_or_past, length-map}
use Rattle.job_reports.specs.Reports.{Reported}
use Rattle.judgement.specs.declared.failing_item.Judgement.{Judgement}
use Rattle.verdict.specs.declared.failure.Failure.{Failure}
use Rattle.streams.specs.declared.error.Error.{Error}
use Rattle.compare_command.specs.Telling.{failed, judged, unread}

-- the text of an element
pub text_at : {X : Type 0} (xs : List X) (f : X → List ℕ) (i : ℕ) (x : X) → i < length xs → x ≡ get_or xs i x →
    f x ≡ get_or (map f xs) i []
text_at xs f i x inside is = ap f is ∙ sym (get_or-map f xs i x [] inside)

-- there is none
pub no_text_at : {X : Type 0} (xs : List X) (f : X → List ℕ) (i : ℕ) → length xs ≤ i → [] ≡ get_or (map f xs) i []
no_text_at xs f i past =
    let outside : length (map f xs) ≤ i = omega (arith, length-map xs f, past) in sym (get_or_past (map f xs) i [] outside)

-- what is told of a report is told of the failure
pub of_failure : (is_each : Bool) (given names : List (List ℕ)) (word job : List ℕ) (judgement : Judgement) (failure : Failure)
    → is_each ≡ false → given ≡ names → word ≡ job → judgement ≡ judged failure → (P : Reported → Type 0)
    → P (record { is_each = is_each; names = given; job = word; answer = Ok judgement; cause = None }) → P (failed names job failure)
of_failure is_each given names word job judgement failure each_is names_are job_is judged_is P h =
    let same : ◌≡◌ {A = Reported} (record { is_each = is_each; names = given; job = word; answer = Ok judgement; cause = None })
    (failed names job failure) =
    λ i. record { is_each = each_is i; names = names_are i; job = job_is i; answer = Ok (judged_is i); cause = None } in
    subst P same h

-- what is told of a report without a verdict is told of the error
pub of_unread : (is_each : Bool) (given names : List (List ℕ)) (word job : List ℕ) (error : Error) (cause : Option (List ℕ))
    → is_each ≡ false → given ≡ names → word ≡ job → (P : Reported → Type 0)
    → P (record { is_each = is_each; names = given; job = word; answer = Err error; cause = cause }) → P (unread names job error cause)
of_unread is_each given names word job error cause each_is names_are job_is P h =
    let same : ◌≡◌ {A = Reported} (record { is_each = is_each; names = given; job = word; answer = Err error; cause = cause })
    (unread names job error cause) =
    λ i. record { is_each = each_is i; names = names_are i; job = job_is i; answer = Err error; cause = cause } in
    subst P same h
