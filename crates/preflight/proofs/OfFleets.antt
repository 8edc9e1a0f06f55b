-- What is wrong with the printers of a fleet, and with which.
use Rattle.std.proofs.Common.{◌≡◌, ◌+◌, ◌<◌, inl, inr, ℕ, suc, List, [], ◌∷◌, ◌++◌, length, Some, refl, ap, sym, ◌∙◌, subst, arith}
use Rattle.std.proofs.Common.{append_assoc, length-append}
use Rattle.std.specs.List.{AllByRecursion}
use Rattle.std.proofs.lemmas.Bool.{cases_lt}
use Rattle.pcl_lexer.specs.Reading.{Reading}
use Rattle.device_profile.specs.Printer.{Printer}
use Rattle.page_machine.specs.Job.{ItemRun}
use Rattle.verdict.specs.declared.reason.Reason.TheVariants.{Finding as FindingOfRun, Differs}
use Rattle.judgement.specs.Wrong.{Wrong, findings_in, of_each, first_run, soonest}
use Rattle.judgement.specs.Verdict.{watched_items, runs_of}
use Rattle.judgement.specs.Failing.{IsNumbered}
use Rattle.preflight.proofs.Soonest.{IsIn, in_either, in_left, in_right, in_front}
use Rattle.preflight.proofs.Found.{its_finding}

-- it is one of those of the run of the printer of this number, of printers that are counted from a number on
pub record IsOf (each : ℕ → ℕ → List ItemRun → List Wrong) (reading : Reading) (from : ℕ) (fleet : List Printer) (w : Wrong) : Type 0 where
  pub printers_before : List Printer
  pub printer : Printer
  pub after : List Printer
  pub fleet_is : fleet ≡ printers_before ++ printer ∷ after
  pub is_in : IsIn w (each (from + length printers_before) 0 (watched_items printer reading))

pub of_printer : (each : ℕ → ℕ → List ItemRun → List Wrong) (reading : Reading) (from : ℕ) (fleet : List Printer) (w : Wrong) →
    IsIn w (of_each each from (runs_of fleet reading)) → IsOf each reading from fleet w
of_printer each reading from [] w h = absurd h
of_printer each reading from (p ∷ ps) w h =
    elim (in_either w (each from 0 (watched_items p reading)) (of_each each (from + 1) (runs_of ps reading)) h) [
      | inl here ↦ record {
        printers_before = [];
        printer = p;
        after = ps;
        fleet_is = refl;
        is_in = subst (λ n. IsIn w (each n 0 (watched_items p reading))) (omega arith) here;
      }
      | inr there ↦
          let rest = of_printer each reading (from + 1) ps w there in
          record {
            printers_before = p ∷ rest.printers_before;
            printer = rest.printer;
            after = rest.after;
            fleet_is = ap (λ qs. p ∷ qs) rest.fleet_is;
            is_in = subst (λ n. IsIn w (each n 0 (watched_items rest.printer reading))) (omega arith) rest.is_in;
          }
    ]

-- ---- the runs of a fleet

-- what is found is no difference
pub none_differs : (reading : Reading) (fleet : List Printer) (w : Wrong) → IsIn w (of_each findings_in 1 (runs_of fleet reading)) →
    w.reason ≡ Differs → ⊥
none_differs reading fleet w h differs =
    let of = of_printer findings_in reading 1 fleet w h in
    let its = its_finding (1 + length of.printers_before) 0 (watched_items of.printer reading) w of.is_in in
    let e : FindingOfRun its.finding ≡ Differs = sym its.reason_is ∙ differs in
    cc

-- what is wrong in the run of a printer is one of these
abbrev pub IsCounted : (ℕ → ℕ → List ItemRun → List Wrong) → List Wrong → Reading → Printer → Type 0
IsCounted each all reading printer = (number : ℕ) × ((w : Wrong) → IsIn w (each number 0 (watched_items printer reading)) → IsIn w all)

pub all_counted : (each : ℕ → ℕ → List ItemRun → List Wrong) (all : List Wrong) (reading : Reading) (from : ℕ) (fleet : List Printer) →
    ((w : Wrong) → IsIn w (of_each each from (runs_of fleet reading)) → IsIn w all) → AllByRecursion (IsCounted each all reading) fleet
all_counted each all reading from [] into = tt
all_counted each all reading from (p ∷ ps) into =
    let own : List Wrong = each from 0 (watched_items p reading) in
    let others : List Wrong = of_each each (from + 1) (runs_of ps reading) in
    ((from, λ w h. into w (in_left w own others h)), all_counted each all reading (from + 1) ps (λ w h. into w (in_right w own others h)))

-- of printers, and then of others
pub of_each_append : (each : ℕ → ℕ → List ItemRun → List Wrong) (reading : Reading) (from : ℕ) (xs ys : List Printer) →
    of_each each from (runs_of (xs ++ ys) reading)
    ≡ of_each each from (runs_of xs reading) ++ of_each each (from + length xs) (runs_of ys reading)
of_each_append each reading from [] ys = ap (λ n. of_each each n (runs_of ys reading)) (omega arith)
of_each_append each reading from (x ∷ xs) ys =
    let own : List Wrong = each from 0 (watched_items x reading) in
    let more : List Wrong = of_each each (from + 1) (runs_of xs reading) in
    let count : from + 1 + length xs ≡ from + suc (length xs) = omega arith in
    ap (λ (l : List Wrong). own ++ l) (of_each_append each reading (from + 1) xs ys)
    ∙ (sym (append_assoc own more (of_each each (from + 1 + length xs) (runs_of ys reading)))
    ∙ ap (λ n. (own ++ more) ++ of_each each n (runs_of ys reading)) count)

pub all_split : {X : Type 0} (P : X → Type 0) (printers_before : List X) (x : X) (after : List X) →
    AllByRecursion P (printers_before ++ x ∷ after) → P x
all_split P [] x after h = h.0
all_split P (y ∷ printers_before) x after h = all_split P printers_before x after h.1

pub first_is : (fleet : List Printer) (reading : Reading) (first : Printer) → IsNumbered fleet 1 first →
    first_run (runs_of fleet reading) ≡ watched_items first reading
first_is fleet reading first at = by at.printers_before at.fleet_is at.number_is
  where
    by : (printers_before : List Printer) → fleet ≡ printers_before ++ first ∷ at.after → 1 ≡ length printers_before + 1 →
        first_run (runs_of fleet reading) ≡ watched_items first reading
    by [] fleet_is number_is = ap (λ printers. first_run (runs_of printers reading)) fleet_is
    by (x ∷ printers_before) fleet_is number_is = absurd (omega (arith, number_is))

-- ---- printers of lower numbers

-- what is wrong with one of these comes later than what is wrong first with another, by a list in which each has its number
module _ (each : ℕ → ℕ → List ItemRun → List Wrong)
    (has_number : (number count_before : ℕ) (items : List ItemRun) (w : Wrong) → IsIn w (each number count_before items) →
    w.profile ≡ number)
    (reading : Reading) (fleet : List Printer) (w : Wrong) (ahead behind : List Wrong) (not_ahead : IsIn w ahead → ⊥)
    (soon : soonest (ahead ++ (of_each each 1 (runs_of fleet reading) ++ behind)) ≡ Some w) (printer : Printer) (number : ℕ)
    (at : IsNumbered fleet number printer) (less : number < w.profile) where
  abbrev lower : List Printer
  lower = at.printers_before ++ printer ∷ []

  abbrev of_lower : List Wrong
  of_lower = of_each each 1 (runs_of lower reading)

  abbrev of_others : List Wrong
  of_others = of_each each (1 + length lower) (runs_of at.after reading)

  soon_split : soonest ((ahead ++ of_lower) ++ (of_others ++ behind)) ≡ Some w
  soon_split =
      let fleet_is : fleet ≡ lower ++ at.after = at.fleet_is ∙ sym (append_assoc at.printers_before (printer ∷ []) at.after) in
      let split : of_each each 1 (runs_of fleet reading) ≡ of_lower ++ of_others =
      ap (λ printers. of_each each 1 (runs_of printers reading)) fleet_is ∙ of_each_append each reading 1 lower at.after in
      ap soonest
      (append_assoc ahead of_lower (of_others ++ behind)
      ∙ ap (λ (l : List Wrong). ahead ++ l) (sym (append_assoc of_lower of_others behind))
      ∙ ap (λ (l : List Wrong). ahead ++ (l ++ behind)) (sym split))
      ∙ soon

  none_of_lower : IsIn w of_lower → ⊥
  none_of_lower has =
      let one = of_printer each reading 1 lower w has in
      let number_is : w.profile ≡ 1 + length one.printers_before =
      has_number (1 + length one.printers_before) 0 (watched_items one.printer reading) w one.is_in in
      let lengths : length at.printers_before + 1 ≡ length one.printers_before + suc (length one.after) =
      sym (length-append at.printers_before (printer ∷ []))
      ∙ (ap length one.fleet_is ∙ length-append one.printers_before (one.printer ∷ one.after)) in
      omega (arith, number_is, at.number_is, less, lengths)

  its_own : (v : Wrong) → IsIn v (each number 0 (watched_items printer reading)) → IsIn v (ahead ++ of_lower)
  its_own v has =
      let own : List Wrong = each (1 + length at.printers_before) 0 (watched_items printer reading) in
      let count : number ≡ 1 + length at.printers_before = omega (arith, at.number_is) in
      let here : IsIn v (own ++ []) = in_left v own [] (subst (λ n. IsIn v (each n 0 (watched_items printer reading))) count has) in
      in_right v ahead of_lower
      (subst (IsIn v) (sym (of_each_append each reading 1 at.printers_before (printer ∷ [])))
      (in_right v (of_each each 1 (runs_of at.printers_before reading)) (own ++ []) here))

  pub later_with_lower : (v : Wrong) → IsIn v (each number 0 (watched_items printer reading)) → w.count_before < v.count_before
  later_with_lower v has =
      elim (cases_lt w.count_before v.count_before) [
        | inl later ↦ later
        | inr sooner ↦ elim
            (in_either w ahead of_lower (in_front w v (ahead ++ of_lower) (of_others ++ behind) soon_split (its_own v has) sooner)) [
              | inl one ↦ absurd (not_ahead one)
              | inr one ↦ absurd (none_of_lower one)
            ]
      ]
