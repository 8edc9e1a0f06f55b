-- What a run finds first, behind how many items.
use Rattle.std.proofs.Common.{◌≡◌, inl, inr, ℕ, zero, suc, ◌+◌, List, [], ◌∷◌, Option, None, Some, refl, ap, sym, ◌∙◌, arith}
use Rattle.page_env.specs.declared.finding.Finding.{Finding}
use Rattle.page_machine.specs.Job.{ItemRun}
use Rattle.page_machine.specs.Pinning.{found_at, finding_of}
use Rattle.verdict.specs.declared.reason.Reason.TheVariants.{Finding as FindingOfRun}
use Rattle.judgement.specs.Wrong.{Wrong, found_or, findings_in}
use Rattle.page_machine.specs.Reached.{FindsBehind}
use Rattle.judgement.specs.Failing.{GoesOn, GoesThrough}
use Rattle.preflight.proofs.Soonest.{IsIn}

-- it is the finding of this run, which comes behind so many items
pub record IsItsFinding (number count_before : ℕ) (items : List ItemRun) (w : Wrong) : Type 0 where
  pub count : ℕ
  pub before_is : w.count_before ≡ count_before + count
  pub finding : Finding
  pub number_is : w.profile ≡ number
  pub reason_is : w.reason ≡ FindingOfRun finding
  pub there : FindsBehind count w.place finding items

found : (number count_before : ℕ) (x : ItemRun) (items : List ItemRun) (w : Wrong) (o : Option Finding) → x.finding ≡ o →
    (IsIn w (findings_in number (count_before + 1) items) → IsItsFinding number (count_before + 1) items w) →
    IsIn w (found_or number count_before x.place o (findings_in number (count_before + 1) items)) →
    IsItsFinding number count_before (x ∷ items) w
found number count_before x items w (Some finding) is rest (inl e) = record {
  count = zero;
  before_is = omega (arith, ap (λ (v : Wrong). v.count_before) e);
  finding = finding;
  number_is = sym (ap (λ (v : Wrong). v.profile) e);
  reason_is = sym (ap (λ (v : Wrong). v.reason) e);
  there = (is, ap (λ (v : Wrong). v.place) e);
}
found number count_before x items w (Some finding) is rest (inr nothing) = absurd nothing
found number count_before x items w None is rest h =
    let f = rest h in
    record {
      count = suc f.count;
      before_is = omega (arith, f.before_is);
      finding = f.finding;
      number_is = f.number_is;
      reason_is = f.reason_is;
      there = (is, f.there);
    }

pub its_finding : (number count_before : ℕ) (items : List ItemRun) (w : Wrong) → IsIn w (findings_in number count_before items) →
    IsItsFinding number count_before items w
its_finding number count_before [] w h = absurd h
its_finding number count_before (x ∷ items) w h = found number count_before x items w x.finding refl
    (its_finding number (count_before + 1) items w) h

pub finding_behind : (n place : ℕ) (f : Finding) (items : List ItemRun) → FindsBehind n place f items → finding_of items ≡ Some (place, f)
finding_behind n place f [] h = absurd h
finding_behind zero place f (x ∷ items) h = ap (λ o. found_at x.place o (finding_of items)) h.0 ∙ ap (λ at. Some (at, f)) h.1
finding_behind (suc n) place f (x ∷ items) h = ap (λ o. found_at x.place o (finding_of items)) h.0 ∙ finding_behind n place f items h.1

-- the last item before a finding is one that the run goes through
pub comes_behind : (n place : ℕ) (f : Finding) (items : List ItemRun) → FindsBehind (suc n) place f items →
    (at : ℕ) × GoesThrough n at items
comes_behind n place f [] h = absurd h
comes_behind zero place f (x ∷ items) h = (x.place, (h.0, refl))
comes_behind (suc n) place f (x ∷ items) h = let rest = comes_behind n place f items h.1 in (rest.0, (h.0, rest.1))

pub goes_on : (n place : ℕ) (items : List ItemRun) → GoesThrough n place items → GoesOn (suc n) items
goes_on n place [] h = absurd h
goes_on zero place (x ∷ items) h = (h.0, tt)
goes_on (suc n) place (x ∷ items) h = (h.0, goes_on n place items h.1)
