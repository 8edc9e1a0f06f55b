-- What looks leave in the history of files.
use Rattle.std.proofs.Common.{◌≡◌, ◌∙◌, ◌++◌, ◌∷◌, List, [], None, Ok, Option, Result, Some, ap, subst}
use Rattle.std.specs.Prelude.{IfOk, IsFalse, IsTrue, is_some}
use Rattle.streams.specs.Used.{FileUse}

-- behind looks that found nothing one that did
pub found_behind : (one : FileUse) (used between used' : List FileUse) → between ≡ used → used' ≡ between ++ one ∷ []
    → used' ≡ used ++ one ∷ []
found_behind one used between used' same found = found ∙ ap (λ (u : List FileUse). u ++ one ∷ []) same

module _ {X E : Type 0} (looked : Result (Option X) E) (fault : Option X) (used used' : List FileUse) (is : looked ≡ Ok fault) where
  -- a look that may fail found something
  pub fault_told : (x : X) → fault ≡ Some x → IfOk looked (λ (f : Option X). IsTrue (is_some f) → used' ≡ used) → used' ≡ used
  fault_told x some told =
      let so : IsTrue (is_some fault) → used' ≡ used =
      subst (λ (r : Result (Option X) E). IfOk r (λ (f : Option X). IsTrue (is_some f) → used' ≡ used)) is told in
      so (ap (λ (f : Option X). is_some f) some)

  -- it found nothing
  pub no_fault_told : fault ≡ None → IfOk looked (λ (f : Option X). IsFalse (is_some f) → used' ≡ used) → used' ≡ used
  no_fault_told none told =
      let so : IsFalse (is_some fault) → used' ≡ used =
      subst (λ (r : Result (Option X) E). IfOk r (λ (f : Option X). IsFalse (is_some f) → used' ≡ used)) is told in
      so (ap (λ (f : Option X). is_some f) none)
