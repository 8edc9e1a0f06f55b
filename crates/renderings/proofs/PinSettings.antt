-- A job can send what a panel has.
use Rattle.std.proofs.Common.{◌≡◌, ℕ, ◌≤◌, ◌*◌, List, ◌++◌, append_assoc, IsTrue, inl, inr, nat_le, Result, Ok, Err, arith, sym, ap, subst}
use Rattle.std.proofs.Common.{◌∙◌}
use Rattle.std.specs.Prelude.{OnOk, unsigned_abs}
use Rattle.std.proofs.lemmas.Bool.{and_parts, or_cases, leb-true, eqb-true}
use Rattle.device_profile.specs.declared.font.FontRequest.{FontRequest}
use Rattle.device_profile.specs.Faces.{is_request, is_set_letter, is_whole_up_to}
use Rattle.device_profile.specs.Values.{is_between}
use Rattle.pcl_items.specs.Escapes.SetLetters.{IsSetLetter}
use Rattle.pcl_items.specs.Escapes.Value.{most}

pub within : (least greatest n : ℕ) → IsTrue (is_between least greatest n) → (least ≤ n) × (n ≤ greatest)
within least greatest n is =
    let parts = and_parts (nat_le least n) (nat_le n greatest) is in
    (leb-true least n parts.0, leb-true n greatest parts.1)

low_letter : (c : ℕ) → (65 ≤ c) × (c ≤ 87) → IsSetLetter c
low_letter c h =
    let a : 65 ≤ c = h.0 in
    let b : c ≤ 87 = h.1 in
    (a, omega arith, λ e. omega arith)

high_letter : (c : ℕ) → (89 ≤ c) × (c ≤ 90) → IsSetLetter c
high_letter c h =
    let a : 89 ≤ c = h.0 in
    let b : c ≤ 90 = h.1 in
    (omega arith, b, λ e. omega arith)

set_letter : (c : ℕ) → IsTrue (is_set_letter c) → IsSetLetter c
set_letter c is =
    elim (or_cases (is_between 65 87 c) (is_between 89 90 c) is)
    [ inl low ↦ low_letter c (within 65 87 c low) | inr high ↦ high_letter c (within 89 90 c high) ]

whole_within : (greatest n : ℕ) → greatest * 10_000 ≤ most → IsTrue (is_whole_up_to greatest n) → n ≤ most
whole_within greatest n few is =
    let up_to : n ≤ greatest * 10_000 = leb-true n (greatest * 10_000) ((and_parts _ (nat_le n (greatest * 10_000)) is).1) in
    omega arith

-- what the prologue's values ask of a request
pub record Sendable (request : FontRequest) : Type 0 where
  pub number : request.symbol_set.number ≤ most
  pub letter : IsSetLetter request.symbol_set.letter
  pub spacing : request.spacing ≤ most
  pub pitch : request.pitch ≤ most
  pub height : request.height ≤ most
  pub style : request.style ≤ most
  pub weight : unsigned_abs request.weight ≤ most
  pub typeface : request.typeface ≤ most

pub sendable : (request : FontRequest) → IsTrue (is_request request) → Sendable request
sendable request is =
    let p7 = and_parts _ _ is in
    let p6 = and_parts _ _ p7.0 in
    let p5 = and_parts _ _ p6.0 in
    let p4 = and_parts _ _ p5.0 in
    let p3 = and_parts _ _ p4.0 in
    let p2 = and_parts _ _ p3.0 in
    let p1 = and_parts _ _ p2.0 in
    let spacing : request.spacing ≡ 0 = eqb-true request.spacing 0 p2.1 in
    record {
      number = whole_within 65_535 request.symbol_set.number (omega arith) p1.0;
      letter = set_letter request.symbol_set.letter p1.1;
      spacing = subst (λ n. n ≤ most) (sym spacing) (omega arith);
      pitch = leb-true request.pitch most p3.1;
      height = leb-true request.height most p4.1;
      style = whole_within 65_535 request.style (omega arith) p5.1;
      weight = whole_within 7 (unsigned_abs request.weight) (omega arith) p6.1;
      typeface = whole_within 65_535 request.typeface (omega arith) p7.1;
    }

-- ---- texts that are appended one after another

three_parts : (old first second third a b new : List ℕ) → a ≡ old ++ first → b ≡ a ++ second → new ≡ b ++ third →
    new ≡ old ++ ((first ++ second) ++ third)
three_parts old first second third a b new e f h =
    h
    ∙ (ap (λ l. l ++ third) (f ∙ ap (λ l. l ++ second) e)
    ∙ (ap (λ l. l ++ third) (append_assoc old first second)
    ∙ append_assoc old (first ++ second) third))

pub pushed : {T E : Type 0} (r : Result T E) (old first second third a b new : List ℕ) → a ≡ old ++ first → b ≡ a ++ second →
    OnOk r (new ≡ b ++ third) → OnOk r (new ≡ old ++ ((first ++ second) ++ third))
pushed (Ok x) old first second third a b new e f h = three_parts old first second third a b new e f h
pushed (Err x) old first second third a b new e f h = tt
