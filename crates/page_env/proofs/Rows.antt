-- A printer that has every pair of a size and an orientation has the page to which a size or an orientation leads.
use Rattle.std.proofs.Common.{◌≡◌, ℕ, ◌==◌, ◌&&◌, Bool, true, false, not, cond, List, [], ◌∷◌, IsTrue, IsSome, Any, Option, find, Some}
use Rattle.std.proofs.Common.{None, inl, inr, refl, subst}
use Rattle.std.specs.Prelude.{◌||◌}
use Rattle.std.specs.List.{list_all, list_any}
use Rattle.std.proofs.lemmas.Bool.{and_parts, or_cases, both_ways, cond_both, eqb-true, false≢true}
use Rattle.std.proofs.lemmas.List.Elements.{All-contains}
use Rattle.std.proofs.lemmas.List.Folds.{Any-from_list_any}
use Rattle.std.proofs.lemmas.List.Sums.{AllPass-from_list_all}
use Rattle.device_profile.specs.declared.geometry.Geometry.{Geometry}
use Rattle.device_profile.specs.Printer.{row_at, has_row, has_every_pair, has_size, has_orientation}
use Rattle.page_env.specs.declared.finding.Finding.{Finding}

-- an element that passes the one test and the other
record Found {X : Type 0} (p q : X → Bool) : Type 0 where
  it : X
  passes : IsTrue (p it)
  also : IsTrue (q it)

-- where all pass the one test, and some element the other
found_in : {X : Type 0} (p q : X → Bool) (xs : List X) → IsTrue (list_all p xs) → IsTrue (list_any q xs) → Found p q
found_in p q xs all any =
    let a : Any (λ x. IsTrue (q x)) xs = Any-from_list_any q xs any in
    record { it = a.1; passes = All-contains (λ y. IsTrue (p y)) xs a.1 (AllPass-from_list_all p xs all) (a.0, a.2, a.3); also = a.4 }

is_found : {X : Type 0} (p : X → Bool) (xs : List X) → IsTrue (list_any p xs) → IsSome (find p xs)
is_found p [] any = absurd (false≢true any)
is_found p (x ∷ xs) any =
    cond_both (p x) (Some x) (find p xs) (λ found. IsSome found) (λ yes. refl)
    (λ no. is_found p xs (elim (or_cases (p x) (list_any p xs) any) [ inl now ↦ absurd (both_ways (p x) no now) | inr later ↦ later ]))

-- what is found passes
some_passes : {X : Type 0} (p q : X → Bool) → ((x : X) → IsTrue (p x) → IsTrue (q x)) → (xs : List X) → IsSome (find p xs) →
    IsTrue (list_any q xs)
some_passes p q weaker [] some = absurd (false≢true some)
some_passes p q weaker (x ∷ xs) some = found_or_later x (p x) (q x) (find p xs) (list_any q xs) (weaker x) (some_passes p q weaker xs) some
  where
    found_or_later : {X : Type 0} (x : X) (now here : Bool) (found : Option X) (later : Bool) → (IsTrue now → IsTrue here) →
        (IsSome found → IsTrue later) → IsSome (cond now (Some x) found) → IsTrue (here || later)
    found_or_later x true true found later h k some = refl
    found_or_later x true false found later h k some = absurd (false≢true (h refl))
    found_or_later x false true found later h k some = refl
    found_or_later x false false found later h k some = k some

module _ (rows : List Geometry) (pairs : IsTrue (has_every_pair rows)) where
  pair_is_found : (size orientation : ℕ) → IsTrue (list_any (λ row. row.size == size) rows) →
      IsTrue (list_any (λ row. row.orientation == orientation) rows) → IsSome (row_at rows size orientation)
  unfolding row_at
  pair_is_found size orientation sized turned =
      let a : Found (λ row. list_all (λ other. has_row rows row.size other.orientation) rows) (λ row. row.size == size) =
      found_in _ _ rows pairs sized in
      let b : Found (λ row. has_row rows a.it.size row.orientation) (λ row. row.orientation == orientation) =
      found_in _ _ rows a.passes turned in
      is_found (λ row. (row.size == size) && (row.orientation == orientation)) rows
      (subst (λ n. IsTrue (has_row rows n orientation)) (eqb-true a.it.size size a.also)
      (subst (λ n. IsTrue (has_row rows a.it.size n)) (eqb-true b.it.orientation orientation b.also) b.passes))

  -- a size of some row goes with the orientation of a row
  pub size_is_found : (old size orientation : ℕ) → IsTrue (has_size rows size) → IsSome (row_at rows old orientation) →
      IsSome (row_at rows size orientation)
  unfolding row_at has_size
  size_is_found old size orientation sized here =
      pair_is_found size orientation sized
      (some_passes (λ row. (row.size == old) && (row.orientation == orientation)) (λ row. row.orientation == orientation)
      (λ row h. (and_parts (row.size == old) (row.orientation == orientation) h).1) rows here)

  -- an orientation of some row goes with the size of a row
  pub orientation_is_found : (size old orientation : ℕ) → IsTrue (has_orientation rows orientation) → IsSome (row_at rows size old) →
      IsSome (row_at rows size orientation)
  unfolding row_at has_orientation
  orientation_is_found size old orientation turned here =
      pair_is_found size orientation
      (some_passes (λ row. (row.size == size) && (row.orientation == old)) (λ row. row.size == size)
      (λ row h. (and_parts (row.size == size) (row.orientation == old) h).0) rows here)
      turned

-- the second of two checks finds nothing where none of them does
pub second_finds_nothing : (a b : Bool) (f g : Finding) → cond a (Some f) (cond b (Some g) None) ≡ None → b ≡ false
second_finds_nothing true b f g e = absurd cc
second_finds_nothing false true f g e = absurd cc
second_finds_nothing false false f g e = refl

pub was_true : (b : Bool) → not b ≡ false → b ≡ true
was_true true e = refl
was_true false e = absurd cc
