-- Numbers that are taken once each.
use Rattle.std.proofs.Common.{◌≡◌, ◌<◌, ◌+◌, ℕ, List, [], ◌∷◌, ◌++◌, Bool, true, false, ◌&&◌, ◌||◌, ◌==◌, cond, get_or, length, take, refl}
use Rattle.std.proofs.Common.{sym, ap, ◌∙◌, subst}
use Rattle.std.specs.List.{fold, list_all, list_any}
use Rattle.std.proofs.Math.Bool.{and_assoc, and-true}
use Rattle.std.proofs.lemmas.Bool.{eqb-true}
use Rattle.std.proofs.lemmas.List.Folds.{list_all-append}
use Rattle.std.proofs.lemmas.List.Sums.{fold_more}
use Rattle.device_profile.specs.declared.geometry.Geometry.{Geometry}
use Rattle.device_profile.specs.Printer.{has_row, has_every_pair}
use Rattle.profile_lint.specs.Whole.{with_new, sizes_of, orientations_of}

-- the numbers of rows, and that of one row more
pub one_more : (f : Geometry → ℕ) (rows : List Geometry) (i : ℕ) (row : Geometry) (before after : List ℕ) → i < length rows
    → row ≡ get_or rows i row → before ≡ fold (λ ns r. with_new ns (f r)) [] (take i rows) → after ≡ with_new before (f row)
    → after ≡ fold (λ ns r. with_new ns (f r)) [] (take (i + 1) rows)
one_more f rows i row before after h is_row is_before is_after =
    is_after
    ∙ ap (λ (ns : List ℕ). with_new ns (f row)) is_before
    ∙ ap (λ (r : Geometry). with_new (fold (λ ns r. with_new ns (f r)) [] (take i rows)) (f r)) is_row
    ∙ sym (fold_more (λ ns r. with_new ns (f r)) [] rows i row h)

twice : (a b : Bool) → (a && b) ≡ ((a && b) && a)
twice true true = refl
twice true false = refl
twice false b = refl

-- a test that holds of all of these holds of one that is among them
holds_of_one : (p : ℕ → Bool) (n : ℕ) (before : List ℕ) → list_any (λ m. m == n) before ≡ true →
    list_all p before ≡ (list_all p before && p n)
holds_of_one p n [] is = cc
holds_of_one p n (m ∷ before) is =
    let P : Bool → Type 0 =
    λ b. (m == n) ≡ b → (b || list_any (λ k. k == n) before) ≡ true → (p m && list_all p before) ≡ ((p m && list_all p before) && p n) in
    (elim (m == n) as P [
      | true ↦
          λ same any. subst (λ k. (p m && list_all p before) ≡ ((p m && list_all p before) && p k)) (eqb-true m n same)
          (twice (p m) (list_all p before))
      | false ↦ λ same any. ap (λ b. p m && b) (holds_of_one p n before any) ∙ sym (and_assoc (p m) (list_all p before) (p n))
    ]) refl is

holds_of_new : (p : ℕ → Bool) (before : List ℕ) (n : ℕ) → list_all p (with_new before n) ≡ (list_all p before && p n)
holds_of_new p before n =
    let P : Bool → Type 0 =
    λ b. list_any (λ m. m == n) before ≡ b → list_all p (cond b before (before ++ n ∷ [])) ≡ (list_all p before && p n) in
    (elim (list_any (λ m. m == n) before) as P [
      | true ↦ λ is. holds_of_one p n before is
      | false ↦ λ is. list_all-append p before (n ∷ []) ∙ ap (λ b. list_all p before && b) (and-true (p n))
    ]) refl

-- a test holds of the numbers of rows that are taken once each exactly where it holds of the number of each row
holds_of_each : (p : ℕ → Bool) (f : Geometry → ℕ) (before : List ℕ) (rows : List Geometry)
    → list_all p (fold (λ ns row. with_new ns (f row)) before rows) ≡ (list_all p before && list_all (λ row. p (f row)) rows)
holds_of_each p f before [] = sym (and-true (list_all p before))
holds_of_each p f before (row ∷ rows) =
    holds_of_each p f (with_new before (f row)) rows
    ∙ ap (λ b. b && list_all (λ r. p (f r)) rows) (holds_of_new p before (f row))
    ∙ and_assoc (list_all p before) (p (f row)) (list_all (λ r. p (f r)) rows)

-- each size of rows goes with each orientation of rows, in both ways to say it
pub every_pair : (rows : List Geometry) →
    list_all (λ size. list_all (λ turned. has_row rows size turned) (orientations_of rows)) (sizes_of rows) ≡ has_every_pair rows
every_pair rows =
    holds_of_each (λ size. list_all (λ turned. has_row rows size turned) (orientations_of rows)) (λ row. row.size) [] rows
    ∙ ap (λ (test : Geometry → Bool). list_all test rows)
    (λ i sized. holds_of_each (λ turned. has_row rows sized.size turned) (λ row. row.orientation) [] rows i)
