-- The lines of an accepted text may stand in any order.
use Rattle.std.proofs.Common.{◌≡◌, ℕ, zero, suc, ◌+◌, ◌<◌, ◌==◌, ◌&&◌, ◌||◌, Bool, false, not, List, [], ◌∷◌, ◌++◌, length, get_or, set}
use Rattle.std.proofs.Common.{swap, append_assoc, length-append, IsTrue, Some, Ok, inl, inr, nat_lt, nat_le, arith, refl, sym, subst, ap}
use Rattle.std.proofs.Common.{◌∙◌}
use Rattle.std.specs.List.{list_any}
use Rattle.std.specs.List.Sorted.{IsPermutation}
use Rattle.std.proofs.lemmas.Bool.{and_parts, or_parts, or_from, and_from, not-true, not_from_false, false≢true, eqb-true}
use Rattle.std.proofs.lemmas.Bool.Decides.{nat_tests}
use Rattle.std.proofs.lemmas.Cmp.{nat_eq_equiv, int_eq_equiv}
use Rattle.std.proofs.lemmas.List.Folds.{list_any-append}
use Rattle.std.proofs.lemmas.List.Sorted.{IsPermutation-refl, IsPermutation-trans, IsPermutation-append_left, IsPermutation-append_right}
use Rattle.std.proofs.lemmas.List.Sorted.{IsPermutation-append_comm, IsPermutation-keeps, length_permutation, list_any-IsPermutation}
use Rattle.device_profile.specs.declared.field.Field.{Field}
use Rattle.device_profile.specs.declared.format.Format.{Format}
use Rattle.device_profile.specs.declared.field.Field.TheVariants.{Tray}
use Rattle.device_profile.specs.declared.font.FontRequest.{FontRequest}
use Rattle.device_profile.specs.declared.geometry.Geometry.{Geometry}
use Rattle.device_profile.specs.Faces.{Face, has_face, has_request, is_face, is_same_request}
use Rattle.device_profile.specs.Printer.{has_row, is_page, is_same_page}
use Rattle.device_profile.specs.Values.{are_choices}
use Rattle.device_profile.specs.Choices.{Choices}
use Rattle.device_profile.specs.Draft.{Draft, choice_of, draft_after}
use Rattle.device_profile.specs.Text.{words_of_line, draft_of_lines}
use Rattle.device_profile.proofs.ChoiceFacts.{same_or_apart}
use Rattle.device_profile.proofs.Additions.{Addition, nothing, new_name, new_choice, new_device_trays, new_duplex, new_depth, new_memory}
use Rattle.device_profile.proofs.Additions.{new_page, new_face, addition_of, takes_list, takes_number, takes, added, adds, added_after}
use Rattle.device_profile.proofs.Sound.{or_fault, line_given}
use Rattle.device_profile.proofs.Singles.{some_values}

-- the two have the same rows, perhaps in another order, and all else alike
pub record IsSimilar (a b : Draft) : Type 0 where
  pub geometries : IsPermutation a.geometries b.geometries
  pub faces : IsPermutation a.faces b.faces
  pub others : record a { geometries = []; faces = [] } ≡ record b { geometries = []; faces = [] }

pub IsSimilar-refl : (a : Draft) → IsSimilar a a
IsSimilar-refl a = record { geometries = IsPermutation-refl a.geometries; faces = IsPermutation-refl a.faces; others = refl }

IsSimilar-trans : (a b c : Draft) → IsSimilar a b → IsSimilar b c → IsSimilar a c
IsSimilar-trans a b c s t = record {
  geometries = IsPermutation-trans a.geometries b.geometries c.geometries s.geometries t.geometries;
  faces = IsPermutation-trans a.faces b.faces c.faces s.faces t.faces;
  others = s.others ∙ t.others;
}

-- similar drafts take the same additions
takes-similar : (a b : Draft) → IsSimilar a b → (addition : Addition) → takes a addition ≡ takes b addition
unfolding has_face has_request
takes-similar a b s (new_page row) =
    let held : has_row a.geometries row.size row.orientation ≡ has_row b.geometries row.size row.orientation =
    list_any-IsPermutation
    (λ (r : Geometry). (r.size == row.size) && (r.orientation == row.orientation)) a.geometries b.geometries s.geometries in
    let long : length a.geometries ≡ length b.geometries = sym (length_permutation a.geometries b.geometries s.geometries) in
    ap (λ has. not has && nat_lt (length a.geometries) 64 && is_page row) held
    ∙ ap (λ n. not (has_row b.geometries row.size row.orientation) && nat_lt n 64 && is_page row) long
takes-similar a b s (new_face face) =
    let ids : has_face a.faces face.id ≡ has_face b.faces face.id =
    list_any-IsPermutation (λ (f : Face). f.id == face.id) a.faces b.faces s.faces in
    let requests : has_request a.faces face.request ≡ has_request b.faces face.request =
    list_any-IsPermutation (λ (f : Face). is_same_request f.request face.request) a.faces b.faces s.faces in
    let long : length a.faces ≡ length b.faces = sym (length_permutation a.faces b.faces s.faces) in
    ap (λ has. not has && not (has_request a.faces face.request) && nat_lt (length a.faces) 64 && is_face face) ids
    ∙ (ap (λ has. not (has_face b.faces face.id) && not has && nat_lt (length a.faces) 64 && is_face face) requests
    ∙ ap (λ n. not (has_face b.faces face.id) && not (has_request b.faces face.request) && nat_lt n 64 && is_face face) long)
takes-similar a b s addition = ap (λ draft. takes draft addition) s.others

-- and are similar with them
added-similar : (a b : Draft) → IsSimilar a b → (addition : Addition) → IsSimilar (added a addition) (added b addition)
added-similar a b s nothing = s
added-similar a b s (new_page row) =
    record { geometries = IsPermutation-append_left (row ∷ []) a.geometries b.geometries s.geometries; faces = s.faces; others = s.others }
added-similar a b s (new_face face) =
    record { geometries = s.geometries; faces = IsPermutation-append_left (face ∷ []) a.faces b.faces s.faces; others = s.others }
added-similar a b s addition = record { geometries = s.geometries; faces = s.faces; others = ap (λ draft. added draft addition) s.others }

-- the last two of a list change places
last_two : {X : Type 0} (xs : List X) (x y : X) → IsPermutation ((xs ++ x ∷ []) ++ y ∷ []) ((xs ++ y ∷ []) ++ x ∷ [])
last_two xs x y =
    rw (append_assoc xs (x ∷ []) (y ∷ []), append_assoc xs (y ∷ []) (x ∷ []))
    (IsPermutation-append_right xs (x ∷ y ∷ []) (y ∷ x ∷ []) (IsPermutation-append_comm (x ∷ []) (y ∷ [])))

-- of two rows that are new one after the other, each is new without the other
new_alone : {X : Type 0} (is_like : X → X → Bool) → ((x y : X) → is_like x y ≡ is_like y x) → (xs : List X) (x y : X)
    → IsTrue (not (list_any (λ z. is_like z x) xs)) → IsTrue (not (list_any (λ z. is_like z y) (xs ++ x ∷ [])))
    → IsTrue (not (list_any (λ z. is_like z y) xs)) × IsTrue (not (list_any (λ z. is_like z x) (xs ++ y ∷ [])))
new_alone is_like symmetric xs x y first second =
    let none_x : list_any (λ z. is_like z x) xs ≡ false = not-true (list_any (λ z. is_like z x) xs) first in
    let none_y : (list_any (λ z. is_like z y) xs || (is_like x y || false)) ≡ false =
    sym (list_any-append (λ z. is_like z y) xs (x ∷ [])) ∙ not-true (list_any (λ z. is_like z y) (xs ++ x ∷ [])) second in
    let parts = or_parts (list_any (λ z. is_like z y) xs) (is_like x y || false) none_y in
    let unlike : is_like x y ≡ false = (or_parts (is_like x y) false parts.1).0 in
    let other : is_like y x ≡ false = symmetric y x ∙ unlike in
    let all : list_any (λ z. is_like z x) (xs ++ y ∷ []) ≡ false =
    list_any-append (λ z. is_like z x) xs (y ∷ [])
    ∙ or_from (list_any (λ z. is_like z x) xs) (is_like y x || false) none_x (or_from (is_like y x) false other refl) in
    (not_from_false (list_any (λ z. is_like z y) xs) parts.0, not_from_false (list_any (λ z. is_like z x) (xs ++ y ∷ [])) all)

-- where there is room for two there is room for one, and then for the other
room_alone : {X : Type 0} (xs : List X) (x y : X) → IsTrue (nat_lt (length (xs ++ x ∷ [])) 64) →
    IsTrue (nat_lt (length xs) 64) × IsTrue (nat_lt (length (xs ++ y ∷ [])) 64)
room_alone xs x y room =
    let with_x : length (xs ++ x ∷ []) ≡ length xs + 1 = length-append xs (x ∷ []) in
    let with_y : length (xs ++ y ∷ []) ≡ length xs + 1 = length-append xs (y ∷ []) in
    (grind (arith, nat_tests), grind (arith, nat_tests))

same_page_symmetric : (a b : Geometry) → is_same_page a b ≡ is_same_page b a
same_page_symmetric a b =
    ap (λ t. t && (a.orientation == b.orientation)) (nat_eq_equiv.symm a.size b.size)
    ∙ ap (λ t. (b.size == a.size) && t) (nat_eq_equiv.symm a.orientation b.orientation)

same_request_symmetric : (a b : FontRequest) → is_same_request a b ≡ is_same_request b a
same_request_symmetric a b = rw (
  nat_eq_equiv.symm a.symbol_set.number b.symbol_set.number,
  nat_eq_equiv.symm a.symbol_set.letter b.symbol_set.letter,
  nat_eq_equiv.symm a.spacing b.spacing,
  nat_eq_equiv.symm a.pitch b.pitch,
  nat_eq_equiv.symm a.height b.height,
  nat_eq_equiv.symm a.style b.style,
  int_eq_equiv.symm a.weight b.weight,
  nat_eq_equiv.symm a.typeface b.typeface,
) refl

-- a list is not given twice, nor is a number
list_twice : (one two : Field) (held first second : List ℕ) → IsTrue (takes_list one held first) → IsTrue (takes_list two first second) → ⊥
list_twice one two held first second once twice =
    let parts = and_parts (length held == 0) (are_choices one first) once in
    let some = some_values one first parts.1 in
    let none : length first ≡ 0 = eqb-true (length first) 0 ((and_parts (length first == 0) (are_choices two second) twice).0) in
    omega arith

number_twice : (most first second : ℕ) → IsTrue (takes_number most (Some first) second) → ⊥
number_twice most first second twice = false≢true ((and_parts false (nat_le second most) twice).0)

-- two additions in either order
record BothWays (draft : Draft) (x y : Addition) : Type 0 where
  first : IsTrue (takes draft y)
  second : IsTrue (takes (added draft y) x)
  similar : IsSimilar (added (added draft x) y) (added (added draft y) x)

choices_both_ways : (draft : Draft) (f g : Field) (v w : List ℕ) → IsTrue (takes draft (new_choice f v)) →
    IsTrue (takes (added draft (new_choice f v)) (new_choice g w))
    → BothWays draft (new_choice f v) (new_choice g w)
choices_both_ways draft f g v w one two =
    elim (same_or_apart f g) [
      | inl are ↦
          absurd (list_twice f g (choice_of draft f) v w one
          (subst (λ (held : List ℕ). IsTrue (takes_list g held w)) (are.set draft.choices v) two))
      | inr are ↦ record {
        first = subst (λ (held : List ℕ). IsTrue (takes_list g held w)) (are.second_kept draft.choices v) two;
        second = subst (λ (held : List ℕ). IsTrue (takes_list f held v)) (sym (are.first_kept draft.choices w)) one;
        similar = record {
          geometries = IsPermutation-refl draft.geometries;
          faces = IsPermutation-refl draft.faces;
          others =
              ap (λ (choices : Choices). record draft { choices = choices; geometries = []; faces = [] })
              (are.either_order draft.choices v w);
        };
      }
    ]

both_orders : (draft : Draft) (x y : Addition) → IsTrue (takes draft x) → IsTrue (takes (added draft x) y) → BothWays draft x y
unfolding has_face has_request
both_orders draft new_name new_name one two = absurd (false≢true two)
both_orders draft (new_choice f v) (new_choice g w) one two = choices_both_ways draft f g v w one two
both_orders draft (new_device_trays v) (new_device_trays w) one two = absurd (list_twice Tray Tray draft.device_trays v w one two)
both_orders draft (new_duplex n) (new_duplex m) one two = absurd (number_twice 1 n m two)
both_orders draft (new_depth n) (new_depth m) one two = absurd (number_twice 8 n m two)
both_orders draft (new_memory n) (new_memory m) one two = absurd (number_twice 1_048_576 n m two)
both_orders draft (new_page row) (new_page other) one two =
    let rows : List Geometry = draft.geometries in
    let with_row : List Geometry = rows ++ row ∷ [] in
    let a = and_parts (not (has_row rows row.size row.orientation) && nat_lt (length rows) 64) (is_page row) one in
    let b = and_parts (not (has_row rows row.size row.orientation)) (nat_lt (length rows) 64) a.0 in
    let c = and_parts (not (has_row with_row other.size other.orientation) && nat_lt (length with_row) 64) (is_page other) two in
    let d = and_parts (not (has_row with_row other.size other.orientation)) (nat_lt (length with_row) 64) c.0 in
    let fresh = new_alone is_same_page same_page_symmetric rows row other b.0 d.0 in
    let room = room_alone rows row other d.1 in
    record {
      first = and_from _ _ (and_from _ _ fresh.0 room.0) c.1;
      second = and_from _ _ (and_from _ _ fresh.1 room.1) a.1;
      similar = record { geometries = last_two rows row other; faces = IsPermutation-refl draft.faces; others = refl };
    }
both_orders draft (new_face face) (new_face other) one two =
    let faces : List Face = draft.faces in
    let with_face : List Face = faces ++ face ∷ [] in
    let a =
    and_parts (not (has_face faces face.id) && not (has_request faces face.request) && nat_lt (length faces) 64) (is_face face) one in
    let b = and_parts (not (has_face faces face.id) && not (has_request faces face.request)) (nat_lt (length faces) 64) a.0 in
    let c = and_parts (not (has_face faces face.id)) (not (has_request faces face.request)) b.0 in
    let d =
    and_parts
    (not (has_face with_face other.id) && not (has_request with_face other.request) && nat_lt (length with_face) 64) (is_face other) two in
    let e = and_parts (not (has_face with_face other.id) && not (has_request with_face other.request)) (nat_lt (length with_face) 64) d.0 in
    let f = and_parts (not (has_face with_face other.id)) (not (has_request with_face other.request)) e.0 in
    let ids = new_alone (λ (g : Face) (h : Face). g.id == h.id) (λ g h. nat_eq_equiv.symm g.id h.id) faces face other c.0 f.0 in
    let requests =
    new_alone (λ (g : Face) (h : Face). is_same_request g.request h.request)
    (λ g h. same_request_symmetric g.request h.request) faces face other c.1 f.1 in
    let room = room_alone faces face other e.1 in
    record {
      first = and_from _ _ (and_from _ _ (and_from _ _ ids.0 requests.0) room.0) d.1;
      second = and_from _ _ (and_from _ _ (and_from _ _ ids.1 requests.1) room.1) a.1;
      similar = record { geometries = IsPermutation-refl draft.geometries; faces = last_two faces face other; others = refl };
    }
both_orders draft x y one two = record { first = two; second = one; similar = IsSimilar-refl (added (added draft x) y) }

-- from similar drafts, whatever these lines give, the others give it too but for the order of its rows
abbrev pub LeadsAlike : Format → List (List ℕ) → List (List ℕ) → Type 0
LeadsAlike format xs ys =
    (a b : Draft) (n m : ℕ) (last : Draft) → IsSimilar a b → draft_of_lines format a n xs ≡ Ok last
    → (other : Draft) × (draft_of_lines format b m ys ≡ Ok other) × IsSimilar last other

-- a line whose addition is taken leads on
leads_on : (format : Format) (draft : Draft) (number : ℕ) (line : List ℕ) (lines : List (List ℕ)) (addition : Addition) (last : Draft)
    → addition_of format (words_of_line line) ≡ Some addition → IsTrue (takes draft addition)
    → draft_of_lines format (added draft addition) (number + 1) lines ≡ Ok last
    → draft_of_lines format draft number (line ∷ lines) ≡ Ok last
leads_on format draft number line lines addition last told taken is =
    ap (λ given. or_fault given (λ next. draft_of_lines format next (number + 1) lines) number)
    (added_after format draft (words_of_line line) addition told taken)
    ∙ is

LeadsAlike-cons : (format : Format) (line : List ℕ) (xs ys : List (List ℕ)) → LeadsAlike format xs ys →
    LeadsAlike format (line ∷ xs) (line ∷ ys)
LeadsAlike-cons format line xs ys alike a b n m last s is =
    let given = line_given (draft_after format a (words_of_line line)) (λ next. draft_of_lines format next (n + 1) xs) n last is in
    let step = adds format a (words_of_line line) given.0 given.1 in
    let taken : IsTrue (takes b step.addition) = sym (takes-similar a b s step.addition) ∙ step.taken in
    let after : IsSimilar given.0 (added b step.addition) =
    subst (λ (d : Draft). IsSimilar d (added b step.addition)) step.is (added-similar a b s step.addition) in
    let rest = alike given.0 (added b step.addition) (n + 1) (m + 1) last after given.2 in
    (rest.0, leads_on format b m line ys step.addition rest.0 step.told taken rest.1, rest.2)

LeadsAlike-refl : (format : Format) (xs : List (List ℕ)) → LeadsAlike format xs xs
LeadsAlike-refl format [] a b n m last s is =
    let same : a ≡ last = cc in
    (b, refl, subst (λ (d : Draft). IsSimilar d b) same s)
LeadsAlike-refl format (line ∷ lines) a b n m last s is =
    LeadsAlike-cons format line lines lines (LeadsAlike-refl format lines) a b n m last s is

LeadsAlike-trans : (format : Format) (xs ys zs : List (List ℕ)) → LeadsAlike format xs ys → LeadsAlike format ys zs →
    LeadsAlike format xs zs
LeadsAlike-trans format xs ys zs f g a b n m last s is =
    let one = f a b n m last s is in
    let two = g b b m m one.0 (IsSimilar-refl b) one.1 in
    (two.0, two.1, IsSimilar-trans last one.0 two.0 one.2 two.2)

-- two neighbouring lines change places
LeadsAlike-neighbours : (format : Format) (x y : List ℕ) (lines : List (List ℕ)) → LeadsAlike format (x ∷ y ∷ lines) (y ∷ x ∷ lines)
LeadsAlike-neighbours format x y lines a b n m last s is =
    let given_x = line_given (draft_after format a (words_of_line x)) (λ next. draft_of_lines format next (n + 1) (y ∷ lines)) n last is in
    let step_x = adds format a (words_of_line x) given_x.0 given_x.1 in
    let given_y =
    line_given (draft_after format given_x.0 (words_of_line y))
    (λ next. draft_of_lines format next (n + 1 + 1) lines) (n + 1) last given_x.2 in
    let step_y = adds format given_x.0 (words_of_line y) given_y.0 given_y.1 in
    let p : Addition = step_x.addition in
    let q : Addition = step_y.addition in
    let second : IsTrue (takes (added a p) q) = subst (λ (d : Draft). IsTrue (takes d q)) (sym step_x.is) step_y.taken in
    let ways = both_orders a p q step_x.taken second in
    let reached : added (added a p) q ≡ given_y.0 = ap (λ d. added d q) step_x.is ∙ step_y.is in
    let here : IsSimilar given_y.0 (added (added a q) p) = subst (λ (d : Draft). IsSimilar d (added (added a q) p)) reached ways.similar in
    let after_y : IsSimilar (added a q) (added b q) = added-similar a b s q in
    let there : IsSimilar given_y.0 (added (added b q) p) =
    IsSimilar-trans given_y.0 (added (added a q) p) (added (added b q) p) here (added-similar (added a q) (added b q) after_y p) in
    let rest = LeadsAlike-refl format lines given_y.0 (added (added b q) p) (n + 1 + 1) (m + 1 + 1) last there given_y.2 in
    let takes_q : IsTrue (takes b q) = sym (takes-similar a b s q) ∙ ways.first in
    let takes_p : IsTrue (takes (added b q) p) = sym (takes-similar (added a q) (added b q) after_y p) ∙ ways.second in (
      rest.0,
      leads_on format b m y (x ∷ lines) q rest.0 step_y.told takes_q
          (leads_on format (added b q) (m + 1) x lines p rest.0 step_x.told takes_p rest.1),
      rest.2,
    )

-- a line changes places with the first
LeadsAlike-front : (format : Format) (x : List ℕ) (lines : List (List ℕ)) (j : ℕ) (d : List ℕ) → j < length lines →
    LeadsAlike format (x ∷ lines) (get_or lines j d ∷ set lines j x)
LeadsAlike-front format x [] j d within = absurd (omega arith)
LeadsAlike-front format x (y ∷ lines) zero d within = LeadsAlike-neighbours format x y lines
LeadsAlike-front format x (y ∷ lines) (suc j) d within =
    let z : List ℕ = get_or lines j d in
    let below : j < length lines = omega arith in
    LeadsAlike-trans format (x ∷ y ∷ lines) (y ∷ x ∷ lines) (z ∷ y ∷ set lines j x) (LeadsAlike-neighbours format x y lines)
    (LeadsAlike-trans format (y ∷ x ∷ lines) (y ∷ z ∷ set lines j x) (z ∷ y ∷ set lines j x)
    (LeadsAlike-cons format y (x ∷ lines) (z ∷ set lines j x) (LeadsAlike-front format x lines j d below))
    (LeadsAlike-neighbours format y z (set lines j x)))

-- two lines change places
LeadsAlike-exchange : (format : Format) (lines : List (List ℕ)) (i j : ℕ) (d : List ℕ) → i < length lines → j < length lines →
    LeadsAlike format lines (set (set lines i (get_or lines j d)) j (get_or lines i d))
LeadsAlike-exchange format [] i j d first second = absurd (omega arith)
LeadsAlike-exchange format (x ∷ lines) zero zero d first second = LeadsAlike-refl format (x ∷ lines)
LeadsAlike-exchange format (x ∷ lines) zero (suc j) d first second = LeadsAlike-front format x lines j d (omega arith)
LeadsAlike-exchange format (x ∷ lines) (suc i) zero d first second = LeadsAlike-front format x lines i d (omega arith)
LeadsAlike-exchange format (x ∷ lines) (suc i) (suc j) d first second =
    LeadsAlike-cons format x lines (set (set lines i (get_or lines j d)) j (get_or lines i d))
    (LeadsAlike-exchange format lines i j d (omega arith) (omega arith))

LeadsAlike-swap : (format : Format) (lines : List (List ℕ)) (i j : ℕ) → i < length lines → j < length lines →
    LeadsAlike format lines (swap lines i j)
LeadsAlike-swap format [] i j first second = absurd (omega arith)
LeadsAlike-swap format (x ∷ lines) i j first second = LeadsAlike-exchange format (x ∷ lines) i j x first second

-- lines in any order lead alike
pub LeadsAlike-permutation : (format : Format) (xs ys : List (List ℕ)) → IsPermutation xs ys → LeadsAlike format xs ys
LeadsAlike-permutation format xs ys moved =
    IsPermutation-keeps xs (LeadsAlike format xs) (LeadsAlike-refl format xs)
    (λ lines i j first second alike.
    LeadsAlike-trans format xs lines (swap lines i j) alike (LeadsAlike-swap format lines i j first second))
    ys moved
