-- Marks that are near, in their order: nothing is told of them, and of nothing else.
use Rattle.std.proofs.Common.{◌≡◌, ◌+◌, ◌<◌, ◌≤◌, ◌&&◌, ◌==◌, ℕ, zero, suc, ℤ, pos, negsuc, ◌-ℤ◌, unsigned_abs, Bool, true, false, List, []}
use Rattle.std.proofs.Common.{◌∷◌, ◌++◌, Option, Some, ap, append-nil, append_assoc, arith, cond, drop, find, if◌then◌else◌, length}
use Rattle.std.proofs.Common.{map, max, nat_le, option_map, refl, replicate, set, sym, take, unwrap_or, ◌∙◌}
use Rattle.std.specs.List.{AllByRecursion}
use Rattle.std.specs.Ordering.{int_eq}
use Rattle.std.proofs.lemmas.Bool.{and_from, and_parts, eq-eqb, false≢true, le-leb, leb-true}
use Rattle.std.proofs.lemmas.Bool.Decides.{Decides-int_eq, same_from_decides}
use Rattle.std.proofs.lemmas.Int.{ints}
use Rattle.std.proofs.lemmas.List.{length_push, set_at}
use Rattle.device_profile.specs.Faces.{is_same_request}
use Rattle.device_profile.proofs.SameRequests.{request_decides}
use Rattle.page_env.specs.declared.mark.Bounds.{Bounds}
use Rattle.page_env.specs.declared.mark.Fill.{Fill}
use Rattle.page_env.specs.declared.mark.Fill.TheVariants.{Solid, Erase, Shade, Hatch}
use Rattle.page_env.specs.Mark.{Shape, Rectangle, Character, Row, Line, pixels_per_inch}
use Rattle.page_machine.specs.Event.{Marked}
use Rattle.sinks.specs.Same.{are_same_bytes, is_same_box, is_same_fill, is_same_shape}
use Rattle.comparison.specs.Nearness.{is_near, is_near_box, is_near_shape}
use Rattle.comparison.proofs.Sameness.{same_event}
use Rattle.page_comparison.specs.declared.bag.Matched.{Matched}
use Rattle.page_comparison.specs.declared.differences.PageChange.TheVariants.{Covers}
use Rattle.page_comparison.specs.declared.differences.PageDifference.{PageDifference}
use Rattle.page_comparison.specs.declared.setting.Setting.{Setting}
use Rattle.page_comparison.specs.declared.standing.Standing.{Standing}
use Rattle.page_comparison.specs.declared.turn.Turn.{Turn}
use Rattle.page_comparison.specs.AnyOrder.{Matching, all_in_any_order, first_free, free_told, in_any_order, mark_told, matched_with}
use Rattle.page_comparison.specs.AnyOrder.{stand_at}
use Rattle.page_comparison.specs.InOrder.{all_in_order, in_order, is_resumed, leaving, leavings, nearest, runs, splits}
use Rattle.page_comparison.specs.InOrder.{turn_told, ways}
use Rattle.page_comparison.specs.Marks.{changed, footprint_of, is_near_mark}
use Rattle.page_comparison.specs.Pages.{MadeMark, shapes_of}
use Rattle.page_comparison.specs.Told.{behind, difference_at, first_standing, left_out, next_place}
use Rattle.page_comparison.proofs.Free.{AreBefore, before_more, none_crossed}
use Rattle.page_comparison.proofs.Near.{bytes_decide}

-- ---- one mark

abs_none : (x : ℤ) → unsigned_abs x ≤ 0 → x ≡ pos 0
abs_none (pos zero) h = refl
abs_none (pos (suc n)) h = absurd (omega (arith, h))
abs_none (negsuc n) h = absurd (omega (arith, h))

place_near : (within : ℕ) (a : ℤ) → is_near within a a ≡ true
place_near within a =
    let none : a -ℤ a ≡ pos 0 = omega (arith, ints) in
    let least : 0 ≤ within = omega arith in
    ap (λ x. nat_le (unsigned_abs x) within) none ∙ le-leb 0 within least

place_same : (a b : ℤ) → is_near 0 a b ≡ true → a ≡ b
place_same a b h =
    let none : a -ℤ b ≡ pos 0 = abs_none (a -ℤ b) (leb-true (unsigned_abs (a -ℤ b)) 0 h) in omega (arith, ints, none)

place_exact : (a b : ℤ) → is_near 0 a b ≡ int_eq a b
place_exact a b =
    same_from_decides (is_near 0 a b) (int_eq a b)
    (place_same a b, λ e. ap (is_near 0 a) (sym e) ∙ place_near 0 a)
    (Decides-int_eq a b)

box_near : (within : ℕ) (box : Bounds) → is_near_box within box box ≡ true
box_near within box =
    and_from _ _
    (and_from _ _ (and_from _ _ (place_near within box.left) (place_near within box.top)) (place_near within box.right))
    (place_near within box.bottom)

box_exact : (a b : Bounds) → is_near_box 0 a b ≡ is_same_box a b
box_exact a b =
    λ i. place_exact a.left b.left i && place_exact a.top b.top i && place_exact a.right b.right i
    && place_exact a.bottom b.bottom i

fill_same : (fill : Fill) → is_same_fill fill fill ≡ true
fill_same Solid = refl
fill_same Erase = refl
fill_same (Shade n) = eq-eqb n n refl
fill_same (Hatch n) = eq-eqb n n refl

pub shape_near : (within : ℕ) (shape : Shape) → is_near_shape within shape shape ≡ true
shape_near within (Rectangle a) = and_from _ _ (fill_same a.fill) (box_near within a.bounds)
shape_near within (Character a) =
    and_from _ _
    (and_from _ _ (and_from _ _ (eq-eqb a.code a.code refl) ((request_decides a.request a.request).1 refl)) (place_near within a.y))
    (box_near within a.bounds)
shape_near within (Row a) =
    and_from _ _
    (and_from _ _
    (and_from _ _ (eq-eqb (pixels_per_inch a.resolution) (pixels_per_inch a.resolution) refl) ((bytes_decide a.bytes a.bytes).1 refl))
    (place_near within a.x))
    (place_near within a.y)
shape_near within (Line a) =
    and_from _ _
    (and_from _ _
    (and_from _ _
    (and_from _ _ ((Decides-int_eq a.width a.width).1 refl) (place_near within a.x0)) (place_near within a.y0))
    (place_near within a.x1))
    (place_near within a.y1)

bytes_last : (r b x y : Bool) → (r && b && x && y) ≡ (r && x && y && b)
bytes_last false b x y = refl
bytes_last true true true true = refl
bytes_last true true true false = refl
bytes_last true true false y = refl
bytes_last true false true true = refl
bytes_last true false true false = refl
bytes_last true false false y = refl

shape_exact : (a b : Shape) → is_near_shape 0 a b ≡ is_same_shape a b
shape_exact (Rectangle a) (Rectangle b) = ap (λ t. is_same_fill a.fill b.fill && t) (box_exact a.bounds b.bounds)
shape_exact (Rectangle a) (Character b) = refl
shape_exact (Rectangle a) (Row b) = refl
shape_exact (Rectangle a) (Line b) = refl
shape_exact (Character a) (Rectangle b) = refl
shape_exact (Character a) (Character b) =
    λ i. (a.code == b.code) && is_same_request a.request b.request && place_exact a.y b.y i && box_exact a.bounds b.bounds i
shape_exact (Character a) (Row b) = refl
shape_exact (Character a) (Line b) = refl
shape_exact (Row a) (Rectangle b) = refl
shape_exact (Row a) (Character b) = refl
shape_exact (Row a) (Row b) =
    (λ i. (pixels_per_inch a.resolution == pixels_per_inch b.resolution) && are_same_bytes a.bytes b.bytes
    && place_exact a.x b.x i && place_exact a.y b.y i)
    ∙ bytes_last (pixels_per_inch a.resolution == pixels_per_inch b.resolution) (are_same_bytes a.bytes b.bytes)
    (int_eq a.x b.x) (int_eq a.y b.y)
shape_exact (Row a) (Line b) = refl
shape_exact (Line a) (Rectangle b) = refl
shape_exact (Line a) (Character b) = refl
shape_exact (Line a) (Row b) = refl
shape_exact (Line a) (Line b) =
    λ i. int_eq a.width b.width && place_exact a.x0 b.x0 i && place_exact a.y0 b.y0 i && place_exact a.x1 b.x1 i
    && place_exact a.y1 b.y1 i

pub shape_same : (a b : Shape) → is_near_shape 0 a b ≡ true → a ≡ b
shape_same a b h =
    let same : Marked a ≡ Marked b = same_event (Marked a) (Marked b) (sym (shape_exact a b) ∙ h) in cc

-- ---- all marks of two pages, in their order

abbrev pub all_near : ℕ → List MadeMark → List MadeMark → Bool
all_near within [] [] = true
all_near within [] (b ∷ new) = false
all_near within (a ∷ old) [] = false
all_near within (a ∷ old) (b ∷ new) = is_near_mark within a b && all_near within old new

pub near_shapes : (old new : List MadeMark) → all_near 0 old new ≡ true → shapes_of old ≡ shapes_of new
near_shapes [] [] h = refl
near_shapes [] (b ∷ new) h = absurd (false≢true h)
near_shapes (a ∷ old) [] h = absurd (false≢true h)
near_shapes (a ∷ old) (b ∷ new) h =
    let both = and_parts _ _ h in λ i. shape_same a.shape b.shape both.0 i ∷ near_shapes old new both.1 i

pub shapes_near : (within : ℕ) (old new : List MadeMark) → shapes_of old ≡ shapes_of new → all_near within old new ≡ true
shapes_near within [] [] e = refl
shapes_near within [] (b ∷ new) e = absurd cc
shapes_near within (a ∷ old) [] e = absurd cc
shapes_near within (a ∷ old) (b ∷ new) e =
    let first : a.shape ≡ b.shape = cc in
    let rest : shapes_of old ≡ shapes_of new = cc in
    and_from _ _ (ap (is_near_shape within a.shape) (sym first) ∙ shape_near within a.shape) (shapes_near within old new rest)

-- ---- what is left out is something

record IsLeaving (turn : Turn) : Type 0 where
  differs : turn.same ≡ false
  some : 0 < turn.old + turn.new

splits_leave : (old new : ℕ) → 0 < old + new → AllByRecursion IsLeaving (splits old new)
splits_leave old zero some = (record { differs = refl; some = some }, tt)
splits_leave old (suc new) some =
    let more : 0 < old + 1 + new = omega arith in (record { differs = refl; some = some }, splits_leave (old + 1) new more)

all_behind : {X : Type 0} (P : X → Type 0) (xs ys : List X) → AllByRecursion P xs → AllByRecursion P ys → AllByRecursion P (xs ++ ys)
all_behind P [] ys h k = k
all_behind P (x ∷ xs) ys h k = (h.0, all_behind P xs ys h.1 k)

leavings_leave : (together times : ℕ) → 0 < together → AllByRecursion IsLeaving (leavings together times)
unfolding leavings
leavings_leave together zero some = tt
leavings_leave together (suc times) some =
    let here : 0 < 0 + together = omega (arith, some) in
    let more : 0 < together + 1 = omega arith in
    all_behind IsLeaving (splits 0 together) (leavings (together + 1) times) (splits_leave 0 together here)
    (leavings_leave (together + 1) times more)

runs_leave : (many times : ℕ) → 0 < many → AllByRecursion IsLeaving (runs many times)
unfolding runs
runs_leave many zero some = tt
runs_leave many (suc times) some =
    let of_new : 0 < 0 + many = omega (arith, some) in
    let of_old : 0 < many + 0 = omega (arith, some) in
    let more : 0 < many + 1 = omega arith in
    (record { differs = refl; some = of_new }, (record { differs = refl; some = of_old }, runs_leave (many + 1) times more))

ways_leave : AllByRecursion IsLeaving ways
unfolding ways
ways_leave =
    all_behind IsLeaving (leavings 1 64) (runs 65 4032) (leavings_leave 1 64 (omega arith)) (runs_leave 65 4032 (omega arith))

found_in : {X : Type 0} (P : X → Type 0) (p : X → Bool) (xs : List X) (otherwise : X) → AllByRecursion P xs → P otherwise →
    P (unwrap_or (find p xs) otherwise)
found_in P p [] otherwise h k = k
found_in P p (x ∷ xs) otherwise h k = by_test (p x) (found_in P p xs otherwise h.1 k)
  where
    by_test : (t : Bool) → P (unwrap_or (find p xs) otherwise) → P (unwrap_or (cond t (Some x) (find p xs)) otherwise)
    by_test true rest = h.0
    by_test false rest = rest

nearest_leaves : (within : ℕ) (old new : List MadeMark) → IsLeaving (nearest within old new)
unfolding nearest
nearest_leaves within old new =
    found_in IsLeaving (is_resumed within old new) ways (leaving 1 1) ways_leave
    (record { differs = refl; some = omega arith })

-- where the first two marks are not near
left_some : (within old_place new_place : ℕ) (at : Standing) (i j : ℕ) (a b : MadeMark) (old new : List MadeMark)
    (rest : List PageDifference) → is_near_mark within a b ≡ false → 0 < i + j →
    left_out within old_place new_place at (take i (a ∷ old)) (take j (b ∷ new)) ++ rest ≡ [] → ⊥
left_some within old_place new_place at zero zero a b old new rest other some e = absurd (omega (arith, some))
left_some within old_place new_place at zero (suc j) a b old new rest other some e = cc
left_some within old_place new_place at (suc i) zero a b old new rest other some e = cc
left_some within old_place new_place at (suc i) (suc j) a b old new rest other some e =
    let told : PageDifference = difference_at at a.place b.place (changed a b) in
    let left : List PageDifference = left_out within old_place new_place (behind 1 1 at) (take i old) (take j new) in
    let none : told ∷ (left ++ rest) ≡ [] =
    sym (ap (λ (t : Bool). ((if t then [] else told ∷ []) ++ left) ++ rest) other) ∙ e in
    cc

-- ---- in their order

module _ (setting : Setting) where
  abbrev turned : ℕ → Standing → List MadeMark → List MadeMark → Turn → List PageDifference
  turned turns at old new turn =
      turn_told setting at old new turn
      ++ in_order setting turns (behind turn.old turn.new at) (drop turn.old old) (drop turn.new new)

  never_left : (turns : ℕ) (at : Standing) (a b : MadeMark) (old new : List MadeMark) (turn : Turn) → IsLeaving turn →
      is_near_mark setting.within a b ≡ false → turned turns at (a ∷ old) (b ∷ new) turn ≡ [] → ⊥
  never_left turns at a b old new turn leaves other e =
      let rest : List PageDifference =
      in_order setting turns (behind turn.old turn.new at) (drop turn.old (a ∷ old)) (drop turn.new (b ∷ new)) in
      let left : List PageDifference =
      left_out setting.within (next_place setting.old_end (drop turn.old (a ∷ old)))
      (next_place setting.new_end (drop turn.new (b ∷ new))) at (take turn.old (a ∷ old)) (take turn.new (b ∷ new)) in
      left_some setting.within (next_place setting.old_end (drop turn.old (a ∷ old)))
      (next_place setting.new_end (drop turn.new (b ∷ new))) at turn.old turn.new a b old new rest other leaves.some
      (sym (ap (λ (t : Bool). (if t then [] else left) ++ rest) leaves.differs) ∙ e)

  ordered_near : (turns : ℕ) (at : Standing) (old new : List MadeMark) → length old + length new ≤ turns →
      in_order setting turns at old new ≡ [] → all_near setting.within old new ≡ true
  ordered_near zero at [] [] few e = refl
  ordered_near zero at [] (b ∷ new) few e = absurd (omega (arith, few))
  ordered_near zero at (a ∷ old) new few e = absurd (omega (arith, few))
  ordered_near (suc turns) at [] [] few e = refl
  ordered_near (suc turns) at [] (b ∷ new) few e = absurd cc
  ordered_near (suc turns) at (a ∷ old) [] few e = absurd cc
  ordered_near (suc turns) at (a ∷ old) (b ∷ new) few e =
      by_test (is_near_mark setting.within a b) refl (λ fewer h. ordered_near turns (behind 1 1 at) old new fewer h) e
    where
      by_test : (t : Bool) → is_near_mark setting.within a b ≡ t →
          (length old + length new ≤ turns → in_order setting turns (behind 1 1 at) old new ≡ [] →
          all_near setting.within old new ≡ true) →
          turned turns at (a ∷ old) (b ∷ new)
          (if t then record { old = 1; new = 1; same = true } else nearest setting.within (a ∷ old) (b ∷ new)) ≡ [] →
          (is_near_mark setting.within a b && all_near setting.within old new) ≡ true
      by_test true near rest h = let fewer : length old + length new ≤ turns = omega (arith, few) in and_from _ _ near (rest fewer h)
      by_test false other rest h =
          absurd
          (never_left turns at a b old new (nearest setting.within (a ∷ old) (b ∷ new))
          (nearest_leaves setting.within (a ∷ old) (b ∷ new)) other h)

  near_ordered : (turns : ℕ) (at : Standing) (old new : List MadeMark) → all_near setting.within old new ≡ true →
      in_order setting turns at old new ≡ []
  near_ordered zero at old new h = refl
  near_ordered (suc turns) at [] [] h = near_ordered turns (behind 0 0 at) [] [] refl
  near_ordered (suc turns) at [] (b ∷ new) h = absurd (false≢true h)
  near_ordered (suc turns) at (a ∷ old) [] h = absurd (false≢true h)
  near_ordered (suc turns) at (a ∷ old) (b ∷ new) h =
      let both = and_parts _ _ h in
      ap
      (λ (t : Bool). turned turns at (a ∷ old) (b ∷ new)
      (if t then record { old = 1; new = 1; same = true } else nearest setting.within (a ∷ old) (b ∷ new)))
      both.0
      ∙ near_ordered turns (behind 1 1 at) old new both.1

  pub order_tells : (old new : List MadeMark) → all_in_order setting old new ≡ [] → all_near setting.within old new ≡ true
  order_tells old new e =
      let enough : length old + length new ≤ length old + length new = omega arith in
      ordered_near (length old + length new) (first_standing setting.page) old new enough e

  pub near_in_order : (old new : List MadeMark) → all_near setting.within old new ≡ true → all_in_order setting old new ≡ []
  near_in_order old new h = near_ordered (length old + length new) (first_standing setting.page) old new h

  -- ---- in any order

  free_none : (old_mark number : ℕ) (new : List MadeMark) → free_told setting old_mark number new (replicate (length new) true) ≡ []
  free_none old_mark number [] = refl
  free_none old_mark number (b ∷ new) = free_none old_mark (number + 1) new

  first_here : (a b : MadeMark) (front new : List MadeMark) (taken : List Bool) → is_near_mark setting.within a b ≡ true →
      first_free setting.within a (front ++ b ∷ new) (replicate (length front) true ++ false ∷ taken) ≡ Some (length front)
  first_here a b [] new taken near =
      ap (λ t. if t then Some 0 else option_map (λ i. i + 1) (first_free setting.within a new taken)) near
  first_here a b (f ∷ front) new taken near =
      let step : length front + 1 ≡ suc (length front) = omega arith in
      ap (option_map (λ i. i + 1)) (first_here a b front new taken near) ∙ ap Some step

  all_true : (front : List MadeMark) (b : MadeMark) → replicate (length front) true ++ true ∷ [] ≡ replicate (length (front ++ b ∷ [])) true
  all_true [] b = refl
  all_true (f ∷ front) b = ap (λ l. true ∷ l) (all_true front b)

  length_true : (n : ℕ) → length (replicate n true) ≡ n
  length_true zero = refl
  length_true (suc n) = ap suc (length_true n)

  near_any : (old new front : List MadeMark) (number : ℕ) (earlier : List Matched) → AreBefore (length front) earlier →
      all_near setting.within old new ≡ true →
      in_any_order setting (front ++ new) number
      (record { taken = replicate (length front) true ++ map (λ mark. false) new; earlier = earlier }) old
      ≡ []
  near_any [] [] front number earlier before h =
      (λ i. free_told setting number 1 (append-nil front i) (append-nil (replicate (length front) true) i))
      ∙ free_none number 1 front
  near_any [] (b ∷ new) front number earlier before h = absurd (false≢true h)
  near_any (a ∷ old) [] front number earlier before h = absurd (false≢true h)
  near_any (a ∷ old) (b ∷ new) front number earlier before h =
      let both = and_parts _ _ h in
      let n : ℕ = length front in
      let all : List MadeMark = front ++ b ∷ new in
      let falses : List Bool = map (λ mark. false) new in
      let state : Matching = record { taken = replicate n true ++ false ∷ falses; earlier = earlier } in
      let later : List Matched = earlier ++ record { new = n; footprint = footprint_of a.shape } ∷ [] in
      let found = first_here a b front new falses both.0 in
      let told : PageDifference =
      difference_at (stand_at setting.page number (n + 1)) a.place (next_place setting.new_end (drop n all)) Covers in
      let few : n ≤ n + 1 = omega arith in
      let crossed = none_crossed n n (footprint_of a.shape) earlier few before in
      let taken_is : set (replicate n true ++ false ∷ falses) n true ≡ replicate (length (front ++ b ∷ [])) true ++ falses =
      set_at (replicate n true) false falses true n (length_true n)
      ∙ (sym (append_assoc (replicate n true) (true ∷ []) falses) ∙ ap (λ l. l ++ falses) (all_true front b)) in
      let beyond : length (front ++ b ∷ []) ≡ max n (n + 1) = omega (arith, length_push front b) in
      ap
      (λ (o : Option ℕ). mark_told setting all number a earlier o ++ in_any_order setting all (number + 1) (matched_with a o state) old)
      found
      ∙ (ap (λ (t : Bool). (if t then told ∷ [] else []) ++ in_any_order setting all (number + 1) (matched_with a (Some n) state) old)
      (sym crossed)
      ∙ ((λ i. in_any_order setting (sym (append_assoc front (b ∷ []) new) i) (number + 1)
      (record { taken = taken_is i; earlier = later }) old)
      ∙ near_any old new (front ++ b ∷ []) (number + 1) later
      (before_more n (length (front ++ b ∷ [])) earlier n (footprint_of a.shape) beyond before) both.1))

  pub near_in_any_order : (old new : List MadeMark) → all_near setting.within old new ≡ true →
      all_in_any_order setting old new ≡ []
  near_in_any_order old new h = near_any old new [] 1 [] tt h
