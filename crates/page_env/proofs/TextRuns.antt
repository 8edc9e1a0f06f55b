-- Columns that meet no edge, and the bytes that go in them.
use Rattle.std.proofs.Common.{◌≡◌, ℕ, zero, suc, ℤ, pos, ◌+◌, ◌*◌, ◌≤◌, Bool, true, false, not, ◌&&◌, ◌||◌, cond, None, Some, refl, sym}
use Rattle.std.proofs.Common.{subst, arith}
use Rattle.std.specs.Prelude.{◌+ℤ◌, ◌-ℤ◌, ◌≤ℤ◌, int_lt}
use Rattle.std.proofs.Math.Nat.{suc-mul}
use Rattle.std.proofs.lemmas.Int.{ints}
use Rattle.std.proofs.lemmas.Bool.{and_parts, cond_both}
use Rattle.tick_length.specs.Length.{IsInRange}
use Rattle.page_env.specs.declared.finding.Finding.TheVariants.{OffPage, PastRightMargin}
use Rattle.page_env.specs.Places.{is_between}
use Rattle.page_env.specs.Effect.{first_finding}
use Rattle.page_env.specs.Text.{edge_checks}
use Rattle.page_env.specs.declared.text_lines.TextPlace.{TextPlace}
use Rattle.page_env.specs.TextLines.{box_at}
use Rattle.page_env.specs.TextMeasure.{TextMeasure, HasColumn, HaveColumns, edge_from, lies_in}

-- ---- between two bounds

pub between_low : (low high z : ℤ) → is_between low high z ≡ true → low ≤ℤ z
unfolding is_between
between_low low high z h = low_of (int_lt z low) (int_lt high z) refl h
  where
    low_of : (a b : Bool) → int_lt z low ≡ a → not (a || b) ≡ true → low ≤ℤ z
    low_of true b e h = absurd cc
    low_of false b e h = omega (arith, ints)

pub between_high : (low high z : ℤ) → is_between low high z ≡ true → z ≤ℤ high
unfolding is_between
between_high low high z h = high_of (int_lt z low) (int_lt high z) refl h
  where
    high_of : (a b : Bool) → int_lt high z ≡ b → not (a || b) ≡ true → z ≤ℤ high
    high_of true b e h = absurd cc
    high_of false true e h = absurd cc
    high_of false false e h = omega (arith, ints)

pub is_between-of : (low high z : ℤ) → low ≤ℤ z → z ≤ℤ high → is_between low high z ≡ true
unfolding is_between
is_between-of low high z l h = by (int_lt z low) (int_lt high z) refl refl
  where
    by : (a b : Bool) → int_lt z low ≡ a → int_lt high z ≡ b → not (a || b) ≡ true
    by true b e f = absurd (omega (arith, ints))
    by false true e f = absurd (omega (arith, ints))
    by false false e f = refl

-- ---- columns

module _ (m : TextMeasure) where
  abbrev pub column_on : TextPlace → TextPlace
  column_on place = record place { x = place.x +ℤ pos m.look.column }

  -- a box that is inside, and the one so far to the right of it that ends before the printable area does
  box_inside : (p : TextPlace) → lies_in m.bounds.area (box_at m.look p) ≡ true → pos 0 ≤ℤ m.look.advance →
      (((p.x +ℤ pos m.look.column) +ℤ m.look.origin.x) +ℤ m.look.advance) ≤ℤ m.bounds.area.right →
      lies_in m.bounds.area (box_at m.look (column_on p)) ≡ true
  box_inside p h ahead ends =
      let area = m.bounds.area in
      let here = box_at m.look p in
      let next = box_at m.look (column_on p) in
      let parts = and_parts (is_between area.left area.right here.left && is_between area.left area.right here.right) _ h in
      let across = and_parts (is_between area.left area.right here.left) (is_between area.left area.right here.right) parts.0 in
      let low = between_low area.left area.right here.left across.0 in
      let left = is_between-of area.left area.right next.left (omega (arith, ints, low)) (omega (arith, ints, ahead, ends)) in
      let right = is_between-of area.left area.right next.right (omega (arith, ints, low, ahead)) (omega (arith, ints, ends)) in
      λ i. (left (i) && right (i)) && parts.1 i

  ends_at : (x : ℤ) → (x +ℤ pos m.look.column) ≤ℤ edge_from m x →
      first_finding (edge_checks m.bounds.right m.bounds.width x (x +ℤ pos m.look.column)) ≡ None
  ends_at x h =
      by (int_lt x m.bounds.right) (int_lt m.bounds.width (x +ℤ pos m.look.column))
      (int_lt m.bounds.right (x +ℤ pos m.look.column)) refl refl h
    where
      by : (left off past : Bool) → int_lt m.bounds.width (x +ℤ pos m.look.column) ≡ off →
          int_lt m.bounds.right (x +ℤ pos m.look.column) ≡ past → (x +ℤ pos m.look.column) ≤ℤ cond left m.bounds.right m.bounds.width →
          cond (not left && off) (Some OffPage) (cond (left && past) (Some PastRightMargin) None) ≡ None
      by true off true e f h = absurd (omega (arith, ints))
      by true off false e f h = refl
      by false true past e f h = absurd (omega (arith, ints))
      by false false past e f h = refl

  module _ (edge : ℤ) (edge_small : IsInRange edge) (ahead : pos 0 ≤ℤ m.look.advance) where
    within_edge : (x : ℤ) → IsInRange x → (x +ℤ pos m.look.column) ≤ℤ edge → IsInRange (x +ℤ pos m.look.column)
    within_edge x here h = omega (arith, ints, here, h, edge_small)

    -- what ends at an edge has the same edge one column further on
    edge_stays : (x : ℤ) (j : ℕ) → edge_from m x ≡ edge → (x +ℤ pos (suc (suc j) * m.look.column)) ≤ℤ edge →
        edge_from m (x +ℤ pos m.look.column) ≡ edge
    edge_stays x j is h =
        let c = m.look.column in
        let two = suc-mul (suc j) c in
        let one = suc-mul j c in
        cond_both (int_lt x m.bounds.right) m.bounds.right m.bounds.width (λ e. e ≡ edge → edge_from m (x +ℤ pos c) ≡ edge)
        (λ t g. cond_both (int_lt (x +ℤ pos c) m.bounds.right) m.bounds.right m.bounds.width (λ e. e ≡ edge) (λ u. g)
        (λ u. absurd (omega (arith, ints, t, u, g, h, two, one))))
        (λ t g. cond_both (int_lt (x +ℤ pos c) m.bounds.right) m.bounds.right m.bounds.width (λ e. e ≡ edge)
        (λ u. absurd (omega (arith, ints, t, u))) (λ u. g))
        is

    one_column : (p : TextPlace) → IsInRange p.x → edge_from m p.x ≡ edge → (p.x +ℤ pos m.look.column) ≤ℤ edge →
        lies_in m.bounds.area (box_at m.look p) ≡ true → HasColumn m p
    one_column p here is ends inside = record {
      within = within_edge p.x here ends;
      ends = ends_at p.x (subst (λ e. (p.x +ℤ pos m.look.column) ≤ℤ e) (sym is) ends);
      inside = inside;
    }

    -- as many as end at the edge, and whose last character ends in the printable area
    pub columns : (p : TextPlace) (n : ℕ) → IsInRange p.x → edge_from m p.x ≡ edge → lies_in m.bounds.area (box_at m.look p) ≡ true →
        (1 ≤ n →
        ((p.x +ℤ pos (n * m.look.column)) ≤ℤ edge)
        × ((p.x +ℤ pos (n * m.look.column)) ≤ℤ (((m.bounds.area.right -ℤ m.look.origin.x) -ℤ m.look.advance) +ℤ pos m.look.column))) →
        HaveColumns m p n
    columns p zero here is inside ends = tt
    columns p (suc zero) here is inside ends =
        let e = (ends (omega arith)).0 in
        (one_column p here is (omega (arith, ints, e)) inside, tt)
    columns p (suc (suc j)) here is inside ends =
        let c = m.look.column in
        let both = ends (omega arith) in
        let e = both.0 in
        let f = both.1 in
        let two = suc-mul (suc j) c in
        let one = suc-mul j c in
        let first : (p.x +ℤ pos c) ≤ℤ edge = omega (arith, ints, e, two) in
        let next = one_column p here is first inside in
        let further = box_inside p inside ahead (omega (arith, ints, f, two, one)) in (
          next,
          columns (column_on p) (suc j) next.within (edge_stays p.x j is e) further
              (λ some. (omega (arith, ints, e, two), omega (arith, ints, f, two))),
        )

-- one column more than end up to a place begin there
pub begin_up_to : (x last : ℤ) (c r : ℕ) → x ≤ℤ last → ((k : ℕ) → 1 ≤ k → k ≤ r → (x +ℤ pos (k * c)) ≤ℤ last) → (n : ℕ) → 1 ≤ n →
    n ≤ r + 1 → (x +ℤ pos (n * c)) ≤ℤ (last +ℤ pos c)
begin_up_to x last c r here h zero some less = absurd (omega (arith, some))
begin_up_to x last c r here h (suc zero) some less = omega (arith, ints, here)
begin_up_to x last c r here h (suc (suc k)) some less =
    let one = suc-mul (suc k) c in
    let before = h (suc k) (omega arith) (omega (arith, less)) in
    omega (arith, ints, one, before)

-- a character that is inside begins no later than the last that is
pub begins_inside : (m : TextMeasure) (p : TextPlace) → lies_in m.bounds.area (box_at m.look p) ≡ true →
    p.x ≤ℤ ((m.bounds.area.right -ℤ m.look.origin.x) -ℤ m.look.advance)
begins_inside m p h =
    let area = m.bounds.area in
    let here = box_at m.look p in
    let parts = and_parts (is_between area.left area.right here.left && is_between area.left area.right here.right) _ h in
    let across = and_parts (is_between area.left area.right here.left) (is_between area.left area.right here.right) parts.0 in
    let high = between_high area.left area.right here.right across.1 in
    omega (arith, ints, high)
