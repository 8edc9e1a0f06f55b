-- Where the diagonal of a box goes, each line in the box does.
use Rattle.std.proofs.Common.{◌≡◌, ◌==◌, ℕ, ℤ, pos, ◌/◌, ◌≤◌, Bool, true, false, not, ◌&&◌, ◌||◌, cond, Some, None, List, [], ◌∷◌, ◌++◌}
use Rattle.std.proofs.Common.{length, refl, ap, sym, ◌∙◌, arith}
use Rattle.std.specs.Prelude.{◌+ℤ◌, ◌-ℤ◌, ◌≤ℤ◌, int_lt, nat_lt, unsigned_abs}
use Rattle.std.specs.Int.{int_min, int_max}
use Rattle.std.proofs.lemmas.Int.{ints}
use Rattle.std.proofs.lemmas.Bool.{and_from, and_parts, le-ltb, ltb-false, ne_eqb}
use Rattle.tick_length.specs.declared.unit.Unit.TheVariants.{Millimetre}
use Rattle.device_profile.specs.declared.geometry.Geometry.{Geometry}
use Rattle.device_profile.specs.declared.panel.Panel.{Panel}
use Rattle.device_profile.specs.Printer.{Printer}
use Rattle.page_env.specs.declared.finding.Finding.TheVariants.{NoPen, NotPrintable, OutsideFrame}
use Rattle.page_env.specs.declared.frames.Frame.{Frame}
use Rattle.page_env.specs.declared.page.Page.{Page}
use Rattle.page_env.specs.declared.page.PenPlace.{PenPlace}
use Rattle.page_env.specs.declared.places.Origin.{Origin}
use Rattle.page_env.specs.declared.plot.PenBounds.{PenBounds}
use Rattle.page_env.specs.Effect.{Effect, Goes, check, fails_or, first_finding, first_unset, unset_or}
use Rattle.page_env.specs.Frames.{frame_of, frame_on, is_in_frame, x_on_page, y_on_page}
use Rattle.page_env.specs.Mark.{Line, Shape, is_inside, line_bounds}
use Rattle.page_env.specs.Pens.{furthest, is_too_far, line_between, line_checks, stays_in_frame}
use Rattle.page_env.specs.Places.{geometry_of, is_between, origin_of, page_reads, ticks_in}
use Rattle.page_env.specs.Plot.{DrawsLine, LinesGo, lies_within, marked_by, marks_both, page_with, pen_at}
use Rattle.page_env.specs.Settings.{State, settings_at, state_at}
use Rattle.page_env.proofs.TextRuns.{between_low, between_high, is_between-of}

neither : (p q : Bool) → not (p || q) ≡ true → (p ≡ false) × (q ≡ false)
neither true q e = absurd cc
neither false true e = absurd cc
neither false false e = (refl, refl)

not_either : (p q : Bool) → p ≡ false → q ≡ false → not (p || q) ≡ true
not_either p q e f = ap (λ a. not (a || q)) e ∙ ap (λ b. not b) f

-- ---- along an axis

-- a place between two others lies between the lower and the higher of them
low_end : (p q a : ℤ) → p ≤ℤ a → (turned : Bool) → int_lt q p ≡ turned → cond turned q p ≤ℤ a
low_end p q a h true e = omega (arith, ints)
low_end p q a h false e = h

low_end' : (p q a : ℤ) → p ≤ℤ a → (turned : Bool) → int_lt p q ≡ turned → cond turned p q ≤ℤ a
low_end' p q a h true e = h
low_end' p q a h false e = omega (arith, ints)

high_end : (p q a : ℤ) → a ≤ℤ q → (turned : Bool) → int_lt q p ≡ turned → a ≤ℤ cond turned p q
high_end p q a h true e = omega (arith, ints)
high_end p q a h false e = h

high_end' : (p q a : ℤ) → a ≤ℤ q → (turned : Bool) → int_lt p q ≡ turned → a ≤ℤ cond turned q p
high_end' p q a h true e = h
high_end' p q a h false e = omega (arith, ints)

-- with half a width about them, they lie between bounds where the least and the greatest do
both_fit : (low high least most a b : ℤ) (half : ℕ) → least ≤ℤ a → a ≤ℤ most → least ≤ℤ b → b ≤ℤ most → low ≤ℤ (least -ℤ pos half) →
    (most +ℤ pos half) ≤ℤ high → (turned : Bool) → int_lt b a ≡ turned →
    (is_between low high (cond turned b a -ℤ pos half) && is_between low high (cond turned a b +ℤ pos half)) ≡ true
both_fit low high least most a b half la am lb bm h k true e =
    and_from _ _ (is_between-of low high (b -ℤ pos half) (omega (arith, ints)) (omega (arith, ints)))
    (is_between-of low high (a +ℤ pos half) (omega (arith, ints)) (omega (arith, ints)))
both_fit low high least most a b half la am lb bm h k false e =
    and_from _ _ (is_between-of low high (a -ℤ pos half) (omega (arith, ints)) (omega (arith, ints)))
    (is_between-of low high (b +ℤ pos half) (omega (arith, ints)) (omega (arith, ints)))

-- where two ends fit, so do all between them
between_ends : (low high p q a b : ℤ) (half : ℕ) → int_min p q ≤ℤ a → a ≤ℤ int_max p q → int_min p q ≤ℤ b → b ≤ℤ int_max p q →
    (is_between low high (int_min p q -ℤ pos half) && is_between low high (int_max p q +ℤ pos half)) ≡ true →
    (is_between low high (int_min a b -ℤ pos half) && is_between low high (int_max a b +ℤ pos half)) ≡ true
between_ends low high p q a b half la am lb bm e =
    let parts = and_parts (is_between low high (int_min p q -ℤ pos half)) (is_between low high (int_max p q +ℤ pos half)) e in
    both_fit low high (int_min p q) (int_max p q) a b half la am lb bm
    (between_low low high (int_min p q -ℤ pos half) parts.0) (between_high low high (int_max p q +ℤ pos half) parts.1) (int_lt b a) refl

-- what lies between places that lie between bounds does, too
between_more : (low high p q x : ℤ) → is_between low high p ≡ true → is_between low high q ≡ true → is_between p q x ≡ true →
    is_between low high x ≡ true
between_more low high p q x hp hq hx =
    let l = between_low low high p hp in
    let h = between_high low high q hq in
    let a = between_low p q x hx in
    let b = between_high p q x hx in
    is_between-of low high x (omega (arith, ints, l, a)) (omega (arith, ints, h, b))

-- a place that is not past a limit, nor is one before it
not_further : (limit : ℕ) (size high p x : ℤ) → is_between (pos 0) size p ≡ true → is_between p high x ≡ true →
    nat_lt limit (unsigned_abs high) ≡ false → nat_lt limit (unsigned_abs x) ≡ false
not_further limit size high p x hp hx e =
    let l = between_low (pos 0) size p hp in
    let a = between_low p high x hx in
    let b = between_high p high x hx in
    let few : unsigned_abs high ≤ limit = ltb-false limit (unsigned_abs high) e in
    le-ltb limit (unsigned_abs x) (grind (arith, ints, l, a, b, few))

-- ---- lines

module _ (g : Geometry) (origin : Origin) (frame : Frame) (width : ℕ) (box : PenBounds) (from to : PenPlace)
    (in_from : lies_within box from ≡ true) (in_to : lies_within box to ≡ true) where
  from_x : is_between box.low.x box.high.x from.x ≡ true
  from_x = (and_parts (is_between box.low.x box.high.x from.x) (is_between box.low.y box.high.y from.y) in_from).0

  from_y : is_between box.low.y box.high.y from.y ≡ true
  from_y = (and_parts (is_between box.low.x box.high.x from.x) (is_between box.low.y box.high.y from.y) in_from).1

  to_x : is_between box.low.x box.high.x to.x ≡ true
  to_x = (and_parts (is_between box.low.x box.high.x to.x) (is_between box.low.y box.high.y to.y) in_to).0

  to_y : is_between box.low.y box.high.y to.y ≡ true
  to_y = (and_parts (is_between box.low.x box.high.x to.x) (is_between box.low.y box.high.y to.y) in_to).1

  abbrev x_at : ℤ → ℤ
  x_at x = origin.x +ℤ x_on_page frame x

  abbrev y_at : ℤ → ℤ
  y_at y = origin.y +ℤ y_on_page frame y

  x_low : (x : ℤ) → is_between box.low.x box.high.x x ≡ true → int_min (x_at box.low.x) (x_at box.high.x) ≤ℤ x_at x
  x_low x h =
      let l = between_low box.low.x box.high.x x h in
      low_end (x_at box.low.x) (x_at box.high.x) (x_at x) (omega (arith, ints, l)) (int_lt (x_at box.high.x) (x_at box.low.x)) refl

  x_high : (x : ℤ) → is_between box.low.x box.high.x x ≡ true → x_at x ≤ℤ int_max (x_at box.low.x) (x_at box.high.x)
  x_high x h =
      let l = between_high box.low.x box.high.x x h in
      high_end (x_at box.low.x) (x_at box.high.x) (x_at x) (omega (arith, ints, l)) (int_lt (x_at box.high.x) (x_at box.low.x)) refl

  -- y grows upwards
  y_low : (y : ℤ) → is_between box.low.y box.high.y y ≡ true → int_min (y_at box.low.y) (y_at box.high.y) ≤ℤ y_at y
  y_low y h =
      let l = between_high box.low.y box.high.y y h in
      low_end' (y_at box.high.y) (y_at box.low.y) (y_at y) (omega (arith, ints, l)) (int_lt (y_at box.high.y) (y_at box.low.y)) refl

  y_high : (y : ℤ) → is_between box.low.y box.high.y y ≡ true → y_at y ≤ℤ int_max (y_at box.low.y) (y_at box.high.y)
  y_high y h =
      let l = between_low box.low.y box.high.y y h in
      high_end' (y_at box.high.y) (y_at box.low.y) (y_at y) (omega (arith, ints, l)) (int_lt (y_at box.high.y) (y_at box.low.y)) refl

  inside_too : is_inside g (line_bounds (line_between origin frame width box.low box.high)) ≡ true →
      is_inside g (line_bounds (line_between origin frame width from to)) ≡ true
  unfolding is_inside
  inside_too e =
      let half = unsigned_abs (pos (ticks_in Millimetre width)) / 2 in
      let parts = and_parts _ _ e in
      and_from _ _
      (between_ends g.printable_left g.printable_right (x_at box.low.x) (x_at box.high.x) (x_at from.x) (x_at to.x) half
      (x_low from.x from_x) (x_high from.x from_x) (x_low to.x to_x) (x_high to.x to_x) parts.0)
      (between_ends g.printable_top g.printable_bottom (y_at box.low.y) (y_at box.high.y) (y_at from.y) (y_at to.y) half
      (y_low from.y from_y) (y_high from.y from_y) (y_low to.y to_y) (y_high to.y to_y) parts.1)

  in_frame_too : (place : PenPlace) → is_between box.low.x box.high.x place.x ≡ true → is_between box.low.y box.high.y place.y ≡ true →
      is_in_frame frame box.low ≡ true → is_in_frame frame box.high ≡ true → is_in_frame frame place ≡ true
  in_frame_too place hx hy low high =
      let l = and_parts _ _ low in
      let h = and_parts _ _ high in
      and_from _ _ (between_more (pos 0) frame.width box.low.x box.high.x place.x l.0 h.0 hx)
      (between_more (pos 0) frame.height box.low.y box.high.y place.y l.1 h.1 hy)

  near_too : is_in_frame frame box.low ≡ true → not (is_too_far box.high) ≡ true → not (is_too_far to) ≡ true
  near_too low high =
      let l = and_parts _ _ low in
      let far = neither (nat_lt furthest (unsigned_abs box.high.x)) (nat_lt furthest (unsigned_abs box.high.y)) high in
      not_either (nat_lt furthest (unsigned_abs to.x)) (nat_lt furthest (unsigned_abs to.y))
      (not_further furthest frame.width box.high.x box.low.x to.x l.0 to_x far.0)
      (not_further furthest frame.height box.high.y box.low.y to.y l.1 to_y far.1)

  stays_too : stays_in_frame frame box.low box.high ≡ true → stays_in_frame frame from to ≡ true
  stays_too e =
      let parts = and_parts (is_in_frame frame box.low && is_in_frame frame box.high) (not (is_too_far box.high)) e in
      let ends = and_parts (is_in_frame frame box.low) (is_in_frame frame box.high) parts.0 in
      and_from _ _ (and_from _ _ (in_frame_too from from_x from_y ends.0 ends.1) (in_frame_too to to_x to_y ends.0 ends.1))
      (near_too ends.0 parts.1)

  pub line_passes_too : is_inside g (line_bounds (line_between origin frame width box.low box.high)) ≡ true →
      stays_in_frame frame box.low box.high ≡ true → first_finding (line_checks g origin frame width from to) ≡ None
  line_passes_too inside stays =
      ap (λ (b : Bool). cond (not b) (Some NotPrintable) (cond (not (stays_in_frame frame from to)) (Some OutsideFrame) None))
      (inside_too inside)
      ∙ ap (λ (b : Bool). cond (not b) (Some OutsideFrame) None) (stays_too stays)

-- where the checks of a line pass its end is not too far
not_too_far : (b : Bool) → not b ≡ true → b ≡ false
not_too_far true e = absurd cc
not_too_far false e = refl

pub near_end : (g : Geometry) (origin : Origin) (frame : Frame) (width : ℕ) (from to : PenPlace) →
    first_finding (line_checks g origin frame width from to) ≡ None → is_too_far to ≡ false
near_end g origin frame width from to passes =
    let stays = by (is_inside g (line_bounds (line_between origin frame width from to))) (stays_in_frame frame from to) passes in
    not_too_far (is_too_far to) (and_parts (is_in_frame frame from && is_in_frame frame to) (not (is_too_far to)) stays).1
  where
    by : (a b : Bool) → cond (not a) (Some NotPrintable) (cond (not b) (Some OutsideFrame) None) ≡ None → b ≡ true
    by true true e = refl
    by true false e = absurd cc
    by false b e = absurd cc

-- ---- what the pen draws

module _ (printer : Printer) (page : Page) (box : PenBounds) (g : Geometry) (origin : Origin) (frame : Frame)
    (selected : (page.env.job.pen.number == 0) ≡ false)
    (known : (panel : Panel) →
    (first_unset (settings_at panel page.env) page_reads ≡ None) × (geometry_of printer (state_at panel page) ≡ g)
    × (origin_of printer (state_at panel page) ≡ origin))
    (is_frame : frame ≡ frame_on g page.env.job.frame) (go : LinesGo g origin frame page.env.job.pen.width box) where
  pub draws_within : (from target : PenPlace) → lies_within box from ≡ true → lies_within box target ≡ true →
      DrawsLine printer page from target (line_between origin frame page.env.job.pen.width from target)
  unfolding page_reads
  draws_within from target in_from in_target panel is_down is_relative marked =
      let width : ℕ = page.env.job.pen.width in
      let s = state_at panel (page_with (pen_at is_down is_relative from page) marked page) in
      let drawn : State = state_at panel (page_with (pen_at true is_relative target page) true page) in
      let judges : Geometry → Origin → Frame → Effect =
      λ g' origin' frame'. fails_or (first_finding (line_checks g' origin' frame' width from target))
      (Goes drawn (Line (line_between origin' frame' width from target) ∷ [])) in
      ap
      (λ none. fails_or (first_finding (check none NoPen ∷ []))
      (unset_or (first_unset s.settings page_reads) (judges (geometry_of printer s) (origin_of printer s) (frame_of printer s))))
      selected
      ∙ ap (λ unset. unset_or unset (judges (geometry_of printer s) (origin_of printer s) (frame_of printer s))) (known panel).0
      ∙ ap (λ origin'. judges (geometry_of printer s) origin' (frame_of printer s)) (known panel).2
      ∙ ap (λ g'. judges g' origin (frame_on g' page.env.job.frame)) (known panel).1
      ∙ ap (λ frame'. judges g origin frame') (sym is_frame)
      ∙ ap (λ finding. fails_or finding (Goes drawn (Line (line_between origin frame width from target) ∷ [])))
      (go from target in_from in_target)

-- a page that is marked stays so
stays_marked : (shapes : List Shape) → marked_by shapes true ≡ true
stays_marked [] = refl
stays_marked (shape ∷ shapes) = refl

-- a page is marked where it was, or a mark was made
pub marks_are : (dots lines : List Shape) (marked : Bool) (marks : ℕ) → length (dots ++ lines) ≡ marks →
    (not (marks == 0) || marked) ≡ marks_both dots lines marked
marks_are [] [] marked marks count = ap (λ n. not (n == 0) || marked) (sym count)
marks_are [] (line ∷ lines) marked marks count =
    let some : length (line ∷ lines) ≡ marks = count in
    ap (λ b. not b || marked) (ne_eqb marks 0 (λ none. absurd (omega (arith, some, none))))
marks_are (dot ∷ dots) lines marked marks count =
    let some : length (dot ∷ (dots ++ lines)) ≡ marks = count in
    ap (λ b. not b || marked) (ne_eqb marks 0 (λ none. absurd (omega (arith, some, none)))) ∙ sym (stays_marked lines)
