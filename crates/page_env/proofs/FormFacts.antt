-- Moves and rectangles go as the table has them, by what is looked up of the page.
use Rattle.std.proofs.Common.{◌≡◌, ℕ, ℤ, pos, ◌+◌, ◌*◌, Bool, true, false, not, ◌&&◌, cond, Option, Some, None, List, [], ◌∷◌, length}
use Rattle.std.proofs.Common.{unwrap_or, refl, sym, ap, subst, ◌∙◌, arith}
use Rattle.std.specs.Prelude.{◌+ℤ◌, ◌-ℤ◌, ◌≤ℤ◌, ◌==◌, ◌%◌, ◌/◌, int_lt, is_none, nat_lt}
use Rattle.std.proofs.Math.Nat.{mul_assoc}
use Rattle.std.proofs.lemmas.Bool.{and_from, eqb-true, ne_eqb}
use Rattle.std.proofs.lemmas.Nat.{div-add-mod', div-mul-add, mod-mul-add}
use Rattle.std.proofs.lemmas.Int.{ints}
use Rattle.std.specs.Option.{option_map_or}
use Rattle.tick_length.specs.declared.unit.Unit.TheVariants.{FortyEighthInch, HundredTwentiethInch}
use Rattle.pcl_items.specs.Escapes.Value.{Amount}
use Rattle.pcl_items.specs.declared.pcl.command.Command.TheVariants as commands
use Rattle.device_profile.specs.declared.field.Field.{Field}
use Rattle.device_profile.specs.declared.field.Field.TheVariants.{Size, Orientation, Vmi, Font, Copies, Sides, Tray}
use Rattle.device_profile.specs.declared.field.Field.TheVariants.{LineTerm}
use Rattle.device_profile.specs.declared.geometry.Geometry.{Geometry}
use Rattle.device_profile.specs.declared.panel.Panel.{Panel}
use Rattle.device_profile.specs.Printer.{Printer}
use Rattle.page_env.specs.declared.cell.Cell.{Cell}
use Rattle.page_env.specs.declared.cell.Cell.TheVariants.{Known}
use Rattle.page_env.specs.declared.cursor.Cursor.{Cursor}
use Rattle.page_env.specs.declared.finding.Finding.TheVariants.{BadValue, EmptyRectangle, Inexact, NoFont, NotPrintable}
use Rattle.page_env.specs.declared.finding.Finding.TheVariants.{OffPage, StackEmpty, StackFull}
use Rattle.page_env.specs.declared.lookup.FormBounds.{FormBounds}
use Rattle.page_env.specs.declared.mark.Bounds.{Bounds}
use Rattle.page_env.specs.declared.mark.Fill.{Fill}
use Rattle.page_env.specs.declared.page.JobSettings.{JobSettings}
use Rattle.page_env.specs.declared.page.Page.{Page}
use Rattle.page_env.specs.declared.places.Origin.{Origin}
use Rattle.page_env.specs.CursorPositioning.{move_across, move_from_top, pop_cursor, popped, push_cursor, stack_room}
use Rattle.page_env.specs.Effect.{Effect, Goes, Step, TableLine, check, effect_of, fails_or, first_unset, is_unset, unset_or}
use Rattle.page_env.specs.FontInForce.{face_of, font_reads}
use Rattle.page_env.specs.Forms.{Across, AcrossDecipoints, Bound, Columns, Down, DownDecipoints, FeedGoes, Filled, FormGoes, HasBounds}
use Rattle.page_env.specs.Forms.{Height, KnowsPage, LeavesRest, Rows, Stacked, Width}
use Rattle.page_env.specs.Mark.{Rectangle, Shape, is_inside}
use Rattle.page_env.specs.declared.motion.Feed.TheVariants.{HalfLine}
use Rattle.page_env.specs.Motion.{line_termination_reads}
use Rattle.page_env.specs.Numbers.{is_absent, is_negative, is_whole_between, whole_of}
use Rattle.page_env.specs.Places.{column_from, decipoint_ticks, first_line, geometry_of, home_of, is_between, origin_on}
use Rattle.page_env.specs.Places.{page_and_line_reads, page_reads, place_between, target_of, ticks_in, times, unit_ticks}
use Rattle.page_env.specs.Places.{vertical_reads}
use Rattle.page_env.specs.Rectangles.{fill_of, rectangle_at}
use Rattle.page_env.specs.Settings.{Settings, State, half_inch, is_from_panel, settings_at, state_at, value_at, with_job}
use Rattle.page_env.specs.Text.{text_reads}
use Rattle.page_env.specs.TextMeasure.{HasMeasure, TextMeasure, area_of, lies_in}
use Rattle.page_env.proofs.Feeds.{feed-steps}
use Rattle.page_env.proofs.TextRuns.{is_between-of}

-- ---- places

-- a place that was found between two bounds
record IsPlaced (low high z x : ℤ) : Type 0 where
  between : is_between low high z ≡ true
  is : z ≡ x

placed : (low high z x : ℤ) → place_between low high z ≡ Some x → IsPlaced low high z x
placed low high z x e = by (is_between low high z) refl e
  where
    by : (b : Bool) → is_between low high z ≡ b → cond b (Some z) None ≡ Some x → IsPlaced low high z x
    by true is e = record { between = is; is = ap (λ o. unwrap_or o z) e }
    by false is e = absurd cc

no_reads : (b : Bool) → cond {A = List Field} b [] [] ≡ []
no_reads true = refl
no_reads false = refl

-- a fill makes one mark
one_mark : (o : Option Fill) (box : Bounds) → is_none o ≡ false →
    length (option_map_or (λ fill. Rectangle (record { fill = fill; bounds = box }) ∷ []) o []) ≡ 1
one_mark None box e = absurd cc
one_mark (Some fill) box e = refl

-- ---- what leaves the page known

page_still : (printer : Printer) (old new : Page) (g : Geometry) → LeavesRest old new → KnowsPage printer old g → KnowsPage printer new g
unfolding page_reads
page_still printer old new g rest h =
    subst (λ page. KnowsPage printer page g) (sym rest) record { no_raster = h.no_raster; read = h.read; geometry = h.geometry }

-- so is what is looked up of it
pub bounds_still : (printer : Printer) (old new : Page) (bounds : FormBounds) → LeavesRest old new → HasBounds printer old bounds →
    HasBounds printer new bounds
bounds_still printer old new bounds rest h = record {
  geometry = h.geometry;
  has = page_still printer old new h.geometry rest h.has;
  bound =
      subst (λ (page : Page). Bound bounds h.geometry page.env.job) (sym rest)
      record {
        width = h.bound.width;
        height = h.bound.height;
        origin = h.bound.origin;
        area = h.bound.area;
        top = h.bound.top;
        unit = h.bound.unit;
      };
}

-- what is read is unset or not, whatever only the job sets
field_same : (settings : Settings) (job : JobSettings) (field : Field) →
    is_unset (record settings { job = job }) field ≡ is_unset settings field
field_same settings job Size = refl
field_same settings job Orientation = refl
field_same settings job Vmi = refl
field_same settings job Font = refl
field_same settings job Copies = refl
field_same settings job Sides = refl
field_same settings job Tray = refl
field_same settings job LineTerm = refl

unset_same : (settings : Settings) (job : JobSettings) (fields : List Field) →
    first_unset (record settings { job = job }) fields ≡ first_unset settings fields
unset_same settings job [] = refl
unset_same settings job (field ∷ fields) =
    λ i. cond (field_same settings job field i) (Some field) (unset_same settings job fields i)

-- what lines of text take stays what it is
pub measure_still : (printer : Printer) (old new : Page) (m : TextMeasure) → LeavesRest old new → HasMeasure printer old m →
    HasMeasure printer new m
measure_still printer old new m rest has =
    subst (λ page. HasMeasure printer page m) (sym rest)
    (λ panel.
    let settings : Settings = settings_at panel old.env in
    let job : JobSettings = record old.env.job {
      rectangle_width = new.env.job.rectangle_width;
      rectangle_height = new.env.job.rectangle_height;
    } in
    let h = has panel in
    record {
      read = λ y. unset_same settings job (text_reads (Some y) (font_reads old.env.job.font)) ∙ h.read y;
      request = h.request;
      face = h.face;
      face_is = h.face_is;
      looks = h.looks;
      origin = h.origin;
      column = h.column;
      left = h.left;
      area = h.area;
      width = h.width;
      right = h.right;
      foot = h.foot;
      ends = λ ends_lines.
          let e = h.ends ends_lines in
          record {
            read = unset_same settings job line_termination_reads ∙ e.read;
            line_read = unset_same settings job (Vmi ∷ []) ∙ e.line_read;
            termination = e.termination;
            line = e.line;
          };
      no_raster = h.no_raster;
    })

-- ---- sizes

module _ (printer : Printer) (page : Page) (n : Amount) (size : ℤ) (positive : is_negative n ≡ false)
    (size_is : size ≡ pos (unit_ticks page.env.job.units_per_inch n)) where
  pub width_goes :
      FormGoes printer commands.RectangleWidth n 0 page
      (record page { env = record page.env { job = record page.env.job { rectangle_width = size } } })
  width_goes = record {
    form = Width;
    is = refl;
    shapes = [];
    count = refl;
    goes = λ panel defaults.
        let s : State = state_at panel page in
        let sized : ℤ → Effect = λ width. Goes (with_job s (record s.settings.job { rectangle_width = width })) [] in
        ap
        (λ negative. fails_or (cond negative (Some BadValue) None) (sized (pos (unit_ticks s.settings.job.units_per_inch n))))
        positive
        ∙ ap sized (sym size_is);
    rest = refl;
  }

  pub height_goes :
      FormGoes printer commands.RectangleHeight n 0 page
      (record page { env = record page.env { job = record page.env.job { rectangle_height = size } } })
  height_goes = record {
    form = Height;
    is = refl;
    shapes = [];
    count = refl;
    goes = λ panel defaults.
        let s : State = state_at panel page in
        let sized : ℤ → Effect = λ height. Goes (with_job s (record s.settings.job { rectangle_height = height })) [] in
        ap
        (λ negative. fails_or (cond negative (Some BadValue) None) (sized (pos (unit_ticks s.settings.job.units_per_inch n))))
        positive
        ∙ ap sized (sym size_is);
    rest = refl;
  }

-- ---- the cursor stack

module _ (printer : Printer) (page : Page) (n : Amount) (value : is_whole_between 0 1 n ≡ true) where
  -- a push, where the cursor is not at home and there is room
  pub push_goes : (here : ℤ) → page.cursor.y ≡ Some here → nat_lt (length page.stack) stack_room ≡ true → (whole_of n == 0) ≡ true →
      FormGoes printer commands.CursorStack n 0 page (record page { stack = record page.cursor { y = Some here } ∷ page.stack })
  push_goes here stands room push = record {
    form = Stacked;
    is = refl;
    shapes = [];
    count = refl;
    goes = λ panel defaults.
        let s : State = state_at panel page in
        let at : ℤ → Cursor = λ y. record s.cursor { y = Some y } in
        let pushed : Option ℤ → Effect =
        λ o.
        unset_or (first_unset s.settings (vertical_reads o))
        (Goes (record s { cursor = at (unwrap_or o (home_of s)); stack = at (unwrap_or o (home_of s)) ∷ s.stack }) []) in
        ap (λ b. effect_of s.settings (Step (cond b (push_cursor s n) (pop_cursor s n)))) push
        ∙ ap
        (λ b. fails_or
        (cond (not b) (Some BadValue) (cond (not (nat_lt (length s.stack) stack_room)) (Some StackFull) None)) (pushed s.cursor.y))
        value
        ∙ ap (λ b. fails_or (cond (not b) (Some StackFull) None) (pushed s.cursor.y)) room
        ∙ ap pushed stands
        ∙ ap (λ o. Goes (record s { cursor = record s.cursor { y = o }; stack = at here ∷ s.stack }) []) (sym stands);
    rest = refl;
  }

  -- a pop, where a cursor was pushed
  pub pop_goes : (cursor : Cursor) (stack : List Cursor) → page.stack ≡ cursor ∷ stack → (whole_of n == 0) ≡ false →
      FormGoes printer commands.CursorStack n 0 page (record page { cursor = cursor; stack = stack })
  pop_goes cursor stack is pop = record {
    form = Stacked;
    is = refl;
    shapes = [];
    count = refl;
    goes = λ panel defaults.
        let s : State = state_at panel page in
        let some : (length (cursor ∷ stack) == 0) ≡ false = ne_eqb (length (cursor ∷ stack)) 0 (λ e. absurd (omega (arith, e))) in
        let left : List Cursor → Effect = λ l. Goes (popped s l) [] in
        ap (λ b. effect_of s.settings (Step (cond b (push_cursor s n) (pop_cursor s n)))) pop
        ∙ ap
        (λ b. fails_or (cond (not b) (Some BadValue) (cond (length s.stack == 0) (Some StackEmpty) None)) (left s.stack))
        value
        ∙ ap (λ (l : List Cursor). fails_or (cond (length l == 0) (Some StackEmpty) None) (left l)) is
        ∙ ap (λ b. fails_or (cond b (Some StackEmpty) None) (left (cursor ∷ stack))) some;
    rest = refl;
  }

-- ---- columns and rows

-- a length times a whole value
pub whole_times : (length t : ℕ) → (t % 10_000 == 0) ≡ true → times length t ≡ Some (length * (t / 10_000))
unfolding times
whole_times length t whole =
    let q : ℕ = t / 10_000 in
    let none : t % 10_000 ≡ 0 = eqb-true (t % 10_000) 0 whole in
    let is : q * 10_000 ≡ t = omega (arith, none, div-add-mod' t 10_000) in
    let apart : length * q * 10_000 + 0 ≡ length * (q * 10_000) = omega (arith, mul_assoc length q 10_000) in
    let product : length * q * 10_000 + 0 ≡ length * t = apart ∙ ap (λ m. length * m) is in
    let rest : length * t % 10_000 ≡ 0 = ap (λ m. m % 10_000) (sym product) ∙ mod-mul-add (length * q) 10_000 0 (omega arith) in
    let part : length * t / 10_000 ≡ length * q = ap (λ m. m / 10_000) (sym product) ∙ div-mul-add (length * q) 10_000 0 (omega arith) in
    ap (λ r. cond (r == 0) (Some (length * t / 10_000)) None) rest ∙ ap (λ m. Some m) part

-- ---- moves, and rectangles that are filled

module _ (printer : Printer) (page : Page) (g : Geometry) (has : KnowsPage printer page g) (n : Amount) where
  abbrev job : JobSettings
  job = page.env.job

  -- a move of so many ticks to the left or right
  across_by : (by : ℕ) (x : ℤ) → place_between (pos 0) g.logical_width (target_of n.sign (pos 0) page.cursor.x (pos by)) ≡ Some x →
      (panel : Panel) →
      effect_of (settings_at panel page.env) (Step (move_across printer (state_at panel page) page_reads [] n.sign (Some by)))
      ≡ Goes (state_at panel (record page { cursor = record page.cursor { x = x } })) []
  across_by by x found panel =
      let to : ℤ = target_of n.sign (pos 0) page.cursor.x (pos by) in
      let lies = placed (pos 0) g.logical_width to x found in
      let s : State = state_at panel page in
      let moved : ℤ → Effect = λ place. Goes (record s { cursor = record s.cursor { x = place } }) [] in
      let judged : Bool → Effect = λ between. fails_or (cond (not between) (Some OffPage) None) (moved to) in
      ap (λ unset. unset_or unset (judged (is_between (pos 0) (geometry_of printer s).logical_width to))) (has.read panel)
      ∙ ap (λ (g' : Geometry). judged (is_between (pos 0) g'.logical_width to)) (has.geometry panel)
      ∙ ap judged lies.between
      ∙ ap moved lies.is

  -- one up or down, without a sign from the top margin
  down_by : (by : ℕ) (here y : ℤ) → page.cursor.y ≡ Some here →
      place_between (pos 0) g.logical_height (target_of n.sign job.top_margin here (pos by)) ≡ Some y →
      (panel : Panel) →
      effect_of (settings_at panel page.env) (Step (move_from_top printer (state_at panel page) n.sign by))
      ≡ Goes (state_at panel (record page { cursor = record page.cursor { y = Some y } })) []
  unfolding page_reads
  down_by by here y stands found panel =
      let to : ℤ → ℤ = λ from. target_of n.sign job.top_margin from (pos by) in
      let lies = placed (pos 0) g.logical_height (to here) y found in
      let s : State = state_at panel page in
      let moved : ℤ → Effect = λ place. Goes (record s { cursor = record s.cursor { y = Some place } }) [] in
      let judged : Bool → Effect = λ between. fails_or (cond (not between) (Some OffPage) None) (moved (to here)) in
      let lies_on : Geometry → ℤ → Bool = λ g' place. is_between (pos 0) g'.logical_height place in
      ap
      (λ o. unset_or (first_unset s.settings (Size ∷ Orientation ∷ cond (is_absent n.sign) [] (vertical_reads o)))
      (fails_or (cond (not (lies_on (geometry_of printer s) (to (unwrap_or o (home_of s))))) (Some OffPage) None)
      (moved (to (unwrap_or o (home_of s))))))
      stands
      ∙ ap
      (λ reads. unset_or (first_unset s.settings (Size ∷ Orientation ∷ reads))
      (judged (lies_on (geometry_of printer s) (to here))))
      (no_reads (is_absent n.sign))
      ∙ ap (λ unset. unset_or unset (judged (lies_on (geometry_of printer s) (to here)))) (has.read panel)
      ∙ ap (λ g'. judged (lies_on g' (to here))) (has.geometry panel)
      ∙ ap judged lies.between
      ∙ ap moved lies.is

  -- one by columns, where an HMI is set
  columns_by : (hmi by : ℕ) (x : ℤ) → job.hmi ≡ Some hmi → times (ticks_in HundredTwentiethInch hmi) n.ten_thousandths ≡ Some by →
      place_between (pos 0) g.logical_width (target_of n.sign (pos 0) page.cursor.x (pos by)) ≡ Some x →
      FormGoes printer commands.Column n 0 page (record page { cursor = record page.cursor { x = x } })
  unfolding page_reads
  columns_by hmi by x is whole found = record {
    form = Columns;
    is = refl;
    shapes = [];
    count = refl;
    goes = λ panel defaults.
        let s : State = state_at panel page in
        let line : Option ℕ → TableLine =
        λ o.
        move_across printer s (Size ∷ Orientation ∷ cond (is_none o) (font_reads job.font) [])
        (check (is_none (column_from o (face_of printer s))) NoFont ∷ []) n.sign
        (times (unwrap_or (column_from o (face_of printer s)) 0) n.ten_thousandths) in
        ap (λ o. effect_of s.settings (Step (line o))) is
        ∙ ap
        (λ (o : Option ℕ). effect_of s.settings
        (Step (move_across printer s (Size ∷ Orientation ∷ []) (check false NoFont ∷ []) n.sign o)))
        whole
        ∙ across_by by x found panel;
    rest = refl;
  }

  -- one by rows, where the VMI is known
  rows_by : (vmi by : ℕ) (here y : ℤ) → page.env.fields.vmi ≡ Known vmi → page.cursor.y ≡ Some here →
      times (ticks_in FortyEighthInch vmi) n.ten_thousandths ≡ Some by →
      place_between (pos 0) g.logical_height (target_of n.sign (first_line job.top_margin vmi) here (pos by)) ≡ Some y →
      FormGoes printer commands.Row n 0 page (record page { cursor = record page.cursor { y = Some y } })
  unfolding page_reads page_and_line_reads
  rows_by vmi by here y is stands whole found = record {
    form = Rows;
    is = refl;
    shapes = [];
    count = refl;
    goes = λ panel defaults.
        let s : State = state_at panel page in
        let top : ℕ → ℤ = first_line job.top_margin in
        let to : ℕ → Option ℤ → Option ℕ → ℤ = λ v o b. target_of n.sign (top v) (unwrap_or o (top v)) (pos (unwrap_or b 0)) in
        let lies = placed (pos 0) g.logical_height (to vmi (Some here) (Some by)) y found in
        let moved : ℤ → Effect = λ place. Goes (record s { cursor = record s.cursor { y = Some place } }) [] in
        let judged : Option ℕ → Bool → ℤ → Effect =
        λ b between place. fails_or (cond (is_none b) (Some Inexact) (cond (not between) (Some OffPage) None)) (moved place) in
        let at : ℕ → Option ℤ → Option ℕ → Geometry → Effect =
        λ v o b g'. judged b (is_between (pos 0) g'.logical_height (to v o b)) (to v o b) in
        let ticks : ℕ → Option ℕ = λ v. times (ticks_in FortyEighthInch v) n.ten_thousandths in
        let value : Cell → ℕ = value_at panel.vmi in
        let read : first_unset s.settings page_and_line_reads ≡ None =
        ap
        (λ (cell : Cell). cond s.settings.unset.size (Some Size)
        (cond s.settings.unset.orientation (Some Orientation) (cond (is_from_panel cell) (Some Vmi) None)))
        is
        ∙ has.read panel in
        ap
        (λ unset. unset_or unset
        (at s.settings.fields.vmi page.cursor.y (ticks s.settings.fields.vmi) (geometry_of printer s)))
        read
        ∙ ap (λ (cell : Cell). at (value cell) page.cursor.y (ticks (value cell)) (geometry_of printer s)) is
        ∙ ap (λ o. at vmi o (ticks vmi) (geometry_of printer s)) stands
        ∙ ap (λ b. at vmi (Some here) b (geometry_of printer s)) whole
        ∙ ap (at vmi (Some here) (Some by)) (has.geometry panel)
        ∙ ap (λ between. judged (Some by) between (to vmi (Some here) (Some by))) lies.between
        ∙ ap moved lies.is;
    rest = refl;
  }

  -- the box of the next rectangle, where the cursor has this vertical place
  abbrev box_on : Geometry → ℤ → Bounds
  box_on g' y = rectangle_at ((origin_on g').x +ℤ page.cursor.x) ((origin_on g').y +ℤ y) job.rectangle_width job.rectangle_height

  abbrev filled_in : Bounds → List Shape
  filled_in box = option_map_or (λ fill. Rectangle (record { fill = fill; bounds = box }) ∷ []) (fill_of job n) []

  fill_by : (y : ℤ) → is_none (fill_of job n) ≡ false →
      not (int_lt (pos 0) job.rectangle_width && int_lt (pos 0) job.rectangle_height) ≡ false →
      page.cursor.y ≡ Some y →
      is_inside g (box_on g y) ≡ true →
      FormGoes printer commands.FillRectangle n 1 page (record page { marked = true })
  unfolding page_reads
  fill_by y fills some stands inside = record {
    form = Filled;
    is = refl;
    shapes = filled_in (box_on g y);
    count = one_mark (fill_of job n) (box_on g y) fills;
    goes = λ panel defaults.
        let s : State = state_at panel page in
        let filled : Option ℤ → Bounds → Effect =
        λ o box. Goes (record s { cursor = record s.cursor { y = o }; marked = true }) (filled_in box) in
        let printed : Geometry → ℤ → Effect =
        λ g' place.
        fails_or (cond (not (is_inside g' (box_on g' place))) (Some NotPrintable) None) (filled (Some place) (box_on g' place)) in
        let read : Option ℤ → Geometry → Effect =
        λ o g'. unset_or (first_unset s.settings (Size ∷ Orientation ∷ vertical_reads o)) (printed g' (unwrap_or o (home_of s))) in
        ap
        (λ bad.
        fails_or
        (cond bad (Some BadValue)
        (cond (not (int_lt (pos 0) job.rectangle_width && int_lt (pos 0) job.rectangle_height)) (Some EmptyRectangle) None))
        (read page.cursor.y (geometry_of printer s)))
        fills
        ∙ ap (λ empty. fails_or (cond empty (Some EmptyRectangle) None) (read page.cursor.y (geometry_of printer s))) some
        ∙ ap (λ o. read o (geometry_of printer s)) stands
        ∙ ap (read (Some y)) (has.geometry panel)
        ∙ ap (λ unset. unset_or unset (printed g y)) (has.read panel)
        ∙ ap (λ is. fails_or (cond (not is) (Some NotPrintable) None) (filled (Some y) (box_on g y))) inside
        ∙ ap (λ o. filled o (box_on g y)) (sym stands);
    rest = refl;
  }

-- what lies in the printable area is inside
inside_of : (g : Geometry) (box : Bounds) → lies_in (area_of g) box ≡ true → is_inside g box ≡ true
unfolding is_inside
inside_of g box h = h

-- a rectangle that has a width and a height
sized : (w h : ℤ) → not (int_lt (pos 0) w && int_lt (pos 0) h) ≡ false → (pos 0 ≤ℤ w) × (pos 0 ≤ℤ h)
sized w h e = by (int_lt (pos 0) w) (int_lt (pos 0) h) refl refl e
  where
    by : (a b : Bool) → int_lt (pos 0) w ≡ a → int_lt (pos 0) h ≡ b → not (a && b) ≡ false → (pos 0 ≤ℤ w) × (pos 0 ≤ℤ h)
    by true true p q e = (omega (arith, ints), omega (arith, ints))
    by true false p q e = absurd cc
    by false b p q e = absurd cc

-- lies within an area where its corner is behind two of the edges, and the others are behind it
pub lies_from : (area : Bounds) (x y w h : ℤ) → not (int_lt (pos 0) w && int_lt (pos 0) h) ≡ false →
    (area.left ≤ℤ x) × (area.top ≤ℤ y) × ((x +ℤ w) ≤ℤ area.right) × ((y +ℤ h) ≤ℤ area.bottom) →
    lies_in area (rectangle_at x y w h) ≡ true
lies_from area x y w h some at =
    let size = sized w h some in
    let left : area.left ≤ℤ x = at.0 in
    let top : area.top ≤ℤ y = at.1 in
    let right : (x +ℤ w) ≤ℤ area.right = at.2 in
    let bottom : (y +ℤ h) ≤ℤ area.bottom = at.3 in
    let wide : pos 0 ≤ℤ w = size.0 in
    let tall : pos 0 ≤ℤ h = size.1 in
    and_from _ _
    (and_from _ _
    (is_between-of area.left area.right x left (omega (arith, ints, right, wide)))
    (is_between-of area.left area.right (x +ℤ w) (omega (arith, ints, left, wide)) right))
    (and_from _ _
    (is_between-of area.top area.bottom y top (omega (arith, ints, bottom, tall)))
    (is_between-of area.top area.bottom (y +ℤ h) (omega (arith, ints, top, tall)) bottom))

-- ---- by what is looked up

module _ (printer : Printer) (page : Page) (bounds : FormBounds) (has : HasBounds printer page bounds) (n : Amount) where
  abbrev by_units : ℕ
  by_units = bounds.unit * n.ten_thousandths

  pub units_are : by_units ≡ unit_ticks page.env.job.units_per_inch n
  units_are = ap (λ u. u * n.ten_thousandths) has.bound.unit

  -- where a place was found on the page that is looked up, so it is on the page in force
  wide : (zero here by x : ℤ) → place_between (pos 0) bounds.width (target_of n.sign zero here by) ≡ Some x →
      place_between (pos 0) has.geometry.logical_width (target_of n.sign zero here by) ≡ Some x
  wide zero here by x found = subst (λ (w : ℤ). place_between (pos 0) w (target_of n.sign zero here by) ≡ Some x) has.bound.width found

  tall : (zero here by y : ℤ) → place_between (pos 0) bounds.height (target_of n.sign zero here by) ≡ Some y →
      place_between (pos 0) has.geometry.logical_height (target_of n.sign zero here by) ≡ Some y
  tall zero here by y found = subst (λ (h : ℤ). place_between (pos 0) h (target_of n.sign zero here by) ≡ Some y) has.bound.height found

  -- below the top margin that is looked up
  tall_below : (here : ℤ) (by : ℕ) (y : ℤ) → place_between (pos 0) bounds.height (target_of n.sign bounds.top here (pos by)) ≡ Some y →
      place_between (pos 0) has.geometry.logical_height (target_of n.sign page.env.job.top_margin here (pos by)) ≡ Some y
  tall_below here by y found =
      subst (λ (top : ℤ). place_between (pos 0) has.geometry.logical_height (target_of n.sign top here (pos by)) ≡ Some y) has.bound.top
      (tall bounds.top here (pos by) y found)

  abbrev to_x : ℤ → Page
  to_x x = record page { cursor = record page.cursor { x = x } }

  abbrev to_y : ℤ → Page
  to_y y = record page { cursor = record page.cursor { y = Some y } }

  pub across_goes : (by : ℕ) (x : ℤ) → by ≡ by_units →
      place_between (pos 0) bounds.width (target_of n.sign (pos 0) page.cursor.x (pos by)) ≡ Some x →
      FormGoes printer commands.HorizontalUnits n 0 page (to_x x)
  across_goes by x is found = record {
    form = Across;
    is = refl;
    shapes = [];
    count = refl;
    goes = λ panel defaults.
        subst
        (λ (b : ℕ). effect_of (settings_at panel page.env)
        (Step (move_across printer (state_at panel page) page_reads [] n.sign (Some b)))
        ≡ Goes (state_at panel (to_x x)) [])
        (is ∙ units_are)
        (across_by printer page has.geometry has.has n by x (wide (pos 0) page.cursor.x (pos by) x found) panel);
    rest = refl;
  }

  pub down_goes : (by : ℕ) (here y : ℤ) → by ≡ by_units → page.cursor.y ≡ Some here →
      place_between (pos 0) bounds.height (target_of n.sign bounds.top here (pos by)) ≡ Some y →
      FormGoes printer commands.VerticalUnits n 0 page (to_y y)
  down_goes by here y is stands found = record {
    form = Down;
    is = refl;
    shapes = [];
    count = refl;
    goes = λ panel defaults.
        subst
        (λ (b : ℕ). effect_of (settings_at panel page.env) (Step (move_from_top printer (state_at panel page) n.sign b))
        ≡ Goes (state_at panel (to_y y)) [])
        (is ∙ units_are)
        (down_by printer page has.geometry has.has n by here y stands (tall_below here by y found) panel);
    rest = refl;
  }

  pub across_decipoints_goes : (by : ℕ) (x : ℤ) → by ≡ decipoint_ticks n →
      place_between (pos 0) bounds.width (target_of n.sign (pos 0) page.cursor.x (pos by)) ≡ Some x →
      FormGoes printer commands.HorizontalDecipoints n 0 page (to_x x)
  across_decipoints_goes by x is found = record {
    form = AcrossDecipoints;
    is = refl;
    shapes = [];
    count = refl;
    goes = λ panel defaults.
        subst
        (λ (b : ℕ). effect_of (settings_at panel page.env)
        (Step (move_across printer (state_at panel page) page_reads [] n.sign (Some b)))
        ≡ Goes (state_at panel (to_x x)) [])
        is
        (across_by printer page has.geometry has.has n by x (wide (pos 0) page.cursor.x (pos by) x found) panel);
    rest = refl;
  }

  pub down_decipoints_goes : (by : ℕ) (here y : ℤ) → by ≡ decipoint_ticks n → page.cursor.y ≡ Some here →
      place_between (pos 0) bounds.height (target_of n.sign bounds.top here (pos by)) ≡ Some y →
      FormGoes printer commands.VerticalDecipoints n 0 page (to_y y)
  down_decipoints_goes by here y is stands found = record {
    form = DownDecipoints;
    is = refl;
    shapes = [];
    count = refl;
    goes = λ panel defaults.
        subst
        (λ (b : ℕ). effect_of (settings_at panel page.env) (Step (move_from_top printer (state_at panel page) n.sign b))
        ≡ Goes (state_at panel (to_y y)) [])
        is
        (down_by printer page has.geometry has.has n by here y stands (tall_below here by y found) panel);
    rest = refl;
  }

  pub columns_go : (hmi by : ℕ) (x : ℤ) → page.env.job.hmi ≡ Some hmi →
      times (ticks_in HundredTwentiethInch hmi) n.ten_thousandths ≡ Some by →
      place_between (pos 0) bounds.width (target_of n.sign (pos 0) page.cursor.x (pos by)) ≡ Some x →
      FormGoes printer commands.Column n 0 page (to_x x)
  columns_go hmi by x is whole found =
      columns_by printer page has.geometry has.has n hmi by x is whole (wide (pos 0) page.cursor.x (pos by) x found)

  pub rows_go : (vmi by : ℕ) (here y : ℤ) → page.env.fields.vmi ≡ Known vmi → page.cursor.y ≡ Some here →
      times (ticks_in FortyEighthInch vmi) n.ten_thousandths ≡ Some by →
      place_between (pos 0) bounds.height (target_of n.sign (first_line page.env.job.top_margin vmi) here (pos by)) ≡ Some y →
      FormGoes printer commands.Row n 0 page (to_y y)
  rows_go vmi by here y is stands whole found =
      rows_by printer page has.geometry has.has n vmi by here y is stands whole
      (tall (first_line page.env.job.top_margin vmi) here (pos by) y found)

  pub fill_goes : (x y : ℤ) (here : ℤ) → is_none (fill_of page.env.job n) ≡ false →
      not (int_lt (pos 0) page.env.job.rectangle_width && int_lt (pos 0) page.env.job.rectangle_height) ≡ false →
      page.cursor.y ≡ Some here → x ≡ (bounds.origin.x +ℤ page.cursor.x) → y ≡ (bounds.origin.y +ℤ here) →
      lies_in bounds.area (rectangle_at x y page.env.job.rectangle_width page.env.job.rectangle_height) ≡ true →
      FormGoes printer commands.FillRectangle n 1 page (record page { marked = true })
  fill_goes x y here fills some stands x_is y_is lies =
      let g = has.geometry in
      let job = page.env.job in
      let across : ℤ = (origin_on g).x +ℤ page.cursor.x in
      let down : ℤ = (origin_on g).y +ℤ here in
      let box : ℤ → ℤ → Bounds = λ a b. rectangle_at a b job.rectangle_width job.rectangle_height in
      let at_x : x ≡ across = x_is ∙ ap (λ (o : Origin). o.x +ℤ page.cursor.x) has.bound.origin in
      let at_y : y ≡ down = y_is ∙ ap (λ (o : Origin). o.y +ℤ here) has.bound.origin in
      let boxed : lies_in bounds.area (box across down) ≡ true =
      subst (λ (b : ℤ). lies_in bounds.area (box across b) ≡ true) at_y
      (subst (λ (a : ℤ). lies_in bounds.area (box a y) ≡ true) at_x lies) in
      fill_by printer page g has.has n here fills some stands
      (inside_of g (box across down) (subst (λ (area : Bounds). lies_in area (box across down) ≡ true) has.bound.area boxed))

-- ---- half a line

-- it is fed where it leads no further down than a feed may
pub half_line_goes : (printer : Printer) (page : Page) (bounds : FormBounds) → HasBounds printer page bounds →
    (vmi : ℕ) (here y foot : ℤ) → page.env.fields.vmi ≡ Known vmi → page.cursor.y ≡ Some here →
    y ≡ here +ℤ pos (ticks_in FortyEighthInch vmi / 2) →
    foot ≡ cond page.env.job.skips_perforation (unwrap_or page.env.job.bottom_margin (bounds.height -ℤ half_inch)) bounds.height →
    int_lt foot y ≡ false → FeedGoes printer page (record page { cursor = record page.cursor { y = Some y } })
unfolding page_reads page_and_line_reads
half_line_goes printer page bounds h vmi here y foot is stands y_is foot_is within = record {
  goes = λ panel.
      let s : State = state_at panel page in
      let fed : Option ℤ → ℤ = λ o. unwrap_or o (first_line page.env.job.top_margin vmi) +ℤ pos (ticks_in FortyEighthInch vmi / 2) in
      let limit : ℤ → ℤ =
      λ height. cond page.env.job.skips_perforation (unwrap_or page.env.job.bottom_margin (height -ℤ half_inch)) height in
      let leads : fed page.cursor.y ≡ y = ap fed stands ∙ sym y_is in
      let short : int_lt (limit h.geometry.logical_height) (fed page.cursor.y) ≡ false =
      ap (λ height. int_lt (limit height) (fed page.cursor.y)) (sym h.bound.height)
      ∙ ap (λ z. int_lt z (fed page.cursor.y)) (sym foot_is)
      ∙ ap (int_lt foot) leads
      ∙ within in
      let read : first_unset s.settings page_and_line_reads ≡ None =
      ap
      (λ (cell : Cell). cond s.settings.unset.size (Some Size)
      (cond s.settings.unset.orientation (Some Orientation) (cond (is_from_panel cell) (Some Vmi) None)))
      is
      ∙ h.has.read panel in
      feed-steps printer panel page HalfLine h.geometry vmi (h.has.geometry panel) (ap (value_at panel.vmi) is) read short
      ∙ ap (λ z. Goes (record s { cursor = record s.cursor { y = Some z } }) []) leads;
  rest = refl;
}
