-- Cursor positioning and the cursor stack (`*p#X`, `*p#Y`, `&a#H`, `&a#V`, `&a#C`, `&a#R`, `&f#S`).
use Rattle.std.specs.Prelude.{ℕ, ℤ, pos, ◌==◌, nat_lt, not, cond, length, Option, Some, is_none, unwrap_or, List, []}
use Rattle.std.specs.Prelude.{◌∷◌, ◌++◌}
use Rattle.pcl_items.specs.declared.number.Sign.{Sign}
use Rattle.pcl_items.specs.Escapes.Value.{Amount}
use Rattle.device_profile.specs.declared.field.Field.{Field}
use Rattle.device_profile.specs.declared.field.Field.TheVariants.{Size, Orientation}
use Rattle.device_profile.specs.Printer.{Printer}
use Rattle.page_env.specs.declared.finding.Finding.TheVariants.{BadValue, OffPage, StackFull, StackEmpty, Inexact}
use Rattle.page_env.specs.declared.cursor.Cursor.{Cursor}
use Rattle.page_env.specs.Settings.{State}
use Rattle.page_env.specs.Numbers.{is_absent, is_whole_between, whole_of}
use Rattle.page_env.specs.Places.{unit_ticks, decipoint_ticks, times, geometry_of, column_width, column_reads, line_of}
use Rattle.page_env.specs.Places.{home_of, vertical_place, vertical_reads, page_reads, page_and_line_reads, target_of}
use Rattle.page_env.specs.Places.{is_between}
use Rattle.page_env.specs.Fonts.{no_column}
use Rattle.page_env.specs.Effect.{Check, check, TableLine}

-- ---- moves

-- a horizontal move by so many ticks, where these are whole, from the left edge of the logical page, behind
-- these checks
abbrev pub move_across : Printer → State → List Field → List Check → Sign → Option ℕ → TableLine
move_across printer s reads checks sign by =
    let x : ℤ = target_of sign (pos 0) s.cursor.x (pos (unwrap_or by 0)) in
    record {
      checks_before = [];
      reads = reads;
      checks_after =
          checks ++ check (is_none by) Inexact
          ∷ check (not (is_between (pos 0) (geometry_of printer s).logical_width x)) OffPage ∷ [];
      state = record s { cursor = record s.cursor { x = x } };
      marks = [];
    }

-- a vertical move by so many ticks, where these are whole, without a sign from this place
abbrev pub move_down : Printer → State → List Field → Sign → ℤ → Option ℕ → TableLine
move_down printer s reads sign zero by =
    let y : ℤ = target_of sign zero (vertical_place s) (pos (unwrap_or by 0)) in
    record {
      checks_before = [];
      reads = reads;
      checks_after =
          check (is_none by) Inexact
          ∷ check (not (is_between (pos 0) (geometry_of printer s).logical_height y)) OffPage ∷ [];
      state = record s { cursor = record s.cursor { y = Some y } };
      marks = [];
    }

-- what a vertical move from the top margin reads: the page, and the VMI where it goes from a home
abbrev pub relative_reads : Sign → Option ℤ → List Field
relative_reads sign y = Size ∷ Orientation ∷ cond (is_absent sign) [] (vertical_reads y)

-- a vertical move from the top margin
abbrev pub move_from_top : Printer → State → Sign → ℕ → TableLine
move_from_top printer s sign by =
    move_down printer s (relative_reads sign s.cursor.y) sign s.settings.job.top_margin (Some by)

-- `*p#X` and `*p#Y`: PCL units
abbrev pub move_x : Printer → State → Amount → TableLine
move_x printer s n = move_across printer s page_reads [] n.sign (Some (unit_ticks s.settings.job.units_per_inch n))

abbrev pub move_y : Printer → State → Amount → TableLine
move_y printer s n = move_from_top printer s n.sign (unit_ticks s.settings.job.units_per_inch n)

-- `&a#H` and `&a#V`: decipoints
abbrev pub move_x_decipoints : Printer → State → Amount → TableLine
move_x_decipoints printer s n = move_across printer s page_reads [] n.sign (Some (decipoint_ticks n))

abbrev pub move_y_decipoints : Printer → State → Amount → TableLine
move_y_decipoints printer s n = move_from_top printer s n.sign (decipoint_ticks n)

-- `&a#C`: columns
abbrev pub move_columns : Printer → State → Amount → TableLine
move_columns printer s n =
    move_across printer s (Size ∷ Orientation ∷ column_reads s.settings.job) (no_column printer s ∷ []) n.sign
    (times (column_width printer s) n.ten_thousandths)

-- `&a#R`: rows, the first of which is the first line
abbrev pub move_rows : Printer → State → Amount → TableLine
move_rows printer s n = move_down printer s page_and_line_reads n.sign (home_of s) (times (line_of s) n.ten_thousandths)

-- ---- the cursor stack

-- how many cursors the stack holds
abbrev pub stack_room : ℕ
stack_room = 20

-- `&f#S` has no other value than 0 and 1
abbrev pub stack_value : Amount → Check
stack_value n = check (not (is_whole_between 0 1 n)) BadValue

-- `&f0S` push: a home becomes a number, in the cursor too
abbrev pub push_cursor : State → Amount → TableLine
push_cursor s n =
    let here : Cursor = record s.cursor { y = Some (vertical_place s) } in
    record {
      checks_before = stack_value n ∷ check (not (nat_lt (length s.stack) stack_room)) StackFull ∷ [];
      reads = vertical_reads s.cursor.y;
      checks_after = [];
      state = record s { cursor = here; stack = here ∷ s.stack };
      marks = [];
    }

-- the cursor that was pushed last, wherever it lies
abbrev pub popped : State → List Cursor → State
popped s [] = s
popped s (cursor ∷ stack) = record s { cursor = cursor; stack = stack }

-- `&f1S` pop
abbrev pub pop_cursor : State → Amount → TableLine
pop_cursor s n = record {
  checks_before = stack_value n ∷ check (length s.stack == 0) StackEmpty ∷ [];
  reads = [];
  checks_after = [];
  state = popped s s.stack;
  marks = [];
}

-- `&f#S` push or pop
abbrev pub use_stack : State → Amount → TableLine
use_stack s n = cond (whole_of n == 0) (push_cursor s n) (pop_cursor s n)
