-- Margins: top margin, text length, perforation skip, left and right margin, and their clearing (`&l#E`, `&l#F`,
-- `&l#L`, `&a#L`, `&a#M`, `ESC 9`).
use Rattle.std.specs.Prelude.{ℕ, ℤ, pos, ◌+◌, ◌*◌, ◌==◌, ◌||◌, not, cond, Bool, ◌+ℤ◌, int_lt, Some, None, List, [], ◌∷◌}
use Rattle.pcl_items.specs.Escapes.Value.{Amount}
use Rattle.device_profile.specs.declared.field.Field.TheVariants.{Size, Orientation}
use Rattle.device_profile.specs.Printer.{Printer}
use Rattle.page_env.specs.declared.finding.Finding.TheVariants.{BadValue, MarginIgnored}
use Rattle.page_env.specs.Settings.{State, half_inch, with_job}
use Rattle.page_env.specs.Numbers.{is_whole_between, is_whole_from, whole_of}
use Rattle.page_env.specs.Places.{geometry_of, line_of, page_and_line_reads, column_width, column_reads, right_of}
use Rattle.page_env.specs.Fonts.{no_column}
use Rattle.page_env.specs.Effect.{Check, check, TableLine, moving, setting}

-- ---- vertical margins

-- a vertical margin is ignored where the VMI is 0, or where it lies below the foot of the logical page
abbrev pub vertical_margin_checks : Printer → State → ℤ → List Check
vertical_margin_checks printer s margin =
    check ((s.settings.fields.vmi == 0) || int_lt (geometry_of printer s).logical_height margin) MarginIgnored ∷ []

-- so many lines
abbrev pub lines_of : State → Amount → ℤ
lines_of s n = pos (line_of s * whole_of n)

-- `&l#E` top margin: so many lines from the upper edge of the logical page; the bottom margin is its default again
abbrev pub set_top_margin : Printer → State → Amount → TableLine
set_top_margin printer s n = record {
  checks_before = check (not (is_whole_from 0 n)) BadValue ∷ [];
  reads = page_and_line_reads;
  checks_after = vertical_margin_checks printer s (lines_of s n);
  state = with_job s (record s.settings.job { top_margin = lines_of s n; bottom_margin = None });
  marks = [];
}

-- `&l#F` text length: the bottom margin is so many lines below the top margin
abbrev pub set_text_length : Printer → State → Amount → TableLine
set_text_length printer s n =
    let bottom : ℤ = s.settings.job.top_margin +ℤ lines_of s n in
    record {
      checks_before = check (not (is_whole_from 1 n)) BadValue ∷ [];
      reads = page_and_line_reads;
      checks_after = vertical_margin_checks printer s bottom;
      state = with_job s (record s.settings.job { bottom_margin = Some bottom });
      marks = [];
    }

abbrev pub is_same : Bool → Bool → Bool
is_same a b = cond a b (not b)

-- `&l#L` perforation skip: another value than the one in force returns the top and the bottom margin to their defaults
abbrev pub set_perforation_skip : State → Amount → TableLine
set_perforation_skip s n =
    let skips : Bool = whole_of n == 1 in
    let same : Bool = is_same skips s.settings.job.skips_perforation in
    setting (check (not (is_whole_between 0 1 n)) BadValue ∷ []) (with_job s (record s.settings.job {
      skips_perforation = skips;
      top_margin = cond same s.settings.job.top_margin half_inch;
      bottom_margin = cond same s.settings.job.bottom_margin None;
    }))

-- ---- horizontal margins

-- so many columns
abbrev pub columns_of : Printer → State → ℕ → ℤ
columns_of printer s columns = pos (column_width printer s * columns)

-- a margin is ignored where it passes the logical page, or the left one would not lie left of the right one
abbrev pub horizontal_margin_checks : Printer → State → ℤ → ℤ → ℤ → List Check
horizontal_margin_checks printer s margin left right =
    check (int_lt (geometry_of printer s).logical_width margin || not (int_lt left right)) MarginIgnored ∷ []

-- `&a#L` left margin: the left edge of so-many columns; a cursor left of it moves to it
abbrev pub set_left_margin : Printer → State → Amount → TableLine
set_left_margin printer s n =
    let left : ℤ = columns_of printer s (whole_of n) in
    record {
      checks_before = check (not (is_whole_from 0 n)) BadValue ∷ [];
      reads = Size ∷ Orientation ∷ column_reads s.settings.job;
      checks_after = no_column printer s ∷ horizontal_margin_checks printer s left left (right_of printer s);
      state = record (with_job s (record s.settings.job { left_margin = left })) {
        cursor = record s.cursor { x = cond (int_lt s.cursor.x left) left s.cursor.x };
      };
      marks = [];
    }

-- `&a#M` right margin: the right edge of that column; a cursor right of it moves to it
abbrev pub set_right_margin : Printer → State → Amount → TableLine
set_right_margin printer s n =
    let right : ℤ = columns_of printer s (whole_of n + 1) in
    record {
      checks_before = check (not (is_whole_from 0 n)) BadValue ∷ [];
      reads = Size ∷ Orientation ∷ column_reads s.settings.job;
      checks_after = no_column printer s ∷ horizontal_margin_checks printer s right s.settings.job.left_margin right;
      state = record (with_job s (record s.settings.job { right_margin = Some right })) {
        cursor = record s.cursor { x = cond (int_lt right s.cursor.x) right s.cursor.x };
      };
      marks = [];
    }

-- `ESC 9` clear horizontal margins
abbrev pub clear_margins : State → TableLine
clear_margins s = moving (with_job s (record s.settings.job { left_margin = pos 0; right_margin = None }))
