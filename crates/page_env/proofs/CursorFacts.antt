-- Facts of cursor positioning and of the cursor stack.
use Rattle.std.proofs.Common.{arith, ◌≡◌, ◌≤◌, ◌==◌, ℕ, suc, nat_lt, false, not, length, List, [], ◌∷◌, refl, ap, sym, ◌∙◌, ltb-true}
use Rattle.std.proofs.lemmas.Bool.{not-false}
use Rattle.pcl_items.specs.Escapes.Value.{Amount}
use Rattle.device_profile.specs.Printer.{Printer}
use Rattle.page_env.specs.declared.finding.Finding.TheVariants.{BadValue, StackFull}
use Rattle.page_env.specs.declared.cursor.Cursor.{Cursor}
use Rattle.page_env.specs.Settings.{State}
use Rattle.page_env.specs.Numbers.{whole_of, is_whole_between}
use Rattle.page_env.specs.CursorPositioning.{move_x, move_y, move_x_decipoints, move_y_decipoints, move_columns, move_rows, stack_room}
use Rattle.page_env.specs.CursorPositioning.{push_cursor, pop_cursor, popped, use_stack}
use Rattle.page_env.specs.Sound.{plain_state, HasRoom, IsSound}
use Rattle.page_env.proofs.Sound.{quiet, either_line, page_rises, page_and_line_rises, columns_rise, vertical_rises, relative_rises}
use Rattle.page_env.proofs.Rows.{second_finds_nothing}

room_for_one : (n : ℕ) → not (nat_lt n 20) ≡ false → suc n ≤ 20
room_for_one n e = ltb-true n 20 (not-false (nat_lt n 20) e)

one_fewer : (n : ℕ) → suc n ≤ 20 → n ≤ 20
one_fewer n h = omega arith

popped_is : (s : State) (stack : List Cursor) →
    (popped (plain_state s) stack ≡ plain_state (popped s stack)) × ((popped s stack).marked ≡ s.marked)
    × ((popped s stack).settings ≡ s.settings)
popped_is s [] = (refl, refl, refl)
popped_is s (cursor ∷ stack) = (refl, refl, refl)

popped_room : (s : State) (stack : List Cursor) → length stack ≤ 20 → HasRoom s → HasRoom (popped s stack)
popped_room s [] h k = k
popped_room s (cursor ∷ stack) h k = one_fewer (length stack) h

module _ (printer : Printer) (s : State) where
  pub move_x_is_sound : (n : Amount) → IsSound printer s (move_x printer s n) (move_x printer (plain_state s) n)
  move_x_is_sound n = quiet page_rises refl refl refl refl refl refl refl

  pub move_x_decipoints_is_sound : (n : Amount) →
      IsSound printer s (move_x_decipoints printer s n) (move_x_decipoints printer (plain_state s) n)
  move_x_decipoints_is_sound n = quiet page_rises refl refl refl refl refl refl refl

  pub move_columns_is_sound : (n : Amount) → IsSound printer s (move_columns printer s n) (move_columns printer (plain_state s) n)
  move_columns_is_sound n = quiet (columns_rise s.settings.job) refl refl refl refl refl refl refl

  pub move_y_is_sound : (n : Amount) → IsSound printer s (move_y printer s n) (move_y printer (plain_state s) n)
  move_y_is_sound n = quiet (relative_rises n.sign s.cursor.y) refl refl refl refl refl refl refl

  pub move_y_decipoints_is_sound : (n : Amount) →
      IsSound printer s (move_y_decipoints printer s n) (move_y_decipoints printer (plain_state s) n)
  move_y_decipoints_is_sound n = quiet (relative_rises n.sign s.cursor.y) refl refl refl refl refl refl refl

  pub move_rows_is_sound : (n : Amount) → IsSound printer s (move_rows printer s n) (move_rows printer (plain_state s) n)
  move_rows_is_sound n = quiet page_and_line_rises refl refl refl refl refl refl refl

  push_is_sound : (n : Amount) → IsSound printer s (push_cursor s n) (push_cursor (plain_state s) n)
  push_is_sound n = record {
    same = refl;
    ordered = refl;
    reads_ordered = vertical_rises s.cursor.y;
    unmarked = λ e. (e, refl);
    inside = λ none. tt;
    size = refl;
    orientation = refl;
    room =
        λ none h. room_for_one (length s.stack)
        (second_finds_nothing (not (is_whole_between 0 1 n)) (not (nat_lt (length s.stack) stack_room)) BadValue StackFull none);
  }

  pop_is_sound : (n : Amount) → IsSound printer s (pop_cursor s n) (pop_cursor (plain_state s) n)
  pop_is_sound n =
      let at = popped_is s s.stack in
      record {
        same = ap (λ t. record (pop_cursor s n) { state = t }) at.0;
        ordered = refl;
        reads_ordered = refl;
        unmarked = λ e. (sym at.1 ∙ e, refl);
        inside = λ none. tt;
        size = ap (λ x. x.fields.size) at.2;
        orientation = ap (λ x. x.fields.orientation) at.2;
        room = λ none h. popped_room s s.stack h h;
      }

  pub stack_is_sound : (n : Amount) → IsSound printer s (use_stack s n) (use_stack (plain_state s) n)
  stack_is_sound n =
      either_line (whole_of n == 0) s (push_cursor s n) (pop_cursor s n) (push_cursor (plain_state s) n) (pop_cursor (plain_state s) n)
      (push_is_sound n) (pop_is_sound n)
