-- Facts of rectangular areas.
use Rattle.std.proofs.Common.{◌≡◌, Bool, true, false, not, cond, Option, Some, None, [], ◌∷◌, refl}
use Rattle.pcl_items.specs.Escapes.Value.{Amount}
use Rattle.device_profile.specs.Printer.{Printer}
use Rattle.page_env.specs.declared.finding.Finding.TheVariants.{NotPrintable}
use Rattle.page_env.specs.Settings.{State}
use Rattle.page_env.specs.declared.mark.Bounds.{Bounds}
use Rattle.page_env.specs.declared.mark.Fill.{Fill}
use Rattle.device_profile.specs.declared.geometry.Geometry.{Geometry}
use Rattle.std.specs.Option.{option_map_or}
use Rattle.page_env.specs.Mark.{Rectangle, is_inside}
use Rattle.page_env.specs.Places.{geometry_of, x_on_sheet, y_on_sheet}
use Rattle.page_env.specs.Rectangles.{fill_of, rectangle_at, fill_rectangle}
use Rattle.page_env.specs.Sound.{plain_state, AreInside, IsSound}
use Rattle.page_env.proofs.Sound.{page_and_vertical_rise}

-- a mark of which nothing is found lies inside
marked_inside : (b : Bool) → cond (not b) (Some NotPrintable) None ≡ None → b ≡ true
marked_inside true e = refl
marked_inside false e = absurd cc

-- so does the area, with whatever it is filled
filled_inside : (g : Geometry) (box : Bounds) (fill : Option Fill) → is_inside g box ≡ true →
    AreInside g (option_map_or (λ f. Rectangle (record { fill = f; bounds = box }) ∷ []) fill [])
filled_inside g box None h = tt
filled_inside g box (Some fill) h = (h, tt)

module _ (printer : Printer) (s : State) where
  pub fill_is_sound : (n : Amount) → IsSound printer s (fill_rectangle printer s n) (fill_rectangle printer (plain_state s) n)
  fill_is_sound n =
      let g = geometry_of printer s in
      let box = rectangle_at (x_on_sheet printer s) (y_on_sheet printer s) s.settings.job.rectangle_width s.settings.job.rectangle_height in
      record {
        same = refl;
        ordered = refl;
        reads_ordered = page_and_vertical_rise s.cursor.y;
        unmarked = λ e. absurd cc;
        inside = λ none. filled_inside g box (fill_of s.settings.job n) (marked_inside (is_inside g box) none);
        size = refl;
        orientation = refl;
        room = λ none h. h;
      }
