-- Where marks may lie on a page.
use Rattle.std.specs.Prelude.{ℕ, unsigned_abs, ◌-◌, ◌+◌, ◌/◌, min}
use Rattle.device_profile.specs.declared.geometry.Geometry.{Geometry}
use Rattle.test_sheet.specs.declared.area.Area.{Area}
use Rattle.test_sheet.specs.Dots.{dots_in, dots_over}

-- The part of the logical page that is printable, in whole dots from the upper left corner of the logical page.
unfoldable pub area_of : Geometry → Area
area_of page = record {
  left = dots_over (unsigned_abs page.printable_left - unsigned_abs page.logical_left);
  top = dots_over (unsigned_abs page.printable_top - unsigned_abs page.logical_top);
  right =
      dots_in
      (min (unsigned_abs page.printable_right - unsigned_abs page.logical_left) (unsigned_abs page.logical_width));
  bottom =
      dots_in
      (min (unsigned_abs page.printable_bottom - unsigned_abs page.logical_top) (unsigned_abs page.logical_height));
}

-- its halves
abbrev pub middle : Area → ℕ
middle area = area.left + (area.right - area.left) / 2

abbrev pub left_half : Area → Area
left_half area = record area { right = middle area }

abbrev pub right_half : Area → Area
right_half area = record area { left = middle area }
