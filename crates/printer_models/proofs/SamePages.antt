-- Pages that are the same in each field.
use Rattle.std.proofs.Common.{◌≡◌, ◌==◌, ◌&&◌, Bool, true}
use Rattle.std.specs.Ordering.{int_eq}
use Rattle.std.proofs.lemmas.Bool.Decides.{Decides-eqb, Decides-int_eq, Decides-and}
use Rattle.device_profile.specs.declared.geometry.Geometry.{Geometry}

abbrev pub is_same_page : Geometry → Geometry → Bool
is_same_page a b =
    (a.size == b.size)
    && ((a.orientation == b.orientation)
    && (int_eq a.page_width b.page_width
    && (int_eq a.page_height b.page_height
    && (int_eq a.logical_left b.logical_left
    && (int_eq a.logical_top b.logical_top
    && (int_eq a.logical_width b.logical_width
    && (int_eq a.logical_height b.logical_height
    && (int_eq a.printable_left b.printable_left
    && (int_eq a.printable_top b.printable_top
    && (int_eq a.printable_right b.printable_right && (int_eq a.printable_bottom b.printable_bottom)))))))))))

pub same_page : (a b : Geometry) → is_same_page a b ≡ true → a ≡ b
same_page a b h =
    let same =
    (Decides-and _ _ (Decides-eqb a.size b.size)
    (Decides-and _ _ (Decides-eqb a.orientation b.orientation)
    (Decides-and _ _ (Decides-int_eq a.page_width b.page_width)
    (Decides-and _ _ (Decides-int_eq a.page_height b.page_height)
    (Decides-and _ _ (Decides-int_eq a.logical_left b.logical_left)
    (Decides-and _ _ (Decides-int_eq a.logical_top b.logical_top)
    (Decides-and _ _ (Decides-int_eq a.logical_width b.logical_width)
    (Decides-and _ _ (Decides-int_eq a.logical_height b.logical_height)
    (Decides-and _ _ (Decides-int_eq a.printable_left b.printable_left)
    (Decides-and _ _ (Decides-int_eq a.printable_top b.printable_top)
    (Decides-and _ _ (Decides-int_eq a.printable_right b.printable_right)
    (Decides-int_eq a.printable_bottom b.printable_bottom)))))))))))).0
    h in
    λ i. record {
      size = same.0 i;
      orientation = same.1.0 i;
      page_width = same.1.1.0 i;
      page_height = same.1.1.1.0 i;
      logical_left = same.1.1.1.1.0 i;
      logical_top = same.1.1.1.1.1.0 i;
      logical_width = same.1.1.1.1.1.1.0 i;
      logical_height = same.1.1.1.1.1.1.1.0 i;
      printable_left = same.1.1.1.1.1.1.1.1.0 i;
      printable_top = same.1.1.1.1.1.1.1.1.1.0 i;
      printable_right = same.1.1.1.1.1.1.1.1.1.1.0 i;
      printable_bottom = same.1.1.1.1.1.1.1.1.1.1.1 i;
    }
