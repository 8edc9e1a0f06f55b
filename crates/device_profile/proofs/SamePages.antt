-- Pages that are the same one by one.
use Rattle.std.proofs.Common.{◌≡◌, ◌==◌, ◌&&◌, Bool, List, ap}
use Rattle.std.specs.Bool.{Decides}
use Rattle.std.specs.Cmp.Lexicographic.{pointwise}
use Rattle.std.specs.Ordering.{int_eq}
use Rattle.std.proofs.lemmas.Bool.Decides.{Decides-eqb, Decides-int_eq, Decides-like, Decides-and}
use Rattle.std.proofs.lemmas.Slice.Eq.{slice_eq-Decides}
use Rattle.device_profile.specs.declared.geometry.Geometry.{Geometry}

abbrev pub is_same_page : Geometry → Geometry → Bool
is_same_page a b =
    (a.size == b.size) && ((a.orientation == b.orientation) && (int_eq a.page_width b.page_width && (int_eq a.page_height b.page_height
    && (int_eq a.logical_left b.logical_left
    && (int_eq a.logical_top b.logical_top && (int_eq a.logical_width b.logical_width && (int_eq a.logical_height b.logical_height
    && (int_eq a.printable_left b.printable_left
    && (int_eq a.printable_top b.printable_top
    && (int_eq a.printable_right b.printable_right && int_eq a.printable_bottom b.printable_bottom))))))))))

page_decides : (a b : Geometry) → Decides (is_same_page a b) (a ≡ b)
page_decides a b =
    Decides-like _
    (λ h. λ i. record {
      size = h.0 i;
      orientation = h.1.0 i;
      page_width = h.1.1.0 i;
      page_height = h.1.1.1.0 i;
      logical_left = h.1.1.1.1.0 i;
      logical_top = h.1.1.1.1.1.0 i;
      logical_width = h.1.1.1.1.1.1.0 i;
      logical_height = h.1.1.1.1.1.1.1.0 i;
      printable_left = h.1.1.1.1.1.1.1.1.0 i;
      printable_top = h.1.1.1.1.1.1.1.1.1.0 i;
      printable_right = h.1.1.1.1.1.1.1.1.1.1.0 i;
      printable_bottom = h.1.1.1.1.1.1.1.1.1.1.1 i;
    })
    (λ e. (
      ap (λ (g : Geometry). g.size) e,
      (
        ap (λ (g : Geometry). g.orientation) e,
        (
          ap (λ (g : Geometry). g.page_width) e,
          (
            ap (λ (g : Geometry). g.page_height) e,
            (
              ap (λ (g : Geometry). g.logical_left) e,
              (
                ap (λ (g : Geometry). g.logical_top) e,
                (
                  ap (λ (g : Geometry). g.logical_width) e,
                  (
                    ap (λ (g : Geometry). g.logical_height) e,
                    (
                      ap (λ (g : Geometry). g.printable_left) e,
                      (
                        ap (λ (g : Geometry). g.printable_top) e,
                        (ap (λ (g : Geometry). g.printable_right) e, ap (λ (g : Geometry). g.printable_bottom) e),
                      ),
                    ),
                  ),
                ),
              ),
            ),
          ),
        ),
      ),
    ))
    (Decides-and _ _ (Decides-eqb a.size b.size)
    (Decides-and _ _ (Decides-eqb a.orientation b.orientation)
    (Decides-and _ _ (Decides-int_eq a.page_width b.page_width) (Decides-and _ _ (Decides-int_eq a.page_height b.page_height)
    (Decides-and _ _ (Decides-int_eq a.logical_left b.logical_left)
    (Decides-and _ _ (Decides-int_eq a.logical_top b.logical_top)
    (Decides-and _ _ (Decides-int_eq a.logical_width b.logical_width)
    (Decides-and _ _ (Decides-int_eq a.logical_height b.logical_height)
    (Decides-and _ _ (Decides-int_eq a.printable_left b.printable_left)
    (Decides-and _ _ (Decides-int_eq a.printable_top b.printable_top)
    (Decides-and _ _ (Decides-int_eq a.printable_right b.printable_right)
    (Decides-int_eq a.printable_bottom b.printable_bottom))))))))))))

pub pages_decide : (xs ys : List Geometry) (r : Bool) → r ≡ pointwise is_same_page xs ys → Decides r (xs ≡ ys)
pages_decide xs ys r e = slice_eq-Decides page_decides xs ys r e
