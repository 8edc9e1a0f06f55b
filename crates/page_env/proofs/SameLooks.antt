-- What `==` of two looks of text tests, and of two bounds.
use Rattle.std.proofs.Common.{◌≡◌, ◌==◌, ◌&&◌, Bool, ap}
use Rattle.std.specs.Bool.{Decides, beq}
use Rattle.std.specs.Cmp.{booleans_Decides}
use Rattle.std.specs.Ordering.{int_eq}
use Rattle.std.proofs.lemmas.Bool.Decides.{Decides-eqb, Decides-int_eq, Decides-like, Decides-and}
use Rattle.device_profile.specs.declared.font.FontRequest.{FontRequest}
use Rattle.device_profile.specs.declared.font.SymbolSet.{SymbolSet}
use Rattle.page_env.specs.declared.mark.Bounds.{Bounds}
use Rattle.page_env.specs.declared.motion.LineTermination.{LineTermination}
use Rattle.page_env.specs.declared.places.Origin.{Origin}
use Rattle.page_env.specs.declared.text_lines.TextAppearance.{TextAppearance}
use Rattle.page_env.specs.declared.text_lines.TextBounds.{TextBounds}

eq_set_decides : (a b : SymbolSet) → Decides ((a.number == b.number) && (a.letter == b.letter)) (a ≡ b)
eq_set_decides a b =
    Decides-like _ (λ h. λ i. record { number = h.0 i; letter = h.1 i })
    (λ e. (ap (λ (x : SymbolSet). x.number) e, ap (λ (x : SymbolSet). x.letter) e))
    (Decides-and _ _ (Decides-eqb a.number b.number) (Decides-eqb a.letter b.letter))

abbrev eq_request : FontRequest → FontRequest → Bool
eq_request a b =
    ((a.symbol_set.number == b.symbol_set.number) && (a.symbol_set.letter == b.symbol_set.letter))
    && ((a.spacing == b.spacing)
    && ((a.pitch == b.pitch)
    && ((a.height == b.height) && ((a.style == b.style) && (int_eq a.weight b.weight && (a.typeface == b.typeface))))))

eq_request_decides : (a b : FontRequest) → Decides (eq_request a b) (a ≡ b)
eq_request_decides a b =
    Decides-like _
    (λ h. λ i. record {
      symbol_set = h.0 i;
      spacing = h.1.0 i;
      pitch = h.1.1.0 i;
      height = h.1.1.1.0 i;
      style = h.1.1.1.1.0 i;
      weight = h.1.1.1.1.1.0 i;
      typeface = h.1.1.1.1.1.1 i;
    })
    (λ e. (
      ap (λ (x : FontRequest). x.symbol_set) e,
      (
        ap (λ (x : FontRequest). x.spacing) e,
        (
          ap (λ (x : FontRequest). x.pitch) e,
          (
            ap (λ (x : FontRequest). x.height) e,
            (
              ap (λ (x : FontRequest). x.style) e,
              (ap (λ (x : FontRequest). x.weight) e, ap (λ (x : FontRequest). x.typeface) e),
            ),
          ),
        ),
      ),
    ))
    (Decides-and _ _ (eq_set_decides a.symbol_set b.symbol_set)
    (Decides-and _ _ (Decides-eqb a.spacing b.spacing)
    (Decides-and _ _ (Decides-eqb a.pitch b.pitch)
    (Decides-and _ _ (Decides-eqb a.height b.height)
    (Decides-and _ _ (Decides-eqb a.style b.style)
    (Decides-and _ _ (Decides-int_eq a.weight b.weight) (Decides-eqb a.typeface b.typeface)))))))

abbrev eq_box : Bounds → Bounds → Bool
eq_box a b = int_eq a.left b.left && (int_eq a.top b.top && (int_eq a.right b.right && int_eq a.bottom b.bottom))

eq_box_decides : (a b : Bounds) → Decides (eq_box a b) (a ≡ b)
eq_box_decides a b =
    Decides-like _ (λ h. λ i. record { left = h.0 i; top = h.1.0 i; right = h.1.1.0 i; bottom = h.1.1.1 i })
    (λ e.
    (ap (λ (x : Bounds). x.left) e, (ap (λ (x : Bounds). x.top) e, (ap (λ (x : Bounds). x.right) e, ap (λ (x : Bounds). x.bottom) e))))
    (Decides-and _ _ (Decides-int_eq a.left b.left)
    (Decides-and _ _ (Decides-int_eq a.top b.top) (Decides-and _ _ (Decides-int_eq a.right b.right) (Decides-int_eq a.bottom b.bottom))))

abbrev eq_origin : Origin → Origin → Bool
eq_origin a b = int_eq a.x b.x && int_eq a.y b.y

eq_origin_decides : (a b : Origin) → Decides (eq_origin a b) (a ≡ b)
eq_origin_decides a b =
    Decides-like _ (λ h. λ i. record { x = h.0 i; y = h.1 i }) (λ e. (ap (λ (o : Origin). o.x) e, ap (λ (o : Origin). o.y) e))
    (Decides-and _ _ (Decides-int_eq a.x b.x) (Decides-int_eq a.y b.y))

abbrev eq_termination : LineTermination → LineTermination → Bool
eq_termination a b = beq a.feeds_at_return b.feeds_at_return && beq a.returns_at_feed b.returns_at_feed

eq_termination_decides : (a b : LineTermination) → Decides (eq_termination a b) (a ≡ b)
eq_termination_decides a b =
    Decides-like _ (λ h. λ i. record { feeds_at_return = h.0 i; returns_at_feed = h.1 i })
    (λ e. (ap (λ (t : LineTermination). t.feeds_at_return) e, ap (λ (t : LineTermination). t.returns_at_feed) e))
    (Decides-and _ _ (booleans_Decides a.feeds_at_return b.feeds_at_return) (booleans_Decides a.returns_at_feed b.returns_at_feed))

abbrev pub eq_look : TextAppearance → TextAppearance → Bool
eq_look a b =
    eq_request a.request b.request
    && (eq_origin a.origin b.origin && (int_eq a.advance b.advance && (int_eq a.ascent b.ascent && (int_eq a.descent b.descent
    && ((a.column == b.column) && (int_eq a.left b.left && (int_eq a.line b.line && eq_termination a.termination b.termination)))))))

pub eq_look_decides : (a b : TextAppearance) → Decides (eq_look a b) (a ≡ b)
eq_look_decides a b =
    Decides-like _
    (λ h. λ i. record {
      request = h.0 i;
      origin = h.1.0 i;
      advance = h.1.1.0 i;
      ascent = h.1.1.1.0 i;
      descent = h.1.1.1.1.0 i;
      column = h.1.1.1.1.1.0 i;
      left = h.1.1.1.1.1.1.0 i;
      line = h.1.1.1.1.1.1.1.0 i;
      termination = h.1.1.1.1.1.1.1.1 i;
    })
    (λ e. (
      ap (λ (x : TextAppearance). x.request) e,
      (
        ap (λ (x : TextAppearance). x.origin) e,
        (
          ap (λ (x : TextAppearance). x.advance) e,
          (
            ap (λ (x : TextAppearance). x.ascent) e,
            (
              ap (λ (x : TextAppearance). x.descent) e,
              (
                ap (λ (x : TextAppearance). x.column) e,
                (
                  ap (λ (x : TextAppearance). x.left) e,
                  (
                    ap (λ (x : TextAppearance). x.line) e,
                    ap (λ (x : TextAppearance). x.termination) e,
                  ),
                ),
              ),
            ),
          ),
        ),
      ),
    ))
    (Decides-and _ _ (eq_request_decides a.request b.request)
    (Decides-and _ _ (eq_origin_decides a.origin b.origin)
    (Decides-and _ _ (Decides-int_eq a.advance b.advance)
    (Decides-and _ _ (Decides-int_eq a.ascent b.ascent) (Decides-and _ _ (Decides-int_eq a.descent b.descent)
    (Decides-and _ _ (Decides-eqb a.column b.column)
    (Decides-and _ _ (Decides-int_eq a.left b.left)
    (Decides-and _ _ (Decides-int_eq a.line b.line) (eq_termination_decides a.termination b.termination)))))))))

abbrev pub eq_bounds : TextBounds → TextBounds → Bool
eq_bounds a b =
    eq_box a.area b.area && (int_eq a.width b.width && (int_eq a.right b.right && (int_eq a.foot b.foot && beq a.ends_lines b.ends_lines)))

pub eq_bounds_decides : (a b : TextBounds) → Decides (eq_bounds a b) (a ≡ b)
eq_bounds_decides a b =
    Decides-like _ (λ h. λ i. record { area = h.0 i; width = h.1.0 i; right = h.1.1.0 i; foot = h.1.1.1.0 i; ends_lines = h.1.1.1.1 i })
    (λ e. (
      ap (λ (x : TextBounds). x.area) e,
      (
        ap (λ (x : TextBounds). x.width) e,
        (ap (λ (x : TextBounds). x.right) e, (ap (λ (x : TextBounds). x.foot) e, ap (λ (x : TextBounds). x.ends_lines) e)),
      ),
    ))
    (Decides-and _ _ (eq_box_decides a.area b.area)
    (Decides-and _ _ (Decides-int_eq a.width b.width)
    (Decides-and _ _ (Decides-int_eq a.right b.right)
    (Decides-and _ _ (Decides-int_eq a.foot b.foot) (booleans_Decides a.ends_lines b.ends_lines)))))
