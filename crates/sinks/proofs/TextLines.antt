-- What lines of text are, leave and mark.
use Rattle.std.proofs.Common.{◌≡◌, ℕ, zero, suc, ◌+◌, ◌≤◌, ◌==◌, Bool, true, false, not, cond, List, [], ◌∷◌, ◌++◌, length, take}
use Rattle.std.proofs.Common.{None, Some, unwrap_or, refl, ap, sym, ◌∙◌, subst, arith}
use Rattle.std.specs.Prelude.{◌+ℤ◌, ◌&&◌}
use Rattle.std.specs.Ordering.{int_eq}
use Rattle.std.proofs.lemmas.Bool.{and_parts}
use Rattle.std.proofs.lemmas.Bool.Decides.{Decides-int_eq}
use Rattle.std.proofs.lemmas.List.{length-take-le, take-take}
use Rattle.pcl_items.specs.declared.item.Mode.{Mode}
use Rattle.pcl_items.specs.declared.item.Mode.TheVariants as modes
use Rattle.pcl_items.specs.Modes.{follows}
use Rattle.pcl_items.specs.Items.{CarriageReturn, LineFeed, Text}
use Rattle.pcl_items.specs.Lines.{AreLines, line_item}
use Rattle.device_profile.specs.Printer.{Printer}
use Rattle.page_env.specs.declared.mark.Glyph.{Glyph}
use Rattle.page_env.specs.declared.page.Page.{Page}
use Rattle.page_env.specs.declared.text_lines.TextAppearance.{TextAppearance}
use Rattle.page_env.specs.declared.text_lines.TextLines.{TextLines}
use Rattle.page_env.specs.declared.text_lines.TextPlace.{TextPlace}
use Rattle.page_env.specs.Mark.{Shape, characters_of}
use Rattle.page_env.specs.TextLines.{AllGo, behind, box_at, glyph_at, glyph_count, is_blank, page_behind, place_behind}
use Rattle.page_env.specs.TextMeasure.{AllHaveRoom, AreLinesFrom, TextMeasure}

abbrev pub shapes_of : TextAppearance → TextPlace → List ℕ → List Shape
shapes_of look place [] = []
shapes_of look place (code ∷ codes) = characters_of (glyph_at look place code) ++ shapes_of look (behind look code place) codes

pub shape_count : (codes : List ℕ) (look : TextAppearance) (place : TextPlace) → length (shapes_of look place codes) ≡ glyph_count codes
shape_count [] look place = refl
shape_count (code ∷ codes) look place =
    by (is_blank code) (record { code = code; request = look.request; y = look.origin.y +ℤ place.y; bounds = box_at look place })
    (shapes_of look (behind look code place) codes) (shape_count codes look (behind look code place))
  where
    by : (b : Bool) (glyph : Glyph) (rest : List Shape) → length rest ≡ glyph_count codes →
        length (characters_of (cond b None (Some glyph)) ++ rest) ≡ cond b 0 1 + glyph_count codes
    by true glyph rest e = omega (arith, e)
    by false glyph rest e = omega (arith, e)

-- lines of text leave mode PCL
pub lines_follow : (code : ℕ) → follows modes.Pcl (line_item code) ≡ Some modes.Pcl
lines_follow code = by (code == 13) (code == 10)
  where
    by : (returns feeds : Bool) → follows modes.Pcl (cond returns CarriageReturn (cond feeds LineFeed (Text code))) ≡ Some modes.Pcl
    by true feeds = refl
    by false true = refl
    by false false = refl

pub line_mode : (mode : Mode) (code : ℕ) → mode ≡ modes.Pcl → unwrap_or (follows mode (line_item code)) mode ≡ mode
line_mode mode code e =
    subst (λ m. unwrap_or (follows m (line_item code)) m ≡ m) (sym e) (ap (λ o. unwrap_or o modes.Pcl) (lines_follow code))

pub lines_of : (printer : Printer) (codes : List ℕ) (look : TextAppearance) (place : TextPlace) (page : Page) →
    AllGo printer look place page codes →
    AreLines codes
lines_of printer [] look place page h = tt
lines_of printer (code ∷ codes) look place page h =
    (h.0.byte, lines_of printer codes look (behind look code place) (page_behind look place code page) h.1)

-- fewer bytes have room, and go, too
pub fewer_have_room : (m : TextMeasure) (k : ℕ) (codes : List ℕ) (place : TextPlace) → AllHaveRoom m place codes →
    AllHaveRoom m place (take k codes)
fewer_have_room m zero codes place h = tt
fewer_have_room m (suc k) [] place h = tt
fewer_have_room m (suc k) (code ∷ codes) place h = (h.0, fewer_have_room m k codes (behind m.look code place) h.1)

-- places that `==` does not tell apart
pub same_place : (a b : TextPlace) → not (int_eq a.x b.x && int_eq a.y b.y) ≡ false → a ≡ b
same_place a b h =
    let parts = and_parts (int_eq a.x b.x) (int_eq a.y b.y) (is (int_eq a.x b.x && int_eq a.y b.y) h) in
    let x = (Decides-int_eq a.x b.x).0 parts.0 in
    let y = (Decides-int_eq a.y b.y).0 parts.1 in
    λ i. record { x = x i; y = y i }
  where
    is : (b : Bool) → not b ≡ false → b ≡ true
    is true e = refl
    is false e = absurd cc

-- lines of the first of the bytes are lines of all
pub lines_of_more : (m : TextMeasure) (from : TextPlace) (bytes : List ℕ) (k : ℕ) (lines : TextLines) →
    AreLinesFrom m from (take k bytes) lines → k ≤ length bytes → AreLinesFrom m from bytes lines
lines_of_more m from bytes k lines h few =
    let len = length-take-le k bytes few in
    let short : lines.count ≤ k = omega (arith, h.short, len) in
    let same : take lines.count (take k bytes) ≡ take lines.count bytes = take-take lines.count k bytes short in
    record {
      short = omega (arith, short, few);
      room = subst (λ codes. AllHaveRoom m from codes) same h.room;
      end = h.end ∙ ap (λ codes. place_behind m.look codes from) same;
      glyphs = h.glyphs ∙ ap glyph_count same;
    }
