-- Room for lines of text, and the places behind them.
use Rattle.std.proofs.Common.{◌≡◌, ℕ, pos, zero, suc, ◌+◌, ◌*◌, ◌≤◌, ◌<◌, ◌==◌, List, [], ◌∷◌, ◌++◌, length, take, drop, get_or, Bool, true}
use Rattle.std.proofs.Common.{false, not, ◌||◌, cond, inl, inr, refl, sym, ap, subst, ◌∙◌, arith}
use Rattle.std.specs.Prelude.{◌+ℤ◌}
use Rattle.std.proofs.Math.Nat.{suc-mul}
use Rattle.std.proofs.Math.Seq.{take-add}
use Rattle.std.proofs.lemmas.Int.{ints}
use Rattle.std.proofs.lemmas.Bool.{cond-false}
use Rattle.std.proofs.lemmas.Bool.Decides.{nat_tests}
use Rattle.std.proofs.lemmas.List.{length-drop, length-take-le, take_more, take-take}
use Rattle.tick_length.specs.Length.{IsInRange}
use Rattle.device_profile.specs.declared.panel.Panel.{Panel}
use Rattle.device_profile.specs.declared.font.CodeRange.{CodeRange}
use Rattle.device_profile.specs.Faces.{is_text_of}
use Rattle.device_profile.specs.Printer.{Printer}
use Rattle.pcl_items.specs.Lines.{IsOfLines}
use Rattle.page_env.specs.declared.page.Page.{Page}
use Rattle.page_env.specs.declared.text_lines.TextAppearance.{TextAppearance}
use Rattle.page_env.specs.declared.text_lines.TextLines.{TextLines}
use Rattle.page_env.specs.declared.text_lines.TextPlace.{TextPlace}
use Rattle.page_env.specs.Settings.{state_at}
use Rattle.page_env.specs.TextLines.{AllGo, CanGoIn, GoAs, GoesAt, StandsAt, behind, glyph_count, inked_count, is_blank, page_at}
use Rattle.page_env.specs.TextLines.{page_behind_all, place_behind}
use Rattle.page_env.specs.TextMeasure.{AllHaveRoom, AreLinesFrom, HasMeasure, HasRoom, HasRoomFor, HaveColumns, TextMeasure}
use Rattle.page_env.proofs.TextGoes.{byte_goes, text_of_codes}

-- ---- bytes that have room go

-- that no raster is started is so under whatever panel
some_panel : Panel
some_panel = record { size = 0; orientation = 0; vmi = 0; font = 0; copies = 0; sides = 0; tray = 0; line_termination = 0 }

-- what is CR, or LF, or has room as text is of lines
of_lines : (m : TextMeasure) (place : TextPlace) (code : ℕ) (returns feeds : Bool) → (code == 13) ≡ returns → (code == 10) ≡ feeds →
    HasRoomFor m place code returns feeds → IsOfLines code
of_lines m place code true feeds r f room = inl (grind (arith, nat_tests, r))
of_lines m place code false true r f room = inr (inl (grind (arith, nat_tests, f)))
of_lines m place code false false r f room = inr (inr (text_of_codes m.codes code room.1))

module _ (printer : Printer) (m : TextMeasure) where
  measure_stays : (marked : Bool) (page : Page) → HasMeasure printer page m → HasMeasure printer (record page { marked = marked }) m
  measure_stays marked page h = λ panel.
      let k = h panel in
      record {
        read = k.read;
        request = k.request;
        face = k.face;
        face_is = k.face_is;
        looks = k.looks;
        origin = k.origin;
        column = k.column;
        left = k.left;
        area = k.area;
        width = k.width;
        right = k.right;
        foot = k.foot;
        ends =
            λ known. let e = k.ends known in record { read = e.read; line_read = e.line_read; termination = e.termination; line = e.line };
        no_raster = k.no_raster;
      }

  goes : (place : TextPlace) (page : Page) (code : ℕ) → HasMeasure printer page m → HasRoom m place code →
      GoesAt printer m.look place (page_at place page) code
  goes place page code h room = record {
    byte = of_lines m place code (code == 13) (code == 10) refl refl room;
    no_raster = (h some_panel).no_raster;
    goes = λ panel defaults. byte_goes printer (state_at panel page) m (h panel) defaults place code (code == 13) (code == 10) room;
  }

  pub all_go : (codes : List ℕ) (place : TextPlace) (page : Page) → HasMeasure printer page m → AllHaveRoom m place codes →
      AllGo printer m.look place (page_at place page) codes
  all_go [] place page h room = tt
  all_go (code ∷ codes) place page h room =
      let marked = not (is_blank code) || page.marked in (
        goes place page code h room.0,
        all_go codes (behind m.look code place) (record page { marked = marked }) (measure_stays marked page h) room.1,
      )

  -- lines that have room from where the cursor stands go
  pub room_goes : (codes : List ℕ) (from : TextPlace) (page : Page) → HasMeasure printer page m → StandsAt page from →
      AllHaveRoom m from codes → AllGo printer m.look from page codes
  room_goes codes from page h stands room =
      let same : page_at from page ≡ page = λ i. record page { cursor = sym stands i } in
      subst (λ p. AllGo printer m.look from p codes) same (all_go codes from page h room)

pub measured_lines_go : (printer : Printer) (m : TextMeasure) (page : Page) (from : TextPlace) (bytes : List ℕ) (lines : TextLines) →
    HasMeasure printer page m → StandsAt page from → AreLinesFrom m from bytes lines →
    GoAs printer page m.look from (take lines.count bytes) lines
measured_lines_go printer m page from bytes lines h stands are = record {
  stands = stands;
  go = room_goes printer m (take lines.count bytes) from page h stands are.room;
  end = are.end;
  glyphs = are.glyphs;
}

-- ---- what is behind them

marked_by : (b : Bool) (n : ℕ) (marked : Bool) → (not (n == 0) || (not b || marked)) ≡ (not (cond b 0 1 + n == 0) || marked)
marked_by true n marked = let same : n ≡ 0 + n = omega arith in ap (λ k. not (k == 0) || marked) same
marked_by false n marked =
    let some : (1 + n == 0) ≡ false = grind (arith, nat_tests) in
    always (not (n == 0)) ∙ sym (ap (λ b. not b || marked) some)
  where
    always : (b : Bool) → (b || true) ≡ true
    always true = refl
    always false = refl

behind_each : (codes : List ℕ) (look : TextAppearance) (from : TextPlace) (page : Page) →
    page_behind_all look from codes (page_at from page)
    ≡ record (page_at (place_behind look codes from) page) { marked = not (glyph_count codes == 0) || page.marked }
behind_each [] look from page = refl
behind_each (code ∷ codes) look from page =
    let next = behind look code from in
    behind_each codes look next (record page { marked = not (is_blank code) || page.marked })
    ∙ (λ i. record (page_at (place_behind look codes next) page) { marked = marked_by (is_blank code) (glyph_count codes) page.marked i })

pub behind_all : (codes : List ℕ) (look : TextAppearance) (from : TextPlace) (page : Page) → StandsAt page from →
    page_behind_all look from codes page
    ≡ record (page_at (place_behind look codes from) page) { marked = not (glyph_count codes == 0) || page.marked }
behind_all codes look from page stands =
    let same : page ≡ page_at from page = λ i. record page { cursor = stands i } in
    ap (page_behind_all look from codes) same ∙ behind_each codes look from page

-- ---- lines one behind another

room_append : (m : TextMeasure) (xs ys : List ℕ) (place : TextPlace) → AllHaveRoom m place xs →
    AllHaveRoom m (place_behind m.look xs place) ys → AllHaveRoom m place (xs ++ ys)
room_append m [] ys place h k = k
room_append m (x ∷ xs) ys place h k = (h.0, room_append m xs ys (behind m.look x place) h.1 k)

place_append : (look : TextAppearance) (xs ys : List ℕ) (place : TextPlace) →
    place_behind look (xs ++ ys) place ≡ place_behind look ys (place_behind look xs place)
place_append look [] ys place = refl
place_append look (x ∷ xs) ys place = place_append look xs ys (behind look x place)

count_append : (xs ys : List ℕ) → glyph_count (xs ++ ys) ≡ glyph_count xs + glyph_count ys
count_append [] ys = omega arith
count_append (x ∷ xs) ys = omega (arith, count_append xs ys)

count_small : (codes : List ℕ) → glyph_count codes ≤ length codes
count_small [] = omega arith
count_small (code ∷ codes) = by (is_blank code) (count_small codes)
  where
    by : (b : Bool) → glyph_count codes ≤ length codes → cond b 0 1 + glyph_count codes ≤ suc (length codes)
    by true h = omega (arith, h)
    by false h = omega (arith, h)

pub glyphs_small : (m : TextMeasure) (from : TextPlace) (bytes : List ℕ) (lines : TextLines) → AreLinesFrom m from bytes lines →
    lines.glyphs ≤ lines.count
glyphs_small m from bytes lines h =
    let small = count_small (take lines.count bytes) in
    let len = length-take-le lines.count bytes h.short in
    omega (arith, small, len, h.glyphs)

-- what goes further goes no further than the bytes
pub glyphs_fit : (m : TextMeasure) (from : TextPlace) (bytes : List ℕ) (lines next : TextLines) → AreLinesFrom m from bytes lines →
    AreLinesFrom m lines.end (drop lines.count bytes) next → lines.glyphs + next.glyphs ≤ length bytes
glyphs_fit m from bytes lines next h k =
    let first = glyphs_small m from bytes lines h in
    let second = glyphs_small m lines.end (drop lines.count bytes) next k in
    let left = length-drop lines.count bytes in
    omega (arith, first, second, left, h.short, k.short)

pub no_lines : (m : TextMeasure) (from : TextPlace) (bytes : List ℕ) →
    AreLinesFrom m from bytes (record { count = 0; glyphs = 0; end = from })
no_lines m from bytes = record { short = omega arith; room = tt; end = refl; glyphs = refl }

pub lines_more : (m : TextMeasure) (from : TextPlace) (bytes : List ℕ) (lines next : TextLines) → AreLinesFrom m from bytes lines →
    AreLinesFrom m lines.end (drop lines.count bytes) next →
    AreLinesFrom m from bytes (record { count = lines.count + next.count; glyphs = lines.glyphs + next.glyphs; end = next.end })
lines_more m from bytes lines next h k =
    let first = take lines.count bytes in
    let second = take next.count (drop lines.count bytes) in
    let whole : take (lines.count + next.count) bytes ≡ first ++ second = take-add lines.count next.count bytes in
    let room : AllHaveRoom m (place_behind m.look first from) second = subst (λ p. AllHaveRoom m p second) h.end k.room in
    record {
      short = let left = length-drop lines.count bytes in omega (arith, h.short, k.short, left);
      room = subst (λ codes. AllHaveRoom m from codes) (sym whole) (room_append m first second from h.room room);
      end =
          k.end ∙ ap (place_behind m.look second) h.end ∙ sym (place_append m.look first second from)
          ∙ sym (ap (λ codes. place_behind m.look codes from) whole);
      glyphs = let both = count_append first second in let all = ap glyph_count whole in omega (arith, h.glyphs, k.glyphs, both, all);
    }

-- a carriage return, and a line feed behind it
pub return_and_feed : (m : TextMeasure) (from : TextPlace) (rest : List ℕ) (first second : TextLines) → first.count ≡ 1 →
    second.count ≡ 1 → AreLinesFrom m from (13 ∷ 10 ∷ rest) first → AreLinesFrom m first.end (10 ∷ rest) second →
    AreLinesFrom m from (13 ∷ 10 ∷ rest) (record { count = 2; glyphs = 0; end = second.end })
return_and_feed m from rest first second one other h k =
    let codes : List ℕ = 13 ∷ 10 ∷ rest in
    let further : AreLinesFrom m first.end (drop first.count codes) second =
    subst (λ n. AreLinesFrom m first.end (drop n codes) second) (sym one) k in
    let both = lines_more m from codes first second h further in
    let count : first.count + second.count ≡ 2 = omega (arith, one, other) in
    let glyphs : first.glyphs + second.glyphs ≡ 0 = both.glyphs ∙ ap (λ n. glyph_count (take n codes)) count in
    subst (λ (lines : TextLines). AreLinesFrom m from codes lines)
    (λ i. record { count = count i; glyphs = glyphs i; end = second.end }) both

-- ---- a run of text

-- a byte that can go in a face is neither CR nor LF
no_return : (codes : List CodeRange) (code : ℕ) → is_text_of codes code ≡ true → (code == 13) ≡ false
no_return codes code h = let text = text_of_codes codes code h in grind (arith, nat_tests, text)

no_feed : (codes : List CodeRange) (code : ℕ) → is_text_of codes code ≡ true → (code == 10) ≡ false
no_feed codes code h = let text = text_of_codes codes code h in grind (arith, nat_tests, text)

text_leads : (look : TextAppearance) (ranges : List CodeRange) (code : ℕ) (place : TextPlace) → is_text_of ranges code ≡ true →
    behind look code place ≡ record place { x = place.x +ℤ pos look.column }
text_leads look ranges code place h =
    cond-false (code == 13) _ _ (no_return ranges code h) ∙ cond-false (code == 10) _ _ (no_feed ranges code h)

pub run_room : (m : TextMeasure) (codes : List ℕ) (place : TextPlace) → HaveColumns m place (length codes) → CanGoIn m.codes codes →
    AllHaveRoom m place codes
run_room m [] place h k = tt
run_room m (code ∷ codes) place h k =
    let room : HasRoom m place code =
    subst (λ b. HasRoomFor m place code b (code == 10)) (sym (no_return m.codes code k.0))
    (subst (λ b. HasRoomFor m place code false b) (sym (no_feed m.codes code k.0)) (h.0, k.0)) in (
      room,
      subst (λ p. AllHaveRoom m p codes) (sym (text_leads m.look m.codes code place k.0))
          (run_room m codes (record place { x = place.x +ℤ pos m.look.column }) h.1 k.1),
    )

pub run_leads : (look : TextAppearance) (ranges : List CodeRange) (codes : List ℕ) (place : TextPlace) → CanGoIn ranges codes →
    record place { x = place.x +ℤ pos (length codes * look.column) } ≡ place_behind look codes place
run_leads look ranges [] place h =
    let same : place.x +ℤ pos (0 * look.column) ≡ place.x = omega (arith, ints) in
    λ i. record place { x = same i }
run_leads look ranges (code ∷ codes) place h =
    let more = suc-mul (length codes) look.column in
    let same : place.x +ℤ pos (suc (length codes) * look.column) ≡ (place.x +ℤ pos look.column) +ℤ pos (length codes * look.column) =
    omega (arith, ints, more) in
    (λ i. record place { x = same i })
    ∙ run_leads look ranges codes (record place { x = place.x +ℤ pos look.column }) h.1
    ∙ ap (place_behind look codes) (sym (text_leads look ranges code place h.0))

pub run_inked : (ranges : List CodeRange) (codes : List ℕ) → CanGoIn ranges codes → inked_count codes ≡ glyph_count codes
run_inked ranges [] h = refl
run_inked ranges (code ∷ codes) h =
    let blank : is_blank code ≡ (code == 32) =
    (λ i. no_return ranges code h.0 i || (code == 10 || code == 32)) ∙ (λ i. no_feed ranges code h.0 i || (code == 32)) in
    λ i. cond (sym blank i) 0 1 + run_inked ranges codes h.1 i

pub columns_in_range : (m : TextMeasure) (n : ℕ) (place : TextPlace) → IsInRange place.x → HaveColumns m place n →
    IsInRange (place.x +ℤ pos (n * m.look.column))
columns_in_range m zero place here h = omega (arith, ints, here)
columns_in_range m (suc n) place here h =
    let further = columns_in_range m n (record place { x = place.x +ℤ pos m.look.column }) h.0.within h.1 in
    let more = suc-mul n m.look.column in
    omega (arith, ints, further, more)

-- ---- fewer of them

pub fewer_can_go : (ranges : List CodeRange) (k : ℕ) (codes : List ℕ) → CanGoIn ranges codes → CanGoIn ranges (take k codes)
fewer_can_go ranges zero codes h = tt
fewer_can_go ranges (suc k) [] h = tt
fewer_can_go ranges (suc k) (code ∷ codes) h = (h.0, fewer_can_go ranges k codes h.1)

-- the first of a run that can go
pub first_can_go : (ranges : List CodeRange) (count text most : ℕ) (bytes : List ℕ) → count ≤ text → text ≤ length (take most bytes) →
    most ≤ length bytes → CanGoIn ranges (take text (take most bytes)) → CanGoIn ranges (take count bytes)
first_can_go ranges count text most bytes few short fits h =
    let len = length-take-le most bytes fits in
    let same : take count (take text (take most bytes)) ≡ take count bytes =
    take-take count text (take most bytes) few ∙ take-take count most bytes (omega (arith, few, short, len)) in
    subst (λ codes. CanGoIn ranges codes) same (fewer_can_go ranges count (take text (take most bytes)) h)

count_snoc : (codes : List ℕ) (code : ℕ) → inked_count (codes ++ code ∷ []) ≡ inked_count codes + cond (code == 32) 0 1
count_snoc [] code = omega arith
count_snoc (c ∷ codes) code = omega (arith, count_snoc codes code)

pub count_more : (codes : List ℕ) (i d : ℕ) → i < length codes →
    inked_count (take (i + 1) codes) ≡ inked_count (take i codes) + cond (get_or codes i d == 32) 0 1
count_more codes i d inside = ap inked_count (take_more codes i d inside) ∙ count_snoc (take i codes) (get_or codes i d)
