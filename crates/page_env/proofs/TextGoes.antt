-- A byte of lines of text, where the measure is known.
use Rattle.std.proofs.Common.{◌≡◌, ℕ, ℤ, pos, zero, suc, ◌+◌, ◌-◌, ◌<◌, ◌≤◌, ◌==◌, length, take, drop, get_or, List, [], ◌∷◌, ◌++◌, Bool}
use Rattle.std.proofs.Common.{true, false, not, ◌&&◌, ◌||◌, cond, Option, None, Some, refl, sym, ap, subst, ◌∙◌, arith}
use Rattle.std.specs.Prelude.{◌+ℤ◌, ◌-ℤ◌, ◌≤ℤ◌, int_lt, nat_le, is_none, unwrap_or}
use Rattle.std.specs.Option.{option_map_or}
use Rattle.std.proofs.Math.Seq.{take-add}
use Rattle.std.proofs.lemmas.Int.{ints}
use Rattle.std.proofs.lemmas.List.{take_more, take_rest}
use Rattle.std.proofs.lemmas.Bool.{and_parts, cond-false, leb-true}
use Rattle.std.proofs.lemmas.Bool.Decides.{nat_tests}
use Rattle.device_profile.specs.declared.field.Field.{Field}
use Rattle.device_profile.specs.declared.font.CodeRange.{CodeRange}
use Rattle.device_profile.specs.Faces.{has_code, is_text_of}
use Rattle.device_profile.specs.Printer.{Printer}
use Rattle.page_env.specs.declared.finding.Finding.{Finding}
use Rattle.page_env.specs.declared.finding.Finding.TheVariants.{NoFont, NoGlyph, NotPrintable, OffPage, PastRightMargin}
use Rattle.page_env.specs.declared.motion.Feed.TheVariants.{Line as WholeLine}
use Rattle.page_env.specs.declared.text_lines.TextPlace.{TextPlace}
use Rattle.page_env.specs.Settings.{Settings, State}
use Rattle.page_env.specs.FontInForce.{font_reads}
use Rattle.page_env.specs.Mark.{Character, characters_of, is_inside}
use Rattle.page_env.specs.Motion.{before_feed, carriage_return, fed_to, feed_by, feed_down, is_past_bottom, return_with}
use Rattle.page_env.specs.Places.{bottom_of, column_from, column_of, column_reads, geometry_of, origin_of, page_and_line_reads}
use Rattle.page_env.specs.Effect.{check, first_finding, first_unset, is_unset, unset_or, effect_of, moving, Step, Goes}
use Rattle.page_env.specs.Table.{transition_of}
use Rattle.page_env.specs.Text.{edge_checks, character_box, text_reads, behind_of, space, character}
use Rattle.pcl_items.specs.Items.{CarriageReturn, LineFeed, Text}
use Rattle.page_env.specs.TextLines.{CanGoIn, a_line_down, at_left, box_at}
use Rattle.page_env.specs.TextMeasure.{TextMeasure, IsMeasured, EndsLines, HasColumn, HasLine, HasRoomFor, lies_in}
use Rattle.page_env.proofs.Lines.{goes_line}
use Rattle.page_env.proofs.TextJudging.{column_of_face}

-- ---- reads and checks

fewer_read : (settings : Settings) (xs ys : List Field) → first_unset settings (xs ++ ys) ≡ None → first_unset settings (xs ++ []) ≡ None
fewer_read settings [] ys e = refl
fewer_read settings (x ∷ xs) ys e =
    by (is_unset settings x) (first_unset settings (xs ++ ys)) (first_unset settings (xs ++ [])) (fewer_read settings xs ys) e
  where
    by : (b : Bool) (u v : Option Field) → (u ≡ None → v ≡ None) → cond b (Some x) u ≡ None → cond b (Some x) v ≡ None
    by true u v h e = absurd cc
    by false u v h e = h e

-- what a feed reads, of which the first two are read by text, too
read_both : (a b : Bool) (x y : Field) (u v : Option Field) → cond a (Some x) (cond b (Some y) u) ≡ None → v ≡ None →
    cond a (Some x) (cond b (Some y) v) ≡ None
read_both true b x y u v e h = absurd cc
read_both false true x y u v e h = absurd cc
read_both false false x y u v e h = h

none_of_four : (has off past inside : Bool) (e f g k : Finding) → has ≡ true → cond off (Some f) (cond past (Some g) None) ≡ None →
    inside ≡ true → cond (not has) (Some e) (cond off (Some f) (cond past (Some g) (cond (not inside) (Some k) None))) ≡ None
none_of_four true true past inside e f g k has none is = absurd cc
none_of_four true false true inside e f g k has none is = absurd cc
none_of_four true false false true e f g k has none is = refl
none_of_four true false false false e f g k has none is = absurd cc
none_of_four false off past inside e f g k has none is = absurd cc

pub text_of_codes : (codes : List CodeRange) (code : ℕ) → is_text_of codes code ≡ true → 32 ≤ code
text_of_codes codes code h = leb-true 32 code (and_parts (nat_le 32 code) (code == 32 || has_code codes code) h).0

known_code : (codes : List CodeRange) (code : ℕ) → is_text_of codes code ≡ true → (code == 32) ≡ false → has_code codes code ≡ true
known_code codes code h other =
    by (code == 32) (has_code codes code) other (and_parts (nat_le 32 code) (code == 32 || has_code codes code) h).1
  where
    by : (a b : Bool) → a ≡ false → (a || b) ≡ true → b ≡ true
    by true b e h = absurd cc
    by false b e h = h

-- a place up to the foot lies past neither bottom
not_past : (skips : Bool) (bottom height foot y : ℤ) → cond skips bottom height ≡ foot → y ≤ℤ foot →
    ((skips && int_lt bottom y) ≡ false) × ((not skips && int_lt height y) ≡ false)
not_past true bottom height foot y e h = (is_less bottom foot y e h, refl)
  where
    is_less : (b f z : ℤ) → b ≡ f → z ≤ℤ f → int_lt b z ≡ false
    is_less b f z e h = by (int_lt b z) refl
      where
        by : (t : Bool) → int_lt b z ≡ t → t ≡ false
        by true q = absurd (omega (arith, ints, q, e, h))
        by false q = refl
not_past false bottom height foot y e h = (refl, is_less height foot y e h)
  where
    is_less : (b f z : ℤ) → b ≡ f → z ≤ℤ f → int_lt b z ≡ false
    is_less b f z e h = by (int_lt b z) refl
      where
        by : (t : Bool) → int_lt b z ≡ t → t ≡ false
        by true q = absurd (omega (arith, ints, q, e, h))
        by false q = refl

-- ---- one byte

-- the cursor stands at a place
abbrev pub stand : TextPlace → State → State
stand place s = record s { cursor = record { x = place.x; y = Some place.y } }

module _ (printer : Printer) (s : State) (m : TextMeasure) (h : IsMeasured printer s m) where
  column_is : column_of printer s ≡ Some m.look.column
  column_is = ap (column_from s.settings.job.hmi) h.face_is ∙ column_of_face s.settings.job.hmi h.face ∙ ap Some h.column

  module _ (place : TextPlace) where
    abbrev here : State
    here = stand place s

    abbrev on : TextPlace
    on = record place { x = place.x +ℤ pos m.look.column }

    behind_is : behind_of printer here ≡ on.x
    behind_is = ap (λ o. place.x +ℤ pos (unwrap_or o 0)) column_is

    -- the box of a character of the face is that of the look
    box_is : character_box h.face ((origin_of printer s).x +ℤ place.x) ((origin_of printer s).y +ℤ place.y) ≡ box_at m.look place
    box_is = λ i. record {
      left = (h.origin i).x +ℤ place.x;
      top = ((h.origin i).y +ℤ place.y) -ℤ h.looks.ascent i;
      right = ((h.origin i).x +ℤ place.x) +ℤ h.looks.advance i;
      bottom = ((h.origin i).y +ℤ place.y) +ℤ h.looks.descent i;
    }

    inside_is :
        is_inside (geometry_of printer s) (character_box h.face ((origin_of printer s).x +ℤ place.x) ((origin_of printer s).y +ℤ place.y))
        ≡ lies_in m.bounds.area (box_at m.look place)
    unfolding is_inside
    inside_is = λ i. lies_in (h.area i) (box_is i)

    space_read : first_unset s.settings (text_reads (Some place.y) (column_reads s.settings.job)) ≡ None
    unfolding text_reads
    space_read = by s.settings.job.hmi
      where
        by : (hmi : Option ℕ) →
            first_unset s.settings (text_reads (Some place.y) (cond (is_none hmi) (font_reads s.settings.job.font) [])) ≡ None
        by None = h.read place.y
        by (Some hmi) = fewer_read s.settings (Field.Size ∷ Field.Orientation ∷ []) (font_reads s.settings.job.font) (h.read place.y)

    module _ (k : HasColumn m place) where
      space_goes : effect_of s.settings (Step (space printer here)) ≡ Goes (stand on s) []
      space_goes =
          let none : first_finding (space printer here).checks_after ≡ None =
          (λ i. first_finding (check (is_none (column_is i)) NoFont ∷ edge_checks (h.right i) (h.width i) place.x (behind_is i)))
          ∙ k.ends in
          goes_line s.settings (space printer here) (Goes (space printer here).state []) refl space_read none
          ∙ (λ i. Goes (record s { cursor = record { x = behind_is i; y = Some place.y } }) [])

      character_goes : (code : ℕ) → has_code m.codes code ≡ true →
          effect_of s.settings (Step (character printer here code))
          ≡ Goes (record (stand on s) { marked = true })
          (Character (record { code = code; request = m.look.request; y = m.look.origin.y +ℤ place.y; bounds = box_at m.look place }) ∷ [])
      character_goes code has =
          let x = place.x in
          let none : first_finding (character printer here code).checks_after ≡ None =
          (λ i. first_finding (option_map_or
          (λ face. check (not (has_code face.codes code)) (NoGlyph code) ∷ edge_checks (h.right i) (h.width i) x (behind_is i)
          ++ check
          (not (is_inside (geometry_of printer s) (character_box face ((origin_of printer s).x +ℤ x) ((origin_of printer s).y +ℤ place.y))))
          NotPrintable
          ∷ [])
          (h.face_is i) (check true NoFont ∷ [])))
          ∙ (λ i. first_finding
          (check (not (has_code (h.looks.codes_are i) code)) (NoGlyph code) ∷ edge_checks m.bounds.right m.bounds.width x on.x
          ++ check (not (inside_is i)) NotPrintable ∷ []))
          ∙ none_of_four (has_code m.codes code) (not (int_lt x m.bounds.right) && int_lt m.bounds.width on.x)
          (int_lt x m.bounds.right && int_lt m.bounds.right on.x)
          (lies_in m.bounds.area (box_at m.look place)) (NoGlyph code) OffPage PastRightMargin NotPrintable has k.ends k.inside in
          goes_line s.settings (character printer here code)
          (Goes (character printer here code).state (character printer here code).marks) refl (h.read place.y) none
          ∙ (λ i. Goes (record s { cursor = record { x = behind_is i; y = Some place.y }; marked = true })
          (option_map_or
          (λ face. Character (record {
            code = code;
            request = h.request i;
            y = (h.origin i).y +ℤ place.y;
            bounds = character_box face ((origin_of printer s).x +ℤ x) ((origin_of printer s).y +ℤ place.y);
          })
          ∷ [])
          (h.face_is i) []))
          ∙ (λ i. Goes (record (stand on s) { marked = true })
          (Character (record { code = code; request = m.look.request; y = m.look.origin.y +ℤ place.y; bounds = box_is i }) ∷ []))

    -- a line further down, which is not past the foot
    feed_goes : EndsLines s m → HasLine m place →
        effect_of s.settings (feed_by printer here WholeLine) ≡ Goes (stand (a_line_down m.look place) s) []
    unfolding page_and_line_reads text_reads
    feed_goes ends line =
        let fed : fed_to here WholeLine ≡ (a_line_down m.look place).y = λ i. place.y +ℤ ends.line i in
        let within =
        not_past s.settings.job.skips_perforation (bottom_of printer s) (geometry_of printer s).logical_height m.bounds.foot
        (a_line_down m.look place).y h.foot line in
        let y = fed_to here WholeLine in
        let step = feed_down printer here y in
        let past : is_past_bottom printer here y ≡ false =
        (λ i. s.settings.job.skips_perforation && int_lt (bottom_of printer s) (fed i)) ∙ within.0 in
        let off : (not s.settings.job.skips_perforation && int_lt (geometry_of printer s).logical_height y) ≡ false =
        (λ i. not s.settings.job.skips_perforation && int_lt (geometry_of printer s).logical_height (fed i)) ∙ within.1 in
        let read : first_unset s.settings page_and_line_reads ≡ None =
        read_both (is_unset s.settings Field.Size) (is_unset s.settings Field.Orientation) Field.Size Field.Orientation
        (first_unset s.settings (font_reads s.settings.job.font)) (first_unset s.settings (Field.Vmi ∷ []))
        (h.read place.y) ends.line_read in
        ap (effect_of s.settings) (cond-false (is_past_bottom printer here y) _ (Step step) past)
        ∙ goes_line s.settings step (Goes step.state []) refl read (λ i. first_finding (check (off i) OffPage ∷ []))
        ∙ (λ i. Goes (stand (record place { y = fed i }) s) [])

  module _ (defaults : Settings) (place : TextPlace) where
    -- what is behind a return or a feed, from where the left margin is
    left_goes : (b : Bool) →
        effect_of s.settings (feed_by printer (cond b (carriage_return (here place)) (here place)) WholeLine)
        ≡ effect_of s.settings (feed_by printer (stand (cond b (at_left m.look place) place) s) WholeLine)
    left_goes true = λ i. effect_of s.settings (feed_by printer (stand (record place { x = h.left i }) s) WholeLine)
    left_goes false = refl

    return_goes : (b : Bool) → EndsLines s m → (b ≡ true → HasLine m place) →
        effect_of s.settings
        (cond b (feed_by printer (carriage_return (here place)) WholeLine) (Step (moving (carriage_return (here place)))))
        ≡ Goes (stand (cond b (a_line_down m.look (at_left m.look place)) (at_left m.look place)) s) []
    return_goes true ends line = left_goes true ∙ feed_goes (at_left m.look place) ends (line refl)
    return_goes false ends line = λ i. Goes (stand (record place { x = h.left i }) s) []

    fed_goes : (b : Bool) → EndsLines s m → HasLine m place →
        effect_of s.settings (feed_by printer (cond b (carriage_return (here place)) (here place)) WholeLine)
        ≡ Goes (stand (a_line_down m.look (cond b (at_left m.look place) place)) s) []
    fed_goes true ends line = left_goes true ∙ feed_goes (at_left m.look place) ends line
    fed_goes false ends line = feed_goes place ends line

    -- a byte that has room, told by whether it is CR, and whether LF
    pub byte_goes : (code : ℕ) (returns feeds : Bool) → HasRoomFor m place code returns feeds →
        effect_of s.settings (transition_of printer defaults (here place) (cond returns CarriageReturn (cond feeds LineFeed (Text code)))) ≡
        Goes (record
        (stand (cond returns (cond m.look.termination.feeds_at_return (a_line_down m.look (at_left m.look place)) (at_left m.look place))
        (cond feeds (a_line_down m.look (cond m.look.termination.returns_at_feed (at_left m.look place) place)) (on place))) s)
        { marked = not (returns || (feeds || (code == 32))) || s.marked })
        (characters_of (cond (returns || (feeds || (code == 32))) None
        (Some (record { code = code; request = m.look.request; y = m.look.origin.y +ℤ place.y; bounds = box_at m.look place }))))
    byte_goes code true feeds room =
        let ends = h.ends room.0 in
        (λ i. unset_or (ends.read i) (effect_of s.settings (return_with printer (ends.termination i) (here place))))
        ∙ return_goes m.look.termination.feeds_at_return ends room.1
    byte_goes code false true room =
        let ends = h.ends room.0 in
        (λ i. unset_or (ends.read i) (effect_of s.settings (feed_by printer (before_feed (ends.termination i) (here place)) WholeLine)))
        ∙ fed_goes m.look.termination.returns_at_feed ends room.1
    byte_goes code false false room = by (code == 32) refl
      where
        by : (b : Bool) → (code == 32) ≡ b →
            effect_of s.settings (Step (cond b (space printer (here place)) (character printer (here place) code)))
            ≡ Goes (record (stand (on place) s) { marked = not b || s.marked })
            (characters_of (cond b None
            (Some (record { code = code; request = m.look.request; y = m.look.origin.y +ℤ place.y; bounds = box_at m.look place }))))
        by true e = space_goes place room.0
        by false e = character_goes place room.0 code (known_code m.codes code room.1 e)

-- ---- bytes that the face has, and those that its first range has, or that are spaces

all_of : (a b c d e : Bool) → (a ≡ true → e ≡ true) → (b ≡ true → e ≡ true) → (a || (b && c)) ≡ true → (e && (a || ((b && c) || d))) ≡ true
all_of true b c d e h k p = ap (λ x. x && true) (h refl)
all_of false true true d e h k p = ap (λ x. x && true) (k refl)
all_of false true false d e h k p = absurd cc
all_of false false c d e h k p = absurd cc

pub space_or_in : (range : CodeRange) (others : List CodeRange) (code : ℕ) → 32 ≤ range.first →
    (code == 32 || (nat_le range.first code && nat_le code range.last)) ≡ true → is_text_of (range ∷ others) code ≡ true
space_or_in range others code least h =
    all_of (code == 32) (nat_le range.first code) (nat_le code range.last) (has_code others code) (nat_le 32 code)
    (λ e. grind (arith, nat_tests, e)) (λ e. grind (arith, nat_tests, e)) h

can_go_in_both : (ranges : List CodeRange) (first second : List ℕ) → CanGoIn ranges first → CanGoIn ranges second →
    CanGoIn ranges (first ++ second)
can_go_in_both ranges [] second h k = k
can_go_in_both ranges (code ∷ first) second h k = (h.0, can_go_in_both ranges first second h.1 k)

pub go_further : (ranges : List CodeRange) (bytes : List ℕ) (n m : ℕ) → CanGoIn ranges (take n bytes) →
    CanGoIn ranges (take m (drop n bytes)) → CanGoIn ranges (take (n + m) bytes)
go_further ranges bytes n m h k =
    subst (λ l. CanGoIn ranges l) (sym (take-add n m bytes)) (can_go_in_both ranges (take n bytes) (take m (drop n bytes)) h k)

pub of_ranges_more : (ranges : List CodeRange) (i d : ℕ) (bytes : List ℕ) → i < length bytes → CanGoIn ranges (take i bytes) →
    is_text_of ranges (get_or bytes i d) ≡ true → CanGoIn ranges (take (i + 1) bytes)
of_ranges_more ranges i d bytes inside h k =
    subst (λ l. CanGoIn ranges l) (sym (take_more bytes i d inside))
    (can_go_in_both ranges (take i bytes) (get_or bytes i d ∷ []) h (k, tt))

pub all_bytes : (ranges : List CodeRange) (bytes : List ℕ) (i : ℕ) → length bytes ≤ i → CanGoIn ranges (take i bytes) → CanGoIn ranges bytes
all_bytes ranges [] i h k = tt
all_bytes ranges (code ∷ bytes) zero h k = absurd omega arith
all_bytes ranges (code ∷ bytes) (suc i) h k = (k.0, all_bytes ranges bytes i (omega arith) k.1)

pub go_further_in_rest : (ranges : List CodeRange) (bytes : List ℕ) (n m : ℕ) → CanGoIn ranges (take n bytes) →
    CanGoIn ranges (take m (take (length bytes - n) (drop n bytes))) → CanGoIn ranges (take (n + m) bytes)
go_further_in_rest ranges bytes n m h k =
    go_further ranges bytes n m h (subst (λ rest. CanGoIn ranges (take m rest)) (take_rest bytes n) k)

pub of_first : (codes : List CodeRange) (first : CodeRange) (bytes : List ℕ) → 1 ≤ length codes →
    ((others : List CodeRange) → CanGoIn (get_or codes 0 first ∷ others) bytes) → CanGoIn codes bytes
of_first [] first bytes some h = absurd omega arith
of_first (range ∷ others) first bytes some h = h others

-- the same of the bytes behind some that go, where these are the codes of a face
pub further_in_first : (codes its : List CodeRange) (first : CodeRange) (bytes : List ℕ) (known count : ℕ) → its ≡ codes → 1 ≤ length its →
    CanGoIn codes (take known bytes) →
    ((others : List CodeRange) → CanGoIn (get_or its 0 first ∷ others) (take count (take (length bytes - known) (drop known bytes)))) →
    CanGoIn codes (take (known + count) bytes)
further_in_first codes its first bytes known count e some h k =
    go_further_in_rest codes bytes known count h
    (subst (λ l. CanGoIn l (take count (take (length bytes - known) (drop known bytes)))) e
    (of_first its first (take count (take (length bytes - known) (drop known bytes))) some k))
