-- The spelling of an item that stands first in the bytes of a frame.
use Rattle.std.proofs.Common.{◌≡◌, ℕ, ◌+◌, ◌-◌, ◌<◌, ◌≤◌, ◌⊎◌, Bool, true, List, [], ◌∷◌, ◌++◌, length, take, drop, None, Some, refl, sym}
use Rattle.std.proofs.Common.{ap, subst, ◌∙◌, arith, inl, inr}
use Rattle.std.specs.Fmt.{signed_decimal}
use Rattle.std.specs.Prelude.{min}
use Rattle.std.proofs.lemmas.Bool.{cases_lt}
use Rattle.std.proofs.Math.Seq.{take-append-add}
use Rattle.std.proofs.lemmas.List.{append-nil, length-append}
use Rattle.pcl_items.specs.declared.frame.Handover.TheVariants.{Previous, Current}
use Rattle.pcl_lexer.specs.declared.lexer.first.First.TheVariants as codes
use Rattle.pcl_lexer.specs.declared.lexer.first.Context as code_context
use Rattle.pcl_lexer.specs.declared.lexer.first.Head.{Head}
use Rattle.pcl_lexer.specs.declared.lexer.ahead.Ahead.{Ahead}
use Rattle.pcl_items.specs.declared.item.Mode.{Mode}
use Rattle.pcl_items.specs.declared.item.Mode.TheVariants as modes
use Rattle.pcl_items.specs.declared.item.Item.{Item}
use Rattle.pcl_items.specs.Items.{Entry, Placed, at, view, Reset, LeaveFrame, Initialize, Set, Move, WithData, ExitLanguage}
use Rattle.pcl_items.specs.Spellings.Canon.{canon, IsItem, data_of}
use Rattle.shown_bytes.specs.Decimals.{magnitude_text}
use Rattle.pcl_lexer.specs.Lexing.Contexts.{Context, Frame}
use Rattle.pcl_items.specs.Modes.{follows}
use Rattle.pcl_lexer.specs.Modes.{between, mode_of}
use Rattle.pcl_lexer.specs.Reader.{Passes, Begins, first_of}
use Rattle.pcl_lexer.specs.Lexing.FirstView.{context_view, first_view, head_view}
use Rattle.pcl_lexer.specs.Lexing.Ahead.{StandsAhead}
use Rattle.pcl_lexer.specs.Reading.{ReadsTo, here, passes, begins}
use Rattle.pcl_spelling.specs.Spellings.Spelled.{StandsAt, NothingStands}
use Rattle.pcl_lexer.proofs.Lexing.FirstModes.{begins_in_mode}
use Rattle.pcl_spelling.proofs.Spellings.Canonical.{setting_spelled}
use Rattle.pcl_spelling.proofs.Frames.Canonical.{coordinate_spelled}
use Rattle.pcl_lexer.proofs.Reading.ReadsTo.{same_pass, not_both, moved}
use Rattle.pcl_spelling.proofs.Spellings.Canons.{has_canon}
use Rattle.pcl_spelling.proofs.Spellings.ReadAgain.{from_zero, one_item, reads_mode, item_known}

-- ---- how long a spelling is

canon_short : (item : Entry) (next : Mode) → IsItem item → follows modes.Frame item ≡ Some next → length (canon item) ≤ 64
canon_short Reset next h e = omega arith
canon_short (LeaveFrame Previous) next h e = omega arith
canon_short (LeaveFrame Current) next h e = omega arith
canon_short Initialize next h e = omega arith
canon_short ExitLanguage next h e = omega arith
canon_short (Set setting n) next h e =
    let number : List ℕ = magnitude_text n in
    let short : length number ≤ 16 = (setting_spelled n h).field.short in
    let size : length (number ++ 59 ∷ []) ≡ length number + 1 = length-append number (59 ∷ []) in
    omega (arith, short, size)
canon_short (Move motion None) next h e = omega arith
canon_short (Move motion (Some to)) next h e =
    let x : List ℕ = signed_decimal to.0 in
    let y : List ℕ = signed_decimal to.1 in
    let x_short : length x ≤ 16 = (coordinate_spelled to.0 h.0).numeral.short in
    let y_short : length y ≤ 16 = (coordinate_spelled to.1 h.1).numeral.short in
    omega (arith, x_short, y_short, length-append x (44 ∷ y), length-append (x ++ 44 ∷ y) (59 ∷ []))
canon_short _ next h e = absurd cc

-- a front of the bytes has all of it
front_spelled : (n : ℕ) (text rest : List ℕ) → length text ≤ n → take n (text ++ rest) ≡ text ++ take (n - length text) rest
front_spelled n text rest h =
    let whole : n ≡ length text + (n - length text) = omega (arith, h) in
    ap (λ m. take m (text ++ rest)) whole ∙ take-append-add text rest (n - length text)

-- how much of the bytes a front of at most 64 has
pub front_size : (a r : ℕ) → r ≡ min a 64 → (a ≤ r) ⊎ (64 ≤ r)
front_size a r e = go (cases_lt a 64)
  where
    go : (a < 64) ⊎ (64 ≤ a) → (a ≤ r) ⊎ (64 ≤ r)
    go (inl small) = inl (omega (arith, e, small))
    go (inr large) = inr (omega (arith, e, large))

-- ---- what is read ahead

-- the item begins there
record NextItem (w : Bool) (d : Context) (l : List ℕ) (item : Entry) : Type 0 where
  len : ℕ
  next : Context
  first : first_of w d l ≡ Begins item len next

next_item : {w : Bool} {c d c2 : Context} {p q p2 : ℕ} {bytes l rest : List ℕ} {xs ys : List Placed} (place : ℕ) (item : Entry) →
    ReadsTo w c p bytes xs d q l → xs ≡ [] → ReadsTo w c p bytes ys c2 p2 rest → ys ≡ at place item ∷ [] →
    ((len : ℕ) (next : Context) → first_of w d l ≡ Passes len next → ⊥) → NextItem w d l item
next_item place item here e here f stops = absurd cc
next_item place item here e (passes len next g k) f stops = absurd (stops len next g)
next_item place item here e (begins entry len next g k) f stops =
    record { len = len; next = next; first = g ∙ ap (λ x. Begins x len next) (one_item f) }
next_item place item (passes len next g h) e here f stops = absurd cc
next_item place item (passes {whole = w} {context = c} {bytes = bytes} len next g h) e (begins entry n d i k) f stops =
    absurd (not_both (first_of w c bytes) entry n len d next i g)
next_item place item (passes {whole = w} {context = c} {place = p} {bytes = bytes} len next g h) e (passes len2 next2 i k) f stops =
    let b = same_pass (first_of w c bytes) len len2 next next2 g i in
    next_item place item h e (moved p bytes len next b.0 b.1 k) f stops
next_item place item (begins entry len next g h) e k f stops = absurd cc

-- where an item's spelling stands first in the bytes, it is read in their front
stands_ahead : (bytes : List ℕ) (n : ℕ) (ahead : Ahead) (item : Entry) (end : ℕ) (next : Mode) → (length bytes ≤ n) ⊎ (64 ≤ n) →
    StandsAhead true Frame 0 (take n bytes) ahead → StandsAt modes.Frame bytes 0 item end next →
    NextItem true (context_view ahead.context) (drop ahead.start (take n bytes)) item
stands_ahead bytes n ahead item end next size h s =
    let text : List ℕ = canon item in
    let long : length text ≤ n = long_enough size in
    let front_is : take n bytes ≡ text ++ take (n - length text) s.rest = ap (take n) s.spelled ∙ front_spelled n text s.rest long in
    let read : ReadsTo true Frame 0 (text ++ take (n - length text) s.rest) (at 0 item ∷ []) (between next) (0 + length text)
    (take (n - length text) s.rest) =
    (has_canon modes.Frame next item s.is_item s.admitted).reads true 0 (take (n - length text) s.rest) in
    let front_read : ReadsTo true Frame 0 (take n bytes) (at 0 item ∷ []) (between next) (0 + length text) (take (n - length text) s.rest) =
    subst (λ (l : List ℕ). ReadsTo true Frame 0 l (at 0 item ∷ []) (between next) (0 + length text) (take (n - length text) s.rest))
    (sym front_is) read in
    next_item 0 item (h.reads 0) refl front_read refl (λ len next e. h.stops len next (h.first_is ∙ e))
  where
    long_enough : (length bytes ≤ n) ⊎ (64 ≤ n) → length (canon item) ≤ n
    long_enough (inl small) = omega (arith, small, ap length s.spelled, length-append (canon item) s.rest)
    long_enough (inr large) = omega (arith, large, canon_short item next s.is_item s.admitted)

-- ---- the item that was read

pub ahead_mode : (front : List ℕ) (ahead : Ahead) → StandsAhead true Frame 0 front ahead →
    mode_of (context_view ahead.context) ≡ modes.Frame
ahead_mode front ahead h = let behind : Some modes.Frame ≡ Some (mode_of (context_view ahead.context)) = reads_mode (h.reads 0) in cc

no_data : (item : Entry) (next : Mode) → follows modes.Frame item ≡ Some next → data_of item ≡ []
no_data (WithData command bytes) next e = absurd cc
no_data _ next e = refl

-- an item was read ahead in the front of the bytes, and this text is its spelling
pub record IsAheadAs (front text : List ℕ) (item : Entry) (ahead : Ahead) (next : Context) : Type 0 where
  pub len : ℕ
  pub is_item : IsItem item
  pub read : first_of true (context_view ahead.context) (drop ahead.start front) ≡ Begins item len next
  pub admitted : follows modes.Frame item ≡ Some (mode_of next)
  pub text_is : text ≡ canon item

pub ahead_as : (front text : List ℕ) (item : Item) (ahead : Ahead) (head : Head) (len : ℕ) (next : code_context.Context) →
    StandsAhead true Frame 0 front ahead → ahead.first ≡ codes.Begins len head next →
    view item ≡ head_view head len (drop ahead.start front) → text ++ data_of (view item) ≡ canon (view item) →
    IsAheadAs front text (view item) ahead (context_view next)
ahead_as front text item ahead head len next h is item_is text_is =
    let rest : List ℕ = drop ahead.start front in
    let read : first_of true (context_view ahead.context) rest ≡ Begins (view item) len (context_view next) =
    sym h.first_is ∙ ap (first_view rest) is ∙ ap (λ x. Begins x len (context_view next)) (sym item_is) in
    let admitted : follows modes.Frame (view item) ≡ Some (mode_of (context_view next)) =
    ap (λ m. follows m (view item)) (sym (ahead_mode front ahead h))
    ∙ begins_in_mode true (context_view ahead.context) rest (view item) len (context_view next) read in
    record {
      len = len;
      is_item = item_known item;
      read = read;
      admitted = admitted;
      text_is = sym (append-nil text) ∙ ap (λ d. text ++ d) (sym (no_data (view item) (mode_of (context_view next)) admitted)) ∙ text_is;
    }

-- its spelling stands there where the bytes begin with the text
pub ahead_stands : (bytes front text : List ℕ) (item : Entry) (ahead : Ahead) (next : Context) → IsAheadAs front text item ahead next →
    bytes ≡ text ++ drop (length text) bytes → StandsAt modes.Frame bytes 0 item (length text) (mode_of next)
ahead_stands bytes front text item ahead next h begins_so = record {
  is_item = h.is_item;
  admitted = h.admitted;
  rest = drop (length text) bytes;
  spelled = begins_so ∙ ap (λ t. t ++ drop (length text) bytes) h.text_is;
  ends = ap length h.text_is ∙ from_zero (length (canon item));
}

-- and nothing does where they don't
pub ahead_differs : (bytes : List ℕ) (n : ℕ) (text : List ℕ) (item : Entry) (ahead : Ahead) (next : Context) →
    (length bytes ≤ n) ⊎ (64 ≤ n) → StandsAhead true Frame 0 (take n bytes) ahead → IsAheadAs (take n bytes) text item ahead next →
    ((rest : List ℕ) → bytes ≡ text ++ rest → ⊥) → NothingStands modes.Frame bytes 0
ahead_differs bytes n text item ahead next size h r differs other end mode s =
    let first = stands_ahead bytes n ahead other end mode size h s in
    let both : Begins item r.len next ≡ Begins other first.len first.next = sym r.read ∙ first.first in
    let same : other ≡ item = cc in
    differs s.rest (s.spelled ∙ ap (λ t. t ++ s.rest) (ap canon same ∙ sym r.text_is))

-- nor where no item was read ahead
pub nothing_ahead : (bytes : List ℕ) (n : ℕ) (ahead : Ahead) → (length bytes ≤ n) ⊎ (64 ≤ n) →
    StandsAhead true Frame 0 (take n bytes) ahead →
    ((len : ℕ) (head : Head) (next : code_context.Context) → ahead.first ≡ codes.Begins len head next → ⊥) →
    NothingStands modes.Frame bytes 0
nothing_ahead bytes n ahead size h none other end mode s =
    let first = stands_ahead bytes n ahead other end mode size h s in
    no_begin (drop ahead.start (take n bytes)) ahead.first (h.first_is ∙ first.first) none
  where
    no_begin : (rest : List ℕ) (f : codes.the_data) {item : Entry} {len : ℕ} {c : Context} → first_view rest f ≡ Begins item len c →
        ((len : ℕ) (head : Head) (next : code_context.Context) → f ≡ codes.Begins len head next → ⊥) → ⊥
    no_begin rest codes.Open e k = absurd cc
    no_begin rest (codes.Passes len next) e k = absurd cc
    no_begin rest (codes.Begins len head next) e k = k len head next refl
    no_begin rest (codes.Faulty cause) e k = absurd cc
