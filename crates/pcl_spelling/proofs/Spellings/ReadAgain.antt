-- Items by their spellings, and read again.
use Rattle.std.proofs.Common.{◌≡◌, ℕ, suc, ◌+◌, ◌-◌, ◌≤◌, Bool, true, List, [], ◌∷◌, ◌++◌, length, take, drop, Option, None, Some, refl}
use Rattle.std.proofs.Common.{sym, ap, subst, ◌∙◌, append_assoc, arith}
use Rattle.std.proofs.Math.Seq.{take-append_seam}
use Rattle.std.proofs.lemmas.List.{length-append, length-take-le, take-append-drop, append_cancel_right}
use Rattle.pcl_items.specs.declared.fault.LexCause.{LexCause}
use Rattle.pcl_items.specs.declared.frame.Handover.TheVariants.{Previous, Current}
use Rattle.pcl_lexer.specs.declared.lexer.first.First.TheVariants as codes
use Rattle.pcl_lexer.specs.declared.lexer.first.Context as code_context
use Rattle.pcl_lexer.specs.declared.lexer.first.Head.{Head}
use Rattle.pcl_items.specs.declared.item.Mode.{Mode}
use Rattle.pcl_items.specs.declared.item.Mode.TheVariants as modes
use Rattle.pcl_items.specs.declared.item.Item.{Item}
use Rattle.pcl_items.specs.declared.item.Item.TheVariants as items
use Rattle.pcl_items.specs.declared.item.SimpleItem.{SimpleItem}
use Rattle.pcl_items.specs.declared.item.SimpleItem.TheVariants as simple
use Rattle.pcl_items.specs.Items.{Entry, Placed, at, view, simple_view, Text, EnterFrame, ExitLanguage, PjlLine, entries}
use Rattle.pcl_items.specs.PjlLines.Canon.{parts_of, by_parts}
use Rattle.pcl_items.specs.Spellings.Canon.{canon, IsItem, data_of}
use Rattle.pcl_lexer.specs.Lexing.Contexts.{Context, Pcl, Sequence, Frame, Letters, Numbered, Pjl}
use Rattle.pcl_items.specs.Modes.{follows, mode_after, mode_behind}
use Rattle.pcl_lexer.specs.Modes.{between, mode_of}
use Rattle.pcl_lexer.specs.Frames.Reader.{at_frame}
use Rattle.pcl_lexer.specs.Reader.{Open, Passes, Begins, Faulty, after_escape, first_of}
use Rattle.pcl_lexer.specs.Lexing.FirstView.{context_view, first_view, head_view}
use Rattle.pcl_lexer.specs.Reading.{ReadsTo, here, passes, begins, Reading, Whole, Stopped, IsReadFrom, items_of, left, read_on}
use Rattle.pcl_spelling.specs.Spellings.Spelled.{StandsAt, NothingStands, spelled, AreAdmitted, none, some, IsSpelled, items_in}
use Rattle.pcl_lexer.specs.Grammar.{previous, current, enter_frame}
use Rattle.pcl_spelling.specs.Laws.{IsOneUnit}
use Rattle.pcl_lexer.proofs.Lexing.Spans.{no_passing, no_passing_in}
use Rattle.pcl_lexer.proofs.Lexing.FirstModes.{begins_in_mode, passes_in_mode}
use Rattle.pcl_lexer.proofs.Reading.ReadsTo.{IsLast, ReadsTo-append, same_pass, same_begin, not_both, moved}
use Rattle.pcl_lexer.proofs.Reading.Readings.{read_from, end_last, fault_last, same_end}
use Rattle.pcl_lexer.proofs.Reading.Agreement.{all_decided, unit_read, ungrouped_first}
use Rattle.pcl_spelling.proofs.Spellings.Canonical.{zero_spelled, one_spelled}
use Rattle.pcl_spelling.proofs.Spellings.Canons.{has_canon}

-- no spelling is empty
pub canon-some : (item : Entry) → 1 ≤ length (canon item)
canon-some (Text code) = omega arith
canon-some (PjlLine line) = omega (arith, length-append (by_parts (parts_of line)) (10 ∷ []))
canon-some _ = omega arith

pub spelled-append : (items others : List Entry) → spelled (items ++ others) ≡ spelled items ++ spelled others
spelled-append [] others = refl
spelled-append (item ∷ items) others =
    ap (λ x. canon item ++ x) (spelled-append items others) ∙ sym (append_assoc (canon item) (spelled items) (spelled others))

-- an item of the code is within the limits
simple_known : (item : SimpleItem) → IsItem (simple_view item)
simple_known (simple.Parameterized command number) = number.within
simple_known (simple.SymbolSet letter number) = (number.within, letter.known)
simple_known (simple.Set setting magnitude) = magnitude.within
simple_known (simple.Move motion None) = tt
simple_known (simple.Move motion (Some to)) = (to.x.within, to.y.within)
simple_known _ = tt

pub item_known : (item : Item) → IsItem (view item)
item_known (items.Text byte) = byte.printing
item_known (items.Simple item) = simple_known item
item_known (items.WithData command «data») = «data».within
item_known (items.PjlLine spelled) = spelled.spelled

-- ---- the mode behind items

none_after : (items : List Entry) → mode_after None items ≡ None
none_after [] = refl
none_after (item ∷ items) = refl

after_none : (o : Option Mode) → mode_after o [] ≡ o
after_none None = refl
after_none (Some mode) = refl

after_append : (o : Option Mode) (items others : List Entry) → mode_after o (items ++ others) ≡ mode_after (mode_after o items) others
after_append None items others = none_after (items ++ others) ∙ sym (ap (λ o. mode_after o others) (none_after items) ∙ none_after others)
after_append (Some mode) [] others = refl
after_append (Some mode) (item ∷ items) others = after_append (follows mode item) items others

pub mode_behind-append : (mode next : Mode) (items others : List Entry) → mode_behind mode items ≡ Some next →
    mode_behind mode (items ++ others) ≡ mode_behind next others
mode_behind-append mode next items others e = after_append (Some mode) items others ∙ ap (λ o. mode_after o others) e

pub admitted_behind : {mode : Mode} (items : List Entry) → AreAdmitted mode items → (next : Mode) × (mode_behind mode items ≡ Some next)
admitted_behind {mode = mode} [] none = (mode, refl)
admitted_behind (item ∷ items) (some h e others) = let r = admitted_behind items others in (r.0, ap (λ o. mode_after o items) e ∙ r.1)

-- further items are admitted by the mode behind the others
pub AreAdmitted-append : {mode : Mode} (next : Mode) (items others : List Entry) → AreAdmitted mode items →
    mode_behind mode items ≡ Some next → AreAdmitted next others → AreAdmitted mode (items ++ others)
AreAdmitted-append {mode = mode} next [] others none e k = subst (λ (m : Mode). AreAdmitted m others) (some_is next mode (sym e)) k
  where
    some_is : (m n : Mode) → Some m ≡ Some n → m ≡ n
    some_is m n e = cc
AreAdmitted-append next (item ∷ items) others (some h f rest) e k =
    some h f (AreAdmitted-append next items others rest (sym (ap (λ o. mode_after o items) f) ∙ e) k)

-- ---- what is read

-- what is read from a context on is admitted there, one item behind another
pub reads_mode : {w : Bool} {c d : Context} {p q : ℕ} {bytes rest : List ℕ} {items : List Placed} → ReadsTo w c p bytes items d q rest →
    mode_behind (mode_of c) (entries items) ≡ Some (mode_of d)
reads_mode here = refl
reads_mode (passes {whole = w} {context = c} {bytes = bytes} {items = items} len next f h) =
    ap (λ m. mode_behind m (entries items)) (sym (passes_in_mode w c bytes len next f)) ∙ reads_mode h
reads_mode (begins {whole = w} {context = c} {bytes = bytes} {items = items} entry len next f h) =
    ap (λ o. mode_after o (entries items)) (begins_in_mode w c bytes entry len next f) ∙ reads_mode h

mode_between : (mode : Mode) → mode_of (between mode) ≡ mode
mode_between modes.Pcl = refl
mode_between modes.Frame = refl
mode_between modes.Pjl = refl

-- a mode admits the items that are one unit of it
pub one_unit_admitted : (mode mode2 : Mode) (item : Entry) → IsOneUnit mode item mode2 → follows mode item ≡ Some mode2
one_unit_admitted mode mode2 item h =
    let behind : mode_behind (mode_of (between mode)) (item ∷ []) ≡ Some (mode_of (between mode2)) =
    reads_mode (unit_read true (all_decided mode []) (h 0 [])) in
    sym (after_none (follows mode item)) ∙ ap (λ m. mode_behind m (item ∷ [])) (sym (mode_between mode)) ∙ behind
    ∙ ap Some (mode_between mode2)

-- a list of one item
pub one_item : {p place : ℕ} {entry item : Entry} {others : List Placed} → at p entry ∷ others ≡ at place item ∷ [] → entry ≡ item
one_item {p = p} {place = place} {entry = entry} {item = item} e = let placed : at p entry ≡ at place item = cc in ap (λ x. x.item) placed

-- the first item that is read of bytes is one, however much is read of them
pub first_read : {w : Bool} {c d e : Context} {p q r : ℕ} {bytes l rest : List ℕ} {xs ys : List Placed} (place place2 : ℕ)
    (item item2 : Entry) →
    ReadsTo w c p bytes xs d q l → xs ≡ at place item ∷ [] → ReadsTo w c p bytes ys e r rest → ys ≡ at place2 item2 ∷ [] → item ≡ item2
first_read place place2 item item2 here e k f = absurd cc
first_read place place2 item item2 (passes len next g h) e here f = absurd cc
first_read place place2 item item2 (passes {whole = w} {context = c} {bytes = bytes} len next g h) e (begins entry n d i k) f =
    absurd (not_both (first_of w c bytes) entry n len d next i g)
first_read place place2 item item2 (passes {whole = w} {context = c} {place = p} {bytes = bytes} len next g h) e (passes len2 next2 i k) f =
    let b = same_pass (first_of w c bytes) len len2 next next2 g i in
    first_read place place2 item item2 h e (moved p bytes len next b.0 b.1 k) f
first_read place place2 item item2 (begins entry len next g h) e here f = absurd cc
first_read place place2 item item2 (begins {whole = w} {context = c} {bytes = bytes} entry len next g h) e (passes n d i k) f =
    absurd (not_both (first_of w c bytes) entry len n next d g i)
first_read place place2 item item2 (begins {whole = w} {context = c} {place = p} {bytes = bytes} entry len next g h) e
    (begins entry2 len2 next2 i k) f =
    sym (one_item e) ∙ (same_begin (first_of w c bytes) entry entry2 len len2 next next2 g i).entry ∙ one_item f

-- ---- what is read of a spelling, in mode PCL

-- one item that is read of bytes stands first in them
record IsReadFirst (context2 : Context) (place place2 : ℕ) (bytes : List ℕ) (item : Entry) : Type 0 where
  len : ℕ
  first : first_of true Pcl bytes ≡ Begins item len context2
  span : place + len ≡ place2

-- no item is read where none is there
record IsStill (context context2 : Context) (place place2 : ℕ) : Type 0 where
  context_is : context ≡ context2
  place_is : place ≡ place2

no_step : (w : Bool) (c : Context) (bytes : List ℕ) (len : ℕ) (next : Context) → mode_of c ≡ modes.Pcl →
    first_of w c bytes ≡ Passes len next → ⊥
no_step w Pcl bytes len next m e = no_passing w bytes len next e
no_step w (Sequence g) bytes len next m e = no_passing_in w g bytes len next e
no_step w Frame bytes len next m e = absurd cc
no_step w Pjl bytes len next m e = absurd cc
no_step w (Letters mnemonic n) bytes len next m e = absurd cc
no_step w (Numbered x gap n) bytes len next m e = absurd cc

still : {w : Bool} {c c2 : Context} {p p2 : ℕ} {bytes rest : List ℕ} {items : List Placed} → ReadsTo w c p bytes items c2 p2 rest →
    items ≡ [] → mode_of c ≡ modes.Pcl → IsStill c c2 p p2
still here e m = record { context_is = refl; place_is = refl }
still (passes {whole = w} {context = c} {bytes = bytes} len next f h) e m = absurd (no_step w c bytes len next m f)
still (begins entry len next f h) e m = absurd cc

read_first : {w : Bool} {c c2 : Context} {p p2 : ℕ} {bytes rest : List ℕ} {items : List Placed} (place : ℕ) (item : Entry) →
    ReadsTo w c p bytes items c2 p2 rest → w ≡ true → c ≡ Pcl → items ≡ at place item ∷ [] →
    follows modes.Pcl item ≡ Some modes.Pcl → IsReadFirst c2 p p2 bytes item
read_first place item here v k e a = absurd cc
read_first place item (passes {whole = w} {context = c} {bytes = bytes} len next f h) v k e a =
    absurd (no_step w c bytes len next (ap mode_of k) f)
read_first {bytes = bytes} place item (begins {whole = w} {items = others} entry len next f h) v k e a =
    let entry_is : entry ≡ item = one_item e in
    let nothing : others ≡ [] = cc in
    let first_is : first_of true Pcl bytes ≡ Begins entry len next =
    ap (λ b. first_of b Pcl bytes) (sym v) ∙ ap (λ d. first_of w d bytes) (sym k) ∙ f in
    let both : Some (mode_of next) ≡ Some modes.Pcl =
    sym (begins_in_mode true Pcl bytes entry len next first_is) ∙ ap (follows modes.Pcl) entry_is ∙ a in
    let last = still h nothing (let same : mode_of next ≡ modes.Pcl = cc in same) in
    record {
      len = len;
      first = first_is ∙ ap (λ x. Begins x len next) entry_is ∙ ap (Begins item len) last.context_is;
      span = last.place_is;
    }

-- a spelling is read as its item, whatever bytes follow
stays_first : (item : Entry) → IsItem item → follows modes.Pcl item ≡ Some modes.Pcl → (rest : List ℕ) →
    first_of true Pcl (canon item ++ rest) ≡ Begins item (length (canon item)) Pcl
stays_first item h e rest =
    let read = read_first 0 item ((has_canon modes.Pcl modes.Pcl item h e).reads true 0 rest) refl refl refl e in
    read.first ∙ ap (λ len. Begins item len Pcl) (omega (arith, read.span))

enters_first : (item : Entry) → follows modes.Pcl item ≡ Some modes.Frame → (rest : List ℕ) →
    first_of true Pcl (canon item ++ rest) ≡ Begins item (length (canon item)) Frame
enters_first (EnterFrame Previous) e rest = ungrouped_first true (48 ∷ []) rest zero_spelled (enter_frame (previous refl))
enters_first (EnterFrame Current) e rest = ungrouped_first true (49 ∷ []) rest one_spelled (enter_frame (current refl (λ e. absurd cc)))
enters_first _ e rest = absurd cc

exits_first : (item : Entry) → follows modes.Pcl item ≡ Some modes.Pjl → (rest : List ℕ) →
    first_of true Pcl (canon item ++ rest) ≡ Begins item (length (canon item)) Pjl
unfolding first_of after_escape
exits_first ExitLanguage e rest = refl
exits_first _ e rest = absurd cc

pub canon_first : (item : Entry) (next : Mode) → IsItem item → follows modes.Pcl item ≡ Some next → (rest : List ℕ) →
    first_of true Pcl (canon item ++ rest) ≡ Begins item (length (canon item)) (between next)
canon_first item modes.Pcl h e rest = stays_first item h e rest
canon_first item modes.Frame h e rest = enters_first item e rest
canon_first item modes.Pjl h e rest = exits_first item e rest

-- ---- what is read of spellings

record SpelledRead (mode : Mode) (place : ℕ) (items : List Entry) : Type 0 where
  placed : List Placed
  next : Mode
  end : ℕ
  reads : ReadsTo true (between mode) place (spelled items) placed (between next) end []
  same : entries placed ≡ items

spelled_reads : (mode : Mode) (place : ℕ) (items : List Entry) → AreAdmitted mode items → SpelledRead mode place items
spelled_reads mode place [] none = record { placed = []; next = mode; end = place; reads = here; same = refl }
spelled_reads mode place (item ∷ items) (some {next = next} h e others) =
    let r = spelled_reads next (place + length (canon item)) items others in
    record {
      placed = at place item ∷ r.placed;
      next = r.next;
      end = r.end;
      reads = ReadsTo-append ((has_canon mode next item h e).reads true place (spelled items)) r.reads;
      same = ap (λ xs. item ∷ xs) r.same;
    }

frame_last : IsLast true Frame []
unfolding first_of at_frame
frame_last = record { last = λ g. g }

last_between : (mode : Mode) → IsLast true (between mode) []
last_between modes.Pcl = end_last Pcl tt
last_between modes.Frame = frame_last
last_between modes.Pjl = end_last Pjl tt

-- no other items are read
items_are : {c : Context} {p q : ℕ} {bytes : List ℕ} {items : List Placed} (next : Mode) (r : Reading) →
    ReadsTo true c p bytes items (between next) q [] → IsReadFrom c p bytes r → items_of r ≡ items
items_are next (Whole ys end) h k = (same_end h (last_between next) k.2 (end_last k.0 k.1)).items
items_are next (Stopped ys stop cause) h k = (same_end h (last_between next) k.reads (fault_last k.last k.rest cause k.fault)).items

-- spellings are read as the items that they spell
pub items_in-spelled : (mode : Mode) (items : List Entry) → AreAdmitted mode items → items_in mode (spelled items) ≡ items
unfolding items_in
items_in-spelled mode items h =
    let r = spelled_reads mode 0 items h in
    let bytes : List ℕ = spelled items in
    ap entries
    (items_are r.next (read_on (suc (left (between mode) bytes)) (between mode) 0 bytes) r.reads
    (read_from (suc (left (between mode) bytes)) (between mode) 0 bytes (omega arith)))
    ∙ r.same

-- ---- what stands first

pub from_zero : (n : ℕ) → n ≡ 0 + n
from_zero n = omega arith

begins-same : (item item' : Entry) (len len' : ℕ) (next next' : Context) → Begins item len next ≡ Begins item' len' next' → item ≡ item'
begins-same item item' len len' next next' e = cc

begins-len : (item item' : Entry) (len len' : ℕ) (next next' : Context) → Begins item len next ≡ Begins item' len' next' → len ≡ len'
begins-len item item' len len' next next' e = cc

-- an item that stands there is what is read there
pub stands_reads : {mode next : Mode} (bytes : List ℕ) (item : Entry) (end : ℕ) (s : StandsAt mode bytes 0 item end next) →
    ReadsTo true (between mode) 0 bytes (at 0 item ∷ []) (between next) (0 + length (canon item)) s.rest
stands_reads {mode = mode} {next = next} bytes item end s =
    subst (λ (l : List ℕ). ReadsTo true (between mode) 0 l (at 0 item ∷ []) (between next) (0 + length (canon item)) s.rest) (sym s.spelled)
    ((has_canon mode next item s.is_item s.admitted).reads true 0 s.rest)

pub stands_read : {next : Mode} (bytes : List ℕ) (item : Entry) (end : ℕ) → StandsAt modes.Pcl bytes 0 item end next →
    first_of true Pcl bytes ≡ Begins item (length (canon item)) (between next)
stands_read {next = next} bytes item end h = ap (first_of true Pcl) h.spelled ∙ canon_first item next h.is_item h.admitted h.rest

-- two items that stand at one place are one
pub one_stands : {mode next next' : Mode} (bytes : List ℕ) (end end' : ℕ) (item item' : Entry) → StandsAt mode bytes 0 item end next →
    StandsAt mode bytes 0 item' end' next' → item ≡ item'
one_stands bytes end end' item item' h k =
    first_read 0 0 item item' (stands_reads bytes item end h) refl (stands_reads bytes item' end' k) refl

-- An item was read, over so many bytes. Its data end them, and this text is its spelling but for them.
pub record IsReadAs (bytes text : List ℕ) (item : Entry) (len : ℕ) (next : Context) : Type 0 where
  pub is_item : IsItem item
  pub read : first_of true Pcl bytes ≡ Begins item len next
  pub within : len ≤ length bytes
  pub last : take (len - length (data_of item)) bytes ++ data_of item ≡ take len bytes
  pub text_is : text ++ data_of item ≡ canon item

-- so the code reads it
pub read_as : (bytes text : List ℕ) (item : Item) (read : codes.the_data) (head : Head) (len : ℕ) (next : code_context.Context) →
    first_view bytes read ≡ first_of true Pcl bytes → read ≡ codes.Begins len head next → view item ≡ head_view head len bytes →
    len ≤ length bytes →
    take (len - length (data_of (view item))) bytes ++ data_of (view item) ≡ take len bytes →
    text ++ data_of (view item) ≡ canon (view item) →
    IsReadAs bytes text (view item) len (context_view next)
read_as bytes text item read head len next first is item_is within last text_is = record {
  is_item = item_known item;
  read = sym first ∙ ap (first_view bytes) is ∙ ap (λ x. Begins x len (context_view next)) (sym item_is);
  within = within;
  last = last;
  text_is = text_is;
}

-- the item's spelling stands there, where its text does
pub spelling_stands : (bytes text : List ℕ) (item : Entry) (len : ℕ) (next : Context) → IsReadAs bytes text item len next →
    take (len - length (data_of item)) bytes ≡ text → StandsAt modes.Pcl bytes 0 item len (mode_of next)
spelling_stands bytes text item len next h same =
    let whole : take len bytes ≡ canon item = sym h.last ∙ ap (λ t. t ++ data_of item) same ∙ h.text_is in
    record {
      is_item = h.is_item;
      admitted = begins_in_mode true Pcl bytes item len next h.read;
      rest = drop len bytes;
      spelled = sym (take-append-drop len bytes) ∙ ap (λ t. t ++ drop len bytes) whole;
      ends = sym (length-take-le len bytes h.within) ∙ ap length whole ∙ from_zero (length (canon item));
    }

-- where another text stands, no spelling does
pub no_spelling : (bytes text : List ℕ) (item : Entry) (len : ℕ) (next : Context) → IsReadAs bytes text item len next →
    (take (len - length (data_of item)) bytes ≡ text → ⊥) → NothingStands modes.Pcl bytes 0
no_spelling bytes text item len next h differs other end mode s =
    let both = sym h.read ∙ stands_read bytes other end s in
    let same : canon other ≡ canon item = ap canon (sym (begins-same item other _ _ _ _ both)) in
    let whole : take len bytes ≡ canon item =
    ap (take len) s.spelled ∙ ap (λ n. take n (canon other ++ s.rest)) (begins-len item other _ _ _ _ both)
    ∙ take-append_seam (canon other) s.rest ∙ same in
    differs (append_cancel_right _ text (data_of item) (h.last ∙ whole ∙ sym h.text_is))

-- an item of one byte stands there
pub byte_stands : (bytes : List ℕ) (item : Item) → 1 ≤ length bytes → first_of true Pcl bytes ≡ Begins (view item) 1 Pcl →
    canon (view item) ≡ take 1 bytes → StandsAt modes.Pcl bytes 0 (view item) 1 modes.Pcl
byte_stands bytes item one e is = record {
  is_item = item_known item;
  admitted = begins_in_mode true Pcl bytes (view item) 1 Pcl e;
  rest = drop 1 bytes;
  spelled = sym (take-append-drop 1 bytes) ∙ ap (λ text. text ++ drop 1 bytes) (sym is);
  ends = sym (ap length is ∙ length-take-le 1 bytes one) ∙ from_zero (length (canon (view item)));
}

-- ---- no item

open_begins : (item : Entry) (len : ℕ) (next : Context) → Open ≡ Begins item len next → ⊥
open_begins item len next e = absurd cc

passes_begins : (n : ℕ) (c : Context) (item : Entry) (len : ℕ) (next : Context) → Passes n c ≡ Begins item len next → ⊥
passes_begins n c item len next e = absurd cc

faulty_begins : (cause : LexCause) (item : Entry) (len : ℕ) (next : Context) → Faulty cause ≡ Begins item len next → ⊥
faulty_begins cause item len next e = absurd cc

-- where no item is read, no spelling stands
pub no_item : (bytes : List ℕ) (read : codes.the_data) → first_view bytes read ≡ first_of true Pcl bytes →
    ((len : ℕ) (head : Head) (next : code_context.Context) → read ≡ codes.Begins len head next → ⊥) → NothingStands modes.Pcl bytes 0
no_item bytes codes.Open e h item end next s = open_begins item _ _ (e ∙ stands_read bytes item end s)
no_item bytes (codes.Passes len c) e h item end next s = passes_begins len (context_view c) item _ _ (e ∙ stands_read bytes item end s)
no_item bytes (codes.Begins len head context) e h item end next s = h len head context refl
no_item bytes (codes.Faulty cause) e h item end next s = faulty_begins cause item _ _ (e ∙ stands_read bytes item end s)

nothing_first : first_of true Pcl [] ≡ Open
unfolding first_of
nothing_first = refl

-- what is read of spellings stands there
spelled_case : (bytes : List ℕ) (items : List Entry) → AreAdmitted modes.Pcl items → bytes ≡ spelled items → (item : Entry) (len : ℕ)
    (next : Context) → first_of true Pcl bytes ≡ Begins item len next → StandsAt modes.Pcl bytes 0 item len (mode_of next)
spelled_case bytes [] a is item len next e = absurd (open_begins item len next (sym nothing_first ∙ ap (first_of true Pcl) (sym is) ∙ e))
spelled_case bytes (x ∷ xs) (some {next = mode} a admitted others) is item len next e =
    let both = sym (canon_first x mode a admitted (spelled xs)) ∙ ap (first_of true Pcl) (sym is) ∙ e in
    let same : x ≡ item = begins-same x item _ _ _ _ both in
    record {
      is_item = subst IsItem same a;
      admitted = begins_in_mode true Pcl bytes item len next e;
      rest = spelled xs;
      spelled = is ∙ ap (λ i. canon i ++ spelled xs) same;
      ends = sym (begins-len x item _ _ _ _ both) ∙ ap (λ i. length (canon i)) same ∙ from_zero (length (canon item));
    }

pub spelled_stands : (bytes : List ℕ) → IsSpelled modes.Pcl bytes → (item : Entry) (len : ℕ) (next : Context) →
    first_of true Pcl bytes ≡ Begins item len next → StandsAt modes.Pcl bytes 0 item len (mode_of next)
spelled_stands bytes h item len next e = spelled_case bytes h.0 h.1 h.2 item len next e

-- nothing stands at a place of the bytes where nothing stands first behind it
pub nothing_there : (mode : Mode) (bytes : List ℕ) (at : ℕ) → NothingStands mode (drop at bytes) 0 → NothingStands mode bytes at
nothing_there mode bytes at h item end next s =
    h item (length (canon item)) next
    (record { is_item = s.is_item; admitted = s.admitted; rest = s.rest; spelled = s.spelled; ends = from_zero (length (canon item)) })

-- with the mode that the item says
pub stands_as : {mode next : Mode} (next' : Mode) (bytes : List ℕ) (at : ℕ) (item : Entry) (end : ℕ) →
    StandsAt mode bytes at item end next → follows mode item ≡ Some next' → StandsAt mode bytes at item end next'
stands_as next' bytes at item end s e = record { is_item = s.is_item; admitted = e; rest = s.rest; spelled = s.spelled; ends = s.ends }

pub stands_there : (mode next : Mode) (bytes : List ℕ) (at len : ℕ) (item : Entry) → StandsAt mode (drop at bytes) 0 item len next →
    StandsAt mode bytes at item (at + len) next
stands_there mode next bytes at len item s =
    record {
      is_item = s.is_item;
      admitted = s.admitted;
      rest = s.rest;
      spelled = s.spelled;
      ends = ap (λ n. at + n) (s.ends ∙ sym (from_zero (length (canon item))));
    }
