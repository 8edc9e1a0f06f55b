-- Bodies one behind another in the pool.
use Rattle.std.proofs.Common.{◌≡◌, ℕ, ◌+◌, ◌-◌, ◌≤◌, nat_eq, nat_le, cond, Bool, true, false, length, take, drop, List, [], ◌∷◌, ◌++◌}
use Rattle.std.proofs.Common.{Option, Some, None, refl, sym, ap, subst, ◌∙◌, append_assoc, arith}
use Rattle.std.specs.List.{remove_range, sum_by}
use Rattle.std.specs.Map.{lookup, remove_entry}
use Rattle.std.proofs.lemmas.Bool.{leb-true, le-leb}
use Rattle.std.proofs.Math.Seq.{take-append_seam, drop-append_seam}
use Rattle.std.proofs.lemmas.List.{length-append}
use Rattle.std.proofs.lemmas.List.Sums.{sum_by-cons}
use Rattle.pcl_items.specs.declared.item.Mode.TheVariants.{Pcl}
use Rattle.pcl_items.specs.Items.{Entry}
use Rattle.pcl_items.specs.Spellings.Canon.{canon}
use Rattle.pcl_spelling.specs.Spellings.Spelled.{spelled, AreAdmitted, IsSpelled, items_in}
use Rattle.pcl_items.specs.Modes.{mode_behind}
use Rattle.pcl_spelling.specs.Spellings.Spelled as spellings
use Rattle.pcl_spelling.proofs.Spellings.ReadAgain.{items_in-spelled}
use Rattle.macro_store.specs.declared.span.Span.{Span}
use Rattle.macro_store.specs.declared.span.Definition.{Definition}
use Rattle.macro_store.specs.Store.{mode_in, IsAdmittedIn, bytes_of, open_bytes}
use Rattle.macro_store.specs.Layout.{bytes_at, bodies_in, definition_in, moved_down, down, texts, spans_from, AllBodies, IsBehind}
use Rattle.macro_store.specs.Layout.{IsLaidOut}

-- ---- lists of bytes

less_itself : (a b : ℕ) → a + b - a ≡ b
less_itself a b = omega arith

-- what stands between a front and a rest
middle : (pool front text rest : List ℕ) (place : ℕ) → place ≡ length front → pool ≡ front ++ (text ++ rest) →
    take (place + length text - place) (drop place pool) ≡ text
middle pool front text rest place p e =
    ap (λ n. take n (drop place pool)) (less_itself place (length text))
    ∙ ap (λ n. take (length text) (drop n pool)) p
    ∙ ap (λ bytes. take (length text) (drop (length front) bytes)) e
    ∙ ap (take (length text)) (drop-append_seam front (text ++ rest))
    ∙ take-append_seam text rest

-- a pool without what stands between a front and a rest
without_middle : (pool front text rest : List ℕ) (place : ℕ) → place ≡ length front → pool ≡ front ++ (text ++ rest) →
    remove_range pool place (place + length text) ≡ front ++ rest
without_middle pool front text rest place p e =
    let behind : place + length text ≡ length (front ++ text) = ap (λ n. n + length text) p ∙ sym (length-append front text) in
    ap (λ bytes. remove_range bytes place (place + length text)) e
    ∙ ap (λ n. take n (front ++ (text ++ rest)) ++ drop (place + length text) (front ++ (text ++ rest))) p
    ∙ ap (λ bytes. bytes ++ drop (place + length text) (front ++ (text ++ rest))) (take-append_seam front (text ++ rest))
    ∙ ap (λ n. front ++ drop n (front ++ (text ++ rest))) behind
    ∙ ap (λ bytes. front ++ drop (length (front ++ text)) bytes) (sym (append_assoc front text rest))
    ∙ ap (λ bytes. front ++ bytes) (drop-append_seam (front ++ text) rest)

-- ---- bodies

-- the place behind a front and a text, and the pool as seen from there
next_place : (front text : List ℕ) (place : ℕ) → place ≡ length front → place + length text ≡ length (front ++ text)
next_place front text place p = ap (λ n. n + length text) p ∙ sym (length-append front text)

from_next : (pool front text others rest : List ℕ) → pool ≡ front ++ ((text ++ others) ++ rest) → pool ≡ (front ++ text) ++ (others ++ rest)
from_next pool front text others rest e =
    e ∙ ap (λ bytes. front ++ bytes) (append_assoc text others rest) ∙ sym (append_assoc front text (others ++ rest))

from_here : (pool front text others rest : List ℕ) → pool ≡ front ++ ((text ++ others) ++ rest) → pool ≡ front ++ (text ++ (others ++ rest))
from_here pool front text others rest e = e ∙ ap (λ bytes. front ++ bytes) (append_assoc text others rest)

pub bodies_known : (pool front rest : List ℕ) (bodies : List (ℕ × List Entry)) → AllBodies bodies → (place : ℕ) → place ≡ length front →
    pool ≡ front ++ (texts bodies ++ rest) → bodies_in pool (spans_from place bodies) ≡ bodies
bodies_known pool front rest [] h place p e = refl
bodies_known pool front rest (m ∷ ms) h place p e =
    let text : List ℕ = spelled m.1 in
    let end : ℕ = place + length text in
    let here = middle pool front text (texts ms ++ rest) place p (from_here pool front text (texts ms) rest e) in
    let items = ap (items_in Pcl) here ∙ items_in-spelled Pcl m.1 h.0 in
    ap (λ xs. (m.0, xs) ∷ bodies_in pool (spans_from end ms)) items
    ∙ ap (λ ms'. m ∷ ms')
    (bodies_known pool (front ++ text) rest ms h.1 end (next_place front text place p) (from_next pool front text (texts ms) rest e))

-- a span that a look-up finds
pub record Found (pool : List ℕ) (place : ℕ) (span : Span) : Type 0 where
  pub from : place ≤ span.start
  pub forward : span.start ≤ span.end
  pub within : span.end ≤ length pool
  pub spelled : IsSpelled Pcl (bytes_at pool span)

some_same : {X : Type 0} (x y : X) → Some x ≡ Some y → x ≡ y
some_same x y e = cc

found_case : (b : Bool) (here span : Span) (others : Option Span) (P : Span → Type 0) → cond b (Some here) others ≡ Some span → P here →
    (others ≡ Some span → P span) → P span
found_case true here span others P e h k = subst P (some_same here span e) h
found_case false here span others P e h k = k e

found_later : (pool : List ℕ) (place later : ℕ) (span : Span) → place ≤ later → Found pool later span → Found pool place span
found_later pool place later span h f =
    record { from = omega (arith, h, f.from); forward = f.forward; within = f.within; spelled = f.spelled }

pub span_found : (pool front rest : List ℕ) (bodies : List (ℕ × List Entry)) → AllBodies bodies → (place : ℕ) → place ≡ length front →
    pool ≡ front ++ (texts bodies ++ rest) → (id : ℕ) (span : Span) → lookup (nat_eq id) (spans_from place bodies) ≡ Some span →
    Found pool place span
span_found pool front rest [] h place p e id span found = absurd cc
span_found pool front rest (m ∷ ms) h place p e id span found =
    let text : List ℕ = spelled m.1 in
    let end : ℕ = place + length text in
    let whole : length pool ≡ length front + (length text + length (texts ms ++ rest)) =
    ap length (from_here pool front text (texts ms) rest e) ∙ length-append front (text ++ (texts ms ++ rest))
    ∙ ap (λ n. length front + n) (length-append text (texts ms ++ rest)) in
    let here : Found pool place (record { start = place; end = end }) = record {
      from = omega arith;
      forward = omega arith;
      within = omega (arith, whole, p);
      spelled = (m.1, h.0, middle pool front text (texts ms ++ rest) place p (from_here pool front text (texts ms) rest e));
    } in
    found_case (nat_eq id m.0) (record { start = place; end = end }) span (lookup (nat_eq id) (spans_from end ms))
    (Found pool place) found here
    (λ others. found_later pool place end span (omega arith)
    (span_found pool (front ++ text) rest ms h.1 end (next_place front text place p)
    (from_next pool front text (texts ms) rest e) id span others))

-- ---- taking a body out

moved_over : (place by : ℕ) (span : Span) → place ≤ span.start →
    moved_down place by span ≡ record { start = span.start - by; end = span.end - by }
moved_over place by span h = ap (λ b. cond b (record { start = span.start - by; end = span.end - by }) span) (le-leb place span.start h)

-- all that stand behind it move down
all_down : (place by start start' : ℕ) (bodies : List (ℕ × List Entry)) → place ≤ start → start' ≡ start - by → by ≤ start →
    down place by (spans_from start bodies) ≡ spans_from start' bodies
all_down place by start start' [] h e k = refl
all_down place by start start' (m ∷ ms) h e k =
    let n : ℕ = length (spelled m.1) in
    let last : start + n - by ≡ start' + n = omega (arith, e, k) in
    ap (λ span. (m.0, span) ∷ down place by (spans_from (start + n) ms))
    (moved_over place by (record { start = start; end = start + n }) h ∙ ap (λ x. record { start = x; end = start + n - by }) (sym e)
    ∙ ap (λ x. record { start = start'; end = x }) last)
    ∙ ap (λ spans. (m.0, record { start = start'; end = start' + n }) ∷ spans)
    (all_down place by (start + n) (start' + n) ms (omega (arith, h)) (sym last) (omega (arith, k)))

-- one that stands before it stays
one_stays : (b : Bool) (start end place by : ℕ) → nat_le place start ≡ b → (place ≤ start → by ≡ 0) → let span : Span =
    record { start = start; end = end } in let lower : Span = record { start = start - by; end = end - by } in cond b lower span ≡ span
one_stays true start end place by e h =
    let none : by ≡ 0 = h (leb-true place start e) in
    let at : ℕ → ℕ → Span = λ x y. record { start = x; end = y } in
    ap (λ x. at x (end - by)) (omega (arith, none)) ∙ ap (at start) (omega (arith, none))
one_stays false start end place by e h = refl

-- Without the bytes of the span this is the pool, and these are the spans of the bodies that are left.
abbrev pub IsOut : (pool : List ℕ) (span : Span) (others moved : List (ℕ × Span)) (left : List ℕ) → Type 0
IsOut pool span others moved left =
    (down span.end (span.end - span.start) others ≡ moved) × (remove_range pool span.start span.end ≡ left)

-- by whether the body is the first
out_case : (b : Bool) (pool front rest : List ℕ) (m : ℕ × List Entry) (ms : List (ℕ × List Entry)) (place id : ℕ) (span here : Span)
    (others : Option Span) →
    let end : ℕ = place + length (spelled m.1) in
    let spans : List (ℕ × Span) = spans_from end ms in
    let fewer : List (ℕ × List Entry) = remove_entry (nat_eq id) ms in
    cond b (Some here) others ≡ Some span →
    (here ≡ span → IsOut pool span spans (spans_from place ms) (front ++ (texts ms ++ rest))) →
    (others ≡ Some span →
    IsOut pool span ((m.0, here) ∷ remove_entry (nat_eq id) spans) ((m.0, here) ∷ spans_from end fewer)
    (front ++ ((spelled m.1 ++ texts fewer) ++ rest))) →
    here ≡ record { start = place; end = end } →
    IsOut pool span (cond b spans ((m.0, here) ∷ remove_entry (nat_eq id) spans)) (spans_from place (cond b ms (m ∷ fewer)))
    (front ++ (texts (cond b ms (m ∷ fewer)) ++ rest))
out_case true pool front rest m ms place id span here others e h k w = h (some_same here span e)
out_case false pool front rest m ms place id span here others e h k w =
    let end : ℕ = place + length (spelled m.1) in
    ((k e).0 ∙ ap (λ x. (m.0, x) ∷ spans_from end (remove_entry (nat_eq id) ms)) w, (k e).1)

pub taken_out : (pool front rest : List ℕ) (bodies : List (ℕ × List Entry)) → AllBodies bodies → (place : ℕ) → place ≡ length front →
    pool ≡ front ++ (texts bodies ++ rest) →
    (id : ℕ) (span : Span) → lookup (nat_eq id) (spans_from place bodies) ≡ Some span →
    let fewer : List (ℕ × List Entry) = remove_entry (nat_eq id) bodies in
    IsOut pool span (remove_entry (nat_eq id) (spans_from place bodies)) (spans_from place fewer) (front ++ (texts fewer ++ rest))
taken_out pool front rest [] h place p e id span found = absurd cc
taken_out pool front rest (m ∷ ms) h place p e id span found =
    let text : List ℕ = spelled m.1 in
    let end : ℕ = place + length text in
    let here : Span = record { start = place; end = end } in
    let others : Option Span = lookup (nat_eq id) (spans_from end ms) in
    let removed : List (ℕ × Span) = remove_entry (nat_eq id) (spans_from end ms) in
    let end_is : end ≡ length (front ++ text) = next_place front text place p in
    let pool_is : pool ≡ (front ++ text) ++ (texts ms ++ rest) = from_next pool front text (texts ms) rest e in
    out_case (nat_eq id m.0) pool front rest m ms place id span here others found
    (λ is. (
      subst (λ s. down s.end (s.end - s.start) (spans_from end ms) ≡ spans_from place ms) is
          (all_down end (end - place) end place ms (omega arith) (omega arith) (omega arith)),
      subst (λ s. remove_range pool s.start s.end ≡ front ++ (texts ms ++ rest)) is
          (without_middle pool front text (texts ms ++ rest) place p (from_here pool front text (texts ms) rest e)),
    ))
    (λ is.
    let f : Found pool end span = span_found pool (front ++ text) rest ms h.1 end end_is pool_is id span is in
    let later = taken_out pool (front ++ text) rest ms h.1 end end_is pool_is id span is in
    let by : ℕ = span.end - span.start in (
      ap (λ x. (m.0, x) ∷ down span.end by removed)
          (one_stays (nat_le span.end place) place end span.end by refl (λ before. omega (arith, before, f.from, f.forward)))
          ∙ ap (λ xs. (m.0, here) ∷ xs) later.0,
      later.1 ∙ append_assoc front text (texts (remove_entry (nat_eq id) ms) ++ rest)
          ∙ ap (λ bytes. front ++ bytes) (sym (append_assoc text (texts (remove_entry (nat_eq id) ms)) rest)),
    ))
    refl

-- ---- a body more

pub texts_more : (bodies : List (ℕ × List Entry)) (m : ℕ × List Entry) → texts (bodies ++ m ∷ []) ≡ texts bodies ++ (spelled m.1 ++ [])
texts_more [] m = refl
texts_more (b ∷ bodies) m =
    ap (λ bytes. spelled b.1 ++ bytes) (texts_more bodies m) ∙ sym (append_assoc (spelled b.1) (texts bodies) (spelled m.1 ++ []))

plus_none : (n : ℕ) → n ≡ n + 0
plus_none n = omega arith

pub spans_more : (place : ℕ) (bodies : List (ℕ × List Entry)) (m : ℕ × List Entry) → let start : ℕ =
    place + length (texts bodies) in spans_from place (bodies ++ m ∷ [])
    ≡ spans_from place bodies ++ (m.0, record { start = start; end = start + length (spelled m.1) }) ∷ []
spans_more place [] m = ap (λ start. (m.0, record { start = start; end = start + length (spelled m.1) }) ∷ []) (plus_none place)
spans_more place (b ∷ bodies) m =
    let n : ℕ = length (spelled b.1) in
    let head : ℕ × Span = (b.0, record { start = place; end = place + n }) in
    ap (λ spans. head ∷ spans) (spans_more (place + n) bodies m)
    ∙ ap (λ start. head ∷ (spans_from (place + n) bodies ++ (m.0, record { start = start; end = start + length (spelled m.1) }) ∷ []))
    (omega (arith, length-append (spelled b.1) (texts bodies)))

pub all_more : (bodies : List (ℕ × List Entry)) (m : ℕ × List Entry) → AllBodies bodies → AreAdmitted Pcl m.1 → AllBodies (bodies ++ m ∷ [])
all_more [] m h k = (k, tt)
all_more (b ∷ bodies) m h k = (h.0, all_more bodies m h.1 k)

fewer_case : (b : Bool) (m : ℕ × List Entry) (ms removed : List (ℕ × List Entry)) → AreAdmitted Pcl m.1 → AllBodies ms → AllBodies removed →
    AllBodies (cond b ms (m ∷ removed))
fewer_case true m ms removed h k l = k
fewer_case false m ms removed h k l = (h, l)

pub all_fewer : (id : ℕ) (bodies : List (ℕ × List Entry)) → AllBodies bodies → AllBodies (remove_entry (nat_eq id) bodies)
all_fewer id [] h = tt
all_fewer id (b ∷ bodies) h = fewer_case (nat_eq id b.0) b bodies (remove_entry (nat_eq id) bodies) h.0 h.1 (all_fewer id bodies h.1)

-- ---- the number of bytes

pub length-spelled : (items : List Entry) → length (spelled items) ≡ bytes_of items
length-spelled [] = refl
length-spelled (item ∷ items) =
    omega (arith, length-append (canon item) (spelled items), length-spelled items, sum_by-cons (λ x. length (canon x)) item items)

pub length-texts : (bodies : List (ℕ × List Entry)) → length (texts bodies) ≡ sum_by (λ m. bytes_of m.1) bodies
length-texts [] = refl
length-texts (m ∷ ms) =
    omega (arith, length-append (spelled m.1) (texts ms), length-spelled m.1, length-texts ms, sum_by-cons (λ x. bytes_of x.1) m ms)

-- ---- a store

-- the open definition with these items
abbrev pub defined : List Entry → Option Definition → Option (ℕ × List Entry)
defined items None = None
defined items (Some d) = Some (d.id, items)

-- the front of a pool, of which the open definition is behind the bodies
module _ (pool : List ℕ) (spans : List (ℕ × Span)) (definition : Option Definition) (h : IsLaidOut pool spans definition) where
  -- nothing stands before the bodies
  pub bodies_are : bodies_in pool spans ≡ h.bodies
  bodies_are = ap (bodies_in pool) h.spans_are ∙ bodies_known pool [] (spelled h.items) h.bodies h.all 0 refl h.pool_is

  defined_case : (d : Option Definition) → IsBehind spans (length (texts h.bodies)) h.items d → definition_in pool d ≡ defined h.items d
  defined_case None b = refl
  defined_case (Some d) b =
      ap (λ n. Some (d.id, items_in Pcl (drop n pool))) b.0
      ∙ ap (λ bytes. Some (d.id, items_in Pcl (drop (length (texts h.bodies)) bytes))) h.pool_is
      ∙ ap (λ bytes. Some (d.id, items_in Pcl bytes)) (drop-append_seam (texts h.bodies) (spelled h.items))
      ∙ ap (λ items. Some (d.id, items)) (items_in-spelled Pcl h.items h.all_open)

  pub definition_is : definition_in pool definition ≡ defined h.items definition
  definition_is = defined_case definition h.behind

  admits_case : (d : Option Definition) (item : Entry) → IsAdmittedIn (mode_in (defined h.items d)) item →
      IsAdmittedIn (mode_behind Pcl h.items) item
  admits_case None item a = absurd a
  admits_case (Some d) item a = a

  -- what the open definition may have next is what may stand behind its items
  pub definition_admits : (item : Entry) → IsAdmittedIn (mode_in (definition_in pool definition)) item →
      IsAdmittedIn (mode_behind Pcl h.items) item
  definition_admits item a = admits_case definition item (subst (λ d. IsAdmittedIn (mode_in d) item) definition_is a)

  -- a body that a look-up finds
  pub found_in : (id : ℕ) (span : Span) → lookup (nat_eq id) spans ≡ Some span → Found pool 0 span
  found_in id span found =
      span_found pool [] (spelled h.items) h.bodies h.all 0 refl h.pool_is id span (ap (lookup (nat_eq id)) (sym h.spans_are) ∙ found)

  open_case : (d : Option Definition) → IsBehind spans (length (texts h.bodies)) h.items d →
      open_bytes (defined h.items d) ≡ length (spelled h.items)
  open_case None b = ap (λ items. length (spelled items)) (sym b)
  open_case (Some d) b = sym (length-spelled h.items)

  -- the pool has the bytes of all items
  pub pool_length : length pool ≡ sum_by (λ m. bytes_of m.1) (bodies_in pool spans) + open_bytes (definition_in pool definition)
  pool_length =
      ap length h.pool_is
      ∙ length-append (texts h.bodies) (spelled h.items)
      ∙ ap (λ n. n + length (spelled h.items)) (length-texts h.bodies ∙ ap (λ bodies. sum_by (λ m. bytes_of m.1) bodies) (sym bodies_are))
      ∙ ap (λ n. sum_by (λ m. bytes_of m.1) (bodies_in pool spans) + n)
      (sym (open_case definition h.behind) ∙ ap open_bytes (sym definition_is))

pub laid_none : IsLaidOut [] [] None
laid_none = record { bodies = []; items = []; all = tt; all_open = spellings.none; spans_are = refl; pool_is = refl; behind = refl }
