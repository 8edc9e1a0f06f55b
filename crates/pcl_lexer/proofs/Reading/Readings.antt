-- All bytes have one reading, which is computed.
use Rattle.std.proofs.Common.{◌≡◌, ℕ, zero, suc, ◌+◌, ◌<◌, List, [], ◌∷◌, ◌++◌, drop, Option, None, Some, refl, sym, ap, subst, ◌∙◌, arith}
use Rattle.std.specs.Prelude.{Bool, true}
use Rattle.std.proofs.lemmas.List.{append-nil}
use Rattle.pcl_items.specs.declared.fault.LexCause.{LexCause}
use Rattle.pcl_lexer.specs.Lexing.Contexts.{Context, Pcl, Sequence, Frame, Letters, Numbered, Pjl, MayEndAt, item_place}
use Rattle.pcl_items.specs.Items.{Entry, Placed, at}
use Rattle.pcl_lexer.specs.Reader.{First, Open, Passes, Begins, Faulty, first_of}
use Rattle.pcl_lexer.specs.Fault.{end_cause, IsFault}
use Rattle.pcl_lexer.specs.Reading.{ReadsTo, here, passes, begins, Reading, Whole, Stopped, IsReadFrom, ends_so, end_of, with_item}
use Rattle.pcl_lexer.specs.Reading.{by_first, left, read_on, reading_of}
use Rattle.pcl_lexer.specs.Laws.{HasOneReading}
use Rattle.pcl_lexer.proofs.Lexing.Spans.{begins-taken, passes-taken}
use Rattle.pcl_lexer.proofs.Reading.ReadsTo.{GoesOn, IsLast, no_pass, no_item, behind_front}
use Rattle.pcl_lexer.proofs.Reading.Stopping.{read_by_rules}

-- ---- what is computed is read

pub whole_end : (c : Context) (bytes : List ℕ) → end_cause c bytes ≡ None → MayEndAt c × (bytes ≡ [])
whole_end Pcl [] e = (tt, refl)
whole_end Pcl (b ∷ bytes) e = absurd cc
whole_end Pjl [] e = (tt, refl)
whole_end Pjl (b ∷ bytes) e = absurd cc
whole_end (Sequence g) [] e = absurd cc
whole_end (Sequence g) (b ∷ bytes) e = absurd cc
whole_end Frame [] e = absurd cc
whole_end Frame (b ∷ bytes) e = absurd cc
whole_end (Letters m n) [] e = absurd cc
whole_end (Letters m n) (b ∷ bytes) e = absurd cc
whole_end (Numbered x gap n) [] e = absurd cc
whole_end (Numbered x gap n) (b ∷ bytes) e = absurd cc

pub end_read : (c : Context) (p : ℕ) (bytes : List ℕ) → first_of true c bytes ≡ Open → IsReadFrom c p bytes (end_of c p bytes)
end_read c p bytes e = go (end_cause c bytes) refl
  where
    go : (o : Option LexCause) → end_cause c bytes ≡ o → IsReadFrom c p bytes (ends_so o c p)
    go None k =
        let w = whole_end c bytes k in
        (c, w.0, subst (λ (l : List ℕ). ReadsTo true c p bytes [] c p l) w.1 here)
    go (Some cause) k = record {
      last = c;
      end = p;
      rest = bytes;
      reads = here;
      at_end = refl;
      fault = subst (λ (f : First). IsFault true f c bytes cause) (sym e) k;
    }

pub item_read : (c : Context) (p : ℕ) (bytes : List ℕ) (entry : Entry) (len : ℕ) (next : Context) (r : Reading) →
    first_of true c bytes ≡ Begins entry len next → IsReadFrom next (p + len) (drop len bytes) r →
    IsReadFrom c p bytes (with_item (at (item_place c p) entry) r)
item_read c p bytes entry len next (Whole items end) e h = (h.0, h.1, begins entry len next e h.2)
item_read c p bytes entry len next (Stopped items stop cause) e h =
    record { last = h.last; end = h.end; rest = h.rest; reads = begins entry len next e h.reads; at_end = h.at_end; fault = h.fault }

pub pass_read : (c : Context) (p : ℕ) (bytes : List ℕ) (len : ℕ) (next : Context) (r : Reading) → first_of true c bytes ≡ Passes len next →
    IsReadFrom next (p + len) (drop len bytes) r → IsReadFrom c p bytes r
pass_read c p bytes len next (Whole items end) e h = (h.0, h.1, passes len next e h.2)
pass_read c p bytes len next (Stopped items stop cause) e h =
    record { last = h.last; end = h.end; rest = h.rest; reads = passes len next e h.reads; at_end = h.at_end; fault = h.fault }

first_read : (c : Context) (p : ℕ) (bytes : List ℕ) (f : First) (read : Context → ℕ → List ℕ → Reading) → first_of true c bytes ≡ f →
    ((next : Context) (len : ℕ) → left next (drop len bytes) < left c bytes →
    IsReadFrom next (p + len) (drop len bytes) (read next (p + len) (drop len bytes))) →
    IsReadFrom c p bytes (by_first f c p bytes read)
first_read c p bytes Open read e h = end_read c p bytes e
first_read c p bytes (Passes len next) read e h =
    pass_read c p bytes len next (read next (p + len) (drop len bytes)) e (h next len (passes-taken true c bytes len next e).less)
first_read c p bytes (Begins entry len next) read e h =
    item_read c p bytes entry len next (read next (p + len) (drop len bytes)) e
    (h next len (begins-taken true c bytes entry len next e).less)
first_read c p bytes (Faulty cause) read e h =
    record {
      last = c;
      end = p;
      rest = bytes;
      reads = here;
      at_end = refl;
      fault = subst (λ (f : First). IsFault true f c bytes cause) (sym e) refl;
    }

pub read_from : (n : ℕ) (c : Context) (p : ℕ) (bytes : List ℕ) → left c bytes < n → IsReadFrom c p bytes (read_on n c p bytes)
unfolding read_on
read_from zero c p bytes h = absurd (omega arith)
read_from (suc n) c p bytes h =
    first_read c p bytes (first_of true c bytes) (λ next p2 rest. read_on n next p2 rest) refl
    (λ next len less.
    let small : left next (drop len bytes) < n = omega (arith, less, h) in read_from n next (p + len) (drop len bytes) small)

-- ---- there is no other

-- the end of whole bytes is last
pub end_last : (c : Context) → MayEndAt c → IsLast true c []
unfolding first_of
end_last Pcl h = record { last = λ g. g }
end_last Pjl h = record { last = λ g. g }
end_last (Sequence g) h = absurd h
end_last Frame h = absurd h
end_last (Letters m n) h = absurd h
end_last (Numbered x gap n) h = absurd h

pub fault_last : (c : Context) (rest : List ℕ) (cause : LexCause) → IsFault true (first_of true c rest) c rest cause → IsLast true c rest
fault_last c rest cause h = record { last = go (first_of true c rest) h }
  where
    go : (f : First) → IsFault true f c rest cause → GoesOn f → ⊥
    go Open h g = g
    go (Passes len next) h g = h
    go (Begins entry len next) h g = h
    go (Faulty other) h g = g

-- nothing is read from where it is last
record Stays (c d : Context) (p q : ℕ) (bytes rest : List ℕ) (items : List Placed) : Type 0 where
  none : items ≡ []
  context : d ≡ c
  place : q ≡ p
  rest_is : rest ≡ bytes

stays : {w : Bool} {c d : Context} {p q : ℕ} {bytes rest : List ℕ} {items : List Placed} → ReadsTo w c p bytes items d q rest →
    IsLast w c bytes → Stays c d p q bytes rest items
stays here last = record { none = refl; context = refl; place = refl; rest_is = refl }
stays (passes len next e h) last = absurd (no_pass len next last e)
stays (begins entry len next e h) last = absurd (no_item entry len next last e)

-- two readings that are each last end alike
pub record SameEnd (c d : Context) (p q : ℕ) (l r : List ℕ) (xs ys : List Placed) : Type 0 where
  pub items : ys ≡ xs
  pub context : d ≡ c
  pub place : q ≡ p
  pub rest : r ≡ l

pub same_end : {w : Bool} {c d d2 : Context} {p q q2 : ℕ} {bytes l l2 : List ℕ} {xs ys : List Placed} → ReadsTo w c p bytes xs d q l →
    IsLast w d l → ReadsTo w c p bytes ys d2 q2 l2 → IsLast w d2 l2 → SameEnd d d2 q q2 l l2 xs ys
same_end {xs = xs} h hl k kl =
    let b = behind_front h k kl in
    let s = stays b.reads hl in
    record { items = b.items ∙ ap (λ zs. xs ++ zs) s.none ∙ append-nil xs; context = s.context; place = s.place; rest = s.rest_is }

some_same : (a b : LexCause) (o : Option LexCause) → o ≡ Some a → o ≡ Some b → a ≡ b
some_same a b o h k = let both : Some a ≡ Some b = sym h ∙ k in cc

same_fault : (f : First) (c : Context) (rest : List ℕ) (a b : LexCause) → IsFault true f c rest a → IsFault true f c rest b → a ≡ b
same_fault (Faulty cause) c rest a b h k = h ∙ sym k
same_fault (Passes len next) c rest a b h k = absurd h
same_fault (Begins item len next) c rest a b h k = absurd h
same_fault Open c rest a b h k = some_same a b (end_cause c rest) h k

-- no fault at the end
no_fault : (c : Context) → MayEndAt c → (cause : LexCause) → IsFault true (first_of true c []) c [] cause → ⊥
unfolding first_of
no_fault Pcl m cause h = absurd cc
no_fault Pjl m cause h = absurd cc
no_fault (Sequence g) m cause h = absurd m
no_fault Frame m cause h = absurd m
no_fault (Letters m n) e cause h = absurd e
no_fault (Numbered x gap n) m cause h = absurd m

moved_fault : (c d : Context) (l r : List ℕ) (cause : LexCause) → d ≡ c → r ≡ l → IsFault true (first_of true d r) d r cause →
    IsFault true (first_of true c l) c l cause
moved_fault c d l r cause e f h =
    subst (λ (b : List ℕ). IsFault true (first_of true c b) c b cause) f
    (subst (λ (x : Context). IsFault true (first_of true x r) x r cause) e h)

whole_same : (xs ys : List Placed) (p q : ℕ) → ys ≡ xs → q ≡ p → Whole xs p ≡ Whole ys q
whole_same xs ys p q e f = λ i. Whole (sym e i) (sym f i)

stopped_same : (xs ys : List Placed) (p q : ℕ) (a b : LexCause) → ys ≡ xs → q ≡ p → a ≡ b → Stopped xs p a ≡ Stopped ys q b
stopped_same xs ys p q a b e f g = λ i. Stopped (sym e i) (sym f i) (g i)

pub one_only : (bytes : List ℕ) (r s : Reading) → IsReadFrom Pcl 0 bytes r → IsReadFrom Pcl 0 bytes s → r ≡ s
one_only bytes (Whole xs p) (Whole ys q) h k =
    let s = same_end h.2 (end_last h.0 h.1) k.2 (end_last k.0 k.1) in whole_same xs ys p q s.items s.place
one_only bytes (Whole xs p) (Stopped ys q b) h k =
    let s = same_end h.2 (end_last h.0 h.1) k.reads (fault_last k.last k.rest b k.fault) in
    absurd (no_fault h.0 h.1 b (moved_fault h.0 k.last [] k.rest b s.context s.rest k.fault))
one_only bytes (Stopped xs p a) (Whole ys q) h k =
    let s = same_end k.2 (end_last k.0 k.1) h.reads (fault_last h.last h.rest a h.fault) in
    absurd (no_fault k.0 k.1 a (moved_fault k.0 h.last [] h.rest a s.context s.rest h.fault))
one_only bytes (Stopped xs p a) (Stopped ys q b) h k =
    let s = same_end h.reads (fault_last h.last h.rest a h.fault) k.reads (fault_last k.last k.rest b k.fault) in
    stopped_same xs ys p q a b s.items (k.at_end ∙ ap (λ c. item_place c k.end) s.context ∙ ap (item_place h.last) s.place ∙ sym h.at_end)
    (same_fault (first_of true h.last h.rest) h.last h.rest a b h.fault
    (moved_fault h.last k.last h.rest k.rest b s.context s.rest k.fault))

pub computed : (bytes : List ℕ) → IsReadFrom Pcl 0 bytes (reading_of bytes)
unfolding reading_of
computed bytes = read_from (suc (left Pcl bytes)) Pcl 0 bytes (omega arith)

pub one_reading : (bytes : List ℕ) → HasOneReading bytes
one_reading bytes = record {
  read = (read_by_rules bytes (reading_of bytes)).sound (computed bytes);
  only = λ r h. one_only bytes r (reading_of bytes) ((read_by_rules bytes r).complete h) (computed bytes);
}
