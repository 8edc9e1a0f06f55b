-- Items read one behind another.
use Rattle.std.proofs.Common.{◌≡◌, ℕ, ◌+◌, ◌≤◌, List, [], ◌∷◌, ◌++◌, length, drop, Bool, true, false, refl, sym, ap, subst, ◌∙◌, arith}
use Rattle.std.proofs.lemmas.List.{append-nil, length-drop, drop-append-le}
use Rattle.pcl_lexer.specs.Lexing.Contexts.{Context, Pcl, item_place}
use Rattle.pcl_items.specs.Items.{Entry, Placed, at}
use Rattle.pcl_lexer.specs.Reader.{First, Open, Passes, Begins, Faulty, first_of}
use Rattle.pcl_lexer.specs.Reading.{ReadsTo, here, passes, begins}
use Rattle.pcl_lexer.proofs.Lexing.Spans.{begins-taken, passes-taken}
use Rattle.pcl_lexer.proofs.Lexing.Decided.{stays_decided}

-- whether all bytes are there matters to no item between units of mode PCL
pub same_between : (whole : Bool) (bytes : List ℕ) → first_of whole Pcl bytes ≡ first_of true Pcl bytes
unfolding first_of
same_between whole [] = refl
same_between whole (b ∷ bytes) = refl

-- at equal places and bytes
pub ReadsTo-at : {w : Bool} {c d : Context} {p q p2 q2 : ℕ} {bytes l rest : List ℕ} {items : List Placed} → p ≡ q → bytes ≡ l → p2 ≡ q2 →
    ReadsTo w c p bytes items d p2 rest → ReadsTo w c q l items d q2 rest
ReadsTo-at {w = w} {c = c} {d = d} {p = p} {q = q} {p2 = p2} {q2 = q2} {bytes = bytes} {l = l} {rest = rest} {items = items} e f g h =
    subst (λ (n : ℕ). ReadsTo w c q l items d n rest) g
    (subst (λ (b : List ℕ). ReadsTo w c q b items d p2 rest) f (subst (λ (n : ℕ). ReadsTo w c n bytes items d p2 rest) e h))

pub ReadsTo-append : {w : Bool} {c d c2 : Context} {p q p2 : ℕ} {bytes l rest : List ℕ} {xs ys : List Placed} →
    ReadsTo w c p bytes xs d q l → ReadsTo w d q l ys c2 p2 rest → ReadsTo w c p bytes (xs ++ ys) c2 p2 rest
ReadsTo-append here k = k
ReadsTo-append (passes len next e h) k = passes len next e (ReadsTo-append h k)
ReadsTo-append (begins entry len next e h) k = begins entry len next e (ReadsTo-append h k)

-- no byte is lost
pub ReadsTo-place : {w : Bool} {c d : Context} {p q : ℕ} {bytes rest : List ℕ} {items : List Placed} → ReadsTo w c p bytes items d q rest →
    q + length rest ≡ p + length bytes
ReadsTo-place here = refl
ReadsTo-place (passes {whole = w} {context = c} {place = p} {place2 = q} {bytes = bytes} {rest = rest} len next e h) =
    omega (arith, ReadsTo-place h, length-drop len bytes, (passes-taken w c bytes len next e).within)
ReadsTo-place (begins {whole = w} {context = c} {place = p} {place2 = q} {bytes = bytes} {rest = rest} entry len next e h) =
    omega (arith, ReadsTo-place h, length-drop len bytes, (begins-taken w c bytes entry len next e).within)

-- what was read of a front of the bytes stays read
pub grows : {w : Bool} {c d : Context} {p q : ℕ} {bytes rest : List ℕ} {items : List Placed} (whole : Bool) (more : List ℕ) → w ≡ false →
    ReadsTo w c p bytes items d q rest → ReadsTo whole c p (bytes ++ more) items d q (rest ++ more)
grows whole more f here = here
grows whole more f (passes {whole = w} {context = c} {place = p} {bytes = bytes} len next e h) =
    let within : len ≤ length bytes = (passes-taken w c bytes len next e).within in
    let here_is : first_of false c bytes ≡ Passes len next = ap (λ (b : Bool). first_of b c bytes) (sym f) ∙ e in
    let read : first_of whole c (bytes ++ more) ≡ Passes len next =
    stays_decided c bytes whole more (λ o. let both : Open ≡ Passes len next = sym o ∙ here_is in absurd cc) ∙ here_is in
    passes len next read (ReadsTo-at refl (sym (drop-append-le len bytes more within)) refl (grows whole more f h))
grows whole more f (begins {whole = w} {context = c} {place = p} {bytes = bytes} entry len next e h) =
    let within : len ≤ length bytes = (begins-taken w c bytes entry len next e).within in
    let here_is : first_of false c bytes ≡ Begins entry len next = ap (λ (b : Bool). first_of b c bytes) (sym f) ∙ e in
    let read : first_of whole c (bytes ++ more) ≡ Begins entry len next =
    stays_decided c bytes whole more (λ o. let both : Open ≡ Begins entry len next = sym o ∙ here_is in absurd cc) ∙ here_is in
    begins entry len next read (ReadsTo-at refl (sym (drop-append-le len bytes more within)) refl (grows whole more f h))

-- so also where no more comes
pub closes : {w : Bool} {c d : Context} {p q : ℕ} {bytes rest : List ℕ} {items : List Placed} → ReadsTo w c p bytes items d q rest →
    ReadsTo true c p bytes items d q rest
closes {w = true} h = h
closes {w = false} {c = c} {d = d} {p = p} {q = q} {bytes = bytes} {rest = rest} {items = items} h =
    subst (λ (l : List ℕ). ReadsTo true c p bytes items d q l) (append-nil rest)
    (ReadsTo-at refl (append-nil bytes) refl (grows true [] refl h))

-- ---- one reading is the front of the other

-- no step goes on from there
abbrev pub GoesOn : First → Type 0
GoesOn Open = ⊥
GoesOn (Passes len next) = Unit {0}
GoesOn (Begins entry len next) = Unit {0}
GoesOn (Faulty cause) = ⊥

pub record IsLast (w : Bool) (context : Context) (rest : List ℕ) : Type 0 where
  pub last : GoesOn (first_of w context rest) → ⊥

pub no_pass : {w : Bool} {c : Context} {rest : List ℕ} (len : ℕ) (next : Context) → IsLast w c rest → first_of w c rest ≡ Passes len next →
    ⊥
no_pass len next l e = l.last (subst GoesOn (sym e) tt)

pub no_item : {w : Bool} {c : Context} {rest : List ℕ} (entry : Entry) (len : ℕ) (next : Context) → IsLast w c rest →
    first_of w c rest ≡ Begins entry len next → ⊥
no_item entry len next l e = l.last (subst GoesOn (sym e) tt)

-- what is read behind the front
pub record Behind (w : Bool) (d : Context) (q : ℕ) (l : List ℕ) (xs ys : List Placed) (c2 : Context) (p2 : ℕ) (rest : List ℕ) : Type 0 where
  pub others : List Placed
  pub items : ys ≡ xs ++ others
  pub reads : ReadsTo w d q l others c2 p2 rest

-- two equal beginnings
pub record SameBegin (i j : Entry) (m n : ℕ) (a b : Context) : Type 0 where
  pub entry : i ≡ j
  pub len : m ≡ n
  pub next : a ≡ b

pub same_begin : (f : First) (i j : Entry) (m n : ℕ) (a b : Context) → f ≡ Begins i m a → f ≡ Begins j n b → SameBegin i j m n a b
same_begin f i j m n a b e d = let both : Begins i m a ≡ Begins j n b = sym e ∙ d in record { entry = cc; len = cc; next = cc }

pub same_pass : (f : First) (m n : ℕ) (a b : Context) → f ≡ Passes m a → f ≡ Passes n b → (m ≡ n) × (a ≡ b)
same_pass f m n a b e d = let both : Passes m a ≡ Passes n b = sym e ∙ d in (cc, cc)

pub not_both : (f : First) (entry : Entry) (m n : ℕ) (a b : Context) → f ≡ Begins entry m a → f ≡ Passes n b → ⊥
not_both f entry m n a b e d = let both : Begins entry m a ≡ Passes n b = sym e ∙ d in absurd cc

-- from the place behind an equal step
pub moved : {w : Bool} {d c2 : Context} {p2 m : ℕ} {rest : List ℕ} {ys : List Placed} (p : ℕ) (bytes : List ℕ) (n : ℕ) (next : Context) →
    n ≡ m → next ≡ d → ReadsTo w d (p + m) (drop m bytes) ys c2 p2 rest → ReadsTo w next (p + n) (drop n bytes) ys c2 p2 rest
moved {w = w} {c2 = c2} {p2 = p2} {m = m} {rest = rest} {ys = ys} p bytes n next e f k =
    subst (λ (i : ℕ). ReadsTo w next (p + i) (drop i bytes) ys c2 p2 rest) (sym e)
    (subst (λ (d : Context). ReadsTo w d (p + m) (drop m bytes) ys c2 p2 rest) (sym f) k)

pub behind_front : {w : Bool} {c d c2 : Context} {p q p2 : ℕ} {bytes l rest : List ℕ} {xs ys : List Placed} → ReadsTo w c p bytes xs d q l →
    ReadsTo w c p bytes ys c2 p2 rest → IsLast w c2 rest → Behind w d q l xs ys c2 p2 rest
behind_front {ys = ys} here k last = record { others = ys; items = refl; reads = k }
behind_front (passes len next e h) here last = absurd (no_pass len next last e)
behind_front (passes {whole = w} {context = c} {bytes = bytes} len next e h) (begins entry n d f k) last =
    absurd (not_both (first_of w c bytes) entry n len d next f e)
behind_front (passes {whole = w} {context = c} {place = p} {bytes = bytes} len next e h) (passes len2 next2 f k) last =
    let b = same_pass (first_of w c bytes) len len2 next next2 e f in
    behind_front h (moved p bytes len next b.0 b.1 k) last
behind_front (begins entry len next e h) here last = absurd (no_item entry len next last e)
behind_front (begins {whole = w} {context = c} {bytes = bytes} entry len next e h) (passes n d f k) last =
    absurd (not_both (first_of w c bytes) entry len n next d e f)
behind_front (begins {whole = w} {context = c} {place = p} {bytes = bytes} entry len next e h) (begins entry2 len2 next2 f k) last =
    let b = same_begin (first_of w c bytes) entry entry2 len len2 next next2 e f in
    let r = behind_front h (moved p bytes len next b.len b.next k) last in
    record { others = r.others; items = λ i. at (item_place c p) (sym b.entry i) ∷ r.items i; reads = r.reads }
