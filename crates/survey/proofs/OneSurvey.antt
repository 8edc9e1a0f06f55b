-- Of the bytes of a job one list of refusals is told.
use Rattle.std.proofs.Common.{◌≡◌, ℕ, ◌+◌, ◌⊎◌, List, [], ◌∷◌, ◌++◌, drop, Bool, true, Option, None, Some, refl, sym, ap, subst, ◌∙◌, inl}
use Rattle.std.proofs.Common.{inr, option_to_list, ⊎_elim}
use Rattle.pcl_lexer.specs.Lexing.Contexts.{Context}
use Rattle.pcl_items.specs.Items.{Entry, Placed}
use Rattle.pcl_lexer.specs.Reader.{First, Open, Passes as PassesBytes, Begins, first_of}
use Rattle.pcl_lexer.specs.Reading.{ReadsTo, here, passes, begins}
use Rattle.pcl_lexer.proofs.Reading.ReadsTo.{SameBegin, same_begin, same_pass, not_both}
use Rattle.survey.specs.declared.refusal.Refusal.{Refusal}
use Rattle.survey.specs.declared.part.Turn.{Turn}
use Rattle.survey.specs.Laws.{HasOneSurvey}
use Rattle.survey.specs.Passing.{taken}
use Rattle.survey.specs.Survey.{Standing, Reads, Passes, Tells, reads, turns, ends, Waits, at_end, next_turn, turn_at, standing_of}

-- ---- two readings from one place: one goes on behind the other

abbrev IsBehind : Context → ℕ → List ℕ → Context → ℕ → List ℕ → Type 0
IsBehind c p bytes d q rest = (items : List Placed) × ReadsTo true c p bytes items d q rest

-- where both begin with as many bytes before the same
next_behind : (next next' d e : Context) (len len' p q r : ℕ) (bytes rest end : List ℕ) (items : List Placed) → len ≡ len' → next ≡ next' →
    ReadsTo true next' (p + len') (drop len' bytes) items e r end → ReadsTo true next (p + len) (drop len bytes) items e r end
next_behind next next' d e len len' p q r bytes rest end items same same_next k =
    subst (λ (c : Context). ReadsTo true c (p + len) (drop len bytes) items e r end) (sym same_next)
    (subst (λ (n : ℕ). ReadsTo true next' (p + n) (drop n bytes) items e r end) (sym same) k)

two_readings : {c d e : Context} {p q r : ℕ} {bytes rest end : List ℕ} {xs ys : List Placed} → ReadsTo true c p bytes xs d q rest →
    ReadsTo true c p bytes ys e r end → IsBehind d q rest e r end ⊎ IsBehind e r end d q rest
two_readings {ys = ys} here k = inl (ys, k)
two_readings {xs = xs} (passes len next f h) here = inr (xs, passes len next f h)
two_readings {xs = xs} (begins entry len next f h) here = inr (xs, begins entry len next f h)
two_readings {d = d} {e = e} {q = q} {r = r} {rest = rest} {end = end} (passes {context = c} {place = p} {bytes = bytes} len next f h)
    (passes {items = ys} len' next' f' k) =
    let same = same_pass (first_of true c bytes) len len' next next' f f' in
    two_readings h (next_behind next next' d e len len' p q r bytes rest end ys same.0 same.1 k)
two_readings (passes {context = c} {bytes = bytes} len next f h) (begins entry len' next' f' k) =
    absurd (not_both (first_of true c bytes) entry len' len next' next f' f)
two_readings (begins {context = c} {bytes = bytes} entry len next f h) (passes len' next' f' k) =
    absurd (not_both (first_of true c bytes) entry len len' next next' f f')
two_readings {d = d} {e = e} {q = q} {r = r} {rest = rest} {end = end} (begins {context = c} {place = p} {bytes = bytes} entry len next f h)
    (begins {items = ys} entry' len' next' f' k) =
    let same = same_begin (first_of true c bytes) entry entry' len len' next next' f f' in
    two_readings h (next_behind next next' d e len len' p q r bytes rest end ys same.len same.next k)

-- ---- what comes first

record TurnsTo (next : Turn) (place : ℕ) (bytes : List ℕ) (told : List Refusal) : Type 0 where
  others : List Refusal
  tells : Tells (standing_of next.onto) (place + taken next) (drop (taken next) bytes) others
  is : told ≡ option_to_list next.told ++ others

no_turn : (standing : Standing) (place : ℕ) (bytes : List ℕ) → Waits true standing bytes → next_turn true standing place bytes ≡ None
no_turn (Reads c) place bytes w = ap (λ (f : First). turn_at f c place bytes) w
no_turn (Passes part) place bytes w = ap (λ (l : List ℕ). next_turn true (Passes part) place l) w

never : {A : Type 0} (o : Option Turn) (next : Turn) → o ≡ None → o ≡ Some next → A
never o next e h = let both : None ≡ Some next = sym e ∙ h in absurd cc

passes_no_turn : (c : Context) (place : ℕ) (bytes : List ℕ) (len : ℕ) (next : Context) → first_of true c bytes ≡ PassesBytes len next →
    next_turn true (Reads c) place bytes ≡ None
passes_no_turn c place bytes len next e = ap (λ (f : First). turn_at f c place bytes) e

begins_no_turn : (c : Context) (place : ℕ) (bytes : List ℕ) (entry : Entry) (len : ℕ) (next : Context) →
    first_of true c bytes ≡ Begins entry len next → next_turn true (Reads c) place bytes ≡ None
begins_no_turn c place bytes entry len next e = ap (λ (f : First). turn_at f c place bytes) e

first_turn : {standing : Standing} {place : ℕ} {bytes : List ℕ} {told : List Refusal} (next : Turn) → Tells standing place bytes told →
    next_turn true standing place bytes ≡ Some next → TurnsTo next place bytes told
first_turn next (reads here t) e = first_turn next t e
first_turn next (reads (passes {context = c} {place = p} {bytes = b} len to f h) t) e = never _ next (passes_no_turn c p b len to f) e
first_turn next (reads (begins {context = c} {place = p} {bytes = b} entry len to f h) t) e =
    never _ next (begins_no_turn c p b entry len to f) e
first_turn next (turns {place = p} {bytes = b} {told = told} other f t) e =
    let both : Some other ≡ Some next = sym f ∙ e in
    let same : other ≡ next = cc in
    subst (λ (n : Turn). TurnsTo n p b (option_to_list other.told ++ told)) same (record { others = told; tells = t; is = refl })
first_turn next (ends {standing = s} {place = p} {bytes = b} w) e = never _ next (no_turn s p b w) e

passes_not_open : (c : Context) (bytes : List ℕ) (len : ℕ) (next : Context) → first_of true c bytes ≡ PassesBytes len next →
    first_of true c bytes ≡ Open → ⊥
passes_not_open c bytes len next e w = let both : Open ≡ PassesBytes len next = sym w ∙ e in absurd cc

begins_not_open : (c : Context) (bytes : List ℕ) (entry : Entry) (len : ℕ) (next : Context) →
    first_of true c bytes ≡ Begins entry len next → first_of true c bytes ≡ Open → ⊥
begins_not_open c bytes entry len next e w = let both : Open ≡ Begins entry len next = sym w ∙ e in absurd cc

only_end : {standing : Standing} {place : ℕ} {bytes : List ℕ} {told : List Refusal} → Tells standing place bytes told →
    Waits true standing bytes → told ≡ option_to_list (at_end standing place bytes)
only_end (reads here t) w = only_end t w
only_end (reads (passes {context = c} {bytes = b} len to f h) t) w = absurd (passes_not_open c b len to f w)
only_end (reads (begins {context = c} {bytes = b} entry len to f h) t) w = absurd (begins_not_open c b entry len to f w)
only_end (turns {standing = s} {place = p} {bytes = b} next f t) w = never _ next (no_turn s p b w) f
only_end (ends w') w = refl

-- ---- behind items that are read

behind_items : {c d : Context} {p q : ℕ} {bytes rest : List ℕ} {items : List Placed} {told : List Refusal} →
    ReadsTo true c p bytes items d q rest → Tells (Reads c) p bytes told → Tells (Reads d) q rest told
behind_items h (reads k t) = ⊎_elim (λ later. reads later.1 t) (λ earlier. behind_items earlier.1 t) (two_readings h k)
behind_items here (turns next f t) = turns next f t
behind_items (passes {context = c} {place = p} {bytes = b} len to e h) (turns next f t) = never _ next (passes_no_turn c p b len to e) f
behind_items (begins {context = c} {place = p} {bytes = b} entry len to e h) (turns next f t) =
    never _ next (begins_no_turn c p b entry len to e) f
behind_items here (ends w) = ends w
behind_items (passes {context = c} {bytes = b} len to e h) (ends w) = absurd (passes_not_open c b len to e w)
behind_items (begins {context = c} {bytes = b} entry len to e h) (ends w) = absurd (begins_not_open c b entry len to e w)

one_list : {standing : Standing} {place : ℕ} {bytes : List ℕ} {told other : List Refusal} → Tells standing place bytes told →
    Tells standing place bytes other → told ≡ other
one_list (reads h t) u = one_list t (behind_items h u)
one_list (turns next f t) u =
    let first = first_turn next u f in
    ap (λ (l : List Refusal). option_to_list next.told ++ l) (one_list t first.tells) ∙ sym first.is
one_list (ends w) u = sym (only_end u w)

pub one_survey : (job : List ℕ) → HasOneSurvey job
one_survey job told other t u = one_list t u
