-- The front of bytes that a class of bytes makes, and words.
use Rattle.std.proofs.Common.{◌≡◌, ℕ, zero, suc, ◌+◌, ◌≤◌, List, [], ◌∷◌, ◌++◌, length, take, drop, Bool, true, false, cond, Option, None}
use Rattle.std.proofs.Common.{Some, refl, sym, ap, subst, ◌∙◌, arith}
use Rattle.std.specs.Prelude.{◌==◌, ◌&&◌, map}
use Rattle.std.specs.Int.{is_in_range}
use Rattle.std.specs.List.{prefix_len}
use Rattle.std.proofs.lemmas.Bool.{eqb-true, eq-eqb, and_from, cond_both, cond-true, cond-false}
use Rattle.std.proofs.lemmas.Bool.Decides.{nat_tests}
use Rattle.std.proofs.lemmas.List.{take-append-drop}
use Rattle.std.proofs.lemmas.List.Sums.{take_while-cons}
use Rattle.pcl_items.specs.Frames.Mnemonics.{capital}
use Rattle.pcl_items.specs.PjlLines.Text.{is_solid, is_name_byte}
use Rattle.pcl_items.specs.PjlLines.Reader.{front, past, is_word, past_byte}
use Rattle.pcl_lexer.specs.PjlLines.Syntax.{Each, IsWord}

pub both_true : (a b : Bool) → (a && b) ≡ true → (a ≡ true) × (b ≡ true)
both_true true b h = (refl, h)
both_true false b h = absurd cc

-- nothing, or a byte that is not of the class
abbrev pub Stops : (ℕ → Bool) → List ℕ → Type 0
Stops p [] = Unit {0}
Stops p (b ∷ bytes) = p b ≡ false

pub front_len : (p : ℕ → Bool) (xs ys : List ℕ) → Each p xs → Stops p ys → prefix_len p (xs ++ ys) ≡ length xs
front_len p [] [] h s = refl
front_len p [] (y ∷ ys) h s = cond-false (p y) (1 + prefix_len p ys) 0 s
front_len p (x ∷ xs) ys h s = cond-true (p x) (1 + prefix_len p (xs ++ ys)) 0 h.0 ∙ omega (arith, front_len p xs ys h.1 s)

take_front : (xs ys : List ℕ) → take (length xs) (xs ++ ys) ≡ xs
take_front [] ys = refl
take_front (x ∷ xs) ys = ap (λ l. x ∷ l) (take_front xs ys)

drop_front : (xs ys : List ℕ) → drop (length xs) (xs ++ ys) ≡ ys
drop_front [] ys = refl
drop_front (x ∷ xs) ys = drop_front xs ys

pub front_is : (p : ℕ → Bool) (xs ys : List ℕ) → Each p xs → Stops p ys → front p (xs ++ ys) ≡ xs
front_is p xs ys h s = ap (λ n. take n (xs ++ ys)) (front_len p xs ys h s) ∙ take_front xs ys

pub past_is : (p : ℕ → Bool) (xs ys : List ℕ) → Each p xs → Stops p ys → past p (xs ++ ys) ≡ ys
past_is p xs ys h s = ap (λ n. drop n (xs ++ ys)) (front_len p xs ys h s) ∙ drop_front xs ys

pub front_past : (p : ℕ → Bool) (xs : List ℕ) → xs ≡ front p xs ++ past p xs
front_past p xs = sym (take-append-drop (prefix_len p xs) xs)

pub each_front : (p : ℕ → Bool) (xs : List ℕ) → Each p (front p xs)
each_front p [] = tt
each_front p (x ∷ xs) = subst (Each p) (sym (take_while-cons p x xs)) (cond_both (p x) _ _ (Each p) (λ e. (e, each_front p xs)) (λ _. tt))

past_by : (c : Bool) (n x : ℕ) (xs : List ℕ) → drop (cond c (1 + n) 0) (x ∷ xs) ≡ cond c (drop n xs) (x ∷ xs)
past_by true n x xs = let e : 1 + n ≡ suc n = omega arith in ap (λ m. drop m (x ∷ xs)) e
past_by false n x xs = refl

pub stops_past : (p : ℕ → Bool) (xs : List ℕ) → Stops p (past p xs)
stops_past p [] = tt
stops_past p (x ∷ xs) =
    subst (Stops p) (sym (past_by (p x) (prefix_len p xs) x xs)) (cond_both (p x) _ _ (Stops p) (λ _. stops_past p xs) (λ e. e))

-- ---- a byte

abbrev pub value_of : Option (List ℕ) → List ℕ
value_of None = []
value_of (Some bytes) = bytes

behind_one : (c b : ℕ) (bytes rest : List ℕ) (t : Bool) → (b == c) ≡ t → cond t (Some bytes) None ≡ Some rest → b ∷ bytes ≡ c ∷ rest
behind_one c b bytes rest true e h = ap (λ n. n ∷ bytes) (eqb-true b c e) ∙ ap (λ o. c ∷ value_of o) h
behind_one c b bytes rest false e h = absurd cc

pub byte_there : (c : ℕ) (bytes rest : List ℕ) → past_byte c bytes ≡ Some rest → bytes ≡ c ∷ rest
byte_there c [] rest h = absurd cc
byte_there c (b ∷ bytes) rest h = behind_one c b bytes rest (b == c) refl h

-- ---- words

pub word_told : (text capitals : List ℕ) → is_word text capitals ≡ true → IsWord capitals text
unfolding is_word
word_told [] [] h = refl
word_told [] (c ∷ capitals) h = absurd cc
word_told (b ∷ text) [] h = absurd cc
word_told (b ∷ text) (c ∷ capitals) h =
    let t = both_true (capital b == c) (is_word text capitals) h in
    ap (λ n. n ∷ map capital text) (eqb-true (capital b) c t.0) ∙ ap (λ l. c ∷ l) (word_told text capitals t.1)

itself : (text : List ℕ) → is_word text (map capital text) ≡ true
unfolding is_word
itself [] = refl
itself (b ∷ text) = and_from (capital b == capital b) (is_word text (map capital text)) (eq-eqb (capital b) (capital b) refl) (itself text)

pub word_read : (text capitals : List ℕ) → IsWord capitals text → is_word text capitals ≡ true
word_read text capitals h = subst (λ l. is_word text l ≡ true) h (itself text)

abbrev pub is_upper : ℕ → Bool
is_upper n = is_in_range 65 90 n

upper_letter : (b : ℕ) → is_upper (capital b) ≡ true → is_name_byte b ≡ true
upper_letter b h = grind (arith, nat_tests)

letter_solid : (b : ℕ) → is_name_byte b ≡ true → is_solid b ≡ true
letter_solid b h = grind (arith, nat_tests)

pub letters : (text : List ℕ) → Each is_upper (map capital text) → Each is_name_byte text
letters [] h = tt
letters (b ∷ text) h = (upper_letter b h.0, letters text h.1)

pub solids : (text : List ℕ) → Each is_name_byte text → Each is_solid text
solids [] h = tt
solids (b ∷ text) h = (letter_solid b h.0, solids text h.1)

pub each_take : (p : ℕ → Bool) (n : ℕ) (xs : List ℕ) → Each p xs → Each p (take n xs)
each_take p zero xs h = tt
each_take p (suc n) [] h = tt
each_take p (suc n) (x ∷ xs) h = (h.0, each_take p n xs h.1)

pub len_take : (n : ℕ) (xs : List ℕ) → n ≤ length xs → length (take n xs) ≡ n
len_take zero xs h = refl
len_take (suc n) [] h = absurd (omega (arith, h))
len_take (suc n) (x ∷ xs) h = let l : n ≤ length xs = omega (arith, h) in omega (arith, len_take n xs l)

pub front_more : (p : ℕ → Bool) (xs ys : List ℕ) → Each p xs → length xs ≤ prefix_len p (xs ++ ys)
front_more p [] ys h = omega arith
front_more p (x ∷ xs) ys h = omega (arith, cond-true (p x) (1 + prefix_len p (xs ++ ys)) 0 h.0, front_more p xs ys h.1)
