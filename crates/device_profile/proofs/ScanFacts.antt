-- Lemmas on the lines and the words of a text.
use Rattle.std.proofs.Common.{◌≡◌, ℕ, zero, suc, ◌+◌, ◌-◌, ◌<◌, ◌≤◌, List, [], ◌∷◌, ◌++◌, length, take, drop, get_or, Bool, true, false}
use Rattle.std.proofs.Common.{◌==◌, nat_lt, filter, cond, if◌then◌else◌, inl, inr, drop_of_length-le, refl, sym, ap, ◌∙◌, arith, add-one}
use Rattle.std.proofs.Common.{take-append-drop}
use Rattle.std.proofs.Math.Nat.{eq-or-lt_of_le}
use Rattle.std.proofs.Math.Seq.{drop-cons}
use Rattle.std.proofs.lemmas.Bool.Decides.{nat_tests}
use Rattle.std.proofs.lemmas.List.{take_all, take_rest, length-take-le}
use Rattle.std.proofs.lemmas.List.Elements.{All-from_recursion}
use Rattle.std.proofs.lemmas.List.Splits.{slice_split_at, slice_split_none, length-slice_split}
use Rattle.std.specs.List.{slice_split, All, AllByRecursion}
use Rattle.std.specs.Str.Lines.{lines, lines_of_parts, strip_carriage_return}
use Rattle.device_profile.specs.Words.{words_of}

-- no byte of a text is this one
abbrev pub Lacks : ℕ → List ℕ → Type 0
Lacks byte text = All (λ b. (b == byte) ≡ false) text

-- two bytes that are not the same
pub differs : (b byte : ℕ) → (b ≡ byte → ⊥) → (b == byte) ≡ false
differs b byte h = grind (arith, nat_tests)

lacks_before : (text : List ℕ) (byte n : ℕ) → n ≤ length text → ((k : ℕ) → k < n → get_or text k 0 ≡ byte → ⊥) →
    AllByRecursion (λ b. (b == byte) ≡ false) (take n text)
lacks_before text byte zero within h = tt
lacks_before [] byte (suc n) within h = tt
lacks_before (x ∷ xs) byte (suc n) within h =
    (differs x byte (h 0 (omega arith)), lacks_before xs byte n (omega arith) (λ k below. h (suc k) (omega arith)))

pub Lacks-take : (text : List ℕ) (byte n : ℕ) → n ≤ length text → ((k : ℕ) → k < n → get_or text k 0 ≡ byte → ⊥) → Lacks byte (take n text)
Lacks-take text byte n within h = All-from_recursion (λ b. (b == byte) ≡ false) (take n text) (lacks_before text byte n within h)

parts-cons : (x : List ℕ) (parts : List (List ℕ)) → 0 < length parts →
    lines_of_parts (x ∷ parts) ≡ strip_carriage_return x ∷ lines_of_parts parts
parts-cons x [] h = absurd (omega arith)
parts-cons x (y ∷ more) h = refl

-- a line feed ends the first line
pub lines-cut : (text : List ℕ) (n : ℕ) → n < length text → Lacks 10 (take n text) → get_or text n 0 ≡ 10 →
    lines text ≡ strip_carriage_return (take n text) ∷ lines (take (length text - (n + 1)) (drop (n + 1) text))
lines-cut text n within none here =
    let rest = drop (n + 1) text in
    let p : ℕ → Bool = λ b. b == 10 in
    let whole : text ≡ take n text ++ 10 ∷ rest =
    sym (take-append-drop n text)
    ∙ ap (λ l. take n text ++ l)
    (drop-cons text n 0 within ∙ ap (λ b. b ∷ drop (suc n) text) here ∙ ap (λ m. 10 ∷ drop m text) (sym (add-one n))) in
    ap lines whole
    ∙ (ap lines_of_parts (slice_split_at p (take n text) 10 rest none refl)
    ∙ parts-cons (take n text) (slice_split p rest) (omega (arith, length-slice_split p rest)))
    ∙ ap (λ l. strip_carriage_return (take n text) ∷ lines l) (sym (take_rest text (n + 1)))

-- a text with no line feed is one line
pub lines-whole : (text : List ℕ) → 0 < length text → Lacks 10 text → lines text ≡ text ∷ []
lines-whole [] h none = absurd (omega arith)
lines-whole (x ∷ xs) h none =
    ap lines_of_parts (slice_split_none (λ b. b == 10) (x ∷ xs) none)
    ∙ ap (λ b. if b then [] else (x ∷ xs) ∷ []) (differs (suc (length xs)) 0 (λ e. absurd (omega arith)))

-- a space stands before words, and is none of them
pub words-skip : (line : List ℕ) → words_of (32 ∷ line) ≡ words_of line
words-skip line = refl

words-kept : (word : List ℕ) (parts : List (List ℕ)) → 0 < length word
    → filter (λ w. nat_lt 0 (length w)) (word ∷ parts) ≡ word ∷ filter (λ w. nat_lt 0 (length w)) parts
words-kept word parts h =
    let long : nat_lt 0 (length word) ≡ true = grind (arith, nat_tests) in
    ap (λ b. cond b (word ∷ filter (λ w. nat_lt 0 (length w)) parts) (filter (λ w. nat_lt 0 (length w)) parts)) long

-- the first word goes up to the first space or the end
pub words-cut : (line : List ℕ) (n : ℕ) → 0 < n → n ≤ length line → Lacks 32 (take n line) → (n < length line → get_or line n 0 ≡ 32) →
    words_of line ≡ take n line ∷ words_of (take (length line - n) (drop n line))
words-cut line n some within none here =
    let p : ℕ → Bool = λ b. b == 32 in
    let q : List ℕ → Bool = λ w. nat_lt 0 (length w) in
    let size : length (take n line) ≡ n = length-take-le n line within in
    let long : 0 < length (take n line) = omega arith in
    let cut : words_of line ≡ take n line ∷ words_of (drop n line) = elim (eq-or-lt_of_le within) [
      | inl e ↦
          let all : length line ≤ n = omega arith in
          let whole : take n line ≡ line = take_all n line all in
          let end : drop n line ≡ [] = drop_of_length-le line all in
          ap words_of (sym whole)
          ∙ (ap (filter q) (slice_split_none p (take n line) none)
          ∙ (words-kept (take n line) [] long ∙ ap (λ l. take n line ∷ words_of l) (sym end)))
      | inr more ↦
          let rest = drop (n + 1) line in
          let after : drop n line ≡ 32 ∷ rest =
          drop-cons line n 0 more ∙ ap (λ b. b ∷ drop (suc n) line) (here more) ∙ ap (λ m. 32 ∷ drop m line) (sym (add-one n)) in
          let whole : line ≡ take n line ++ 32 ∷ rest = sym (take-append-drop n line) ∙ ap (λ l. take n line ++ l) after in
          ap words_of whole
          ∙ (ap (filter q) (slice_split_at p (take n line) 32 rest none refl)
          ∙ (words-kept (take n line) (slice_split p rest) long ∙ ap (λ l. take n line ∷ words_of l) (sym after)))
    ] in
    cut ∙ ap (λ l. take n line ∷ words_of l) (sym (take_rest line n))

-- the first space of a line that begins with none is past its start
pub place-positive : (line : List ℕ) (n : ℕ) → 0 < length line → (0 < length line → get_or line 0 0 ≡ 32 → ⊥) →
    (n < length line → get_or line n 0 ≡ 32) → 0 < n
place-positive line zero some start found = absurd (start some (found some))
place-positive line (suc n) some start found = omega arith
