-- Text and line ends are their items, one behind another.
use Rattle.std.proofs.Common.{◌≡◌, ℕ, ◌+◌, ◌≤◌, List, [], ◌∷◌, ◌++◌, length, take, drop, Bool, ◌==◌, inl, inr, refl, ◌∙◌, sym, ap, subst}
use Rattle.std.proofs.Common.{arith}
use Rattle.std.proofs.lemmas.Bool.{le-leb}
use Rattle.std.proofs.lemmas.List.{length-drop, length-take-le, drop-drop, take-append-drop}
use Rattle.std.proofs.lemmas.Bool.{cond-true, cond-false}
use Rattle.std.proofs.lemmas.Bool.Decides.{nat_tests}
use Rattle.std.specs.Prelude.{nat_le}
use Rattle.pcl_lexer.specs.Lexing.Contexts.{Context, Pcl, Sequence, Frame, Letters, Numbered, Pjl}
use Rattle.pcl_items.specs.Items.{at, Text}
use Rattle.pcl_lexer.specs.Reader.{first_of, Begins}
use Rattle.pcl_lexer.specs.Reading.{ReadsTo, here, begins}
use Rattle.pcl_lexer.specs.Lexing.State.{LexerState}
use Rattle.pcl_lexer.specs.Lexing.Passing.{ahead_of, ReadsLines}
use Rattle.pcl_items.specs.Lines.{IsOfLines, AreLines, line_item, line_items}
use Rattle.pcl_lexer.proofs.Reading.ReadsTo.{ReadsTo-at, ReadsTo-append}
use Rattle.pcl_lexer.proofs.Lexing.Steps.{decides}
use Rattle.pcl_lexer.proofs.Lexing.Stepped.{standing}

line_first : (w : Bool) (code : ℕ) (bytes : List ℕ) → IsOfLines code → first_of w Pcl (code ∷ bytes) ≡ Begins (line_item code) 1 Pcl
unfolding first_of
line_first w code bytes (inl e) = subst (λ c. first_of w Pcl (c ∷ bytes) ≡ Begins (line_item c) 1 Pcl) (sym e) refl
line_first w code bytes (inr (inl e)) = subst (λ c. first_of w Pcl (c ∷ bytes) ≡ Begins (line_item c) 1 Pcl) (sym e) refl
line_first w code bytes (inr (inr h)) =
    let text : line_item code ≡ Text code =
    cond-false (code == 13) _ _ (grind (arith, nat_tests, h)) ∙ cond-false (code == 10) _ _ (grind (arith, nat_tests, h)) in
    cond-true (nat_le 32 code) _ _ (le-leb 32 code h) ∙ ap (λ item. Begins item 1 Pcl) (sym text)

lines_read : (w : Bool) (place : ℕ) (codes rest : List ℕ) → AreLines codes →
    ReadsTo w Pcl place (codes ++ rest) (line_items place codes) Pcl (place + length codes) rest
lines_read w place [] rest h = ReadsTo-at refl refl (omega arith) here
lines_read w place (code ∷ codes) rest h =
    begins (line_item code) 1 Pcl (line_first w code (codes ++ rest) h.0)
    (ReadsTo-at refl refl (omega arith) (lines_read w (place + 1) codes rest h.1))

-- where the first n bytes are such
front_reads : (w : Bool) (place n : ℕ) (rest : List ℕ) → n ≤ length rest → AreLines (take n rest) →
    ReadsTo w Pcl place rest (line_items place (take n rest)) Pcl (place + n) (drop n rest)
front_reads w place n rest short h =
    ReadsTo-at refl (take-append-drop n rest) (ap (λ k. place + k) (length-take-le n rest short))
    (lines_read w place (take n rest) (drop n rest) h)

-- that the first n bytes ahead may be passed
abbrev pub Passing : ℕ → LexerState → LexerState → Type 0
Passing n old new = 1 ≤ n → n ≤ length (ahead_of old) → AreLines (take n (ahead_of old)) → ReadsLines old (take n (ahead_of old)) new

pub passed : (window : List ℕ) (at dropped : ℕ) (context : Context) (ended : Bool) (held n : ℕ) →
    Passing n (standing window at dropped context ended held) (standing window (at + n) dropped context ended held)
passed window at dropped (Sequence group) ended held n some short h = absurd (omega (arith, short, some))
passed window at dropped Pjl ended held n some short h = absurd (omega (arith, short, some))
passed window at dropped Frame ended held n some short h = absurd (omega (arith, short, some))
passed window at dropped (Letters mnemonic k) ended held n some short h = absurd (omega (arith, short, some))
passed window at dropped (Numbered numbers gap k) ended held n some short h = absurd (omega (arith, short, some))
passed window at dropped Pcl ended held n some short h =
    let rest : List ℕ = drop at window in
    let len : length (take n rest) ≡ n = length-take-le n rest short in
    let reads :
    ReadsTo ended Pcl (dropped + at) rest (line_items (dropped + at) (take n rest)) Pcl (dropped + (at + n)) (drop (at + n) window) =
    ReadsTo-at refl refl (omega arith)
    (subst (λ (l : List ℕ). ReadsTo ended Pcl (dropped + at) rest (line_items (dropped + at) (take n rest)) Pcl (dropped + at + n) l)
    (drop-drop n at window) (front_reads ended (dropped + at) n rest short h)) in
    record {
      reads = λ bytes items r. record { reads = ReadsTo-append r.reads reads };
      decides = λ bytes items r. decides ended bytes _ Pcl (dropped + (at + n)) (drop (at + n) window) (ReadsTo-append r.reads reads);
      place = omega (arith, len);
      total =
          let left = length-drop n rest in
          let same : length (drop (at + n) window) ≡ length (drop n rest) = ap length (sym (drop-drop n at window)) in
          omega (arith, left, same, short);
      ended = refl;
      begins_in_pcl = refl;
      ends_in_pcl = refl;
      held = refl;
    }
