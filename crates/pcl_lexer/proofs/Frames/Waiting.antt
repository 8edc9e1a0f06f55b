-- Bytes of a frame that decide nothing are few.
use Rattle.std.proofs.Common.{◌≡◌, ℕ, ◌≤◌, List, [], ◌∷◌, length, false, Option, None, Some, refl, ap, arith}
use Rattle.std.specs.Prelude.{ℤ, ◌==◌}
use Rattle.std.proofs.lemmas.Bool.{cond_both}
use Rattle.std.proofs.lemmas.List.{length-drop}
use Rattle.pcl_lexer.specs.declared.frame.Kind.{Kind}
use Rattle.pcl_lexer.specs.declared.frame.Kind.TheVariants as kinds
use Rattle.pcl_items.specs.declared.frame.Mnemonic.{Mnemonic}
use Rattle.pcl_items.specs.declared.frame.Mnemonic.TheVariants as mnemonics
use Rattle.pcl_lexer.specs.declared.frame.Gap.{Gap}
use Rattle.pcl_lexer.specs.declared.frame.Gap.TheVariants as gaps
use Rattle.pcl_lexer.specs.Frames.Kinds.{kind_of}
use Rattle.pcl_items.specs.Frames.Mnemonics.{capital, mnemonic_at}
use Rattle.pcl_lexer.specs.Escapes.Field.{Field, field_at}
use Rattle.pcl_lexer.specs.Lexing.Contexts.{Numbers, Single, Odd, Even}
use Rattle.pcl_lexer.specs.Frames.Number.{coordinate_of, setting_of, Numeral, Cut, Wrong, Read, numeral_at}
use Rattle.pcl_lexer.specs.Frames.Reader.{language_in, in_command, second_letter, after_letter, after_frame_escape, by_kind, at_frame}
use Rattle.pcl_lexer.specs.Frames.Reader.{single, first_of_pair, second_of_pair, first_number, letters_by, after_letters, further}
use Rattle.pcl_lexer.specs.Frames.Reader.{by_figure, numbers_by, after_numbers}
use Rattle.pcl_lexer.specs.Reader.{First, Open}
use Rattle.pcl_lexer.proofs.PjlLines.Exits.{exit_open}
use Rattle.pcl_lexer.proofs.Frames.Opening.{IsCutNumber, cut_number, language_cut, ended_open, comma_open}

-- where nothing is decided, there are at most 19 bytes
abbrev IsShort : ℕ → First → Type 0
IsShort n f = f ≡ Open → n ≤ 19

cut_short : (bytes : List ℕ) → IsCutNumber bytes → length bytes ≤ 16
cut_short bytes c = omega (arith, c.short, length-drop (field_at bytes).len bytes, ap length c.end)

language_short : (bytes : List ℕ) → language_in bytes ≡ Open → length bytes ≤ 16
language_short bytes e = cut_short bytes (language_cut bytes e)

numeral_short : {A : Type 0} (value : Field → Option A) (bytes : List ℕ) → numeral_at value false bytes ≡ Cut → length bytes ≤ 16
numeral_short value bytes e = cut_short bytes (cut_number value bytes e)

first_number_short : (m : Mnemonic) (n : ℕ) (bytes : List ℕ) → IsShort (length bytes) (first_number false m n bytes)
first_number_short mnemonics.Initialize n bytes = λ e. absurd cc
first_number_short (mnemonics.Sets s) n bytes =
    λ e. omega (arith, numeral_short setting_of bytes (is_cut (numeral_at setting_of false bytes) e))
  where
    is_cut : (r : Numeral ℕ) → single n (λ a. Single s a) r ≡ Open → r ≡ Cut
    is_cut Cut e = refl
    is_cut (Wrong cause) e = absurd cc
    is_cut (Read x len) e = absurd cc
first_number_short (mnemonics.Moves motion) n bytes =
    λ e. omega (arith, numeral_short coordinate_of bytes (is_cut (numeral_at coordinate_of false bytes) e))
  where
    is_cut : (r : Numeral ℤ) → first_of_pair n motion r ≡ Open → r ≡ Cut
    is_cut Cut e = refl
    is_cut (Wrong cause) e = absurd cc
    is_cut (Read x len) e = absurd cc

further_short : (x : Numbers) (bytes : List ℕ) → IsShort (length bytes) (further false x bytes)
further_short (Single s a) bytes = λ e. absurd cc
further_short (Odd motion x) bytes = λ e. omega (arith, numeral_short coordinate_of bytes (is_cut (numeral_at coordinate_of false bytes) e))
  where
    is_cut : (r : Numeral ℤ) → second_of_pair motion x r ≡ Open → r ≡ Cut
    is_cut Cut e = refl
    is_cut (Wrong cause) e = absurd cc
    is_cut (Read y len) e = absurd cc
further_short (Even motion) bytes = λ e. omega (arith, numeral_short coordinate_of bytes (is_cut (numeral_at coordinate_of false bytes) e))
  where
    is_cut : (r : Numeral ℤ) → first_of_pair 0 motion r ≡ Open → r ≡ Cut
    is_cut Cut e = refl
    is_cut (Wrong cause) e = absurd cc
    is_cut (Read y len) e = absurd cc

letters_short : (k : Kind) (m : Mnemonic) (n : ℕ) (bytes : List ℕ) → IsShort (length bytes) (letters_by k false m n bytes)
letters_short kinds.Sign m n bytes = first_number_short m n bytes
letters_short kinds.Figure m n bytes = first_number_short m n bytes
letters_short kinds.White m n bytes = λ e. absurd cc
letters_short kinds.Comma m n bytes = λ e. absurd cc
letters_short kinds.Semicolon m n bytes = λ e. absurd cc
letters_short kinds.Letter m n bytes = λ e. absurd cc
letters_short kinds.Escape m n bytes = λ e. absurd cc
letters_short kinds.Other m n bytes = λ e. absurd cc

figure_short : (x : Numbers) (gap : Gap) (bytes : List ℕ) → IsShort (length bytes) (by_figure false x gap bytes)
figure_short x gaps.Straight bytes = λ e. absurd cc
figure_short x gaps.Spaced bytes = further_short x bytes
figure_short x gaps.Comma bytes = further_short x bytes

numbers_short : (k : Kind) (x : Numbers) (gap : Gap) (n : ℕ) (bytes : List ℕ) → IsShort (length bytes) (numbers_by k false x gap n bytes)
numbers_short kinds.Sign x gap n bytes = further_short x bytes
numbers_short kinds.Figure x gap n bytes = figure_short x gap bytes
numbers_short kinds.White x gap n bytes = λ e. absurd cc
numbers_short kinds.Comma x gap n bytes = λ e. absurd (comma_open x gap n e)
numbers_short kinds.Semicolon x gap n bytes = λ e. absurd (ended_open x gap e)
numbers_short kinds.Letter x gap n bytes = λ e. absurd (ended_open x gap e)
numbers_short kinds.Escape x gap n bytes = λ e. absurd (ended_open x gap e)
numbers_short kinds.Other x gap n bytes = λ e. absurd cc

frame_escape_short : (a : ℕ) (bytes : List ℕ) → IsShort (length (a ∷ bytes)) (after_frame_escape bytes)
frame_escape_short a [] = λ e. omega arith
frame_escape_short a (b ∷ bytes) =
    let n : ℕ = length (a ∷ b ∷ bytes) in
    cond_both (b == 69) _ _ (IsShort n) (λ _ e. absurd cc) (λ _.
    cond_both (b == 37) _ _ (IsShort n)
    (λ _ e. omega (arith, language_short bytes (exit_open (language_in bytes) bytes e))) (λ _ e. absurd cc))

letter_short : (a : ℕ) (bytes : List ℕ) → IsShort (length (a ∷ bytes)) (after_letter a bytes)
letter_short a [] = λ e. omega arith
letter_short a (b ∷ bytes) = λ e. absurd (second_closed (kind_of b) a b e)
  where
    command_closed : (o : Option Mnemonic) (a b : ℕ) → in_command o a b ≡ Open → ⊥
    command_closed None a b e = absurd cc
    command_closed (Some m) a b e = absurd cc

    second_closed : (k : Kind) (a b : ℕ) → second_letter k a b ≡ Open → ⊥
    second_closed kinds.Letter a b e = command_closed (mnemonic_at (capital a) (capital b)) (capital a) (capital b) e
    second_closed kinds.White a b e = absurd cc
    second_closed kinds.Comma a b e = absurd cc
    second_closed kinds.Semicolon a b e = absurd cc
    second_closed kinds.Escape a b e = absurd cc
    second_closed kinds.Sign a b e = absurd cc
    second_closed kinds.Figure a b e = absurd cc
    second_closed kinds.Other a b e = absurd cc

kind_short : (k : Kind) (b : ℕ) (bytes : List ℕ) → IsShort (length (b ∷ bytes)) (by_kind k b bytes)
kind_short kinds.Letter b bytes = letter_short b bytes
kind_short kinds.Escape b bytes = frame_escape_short b bytes
kind_short kinds.White b bytes = λ e. absurd cc
kind_short kinds.Comma b bytes = λ e. absurd cc
kind_short kinds.Semicolon b bytes = λ e. absurd cc
kind_short kinds.Sign b bytes = λ e. absurd cc
kind_short kinds.Figure b bytes = λ e. absurd cc
kind_short kinds.Other b bytes = λ e. absurd cc

pub frame_waits : (bytes : List ℕ) → at_frame bytes ≡ Open → length bytes ≤ 19
unfolding at_frame
frame_waits [] = λ e. omega arith
frame_waits (b ∷ bytes) = kind_short (kind_of b) b bytes

pub letters_wait : (m : Mnemonic) (n : ℕ) (bytes : List ℕ) → after_letters false m n bytes ≡ Open → length bytes ≤ 19
unfolding after_letters
letters_wait m n [] = λ e. omega arith
letters_wait m n (b ∷ bytes) = letters_short (kind_of b) m n (b ∷ bytes)

pub numbers_wait : (x : Numbers) (gap : Gap) (n : ℕ) (bytes : List ℕ) → after_numbers false x gap n bytes ≡ Open → length bytes ≤ 19
unfolding after_numbers
numbers_wait x gap n [] = λ e. omega arith
numbers_wait x gap n (b ∷ bytes) = numbers_short (kind_of b) x gap n (b ∷ bytes)
