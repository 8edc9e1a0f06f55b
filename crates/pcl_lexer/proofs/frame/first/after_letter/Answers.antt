use Rattle.std.proofs.Common.{◌≡◌, ℕ, List, [], ◌∷◌, true, false, not, Option, None, Some, refl, sym, ap, ◌∙◌, slice_get}
use denote.Enum.Bare.{sameb}
use Rattle.pcl_lexer.specs.contracts.frame.Kind.{the_type}
use Rattle.pcl_lexer.specs.declared.frame.Kind.{Kind}
use Rattle.pcl_lexer.specs.declared.frame.Kind.TheVariants as kinds
use Rattle.pcl_items.specs.declared.frame.Mnemonic.{Mnemonic}
use Rattle.pcl_items.specs.declared.fault.LexCause.TheVariants.{Syntax}
use Rattle.pcl_lexer.specs.Frames.Kinds.{kind_of}
use Rattle.pcl_items.specs.Frames.Mnemonics.{capital, mnemonic_at}
use Rattle.pcl_lexer.specs.Lexing.Firsts.{Open, Faulty}
use Rattle.pcl_lexer.specs.Frames.Reader.{in_command, second_letter, after_letter}
use Rattle.pcl_lexer.proofs.frame.first.after_letter.Goals as goal

none_follows : (a : ℕ) (bytes : List ℕ) → None ≡ slice_get bytes 0 → Open ≡ after_letter a bytes
none_follows a [] e = refl
none_follows a (b ∷ bytes) e = absurd cc

follows : (a b : ℕ) (bytes : List ℕ) (kind : Kind) → Some b ≡ slice_get bytes 0 → kind ≡ kind_of b →
    second_letter kind a b ≡ after_letter a bytes
follows a b [] kind e k = absurd cc
follows a b (first ∷ bytes) kind e k =
    let same : b ≡ first = cc in
    ap (λ x. second_letter x a b) k ∙ ap (λ x. second_letter (kind_of x) a x) same

is_letter : (kind : Kind) → false ≡ not (sameb the_type kind kinds.Letter) → kind ≡ kinds.Letter
is_letter kinds.Letter e = refl
is_letter kinds.White e = absurd cc
is_letter kinds.Comma e = absurd cc
is_letter kinds.Semicolon e = absurd cc
is_letter kinds.Escape e = absurd cc
is_letter kinds.Sign e = absurd cc
is_letter kinds.Figure e = absurd cc
is_letter kinds.Other e = absurd cc

no_letter : (kind : Kind) (a b : ℕ) → true ≡ not (sameb the_type kind kinds.Letter) → Faulty Syntax ≡ second_letter kind a b
no_letter kinds.Letter a b e = absurd cc
no_letter _ a b e = refl

-- the command of two letters, or none
named : (a b : ℕ) (kind : Kind) (upper_a upper_b : ℕ) (found : Option Mnemonic) →
    false ≡ not (sameb the_type kind kinds.Letter) → upper_a ≡ capital a → upper_b ≡ capital b → found ≡ mnemonic_at upper_a upper_b →
    in_command found upper_a upper_b ≡ second_letter kind a b
named a b kind upper_a upper_b found letter p q e =
    ap (λ o. in_command o upper_a upper_b) e
    ∙ ap (λ x. in_command (mnemonic_at x upper_b) x upper_b) p
    ∙ ap (λ x. in_command (mnemonic_at (capital a) x) (capital a) x) q
    ∙ ap (λ x. second_letter x a b) (sym (is_letter kind letter))

pub returns-in_default-clause-first : goal.returns-in_default-clause-first
returns-in_default-clause-first c = λ all. none_follows c.args.first c.args.bytes.now c.in_default.ensures.value

pub returns-then-ne-clause-first : goal.returns-then-ne-clause-first
returns-then-ne-clause-first c = λ all.
    no_letter c.of.result c.args.first c.in-Some.second.now c.if-ne.ensures
    ∙ follows c.args.first c.in-Some.second.now c.args.bytes.now c.of.result c.in-Some.ensures.value c.of.ensures

pub returns-in-Some-of-clause-first : goal.returns-in-Some-of-clause-first
returns-in-Some-of-clause-first c = λ all.
    named c.args.first c.in-Some.second.now c.of.result c.capital-a.result c.capital-b.result
    (Some c.in-Some-of.mnemonic) c.if-ne.ensures c.capital-a.ensures c.capital-b.ensures c.in-Some-of.ensures
    ∙ follows c.args.first c.in-Some.second.now c.args.bytes.now c.of.result c.in-Some.ensures.value c.of.ensures

pub returns-in-None-clause-first : goal.returns-in-None-clause-first
returns-in-None-clause-first c = λ all.
    named c.args.first c.in-Some.second.now c.of.result c.capital-a.result c.capital-b.result None c.if-ne.ensures c.capital-a.ensures
    c.capital-b.ensures c.in-None.ensures
    ∙ follows c.args.first c.in-Some.second.now c.args.bytes.now c.of.result c.in-Some.ensures.value c.of.ensures
