use Rattle.std.proofs.Common.{◌≡◌, ℕ, List, ◌∷◌, refl, sym, ap, subst, ◌∙◌, inl, inr}
use Rattle.std.specs.Prelude.{◌⊎◌}
use Rattle.std.proofs.lemmas.Bool.{cond-true, cond-false}
use Rattle.pcl_items.specs.Escapes.Codes.{sequence_at}
use Rattle.pcl_items.specs.PjlLines.Exit.{exit_field, begins_with}
use Rattle.pcl_lexer.specs.Lexing.FirstView.{first_view}
use Rattle.pcl_lexer.specs.Reader.{without_group, after_introducer, by_character, after_escape}
use Rattle.pcl_lexer.proofs.lexer.first.escaped.Goals as goal

behind : (bytes rest : List ℕ) (b : ℕ) → bytes ≡ b ∷ rest → by_character (sequence_at b) b rest ≡ after_escape bytes
unfolding after_escape
behind bytes rest b e = sym (ap after_escape e)

introduces : (b : ℕ) (rest : List ℕ) → (b ≡ 38) ⊎ (b ≡ 42) → after_introducer b rest ≡ by_character (sequence_at b) b rest
introduces b rest (inl e) = subst (λ (n : ℕ). after_introducer n rest ≡ by_character (sequence_at n) n rest) (sym e) refl
introduces b rest (inr e) = subst (λ (n : ℕ). after_introducer n rest ≡ by_character (sequence_at n) n rest) (sym e) refl

pub returns-in-38-clause-first : goal.returns-in-38-clause-first
returns-in-38-clause-first c =
    let rest : List ℕ = c.in-Some.rest.now in
    let whole = c.in-Some.ensures.cases.0 in
    ap (λ l. first_view (27 ∷ l) c.introduced.result) whole
    ∙ c.introduced.ensures.first
    ∙ introduces c.in-Some.byte.now rest c.in-38.is
    ∙ behind c.args.bytes.now rest c.in-Some.byte.now whole

pub returns-in-40-clause-first : goal.returns-in-40-clause-first
returns-in-40-clause-first c =
    let rest : List ℕ = c.in-Some.rest.now in
    let whole : c.args.bytes.now ≡ 40 ∷ rest = c.in-Some.ensures.cases.0 ∙ ap (λ b. b ∷ rest) c.in-40.is in
    ap (λ l. first_view (27 ∷ l) c.parenthesized.result) whole ∙ c.parenthesized.ensures.first ∙ behind c.args.bytes.now rest 40 whole

pub returns-in-37-clause-first : goal.returns-in-37-clause-first
returns-in-37-clause-first c =
    let rest : List ℕ = c.in-Some.rest.now in
    let whole : c.args.bytes.now ≡ 37 ∷ rest = c.in-Some.ensures.cases.0 ∙ ap (λ b. b ∷ rest) c.in-37.is in
    sym (cond-true (begins_with exit_field rest) _ (without_group 37 rest) (sym c.if-begins_exit.ensures))
    ∙ behind c.args.bytes.now rest 37 whole

pub returns-in-37-2-clause-first : goal.returns-in-37-2-clause-first
returns-in-37-2-clause-first c =
    let rest : List ℕ = c.in-Some.rest.now in
    let whole : c.args.bytes.now ≡ 37 ∷ rest = c.in-Some.ensures.cases.0 ∙ ap (λ b. b ∷ rest) c.in-37.is in
    c.ungrouped.ensures.first (27 ∷ c.args.bytes.now)
    ∙ sym (cond-false (begins_with exit_field rest) _ (without_group 37 rest) (sym c.if-begins_exit.ensures))
    ∙ behind c.args.bytes.now rest 37 whole

pub returns-in-Some-sequence_at-clause-first : goal.returns-in-Some-sequence_at-clause-first
returns-in-Some-sequence_at-clause-first c =
    let rest : List ℕ = c.in-Some.rest.now in
    ap (λ o. by_character o c.in-Some.byte.now rest) c.in-Some-sequence_at.ensures
    ∙ behind c.args.bytes.now rest c.in-Some.byte.now c.in-Some.ensures.cases.0
