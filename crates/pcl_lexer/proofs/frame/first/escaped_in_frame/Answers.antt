use Rattle.std.proofs.Common.{◌≡◌, ℕ, ◌-◌, ◌≤◌, List, [], ◌∷◌, length, get_or, take, drop, sym, ap, ◌∙◌, arith}
use Rattle.std.specs.Prelude.{◌==◌}
use Rattle.std.proofs.lemmas.Bool.{cond-true, cond-false, eqb-true}
use Rattle.std.proofs.lemmas.List.{take_all}
use Rattle.pcl_items.specs.declared.fault.Name.TheVariants as names
use Rattle.pcl_items.specs.declared.fault.LexCause.TheVariants.{NotInProfile}
use Rattle.pcl_lexer.specs.Lexing.Contexts.{Pcl}
use Rattle.pcl_items.specs.Items.{Reset}
use Rattle.pcl_items.specs.PjlLines.Exit.{exit_field, begins_with}
use Rattle.pcl_lexer.specs.Lexing.Firsts.{Begins, Faulty, exit_or}
use Rattle.pcl_lexer.specs.Frames.Reader.{language_in, after_frame_escape}
use Rattle.pcl_lexer.proofs.Escapes.Tables.{by_test}
use Rattle.pcl_lexer.proofs.frame.first.escaped_in_frame.Goals as goal

resets : (bytes : List ℕ) → 1 ≤ length bytes → get_or bytes 0 0 ≡ 69 → Begins Reset 2 Pcl ≡ after_frame_escape bytes
resets [] one e = absurd (omega (arith, one))
resets (b ∷ bytes) one e = sym (cond-true (b == 69) _ _ (ap (λ x. x == 69) e))

-- ESC and `%`
goes_on : (bytes : List ℕ) → 1 ≤ length bytes → get_or bytes 0 0 ≡ 37 →
    exit_or (language_in (take (length bytes - 1) (drop 1 bytes))) (take (length bytes - 1) (drop 1 bytes)) ≡ after_frame_escape bytes
goes_on [] one e = absurd (omega (arith, one))
goes_on (b ∷ bytes) one e =
    let count : length (b ∷ bytes) - 1 ≡ length bytes = omega arith in
    let all : take (length (b ∷ bytes) - 1) bytes ≡ bytes = ap (λ n. take n bytes) count ∙ take_all (length bytes) bytes (omega arith) in
    ap (λ l. exit_or (language_in l) l) all
    ∙ sym (cond-false (b == 69) _ _ (ap (λ x. x == 69) e) ∙ cond-true (b == 37) _ _ (ap (λ x. x == 37) e))

other : (bytes : List ℕ) → 1 ≤ length bytes → (get_or bytes 0 0 ≡ 69 → ⊥) → (get_or bytes 0 0 ≡ 37 → ⊥) →
    Faulty (NotInProfile (names.Byte (get_or bytes 0 0))) ≡ after_frame_escape bytes
other [] one no_reset no_language = absurd (omega (arith, one))
other (b ∷ bytes) one no_reset no_language =
    sym
    (cond-false (b == 69) _ _ (by_test (b == 69) (λ e. no_reset (eqb-true b 69 e)))
    ∙ cond-false (b == 37) _ _ (by_test (b == 37) (λ e. no_language (eqb-true b 37 e))))

pub returns-in-69-clause-first : goal.returns-in-69-clause-first
returns-in-69-clause-first c = λ all. resets c.args.bytes.now c.in-69.len_at_least (omega arith)

pub returns-in-37-clause-first : goal.returns-in-37-clause-first
returns-in-37-clause-first c = λ all.
    let bytes : List ℕ = c.args.bytes.now in
    let rest : List ℕ = take (length bytes - 1) (drop 1 bytes) in
    sym (cond-true (begins_with exit_field rest) _ (language_in rest) (sym c.if-begins_exit.ensures))
    ∙ goes_on bytes c.in-37.len_at_least (omega arith)

pub returns-in-37-2-clause-first : goal.returns-in-37-2-clause-first
returns-in-37-2-clause-first c = λ all.
    let bytes : List ℕ = c.args.bytes.now in
    let rest : List ℕ = take (length bytes - 1) (drop 1 bytes) in
    c.language.ensures.first all
    ∙ sym (cond-false (begins_with exit_field rest) _ (language_in rest) (sym c.if-begins_exit.ensures))
    ∙ goes_on bytes c.in-37.len_at_least (omega arith)

pub returns-in-len1-up-clause-first : goal.returns-in-len1-up-clause-first
returns-in-len1-up-clause-first c = λ all.
    let bytes : List ℕ = c.args.bytes.now in
    other bytes c.in-len1-up.len_at_least (λ (e : get_or bytes 0 0 ≡ 69). omega arith) (λ (e : get_or bytes 0 0 ≡ 37). omega arith)
