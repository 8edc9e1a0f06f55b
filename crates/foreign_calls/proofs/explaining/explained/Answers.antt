use Rattle.std.proofs.Common.{◌≡◌, ◌==◌, ◌∷◌, [], IfErr, IfOk, List, Option, Some, false, length, map, subst, sym, ℕ, ◌∙◌}
use Rattle.std.proofs.lemmas.Bool.{false≢true}
use Rattle.command_names.specs.CommandNames.{table}
use Rattle.meanings.specs.declared.explanations.TheConstants.{EXPLANATIONS}
use Rattle.foreign_calls.specs.Explained.{IsExplained, IsUnheard, code_asked}
use Rattle.foreign_calls.proofs.explaining.explained.Goals as goal

-- a code that has bytes is the word that they are
by_word : (P : Option (List ℕ) → Type 0) (word code : List ℕ) → word ≡ code → (length code == 0) ≡ false → P (Some word)
    → P (code_asked code)
by_word P word [] same some told = absurd (false≢true (sym some))
by_word P word (byte ∷ bytes) same some told = subst (λ (code : List ℕ). P (Some code)) same told

pub returns-in-Ok-clause-explained : goal.returns-in-Ok-clause-explained
returns-in-Ok-clause-explained g c =
    by_word (λ code. IfOk c.explained_of-in-Ok.result (IsExplained (map (λ text. text.now) EXPLANATIONS) table code))
    c.in-Ok.word.now c.args.code.now c.in-Ok.ensures.cases.0 (sym c.is_empty.ensures ∙ c.if-is_empty.false)
    c.explained_of-in-Ok.ensures.explained

pub returns-in-Ok-clause-why : goal.returns-in-Ok-clause-why
returns-in-Ok-clause-why g c =
    by_word (λ code. IfErr c.explained_of-in-Ok.result (IsUnheard (map (λ text. text.now) EXPLANATIONS) table code))
    c.in-Ok.word.now c.args.code.now c.in-Ok.ensures.cases.0 (sym c.is_empty.ensures ∙ c.if-is_empty.false)
    c.explained_of-in-Ok.ensures.why
