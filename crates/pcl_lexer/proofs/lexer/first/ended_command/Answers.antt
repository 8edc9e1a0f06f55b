use Rattle.std.proofs.Common.{◌≡◌, ℕ, ◌+◌, ◌-◌, ◌≤◌, List, drop, Some, sym, ◌∙◌, arith}
use Rattle.std.proofs.lemmas.Bool.{cond-true, cond-false}
use Rattle.pcl_items.specs.declared.pcl.command.Group.{Group}
use Rattle.pcl_items.specs.declared.fault.LexCause.TheVariants.{Syntax}
use Rattle.pcl_items.specs.Escapes.Commands.{data_command_at}
use Rattle.pcl_items.specs.Escapes.Value.{Amount}
use Rattle.pcl_items.specs.Items.{amount}
use Rattle.pcl_lexer.specs.Reader.{Faulty, is_group_or_parameter, is_termination, by_last_letter, by_other_letter, by_last_byte}
use Rattle.pcl_lexer.proofs.Escapes.FieldEnds.{in_range, not_in_range}
use Rattle.pcl_lexer.proofs.lexer.first.ended_command.Goals as goal

parameter : (g : Group) (a : Amount) (n b : ℕ) (rest : List ℕ) → 96 ≤ b → b ≤ 126 →
    by_last_byte (Some a) g n b rest ≡ by_other_letter (data_command_at g (b - 32)) g (b - 32) a (n + 1)
parameter g a n b rest low high = cond-true (is_group_or_parameter b) _ _ (in_range 96 126 b low high)

termination : (g : Group) (a : Amount) (n b : ℕ) (rest : List ℕ) → 64 ≤ b → b ≤ 94 →
    by_last_byte (Some a) g n b rest ≡ by_last_letter (data_command_at g b) g b a (n + 1) rest
termination g a n b rest low high =
    cond-false (is_group_or_parameter b) _ _ (not_in_range 96 126 b (λ (p : 96 ≤ b) (q : b ≤ 126). omega arith))
    ∙ cond-true (is_termination b) _ _ (in_range 64 94 b low high)

neither : (g : Group) (a : Amount) (n b : ℕ) (rest : List ℕ) → (96 ≤ b → b ≤ 126 → ⊥) → (64 ≤ b → b ≤ 94 → ⊥) →
    by_last_byte (Some a) g n b rest ≡ Faulty Syntax
neither g a n b rest no_parameter no_termination =
    cond-false (is_group_or_parameter b) _ _ (not_in_range 96 126 b no_parameter)
    ∙ cond-false (is_termination b) _ _ (not_in_range 64 94 b no_termination)

pub returns-in-96-to-126-clause-first : goal.returns-in-96-to-126-clause-first
returns-in-96-to-126-clause-first c =
    let field = c.args.field in
    c.other_command.ensures.first c.args.bytes.now
    ∙ sym
    (parameter c.args.group (amount field.number) field.len field.last (drop (field.len + 1) c.args.bytes.now) (omega arith) (omega arith))

pub returns-in-64-to-94-clause-first : goal.returns-in-64-to-94-clause-first
returns-in-64-to-94-clause-first c =
    let field = c.args.field in
    c.last_command.ensures.first
    ∙ sym (termination c.args.group (amount field.number) field.len field.last (drop (field.len + 1) c.args.bytes.now)
    (omega arith) (omega arith))
