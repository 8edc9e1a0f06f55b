use Rattle.std.proofs.Common.{◌≡◌, true, false, sym, ◌∙◌}
use Rattle.preflight.proofs.alike.leaves_store.Goals as goal

pub returns-then-is_reset : goal.returns-then-is_reset
returns-then-is_reset g c = λ yes resets. c.knows_no_macro.ensures yes

pub returns : goal.returns
returns g c = λ _ resets. let both : true ≡ false = sym resets ∙ (sym c.is_reset.ensures ∙ c.if-is_reset.false) in absurd cc
