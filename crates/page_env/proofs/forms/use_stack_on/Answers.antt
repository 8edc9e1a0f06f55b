use Rattle.std.proofs.Common.{sym, ap, ◌∙◌}
use Rattle.std.specs.Prelude.{◌==◌}
use Rattle.std.proofs.lemmas.Bool.{ne_eqb}
use Rattle.page_env.proofs.forms.use_stack_on.Goals as goal

pub push_on-requires-clause-whole : goal.push_on-requires-clause-whole
push_on-requires-clause-whole c = sym c.is_whole_between.ensures ∙ c.if-not-is_whole_between.false

pub push_on-requires-clause-push : goal.push_on-requires-clause-push
push_on-requires-clause-push c = sym c.whole_of.ensures ∙ c.if-whole_of-eq0.true

pub pop_on-requires-clause-whole : goal.pop_on-requires-clause-whole
pop_on-requires-clause-whole c = sym c.is_whole_between.ensures ∙ c.if-not-is_whole_between.false

pub pop_on-requires-clause-pop : goal.pop_on-requires-clause-pop
pop_on-requires-clause-pop c = ap (λ whole. whole == 0) (sym c.whole_of.ensures) ∙ ne_eqb c.whole_of.result 0 c.if-whole_of-eq0.false
