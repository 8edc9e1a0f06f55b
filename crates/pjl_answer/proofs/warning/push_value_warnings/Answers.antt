use Rattle.std.proofs.Common.{Option, ap, ◌∙◌, ◌++◌}
use Rattle.std.specs.Option.{option_to_list}
use Rattle.pjl_answer.specs.declared.warning.Warning.{Warning}
use Rattle.pjl_answer.specs.Warning.{value_warning}
use Rattle.pjl_answer.proofs.Further.{further}
use Rattle.pjl_answer.proofs.warning.push_value_warnings.Goals as goal

pub loop-variable-preserved : goal.loop-variable-preserved
loop-variable-preserved g c =
    further (value_warning c.args.answer.now) c.args.variables.now c.loop-variable.variable-index _ c.args.all.now.items
    c.loop-variable.all.items c.push_some.new.all.items
    c.loop-variable-test.true c.loop-variable.invariant
    (c.in_ok-push_some.ensures ∙ ap (λ (given : Option Warning). c.loop-variable.all.items ++ option_to_list given) c.value_warning.ensures)
