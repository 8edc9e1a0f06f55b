use Rattle.std.proofs.Common.{Option, ap, ◌∙◌, ◌++◌}
use Rattle.std.specs.Option.{option_to_list}
use Rattle.pjl_answer.specs.declared.warning.Warning.{Warning}
use Rattle.pjl_answer.specs.Warning.{field_warning}
use Rattle.pjl_answer.proofs.Further.{further}
use Rattle.pjl_answer.proofs.warning.push_field_warnings.Goals as goal

pub loop-field-preserved : goal.loop-field-preserved
loop-field-preserved g c =
    further (field_warning c.args.base.now c.args.answer.now) c.args.fields.now c.loop-field.field-index _ c.args.all.now.items
    c.loop-field.all.items c.push_some.new.all.items
    c.loop-field-test.true c.loop-field.invariant
    (c.in_ok-push_some.ensures ∙ ap (λ (given : Option Warning). c.loop-field.all.items ++ option_to_list given) c.field_warning.ensures)
