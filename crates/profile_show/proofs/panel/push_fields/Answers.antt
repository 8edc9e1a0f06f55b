use Rattle.std.proofs.Common.{◌++◌, ◌∙◌, ap, flat_map}
use Rattle.std.proofs.lemmas.List.{take_all}
use Rattle.shown_bytes.proofs.Further.{further}
use Rattle.profile_show.specs.Panel.{field_lines}
use Rattle.profile_show.proofs.panel.push_fields.Goals as goal

pub loop-field-preserved : goal.loop-field-preserved
loop-field-preserved g c =
    further (field_lines c.args.profile.now) c.args.fields.now c.loop-field.field-index _
    c.args.text.now.items c.loop-field.text.items c.push_field.new.text.items
    c.loop-field-test.true c.loop-field.invariant c.in_ok-push_field.ensures

pub returns : goal.returns
returns g c =
    let part = field_lines c.args.profile.now in
    c.loop-field.invariant
    ∙ ap (λ fields. c.args.text.now.items ++ flat_map part fields) (take_all _ _ c.loop-field-test.false)
