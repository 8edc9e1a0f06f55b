use Rattle.std.proofs.Common.{◌++◌, ◌∙◌, ap, flat_map}
use Rattle.std.proofs.lemmas.List.{take_all}
use Rattle.shown_bytes.proofs.Further.{further}
use Rattle.profile_show.specs.Panel.{other_words}
use Rattle.profile_show.proofs.panel.push_others.Goals as goal

pub loop-value-preserved : goal.loop-value-preserved
loop-value-preserved g c =
    further (other_words c.args.profile.now.faces c.args.field) c.args.values.now c.loop-value.value-index _
    c.args.text.now.items c.loop-value.text.items c.push_other.new.text.items
    c.loop-value-test.true c.loop-value.invariant c.in_ok-push_other.ensures

pub returns : goal.returns
returns g c =
    let part = other_words c.args.profile.now.faces c.args.field in
    c.loop-value.invariant
    ∙ ap (λ values. c.args.text.now.items ++ flat_map part values) (take_all _ _ c.loop-value-test.false)
