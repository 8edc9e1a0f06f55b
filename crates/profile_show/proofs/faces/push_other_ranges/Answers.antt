use Rattle.std.proofs.Common.{◌++◌, ◌∙◌, ap, flat_map}
use Rattle.std.proofs.lemmas.List.{take_all}
use Rattle.shown_bytes.proofs.Further.{further}
use Rattle.profile_show.specs.Faces.{other_range}
use Rattle.profile_show.proofs.faces.push_other_ranges.Goals as goal

pub loop-range-preserved : goal.loop-range-preserved
loop-range-preserved g c =
    further other_range c.args.ranges.now c.loop-range.range-index _
    c.args.text.now.items c.loop-range.text.items c.push_other_range.new.text.items
    c.loop-range-test.true c.loop-range.invariant c.in_ok-push_other_range.ensures

pub returns : goal.returns
returns g c =
    c.loop-range.invariant ∙ ap (λ ranges. c.args.text.now.items ++ flat_map other_range ranges) (take_all _ _ c.loop-range-test.false)
