use Rattle.std.proofs.Common.{sym, ◌∙◌}
use Rattle.device_profile.proofs.SameRanges.{ranges_decide}
use Rattle.device_profile.proofs.font.are_same_ranges.Goals as goal

pub returns : goal.returns
returns c =
    let same = ranges_decide c.args.a.now c.args.b.now in
    (λ h. same.0 (sym c.eq.ensures ∙ h), λ e. c.eq.ensures ∙ same.1 e)
