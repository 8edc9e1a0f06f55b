use Rattle.std.proofs.Common.{sym, ◌∙◌}
use Rattle.device_profile.proofs.SameRequests.{request_decides}
use Rattle.comparison.proofs.changes.is_equal_request.Goals as goal

pub returns : goal.returns
returns c =
    let same = request_decides c.args.one.now c.args.other.now in
    (λ h. same.0 (sym c.is_same_request.ensures ∙ h), λ e. c.is_same_request.ensures ∙ same.1 e)
