use Rattle.std.proofs.Common.{sym}
use Rattle.device_profile.proofs.SamePages.{pages_decide}
use Rattle.device_profile.proofs.likeness.are_same_pages.Goals as goal

pub returns : goal.returns
returns c = λ h. sym ((pages_decide c.args.a.now c.args.b.now c.eq.result c.eq.ensures).0 h)
