use Rattle.renderings.proofs.PinSettings.{pushed}
use Rattle.renderings.proofs.pin.Pinning.push.Goals as goal

pub returns : goal.returns
returns g c =
    pushed c.push_behind.result c.args.text.now.items _ _ _ _ _ c.push_behind.new.text.items c.in_ok-push_before.ensures
    c.in_ok-spell.ensures.ok c.push_behind.ensures
