use Rattle.std.proofs.Common.{◌≡◌, rules}
use Rattle.std.specs.Prelude.{unsigned_abs}
use Rattle.renderings.proofs.PinSettings.{sendable}
use Rattle.renderings.proofs.pin.Settings.weight.Goals as goal

pub invariant_of-number : goal.invariant_of-number
invariant_of-number c =
    let magnitude : c.unsigned_abs.result ≡ unsigned_abs c.args.self.now.request.weight = search rules in
    record { within = rw magnitude ((sendable c.args.self.now.request c.args.self.now.set.1).weight) }
