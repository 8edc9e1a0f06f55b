use Rattle.renderings.proofs.PinSettings.{sendable}
use Rattle.renderings.proofs.pin.Settings.symbol_set.Goals as goal

pub invariant_of-letter : goal.invariant_of-letter
invariant_of-letter c = record { known = (sendable c.args.self.now.request c.args.self.now.set.1).letter }
