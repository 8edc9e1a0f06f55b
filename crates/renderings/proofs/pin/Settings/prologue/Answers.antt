use Rattle.renderings.proofs.PinSettings.{sendable}
use Rattle.renderings.proofs.pin.Settings.prologue.Goals as goal

pub sent-requires-11 : goal.sent-requires-11
sent-requires-11 c = (sendable c.args.self.now.request c.args.self.now.set.1).typeface
