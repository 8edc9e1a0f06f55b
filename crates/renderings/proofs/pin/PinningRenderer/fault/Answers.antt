use Rattle.std.proofs.Common.{refl, sym, [], append-nil}
use Rattle.pcl_lexer.specs.Reading.{Stopped}
use Rattle.renderings.specs.Pins.{pins_from}
use Rattle.renderings.proofs.Renderings.{last_told}
use Rattle.renderings.proofs.pin.PinningRenderer.fault.Goals as goal

pub returns-clause-rendered : goal.returns-clause-rendered
returns-clause-rendered g c =
    let pinning = c.args.self.now in
    let kept = c.args._kept.now.items in
    last_told (pins_from pinning.settings.panel pinning.settings.request pinning.is_due) (Stopped [] c.args.fault.place c.args.fault.cause)
    (g.W.Outlet.state c.args._outlet.now) kept kept [] c.of_fault.result (sym (append-nil kept)) refl (sym c.of_fault.ensures)
