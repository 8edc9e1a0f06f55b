use Rattle.std.specs.Prelude.{IfSome}
use Rattle.std.proofs.Common.{subst}
use Rattle.pcl_items.specs.Items.{pair}
use Rattle.page_machine.specs.MachineState.{MachineState}
use Rattle.page_machine.specs.PenLines.{DrawsIn, MovesPen}
use Rattle.page_machine.proofs.PairItems.{pens_move}
use Rattle.page_machine.proofs.machine.Machine.draw_on.Goals as goal

pub returns-clause-drawn : goal.returns-clause-drawn
returns-clause-drawn g c =
    let to = pair c.args.to in
    let fields : MachineState = record {
      printer = c.self.inside.profile.now;
      defaults = c.self.inside.defaults;
      page = c.self.inside.page;
      macros = c.self.inside.macros;
      mode = c.self.inside.mode;
      stopped = c.self.inside.stopped;
    } in
    subst
    (λ machine.
    IfSome c.draw_on.result
    (λ marks. DrawsIn c.args.bounds.now machine →
    MovesPen c.args.bounds.now c.args.motion to marks machine (record fields { page = c.draw_on.new.page })))
    c.self.view_is
    (pens_move c.args.bounds.now fields c.args.motion to c.draw_on.new.page c.draw_on.result c.draw_on.ensures.drawn)
