use Rattle.std.proofs.Common.{subst}
use Rattle.page_machine.specs.Forms.{FormsOn, RunsFeed}
use Rattle.page_machine.specs.MachineState.{MachineState}
use Rattle.page_machine.proofs.FormItems.{feed_runs}
use Rattle.page_machine.proofs.machine.Machine.feed_half_line_on.Goals as goal

pub returns-clause-fed : goal.returns-clause-fed
returns-clause-fed g c =
    let fields : MachineState = record {
      printer = c.self.inside.profile.now;
      defaults = c.self.inside.defaults;
      page = c.self.inside.page;
      macros = c.self.inside.macros;
      mode = c.self.inside.mode;
      stopped = c.self.inside.stopped;
    } in
    λ yes. subst
    (λ machine. FormsOn c.args.bounds.now machine → RunsFeed machine (record fields { page = c.feed_half_line_on.new.page }))
    c.self.view_is
    (feed_runs c.args.bounds.now fields c.feed_half_line_on.new.page (c.feed_half_line_on.ensures.goes yes))
