use Rattle.std.specs.Prelude.{IfSome}
use Rattle.std.proofs.Common.{subst}
use Rattle.pcl_items.specs.Items.{amount}
use Rattle.page_machine.specs.Forms.{FormsOn, RunsForm}
use Rattle.page_machine.specs.MachineState.{MachineState}
use Rattle.page_machine.proofs.FormItems.{forms_run}
use Rattle.page_machine.proofs.machine.Machine.form_on.Goals as goal

pub returns-clause-formed : goal.returns-clause-formed
returns-clause-formed g c =
    let n = amount c.args.n in
    let fields : MachineState = record {
      printer = c.self.inside.profile.now;
      defaults = c.self.inside.defaults;
      page = c.self.inside.page;
      macros = c.self.inside.macros;
      mode = c.self.inside.mode;
      stopped = c.self.inside.stopped;
    } in
    subst
    (λ machine.
    IfSome c.form_on.result
    (λ marks. FormsOn c.args.bounds.now machine →
    RunsForm c.args.command n marks machine (record fields { page = c.form_on.new.page })))
    c.self.view_is
    (forms_run c.args.bounds.now fields c.args.command n c.form_on.new.page c.form_on.result c.form_on.ensures.goes)
