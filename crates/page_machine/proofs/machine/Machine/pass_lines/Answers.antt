use Rattle.std.proofs.Common.{◌≡◌, None, subst, sym}
use Rattle.page_env.specs.TextLines.{GoAs}
use Rattle.page_machine.specs.MachineState.{MachineState}
use Rattle.page_machine.specs.TextLines.{PrintsLines}
use Rattle.page_machine.proofs.TextItems.{prints_lines}
use Rattle.page_machine.proofs.machine.Machine.pass_lines.Goals as goal

pub returns : goal.returns
returns g c = λ look from bytes none h.
    let fields : MachineState = record {
      printer = c.self.inside.profile.now;
      defaults = c.self.inside.defaults;
      page = c.self.inside.page;
      macros = c.self.inside.macros;
      mode = c.self.inside.mode;
      stopped = c.self.inside.stopped;
    } in
    let goes : GoAs fields.printer fields.page look from bytes c.args.lines.now =
    subst (λ m. GoAs m.printer m.page look from bytes c.args.lines.now) (sym c.self.view_is) h in
    let closed : fields.macros.definition ≡ None = subst (λ m. m.macros.definition ≡ None) (sym c.self.view_is) none in
    subst (λ m. PrintsLines look from bytes m (record fields { page = c.pass_lines.new.page })) c.self.view_is
    (subst (λ p. PrintsLines look from bytes fields (record fields { page = p }))
    (sym (c.pass_lines.ensures fields.printer look from bytes goes)) (prints_lines bytes look from fields closed goes.go))
