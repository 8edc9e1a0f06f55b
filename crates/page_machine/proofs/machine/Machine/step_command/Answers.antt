use Rattle.std.proofs.Common.{◌≡◌, Some, unwrap_or, true, false, refl, sym, ap, ◌∙◌, subst}
use Rattle.std.specs.Option.{IsSome}
use Rattle.device_profile.specs.declared.panel.Panel.{Panel}
use Rattle.page_env.specs.Rasters.{begun_by}
use Rattle.page_env.specs.Settings.{state_at}
use Rattle.pcl_items.specs.declared.item.Mode.TheVariants.{Pcl}
use Rattle.pcl_items.specs.Modes.{follows}
use Rattle.pcl_items.specs.Items.{Entry, Parameterized, amount}
use Rattle.page_machine.specs.MachineState.{MachineState}
use Rattle.page_machine.specs.Macros.{in_job}
use Rattle.page_machine.specs.Machine.{CarriesOn, context_of, item_of}
use Rattle.page_machine.specs.Defining.{is_defining}
use Rattle.page_machine.specs.Still.{is_one_step}
use Rattle.page_machine.proofs.Answering.{alone, item-is_alone, Carries-is, Carries-done, Carries-halted, CarriesOn-done, CarriesOn-stopped}
use Rattle.page_machine.proofs.AtOnce.{begins_again, item-has_begun, CarriesOn-begun}
use Rattle.page_machine.proofs.Modes.{command_leaves}
use Rattle.page_machine.proofs.Still.{halt_stays, page_steps}
use Rattle.page_machine.proofs.machine.Machine.step_command.Goals as goal

pub store_command-requires-clause-admitted : goal.store_command-requires-clause-admitted
store_command-requires-clause-admitted g c =
    subst (λ machine. follows machine.mode (Parameterized c.args.command (amount c.args.n)) ≡ Some Pcl) c.self.view_is
    (command_leaves c.self.inside.mode c.args.command (amount c.args.n)
    (subst (λ machine. machine.stopped ≡ false → IsSome (follows machine.mode (Parameterized c.args.command (amount c.args.n))))
    (sym c.self.view_is) c.requires c.if-self.false))

pub returns-then-is_open : goal.returns-then-is_open
returns-then-is_open g c = c.store_command.ensures c.args.sink.now

pub returns-in-Ended-Ok : goal.returns-in-Ended-Ok
returns-in-Ended-Ok g c =
    let item : Entry = Parameterized c.args.command (amount c.args.n) in
    let fields : MachineState = record {
      printer = c.self.inside.profile.now;
      defaults = c.self.inside.defaults;
      page = c.self.inside.page;
      macros = c.self.inside.macros;
      mode = c.self.inside.mode;
      stopped = c.self.inside.stopped;
    } in
    let after : MachineState = record fields { page = c.run_command.new.page; mode = Pcl } in
    let leaves : unwrap_or (follows fields.mode item) fields.mode ≡ Pcl =
    ap (λ o. unwrap_or o fields.mode)
    (command_leaves c.self.inside.mode c.args.command (amount c.args.n)
    (subst (λ machine. machine.stopped ≡ false → IsSome (follows machine.mode (Parameterized c.args.command (amount c.args.n))))
    (sym c.self.view_is) c.requires c.if-self.false)) in
    let open_is : is_defining fields.macros ≡ false = sym c.is_open.ensures ∙ c.if-is_open.false in
    CarriesOn-done g.S.MarkSink.takes g.S.MarkSink.refuses _ (λ machine. item_of machine item) false _ _ fields c.args.self.now
    c.self.view_is c.if-self.false c.run_command.new.page fields.macros Pcl leaves after _ _
    (ap (λ stopped. record after { stopped = stopped }) c.if-self.false)
    (Carries-is _ _ _ _ _ _ (alone item fields) _ _ _ (item-is_alone item fields open_is c.in-Ended-Ok.ensures.0)
    (Carries-done _ _ _ _ _ _ (alone item fields) _ _ _
    (rw c.in-Ended-Ok.field-0-is at c.in-Ended-Ok.ensures.1 (λ panel. in_job (context_of fields panel))) refl))

pub returns-in-Ended-Err : goal.returns-in-Ended-Err
returns-in-Ended-Err g c =
    let item : Entry = Parameterized c.args.command (amount c.args.n) in
    let fields : MachineState = record {
      printer = c.self.inside.profile.now;
      defaults = c.self.inside.defaults;
      page = c.self.inside.page;
      macros = c.self.inside.macros;
      mode = c.self.inside.mode;
      stopped = c.self.inside.stopped;
    } in
    let open_is : is_defining fields.macros ≡ false = sym c.is_open.ensures ∙ c.if-is_open.false in
    let after : MachineState = record fields { page = c.run_command.new.page; stopped = true } in
    rw c.stop_of.ensures
    (CarriesOn-stopped g.S.MarkSink.takes g.S.MarkSink.refuses _ (λ machine. item_of machine item) false _ _ fields c.args.self.now
    c.self.view_is c.if-self.false c.run_command.new.page fields.macros _ refl after _ refl
    (halt_stays (item_of fields item) fields after refl c.in-Ended-Err.halt
    (rw c.in-Ended-Err.field-0-is at c.in-Ended-Err.ensures.2))
    (Carries-is _ _ _ _ _ _ (alone item fields) _ _ _ (item-is_alone item fields open_is c.in-Ended-Err.ensures.0)
    (Carries-halted _ _ _ _ _ _ (alone item fields) _ _
    (rw c.in-Ended-Err.field-0-is at c.in-Ended-Err.ensures.1 (λ panel. in_job (context_of fields panel))))))

pub step_page_item-requires-clause-admitted : goal.step_page_item-requires-clause-admitted
step_page_item-requires-clause-admitted g c =
    ap (follows c.self.inside.mode) (sym c.in-Left.ensures.0)
    ∙ command_leaves c.self.inside.mode c.args.command (amount c.args.n)
    (subst (λ machine. machine.stopped ≡ false → IsSome (follows machine.mode (Parameterized c.args.command (amount c.args.n))))
    (sym c.self.view_is) c.requires c.if-self.false)

pub step_page_item-requires-clause-begun : goal.step_page_item-requires-clause-begun
step_page_item-requires-clause-begun g c =
    subst (λ entry. (panel : Panel) → begun_by entry (state_at panel c.run_command.new.page) ≡ state_at panel c.run_command.new.page)
    c.in-Left.ensures.0
    (begins_again (Parameterized c.args.command (amount c.args.n)) c.self.inside.page c.run_command.new.page c.in-Left.ensures.2)

pub returns-in-Left : goal.returns-in-Left
returns-in-Left g c =
    let item : Entry = Parameterized c.args.command (amount c.args.n) in
    let fields : MachineState = record {
      printer = c.self.inside.profile.now;
      defaults = c.self.inside.defaults;
      page = c.self.inside.page;
      macros = c.self.inside.macros;
      mode = c.self.inside.mode;
      stopped = c.self.inside.stopped;
    } in
    let open_is : is_defining fields.macros ≡ false = sym c.is_open.ensures ∙ c.if-is_open.false in
    subst
    (λ machine. CarriesOn {F = g.row.S-Fault.Denot} g.S.MarkSink.takes g.S.MarkSink.refuses
    (item_of machine item) false c.args.sink.now c.step_page_item.new.sink machine c.step_page_item.new.self c.step_page_item.result)
    c.self.view_is
    (CarriesOn-begun g.S.MarkSink.takes g.S.MarkSink.refuses g.row.S-Fault.Denot c.args.sink.now c.step_page_item.new.sink item fields
    c.step_page_item.new.self c.run_command.new.page c.if-self.false
    (ap is_one_step c.in-Left.ensures.0 ∙ page_steps c.in-Left.item) c.step_page_item.result
    (item-has_begun item fields.page c.run_command.new.page c.in-Left.ensures.2 fields.printer fields.defaults fields.macros open_is)
    (subst
    (λ entry. CarriesOn {F = g.row.S-Fault.Denot} g.S.MarkSink.takes g.S.MarkSink.refuses
    (item_of (record fields { page = c.run_command.new.page }) entry) false c.args.sink.now c.step_page_item.new.sink
    (record fields { page = c.run_command.new.page }) c.step_page_item.new.self c.step_page_item.result)
    (sym c.in-Left.ensures.0)
    (rw c.in-Left.ensures.1 at c.step_page_item.ensures)))
