use Rattle.std.proofs.Common.{◌≡◌, unwrap_or, true, false, refl, sym, ap, ◌∙◌, subst}
use Rattle.device_profile.specs.declared.panel.Panel.{Panel}
use Rattle.page_env.specs.Rasters.{begun_by}
use Rattle.page_env.specs.Settings.{state_at}
use Rattle.pcl_items.specs.Modes.{follows}
use Rattle.page_env.specs.Action.{page_view}
use Rattle.pcl_items.specs.Items.{Entry}
use Rattle.page_machine.specs.MachineState.{MachineState}
use Rattle.page_machine.specs.Machine.{fields_of, item_of}
use Rattle.page_machine.proofs.Answering.{Carries-is, CarriesOn-done, CarriesOn-stopped}
use Rattle.page_machine.proofs.Still.{many_steps, page_steps}
use Rattle.page_machine.proofs.machine.Machine.step_page_item.Goals as goal

pub run_page_item-requires-clause-begun : goal.run_page_item-requires-clause-begun
run_page_item-requires-clause-begun g c =
    subst (λ machine. (panel : Panel) → begun_by (page_view c.args.item) (state_at panel machine.page) ≡ state_at panel machine.page)
    (sym c.self.view_is) c.requires.begun

pub invariant_of-self : goal.invariant_of-self
invariant_of-self g c = λ running.
    c.in-Ok.ensures.stands c.self.inside.mode c.args.mode
    (ap (λ machine. follows machine.mode (page_view c.args.item)) c.self.view_is ∙ c.requires.admitted)

pub returns-in-Ok : goal.returns-in-Ok
returns-in-Ok g c =
    let fields : MachineState = record {
      printer = c.self.inside.profile.now;
      defaults = c.self.inside.defaults;
      page = c.self.inside.page;
      macros = c.self.inside.macros;
      mode = c.self.inside.mode;
      stopped = c.self.inside.stopped;
    } in
    let item : Entry = page_view c.args.item in
    let after : MachineState = record fields { page = c.run_page_item.new.page; macros = c.run_page_item.new.macros; mode = c.args.mode } in
    let leaves : unwrap_or (follows fields.mode item) fields.mode ≡ c.args.mode =
    ap (λ o. unwrap_or o fields.mode) (ap (λ machine. follows machine.mode item) c.self.view_is ∙ c.requires.admitted) in
    CarriesOn-done g.S.MarkSink.takes g.S.MarkSink.refuses _ (λ machine. item_of machine item) false _ _ fields c.args.self.now
    c.self.view_is (ap (λ machine. machine.stopped) c.self.view_is ∙ c.requires.running) c.run_page_item.new.page c.run_page_item.new.macros
    c.args.mode leaves after _ _
    (ap (λ stopped. record after { stopped = stopped }) (ap (λ machine. machine.stopped) c.self.view_is ∙ c.requires.running))
    (Carries-is _ _ _ _ _ _ (item_of (fields_of fields.printer fields.defaults fields.page fields.macros) item) _ (item_of fields item) _
    ((λ panel. refl), refl, refl) c.in-Ok.ensures.carries)

pub returns-in-Err : goal.returns-in-Err
returns-in-Err g c =
    let fields : MachineState = record {
      printer = c.self.inside.profile.now;
      defaults = c.self.inside.defaults;
      page = c.self.inside.page;
      macros = c.self.inside.macros;
      mode = c.self.inside.mode;
      stopped = c.self.inside.stopped;
    } in
    let item : Entry = page_view c.args.item in
    let after : MachineState = record fields { page = c.run_page_item.new.page; macros = c.run_page_item.new.macros; stopped = true } in
    CarriesOn-stopped g.S.MarkSink.takes g.S.MarkSink.refuses _ (λ machine. item_of machine item) false _ _ fields c.args.self.now
    c.self.view_is (ap (λ machine. machine.stopped) c.self.view_is ∙ c.requires.running) c.run_page_item.new.page
    c.run_page_item.new.macros _ refl after _ refl
    (many_steps (item_of fields item) fields after refl c.in-Err.stop (page_steps c.args.item))
    (Carries-is _ _ _ _ _ _ (item_of (fields_of fields.printer fields.defaults fields.page fields.macros) item) _ (item_of fields item) _
    ((λ panel. refl), refl, refl) c.in-Err.ensures.carries)
