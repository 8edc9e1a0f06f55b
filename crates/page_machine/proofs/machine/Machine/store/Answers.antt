use Rattle.std.proofs.Common.{◌≡◌, unwrap_or, true, false, Ok, refl, ap, ◌∙◌}
use Rattle.pcl_items.specs.Modes.{follows}
use Rattle.pcl_items.specs.Items.{Entry, view}
use Rattle.page_machine.specs.Defining.{is_defining}
use Rattle.page_machine.specs.MachineState.{MachineState}
use Rattle.page_machine.specs.Machine.{item_of}
use Rattle.page_machine.proofs.Answering.{item-is_stored, Carries-is, Carries-defines, CarriesOn-done, CarriesOn-stopped}
use Rattle.page_machine.proofs.Modes.{admits_next}
use Rattle.page_machine.proofs.Still.{page_stays}
use Rattle.page_machine.proofs.machine.Machine.store.Goals as goal

pub define-requires : goal.define-requires
define-requires g c =
    admits_next c.self.inside.macros c.self.inside.mode c.args.mode (view c.args.item.now)
    (ap (λ machine. follows machine.mode (view c.args.item.now)) c.self.view_is ∙ c.requires.admitted)
    (c.self.invariant (ap (λ machine. machine.stopped) c.self.view_is ∙ c.requires.running))
    (ap (λ machine. is_defining machine.macros) c.self.view_is ∙ c.requires.open)

pub invariant_of-self : goal.invariant_of-self
invariant_of-self g c = λ running.
    c.in-Ok.ensures.stands c.self.inside.mode c.args.mode
    (c.self.invariant (ap (λ machine. machine.stopped) c.self.view_is ∙ c.requires.running))
    (ap (λ machine. follows machine.mode (view c.args.item.now)) c.self.view_is ∙ c.requires.admitted)

pub returns-in-Ok : goal.returns-in-Ok
returns-in-Ok g c = λ sink.
    let fields : MachineState = record {
      printer = c.self.inside.profile.now;
      defaults = c.self.inside.defaults;
      page = c.self.inside.page;
      macros = c.self.inside.macros;
      mode = c.self.inside.mode;
      stopped = c.self.inside.stopped;
    } in
    let item : Entry = view c.args.item.now in
    let after : MachineState = record fields { macros = c.define.new.macros; mode = c.args.mode } in
    let open_is = ap (λ machine. is_defining machine.macros) c.self.view_is ∙ c.requires.open in
    let leaves : unwrap_or (follows fields.mode item) fields.mode ≡ c.args.mode =
    ap (λ o. unwrap_or o fields.mode) (ap (λ machine. follows machine.mode item) c.self.view_is ∙ c.requires.admitted) in
    CarriesOn-done g.S.MarkSink.takes g.S.MarkSink.refuses g.row.S-Fault.Denot
    (λ machine. item_of machine item) false sink sink fields c.args.self.now c.self.view_is
    (ap (λ machine. machine.stopped) c.self.view_is ∙ c.requires.running) fields.page c.define.new.macros c.args.mode leaves after tt tt
    (ap (λ stopped. record after { stopped = stopped }) (ap (λ machine. machine.stopped) c.self.view_is ∙ c.requires.running))
    (Carries-is _ _ g.row.S-Fault.Denot _ _ _ _ _ _ _ (item-is_stored item fields open_is)
    (Carries-defines g.S.MarkSink.takes g.S.MarkSink.refuses _ sink fields.page item fields.macros c.define.new.macros
    (Ok tt) c.in-Ok.ensures.defines))

pub returns-in-Err : goal.returns-in-Err
returns-in-Err g c = λ sink.
    let fields : MachineState = record {
      printer = c.self.inside.profile.now;
      defaults = c.self.inside.defaults;
      page = c.self.inside.page;
      macros = c.self.inside.macros;
      mode = c.self.inside.mode;
      stopped = c.self.inside.stopped;
    } in
    let item : Entry = view c.args.item.now in
    let open_is = ap (λ machine. is_defining machine.macros) c.self.view_is ∙ c.requires.open in
    let after : MachineState = record fields { macros = c.define.new.macros; stopped = true } in
    CarriesOn-stopped g.S.MarkSink.takes g.S.MarkSink.refuses _ (λ machine. item_of machine item) false sink sink fields c.args.self.now
    c.self.view_is (ap (λ machine. machine.stopped) c.self.view_is ∙ c.requires.running) fields.page c.define.new.macros _ refl after _ refl
    (page_stays (item_of fields item) fields after refl c.in-Err.stop refl)
    (Carries-is _ _ g.row.S-Fault.Denot _ _ _ _ _ _ _ (item-is_stored item fields open_is)
    (Carries-defines g.S.MarkSink.takes g.S.MarkSink.refuses _ sink fields.page item fields.macros c.define.new.macros _
    c.in-Err.ensures.defines))
