use Rattle.std.proofs.Common.{[], Bool, sym, subst, ◌∙◌}
use Rattle.pcl_items.specs.Items.{at, view}
use Rattle.renderings.specs.Carriers.Rendering.{EndsWith, RestGoesOn, StartsWith}
use Rattle.renderings.specs.Pins.{pinned_item, pins_from}
use Rattle.renderings.proofs.PinRenderings.{pins_goes, pins_end}
use Rattle.renderings.proofs.Renderings.{Puts-none, item_cut, item_none}
use Rattle.renderings.proofs.pin.PinningRenderer.item.Goals as goal

pub returns-then-is_unpinnable-clause-rendered : goal.returns-then-is_unpinnable-clause-rendered
returns-then-is_unpinnable-clause-rendered g c =
    let pinning = c.args.self.now in
    let x = at c.args.place (view c.args.item.now) in (
      [],
      Puts-none (g.W.Outlet.state c.args.outlet.now) c.args.kept.now.items,
      subst (EndsWith (pins_from pinning.settings.panel pinning.settings.request pinning.is_due) (StartsWith x) [])
          (sym c.of_unpinnable.ensures)
          (pins_end pinning.settings.panel pinning.settings.request pinning.is_due x
          (sym c.is_unpinnable.ensures ∙ c.if-is_unpinnable.true)),
    )

pub returns-in_err-push-clause-rendered : goal.returns-in_err-push-clause-rendered
returns-in_err-push-clause-rendered g c =
    let pinning = c.args.self.now in
    let rendering = pins_from pinning.settings.panel pinning.settings.request pinning.is_due in
    item_none rendering rendering (at c.args.place (view c.args.item.now))
    (g.W.Outlet.state c.args.outlet.now) c.args.kept.now.items c.push.new.text.items c.from_residual.result c.from_residual.ensures.0

pub returns-in_err-write_enough-clause-rendered : goal.returns-in_err-write_enough-clause-rendered
returns-in_err-write_enough-clause-rendered g c =
    let pinning = c.args.self.now in
    let panel = pinning.settings.panel in
    let request = pinning.settings.request in
    let x = at c.args.place (view c.args.item.now) in
    let before = pins_from panel request pinning.is_due in
    let text = pinned_item panel request pinning.is_due x.item in
    let goes = subst (λ (due : Bool). RestGoesOn before (pins_from panel request due) x text) (sym c.is_due_behind-self.ensures)
    (pins_goes panel request pinning.is_due x (sym c.is_unpinnable.ensures ∙ c.if-is_unpinnable.false)) in
    item_cut before (pins_from panel request c.is_due_behind-self.result) x (g.W.Outlet.state c.args.outlet.now)
    (g.W.Outlet.state c.write_enough.new.outlet) c.args.kept.now.items c.push.new.text.items c.write_enough.new.kept.items text
    c.from_residual-in_err-write_enough.result c.from_residual-in_err-write_enough.ensures.0 goes c.in_ok-push.ensures
    c.in_err-write_enough.ensures.text
