use Rattle.std.proofs.Common.{◌≡◌, ap, ◌∙◌, refl, subst, [], Ok, is_some}
use Rattle.pcl_items.specs.declared.item.Item.TheVariants.{Simple}
use Rattle.pcl_items.specs.Items.{at, view}
use Rattle.pcl_lexer.specs.Lexing.Meaning.{IsNext, answer_of}
use Rattle.pcl_lexer.specs.Modes.{mode_of}
use Rattle.pcl_lexer.specs.Reading.{Whole, Stopped}
use Rattle.pcl_lexer.proofs.Lexing.Steps.{item_admitted}
use Rattle.renderings.specs.Carriers.Rendering.{StartsWith}
use Rattle.renderings.proofs.Renderings.{came_err, end_there, fault_there, follows_on, item_there, renders_on, renders_over, rendered_all}
use Rattle.renderings.proofs.Renderings.{rendered_ended, rendered_failed, rendered_item}
use Rattle.renderings.proofs.render.render_items.Goals as goal

pub loop-read-init : goal.loop-read-init
loop-read-init g c =
    record { working = c.requires.working; ended = refl; place = refl; mode = c.requires.mode; rendered = λ first start bytes h. h }

pub item-requires-clause-admitted : goal.item-requires-clause-admitted
item-requires-clause-admitted g c =
    (_, c.loop-read.invariant.mode, ap is_some (item_admitted _ _ _ c.in-Some.ensures.command _ _ refl))

pub render_other-requires-clause-admitted : goal.render_other-requires-clause-admitted
render_other-requires-clause-admitted g c =
    let is = c.in-Ok-Item.is ∙ ap Ok c.in-Ok-Item.field-0-is in (
      _,
      c.loop-read.invariant.mode,
      ap is_some
          (item_admitted _ _ _
          (subst (λ old. IsNext old c.next.result c.next.follows.lender-at-none) c.in_default.ensures.none c.next.follows.holds-at-none) _ _
          is),
    )

pub end-requires-clause-ready : goal.end-requires-clause-ready
end-requires-clause-ready g c = (_, c.loop-read.invariant.mode)

pub returns-in_err-rendered-clause-came : goal.returns-in_err-rendered-clause-came
returns-in_err-rendered-clause-came g c = λ first start bytes h total.
    let so_far = c.loop-read.invariant in
    let rendered = so_far.rendered first start bytes h in
    let there =
    item_there first start bytes c.loop-read.lexer (g.R.Renderer.rendering c.loop-read.renderer)
    (g.W.Outlet.state c.loop-read.outlet) c.loop-read.kept.items rendered
    (answer_of c.in-Some.read) c.next_command.new.self c.in-Some.ensures.command c.in-Some.read.place
    (Simple c.in-Some.read.item) refl c.loop-read.lexer.ended refl in
    came_err first start c.args.lexer.now.ended bytes c.next_command.new.self (g.R.Renderer.rendering c.item.new.self)
    (g.W.Outlet.state c.item.new.outlet) c.item.new.kept.items c.from_residual.result c.from_residual.ensures.0
    (rendered_failed first start bytes c.loop-read.lexer (g.R.Renderer.rendering c.loop-read.renderer)
    (g.W.Outlet.state c.loop-read.outlet) c.loop-read.kept.items rendered
    (StartsWith (at c.in-Some.read.place (view (Simple c.in-Some.read.item)))) c.loop-read.lexer.ended there
    (g.W.Outlet.state c.item.new.outlet) c.item.new.kept.items c.in_err-rendered.field-0.0 c.in_err-rendered.ensures.rendered)

pub returns-in_err-rendered-in-Ok-Item-clause-came : goal.returns-in_err-rendered-in-Ok-Item-clause-came
returns-in_err-rendered-in-Ok-Item-clause-came g c = λ first start bytes h total.
    let so_far = c.loop-read.invariant in
    let rendered = so_far.rendered first start bytes h in
    let is = c.in-Ok-Item.is ∙ ap Ok c.in-Ok-Item.field-0-is in
    let there =
    item_there first start bytes c.loop-read.lexer (g.R.Renderer.rendering c.loop-read.renderer)
    (g.W.Outlet.state c.loop-read.outlet) c.loop-read.kept.items rendered
    c.next.result c.next.follows.lender-at-none
    (subst (λ old. IsNext old c.next.result c.next.follows.lender-at-none) c.in_default.ensures.none c.next.follows.holds-at-none)
    c.in-Ok-Item.place c.in-Ok-Item.item is c.loop-read.lexer.ended refl in
    came_err first start c.args.lexer.now.ended bytes c.next.follows.lender-at-none (g.R.Renderer.rendering c.render_other.new.renderer)
    (g.W.Outlet.state c.render_other.new.outlet) c.render_other.new.kept.items c.from_residual-in_err-rendered-in-Ok-Item.result
    c.from_residual-in_err-rendered-in-Ok-Item.ensures.0
    (rendered_failed first start bytes c.loop-read.lexer (g.R.Renderer.rendering c.loop-read.renderer)
    (g.W.Outlet.state c.loop-read.outlet) c.loop-read.kept.items rendered
    (StartsWith (at c.in-Ok-Item.place (view c.in-Ok-Item.item))) c.loop-read.lexer.ended there (g.W.Outlet.state c.render_other.new.outlet)
    c.render_other.new.kept.items c.in_err-rendered-in-Ok-Item.field-0.0 c.in_err-rendered-in-Ok-Item.ensures.rendered)

pub loop-read-preserved-in-None : goal.loop-read-preserved-in-None
loop-read-preserved-in-None g c =
    let so_far = c.loop-read.invariant in
    let next = c.in-Some.ensures.command in
    let went = c.in_ok-rendered.ensures in
    let x = at c.in-Some.read.place (view (Simple c.in-Some.read.item)) in
    let goes =
    renders_on (g.R.Renderer.rendering c.loop-read.renderer) (g.R.Renderer.rendering c.item.new.self) x
    (g.W.Outlet.state c.loop-read.outlet) (g.W.Outlet.state c.item.new.outlet) c.loop-read.kept.items c.item.new.kept.items
    c.in_ok-rendered.rendered went.rendered c.in-None.is in
    record {
      working = went.status;
      ended = next.ended ∙ so_far.ended;
      place = next.total ∙ so_far.place;
      mode =
          follows_on g.R.Renderer.is_in c.loop-read.renderer c.item.new.self (view (Simple c.in-Some.read.item)) c.in_ok-rendered.rendered
          c.in-None.is went.mode (mode_of c.loop-read.lexer.context) (mode_of c.next_command.new.self.context) so_far.mode
          (item_admitted c.loop-read.lexer c.next_command.new.self (answer_of c.in-Some.read) next c.in-Some.read.place
          (Simple c.in-Some.read.item) refl);
      rendered = λ first start bytes h.
          rendered_item first start bytes c.loop-read.lexer (g.R.Renderer.rendering c.loop-read.renderer)
          (g.W.Outlet.state c.loop-read.outlet) c.loop-read.kept.items (so_far.rendered first start bytes h)
          (answer_of c.in-Some.read) c.next_command.new.self next c.in-Some.read.place (Simple c.in-Some.read.item) refl
          (g.R.Renderer.rendering c.item.new.self) (g.W.Outlet.state c.item.new.outlet) c.item.new.kept.items goes.0 goes.1 goes.2;
    }

pub loop-read-preserved : goal.loop-read-preserved
loop-read-preserved g c =
    let so_far = c.loop-read.invariant in
    let next =
    (subst (λ old. IsNext old c.next.result c.next.follows.lender-at-none) c.in_default.ensures.none c.next.follows.holds-at-none) in
    let is = c.in-Ok-Item.is ∙ ap Ok c.in-Ok-Item.field-0-is in
    let went = c.in_ok-rendered-in-Ok-Item.ensures in
    let x = at c.in-Ok-Item.place (view c.in-Ok-Item.item) in
    let goes =
    renders_on (g.R.Renderer.rendering c.loop-read.renderer) (g.R.Renderer.rendering c.render_other.new.renderer) x
    (g.W.Outlet.state c.loop-read.outlet) (g.W.Outlet.state c.render_other.new.outlet) c.loop-read.kept.items c.render_other.new.kept.items
    c.in_ok-rendered-in-Ok-Item.rendered went.rendered c.in-None-rendered.is in
    record {
      working = went.status;
      ended = next.ended ∙ so_far.ended;
      place = next.total ∙ so_far.place;
      mode =
          follows_on g.R.Renderer.is_in c.loop-read.renderer c.render_other.new.renderer
          (view c.in-Ok-Item.item) c.in_ok-rendered-in-Ok-Item.rendered c.in-None-rendered.is went.mode (mode_of c.loop-read.lexer.context)
          (mode_of c.next.follows.lender-at-none.context) so_far.mode
          (item_admitted c.loop-read.lexer c.next.follows.lender-at-none c.next.result next c.in-Ok-Item.place c.in-Ok-Item.item is);
      rendered = λ first start bytes h.
          rendered_item first start bytes c.loop-read.lexer (g.R.Renderer.rendering c.loop-read.renderer)
          (g.W.Outlet.state c.loop-read.outlet) c.loop-read.kept.items (so_far.rendered first start bytes h)
          c.next.result c.next.follows.lender-at-none next c.in-Ok-Item.place c.in-Ok-Item.item is
          (g.R.Renderer.rendering c.render_other.new.renderer)
          (g.W.Outlet.state c.render_other.new.outlet) c.render_other.new.kept.items goes.0 goes.1 goes.2;
    }

pub returns-in-Some-rendered-clause-came : goal.returns-in-Some-rendered-clause-came
returns-in-Some-rendered-clause-came g c = λ first start bytes h total.
    let so_far = c.loop-read.invariant in
    let rendered = so_far.rendered first start bytes h in
    let x = at c.in-Some.read.place (view (Simple c.in-Some.read.item)) in
    let there =
    item_there first start bytes c.loop-read.lexer (g.R.Renderer.rendering c.loop-read.renderer)
    (g.W.Outlet.state c.loop-read.outlet) c.loop-read.kept.items rendered
    (answer_of c.in-Some.read) c.next_command.new.self c.in-Some.ensures.command c.in-Some.read.place
    (Simple c.in-Some.read.item) refl c.args.lexer.now.ended so_far.ended in
    rendered_ended first start bytes c.loop-read.lexer (g.R.Renderer.rendering c.loop-read.renderer)
    (g.W.Outlet.state c.loop-read.outlet) c.loop-read.kept.items rendered
    (StartsWith x) c.args.lexer.now.ended there (g.W.Outlet.state c.item.new.outlet) c.item.new.kept.items c.in-Some-rendered.outcome
    (renders_over (g.R.Renderer.rendering c.loop-read.renderer) (g.R.Renderer.rendering c.item.new.self) x
    (g.W.Outlet.state c.loop-read.outlet) (g.W.Outlet.state c.item.new.outlet) c.loop-read.kept.items c.item.new.kept.items
    c.in_ok-rendered.rendered c.in_ok-rendered.ensures.rendered c.in-Some-rendered.outcome c.in-Some-rendered.is)

pub returns-in-Some-rendered-2-clause-came : goal.returns-in-Some-rendered-2-clause-came
returns-in-Some-rendered-2-clause-came g c = λ first start bytes h total.
    let so_far = c.loop-read.invariant in
    let rendered = so_far.rendered first start bytes h in
    let is = c.in-Ok-Item.is ∙ ap Ok c.in-Ok-Item.field-0-is in
    let x = at c.in-Ok-Item.place (view c.in-Ok-Item.item) in
    let there =
    item_there first start bytes c.loop-read.lexer (g.R.Renderer.rendering c.loop-read.renderer)
    (g.W.Outlet.state c.loop-read.outlet) c.loop-read.kept.items rendered
    c.next.result c.next.follows.lender-at-none
    (subst (λ old. IsNext old c.next.result c.next.follows.lender-at-none) c.in_default.ensures.none c.next.follows.holds-at-none)
    c.in-Ok-Item.place c.in-Ok-Item.item is c.args.lexer.now.ended so_far.ended in
    rendered_ended first start bytes c.loop-read.lexer (g.R.Renderer.rendering c.loop-read.renderer)
    (g.W.Outlet.state c.loop-read.outlet) c.loop-read.kept.items rendered
    (StartsWith x) c.args.lexer.now.ended there
    (g.W.Outlet.state c.render_other.new.outlet) c.render_other.new.kept.items c.in-Some-rendered-2.outcome
    (renders_over (g.R.Renderer.rendering c.loop-read.renderer) (g.R.Renderer.rendering c.render_other.new.renderer) x
    (g.W.Outlet.state c.loop-read.outlet) (g.W.Outlet.state c.render_other.new.outlet) c.loop-read.kept.items c.render_other.new.kept.items
    c.in_ok-rendered-in-Ok-Item.rendered c.in_ok-rendered-in-Ok-Item.ensures.rendered c.in-Some-rendered-2.outcome c.in-Some-rendered-2.is)

pub returns-in-Ok-NeedMore-clause-came : goal.returns-in-Ok-NeedMore-clause-came
returns-in-Ok-NeedMore-clause-came g c = λ first start bytes h total.
    let so_far = c.loop-read.invariant in
    rendered_all first start bytes c.loop-read.lexer (g.R.Renderer.rendering c.loop-read.renderer)
    (g.W.Outlet.state c.loop-read.outlet) c.loop-read.kept.items (so_far.rendered first start bytes h)
    c.next.result c.next.follows.lender-at-none
    (subst (λ old. IsNext old c.next.result c.next.follows.lender-at-none) c.in_default.ensures.none c.next.follows.holds-at-none)
    (c.in-Ok-NeedMore.is ∙ ap Ok c.in-Ok-NeedMore.field-0-is)

pub returns-in_err-outcome-in-Ok-End-clause-came : goal.returns-in_err-outcome-in-Ok-End-clause-came
returns-in_err-outcome-in-Ok-End-clause-came g c = λ first start bytes h total.
    let so_far = c.loop-read.invariant in
    let rendered = so_far.rendered first start bytes h in
    let there =
    end_there first start bytes c.loop-read.lexer (g.R.Renderer.rendering c.loop-read.renderer)
    (g.W.Outlet.state c.loop-read.outlet) c.loop-read.kept.items rendered
    c.next.result c.next.follows.lender-at-none
    (subst (λ old. IsNext old c.next.result c.next.follows.lender-at-none) c.in_default.ensures.none c.next.follows.holds-at-none)
    (c.in-Ok-End.is ∙ ap Ok c.in-Ok-End.field-0-is) c.args.lexer.now.ended so_far.ended c.args.total total in
    came_err first start c.args.lexer.now.ended bytes c.next.follows.lender-at-none (g.R.Renderer.rendering c.end.new.self)
    (g.W.Outlet.state c.end.new.outlet) c.end.new.kept.items c.from_residual-in_err-outcome-in-Ok-End.result
    c.from_residual-in_err-outcome-in-Ok-End.ensures.0
    (rendered_failed first start bytes c.loop-read.lexer (g.R.Renderer.rendering c.loop-read.renderer)
    (g.W.Outlet.state c.loop-read.outlet) c.loop-read.kept.items rendered
    (λ reading. reading ≡ Whole [] c.args.total) c.args.lexer.now.ended there (g.W.Outlet.state c.end.new.outlet) c.end.new.kept.items
    c.in_err-outcome-in-Ok-End.field-0.0 c.in_err-outcome-in-Ok-End.ensures.rendered)

pub returns-in-Ok-End-clause-came : goal.returns-in-Ok-End-clause-came
returns-in-Ok-End-clause-came g c = λ first start bytes h total.
    let so_far = c.loop-read.invariant in
    let rendered = so_far.rendered first start bytes h in
    let there =
    end_there first start bytes c.loop-read.lexer (g.R.Renderer.rendering c.loop-read.renderer)
    (g.W.Outlet.state c.loop-read.outlet) c.loop-read.kept.items rendered
    c.next.result c.next.follows.lender-at-none
    (subst (λ old. IsNext old c.next.result c.next.follows.lender-at-none) c.in_default.ensures.none c.next.follows.holds-at-none)
    (c.in-Ok-End.is ∙ ap Ok c.in-Ok-End.field-0-is) c.args.lexer.now.ended so_far.ended c.args.total total in
    rendered_ended first start bytes c.loop-read.lexer (g.R.Renderer.rendering c.loop-read.renderer)
    (g.W.Outlet.state c.loop-read.outlet) c.loop-read.kept.items rendered
    (λ reading. reading ≡ Whole [] c.args.total) c.args.lexer.now.ended there
    (g.W.Outlet.state c.end.new.outlet) c.end.new.kept.items c.in_ok-outcome-in-Ok-End.outcome c.in_ok-outcome-in-Ok-End.ensures.rendered

pub returns-in_err-outcome-in-Err-clause-came : goal.returns-in_err-outcome-in-Err-clause-came
returns-in_err-outcome-in-Err-clause-came g c = λ first start bytes h total.
    let so_far = c.loop-read.invariant in
    let rendered = so_far.rendered first start bytes h in
    let there =
    fault_there first start bytes c.loop-read.lexer (g.R.Renderer.rendering c.loop-read.renderer)
    (g.W.Outlet.state c.loop-read.outlet) c.loop-read.kept.items rendered
    c.next.result c.next.follows.lender-at-none
    (subst (λ old. IsNext old c.next.result c.next.follows.lender-at-none) c.in_default.ensures.none c.next.follows.holds-at-none)
    c.in-Err.fault c.in-Err.is c.args.lexer.now.ended so_far.ended in
    came_err first start c.args.lexer.now.ended bytes c.next.follows.lender-at-none (g.R.Renderer.rendering c.fault.new.self)
    (g.W.Outlet.state c.fault.new.outlet) c.fault.new.kept.items c.from_residual-in_err-outcome-in-Err.result
    c.from_residual-in_err-outcome-in-Err.ensures.0
    (rendered_failed first start bytes c.loop-read.lexer (g.R.Renderer.rendering c.loop-read.renderer)
    (g.W.Outlet.state c.loop-read.outlet) c.loop-read.kept.items rendered
    (λ reading. reading ≡ Stopped [] c.in-Err.fault.place c.in-Err.fault.cause) c.args.lexer.now.ended there
    (g.W.Outlet.state c.fault.new.outlet) c.fault.new.kept.items c.in_err-outcome-in-Err.field-0.0
    c.in_err-outcome-in-Err.ensures.rendered)

pub returns-in-Err-clause-came : goal.returns-in-Err-clause-came
returns-in-Err-clause-came g c = λ first start bytes h total.
    let so_far = c.loop-read.invariant in
    let rendered = so_far.rendered first start bytes h in
    let there =
    fault_there first start bytes c.loop-read.lexer (g.R.Renderer.rendering c.loop-read.renderer)
    (g.W.Outlet.state c.loop-read.outlet) c.loop-read.kept.items rendered
    c.next.result c.next.follows.lender-at-none
    (subst (λ old. IsNext old c.next.result c.next.follows.lender-at-none) c.in_default.ensures.none c.next.follows.holds-at-none)
    c.in-Err.fault c.in-Err.is c.args.lexer.now.ended so_far.ended in
    rendered_ended first start bytes c.loop-read.lexer (g.R.Renderer.rendering c.loop-read.renderer)
    (g.W.Outlet.state c.loop-read.outlet) c.loop-read.kept.items rendered
    (λ reading. reading ≡ Stopped [] c.in-Err.fault.place c.in-Err.fault.cause) c.args.lexer.now.ended there
    (g.W.Outlet.state c.fault.new.outlet) c.fault.new.kept.items c.in_ok-outcome-in-Err.outcome c.in_ok-outcome-in-Err.ensures.rendered
