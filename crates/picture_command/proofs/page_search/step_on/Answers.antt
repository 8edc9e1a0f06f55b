use Rattle.std.proofs.Common.{◌≡◌, ◌∙◌, ap, subst, false, Err}
use Rattle.pcl_items.specs.Items.{view}
use Rattle.page_env.specs.Settings.{state_at}
use Rattle.page_machine.specs.Machine.{CarriesOn, item_of}
use Rattle.page_machine.specs.Run.{Done, Halts}
use Rattle.sinks.specs.Counts.{counted}
use Rattle.picture_command.proofs.Searches.{has_run}
use Rattle.picture_command.proofs.page_search.step_on.Goals as goal

pub returns-in-Ok-clause-steps : goal.returns-in-Ok-clause-steps
returns-in-Ok-clause-steps g c = (
  c.in-Ok.ensures.1,
  has_run c.args.counts.now c.step.new.sink (item_of c.args.machine.now (view c.args.item.now)).run
      (λ panel. Done (state_at panel c.step.new.self.page)) c.in-Ok.ensures.2,
)

pub returns-in-Err-Found-clause-steps : goal.returns-in-Err-Found-clause-steps
returns-in-Err-Found-clause-steps g c =
    let is = c.in-Err-Found.is ∙ ap Err c.in-Err-Found.field-0-is in
    let carried =
    subst
    (CarriesOn (λ before event behind. behind ≡ counted event before) (λ before event behind. ⊥)
    (item_of c.args.machine.now (view c.args.item.now)) false c.args.counts.now c.step.new.sink c.args.machine.now c.step.new.self)
    is c.step.ensures in (
      has_run c.args.counts.now c.step.new.sink (item_of c.args.machine.now (view c.args.item.now)).run
          (λ panel. Halts c.in-Err-Found.finding) carried.2,
      carried.3,
    )
