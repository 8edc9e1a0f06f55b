use Rattle.std.proofs.Common.{◌≡◌, ◌∙◌, ap, subst, true, Err}
use Rattle.page_env.specs.Settings.{state_at}
use Rattle.page_machine.specs.Machine.{CarriesOn, end_of}
use Rattle.page_machine.specs.Run.{Done, Halts}
use Rattle.sinks.specs.Counts.{counted}
use Rattle.renderings.specs.Carriers.PageRendering.{any_panel}
use Rattle.picture_command.proofs.Searches.{has_run}
use Rattle.picture_command.proofs.page_search.finish_on.Goals as goal

pub returns-in-Ok-clause-finishes : goal.returns-in-Ok-clause-finishes
returns-in-Ok-clause-finishes g c = (
  state_at any_panel c.finish.new.self.page,
  has_run c.args.counts.now c.finish.new.sink (end_of c.args.machine.now).run
      (λ panel. Done (state_at panel c.finish.new.self.page)) c.in-Ok.ensures.2,
)

pub returns-in-Err-Found-clause-finishes : goal.returns-in-Err-Found-clause-finishes
returns-in-Err-Found-clause-finishes g c =
    let is = c.in-Err-Found.is ∙ ap Err c.in-Err-Found.field-0-is in
    let carried =
    subst
    (CarriesOn (λ before event behind. behind ≡ counted event before) (λ before event behind. ⊥)
    (end_of c.args.machine.now) true c.args.counts.now c.finish.new.sink c.args.machine.now c.finish.new.self)
    is c.finish.ensures in
    has_run c.args.counts.now c.finish.new.sink (end_of c.args.machine.now).run (λ panel. Halts c.in-Err-Found.finding) carried.2
