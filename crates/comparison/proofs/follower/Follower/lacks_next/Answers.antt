use Rattle.std.proofs.Common.{Option, ap, ◌∙◌}
use Rattle.page_machine.specs.Event.{Event}
use Rattle.comparison.specs.Comparing.{Following, lacks}
use Rattle.comparison.specs.Running.{is_open}
use Rattle.comparison.proofs.follower.Follower.lacks_next.Goals as goal

pub returns-in-Some : goal.returns-in-Some
returns-in-Some g c = ap (λ (o : Option Event). lacks o c.args.self.now.run.progress) c.in-Some.ensures

pub returns-in-None : goal.returns-in-None
returns-in-None g c =
    c.is_open.ensures
    ∙ (ap (λ (f : Following). is_open f.run.progress) c.self.view_is
    ∙ ap (λ (o : Option Event). lacks o c.args.self.now.run.progress) c.in-None.ensures)
