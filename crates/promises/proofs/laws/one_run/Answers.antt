use Rattle.std.proofs.Common.{ap, sym, ◌∙◌}
use Rattle.page_machine.specs.Job.{plain_run}
use Rattle.promises.proofs.laws.one_run.Goals as goal

pub returns : goal.returns
returns c job reading other a b printer panel =
    let one = c.one_reading.ensures job in ap (plain_run printer panel) (one.only other b ∙ sym (one.only reading a))
