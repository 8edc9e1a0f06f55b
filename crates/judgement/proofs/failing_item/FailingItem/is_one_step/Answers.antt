use Rattle.std.proofs.Common.{ap, sym, ◌∙◌}
use Rattle.page_machine.specs.Still.{is_one_step}
use Rattle.judgement.proofs.failing_item.FailingItem.is_one_step.Goals as goal

pub returns-in-Text : goal.returns-in-Text
returns-in-Text c = λ item is. ap is_one_step (rw c.in-Text.is at is)

pub returns-in-Line : goal.returns-in-Line
returns-in-Line c = λ item is. let line = rw c.in-Line.is at is in ap is_one_step line.1

pub returns-in-WithData : goal.returns-in-WithData
returns-in-WithData c = λ item is.
    let lent = rw c.in-WithData.is at is in ap is_one_step lent.1 ∙ c.is_row.ensures lent.0

pub returns-in-Simple : goal.returns-in-Simple
returns-in-Simple c = λ item is. ap is_one_step (rw c.in-Simple.is at is) ∙ sym c.is_step.ensures
