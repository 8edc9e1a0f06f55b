use Rattle.std.proofs.Common.{IfOk, Result, subst, sym}
use Rattle.judgement.specs.declared.failing_item.Judgement.{Judgement}
use Rattle.streams.specs.declared.error.Error.{Error}
use Rattle.foreign_calls.specs.Checked.{IsTextOf}
use Rattle.foreign_calls.proofs.Known.{text_by}
use Rattle.foreign_calls.proofs.checking.text_of.Goals as goal

pub returns-in-Ok-clause-text : goal.returns-in-Ok-clause-text
returns-in-Ok-clause-text g c =
    let told = c.told_of in
    subst (λ (answer : Result Judgement Error). IfOk told.result (IsTextOf c.args.group.now c.args.name.now answer)) (sym c.in-Ok.is)
    (text_by c.args.group.now c.args.name.now c.in-Ok.judgement told.result told.ensures.row told.ensures.text)
