use Rattle.std.proofs.Common.{◌≡◌, IfSome, Option, Some, subst, sym}
use Rattle.pclcheck_c.specs.declared.fleet.Fleet.{Fleet}
use Rattle.foreign_calls.specs.Answers.{IsHanded, IsStop, Tells, row_by}
use Rattle.foreign_calls.specs.Checked.{IsSentenceOf}
use Rattle.pclcheck_c.specs.Fleets.{asked}
use Rattle.pclcheck_c.proofs.pclcheck_tell.Goals as goal

pub returns-clause-told : goal.returns-clause-told
returns-clause-told c =
    let told = c.tell-told in
    let TellsOf : Option Fleet → Type 0 = λ held. IfSome held (λ fleet. Tells (IsSentenceOf (asked fleet c.args.printer)
    c.args.name.now c.args.job.now) IsStop (λ told. IsHanded told c.hand_out.result c.args.text.now c.hand_out.new.room
    c.args.needed.now c.hand_out.new.needed × (c.leave_row.new.row ≡ row_by c.args.verdict.now told))) in
    subst TellsOf (sym c.take-held.ensures.taken) (subst (λ (fleet : Fleet). TellsOf (Some fleet)) c.deref.ensures
    (told.result, told.ensures.sentence, told.ensures.stops, (c.hand_out.ensures, c.leave_row.ensures)))
