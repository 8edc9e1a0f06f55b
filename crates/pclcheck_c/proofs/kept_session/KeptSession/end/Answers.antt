use Rattle.std.proofs.Common.{◌∙◌, ap}
use Rattle.foreign_calls.specs.Checked.{answer_number, answer_row}
use Rattle.pclcheck_c.proofs.kept_session.KeptSession.end.Goals as goal

pub returns : goal.returns
returns c = record {
  ends = c.come_to_end.ensures;
  number_is = c.leave.ensures.number ∙ ap answer_number c.answer.ensures;
  row_is = c.leave.ensures.row ∙ ap (answer_row c.args.row.now) c.answer.ensures;
}
