use Rattle.web_module.proofs.profile_texts.tell_refusal.Goals as goal

pub returns : goal.returns
returns g c = record {
  work = c.read_printer-work.result;
  described = c.read_printer-work.ensures.printer;
  refused = c.read_printer-work.ensures.refused;
  number_is = c.leave.ensures.number;
  refusal_is = c.leave.ensures.refusal;
}
