use Rattle.pclcheck_c.proofs.Sessions.{says}
use Rattle.pclcheck_c.proofs.kept_session.KeptSession.tell.Goals as goal

pub returns-clause-ends : goal.returns-clause-ends
returns-clause-ends c = c.come_to_end.ensures

pub returns-clause-sentence : goal.returns-clause-sentence
returns-clause-sentence c =
    says c.text_of.result c.args.fleet.now c.args.self.now c.come_to_end.new.self c.args.name.now c.answer.result c.come_to_end.ensures
    c.answer.ensures c.text_of.ensures.text

pub returns-clause-stops : goal.returns-clause-stops
returns-clause-stops c = c.text_of.ensures.stops
