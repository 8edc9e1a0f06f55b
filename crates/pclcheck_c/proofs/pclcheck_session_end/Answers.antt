use Rattle.pclcheck_c.specs.Sessions.{Ends}
use Rattle.pclcheck_c.proofs.Sessions.{goes, on_held}
use Rattle.pclcheck_c.proofs.pclcheck_session_end.Goals as goal

pub end-number-requires : goal.end-number-requires
end-number-requires c =
    goes c.args.fleet.now.held c.args.session.now.held c.take-held.result.value _ c.take-going.result.value _ c.take-held.ensures.taken
    c.take-going.ensures.taken c.deref.ensures c.deref_mut.ensures.value c.requires.going

pub returns-clause-ended : goal.returns-clause-ended
returns-clause-ended c =
    let call = c.end-number in
    on_held c.args.fleet.now.held c.args.session.now.held c.put.new.self.held c.take-held.result.value _ c.take-going.result.value _
    call.new.self (Ends call.result c.args.verdict.now call.new.row)
    c.take-held.ensures.taken c.take-going.ensures.taken c.put.ensures c.deref.ensures c.deref_mut.ensures.value
    call.ensures
