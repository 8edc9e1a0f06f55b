use Rattle.pclcheck_c.specs.Sessions.{Feeds}
use Rattle.pclcheck_c.proofs.Sessions.{goes, on_held}
use Rattle.pclcheck_c.proofs.pclcheck_session_feed.Goals as goal

pub feed-number-requires : goal.feed-number-requires
feed-number-requires c =
    goes c.args.fleet.now.held c.args.session.now.held c.take-held.result.value _ c.take-going.result.value _ c.take-held.ensures.taken
    c.take-going.ensures.taken c.deref.ensures c.deref_mut.ensures.value c.requires.going

pub returns-clause-fed : goal.returns-clause-fed
returns-clause-fed c =
    let call = c.feed-number in
    on_held c.args.fleet.now.held c.args.session.now.held c.put.new.self.held c.take-held.result.value _ c.take-going.result.value _
    call.new.self (Feeds c.args.piece.now call.result)
    c.take-held.ensures.taken c.take-going.ensures.taken c.put.ensures c.deref.ensures c.deref_mut.ensures.value
    call.ensures
