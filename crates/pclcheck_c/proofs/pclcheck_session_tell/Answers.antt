use Rattle.std.proofs.Common.{◌≡◌}
use Rattle.foreign_calls.specs.Answers.{IsHanded, row_by}
use Rattle.pclcheck_c.specs.Sessions.{Says}
use Rattle.pclcheck_c.proofs.Sessions.{goes, on_held}
use Rattle.pclcheck_c.proofs.pclcheck_session_tell.Goals as goal

pub tell-told-requires : goal.tell-told-requires
tell-told-requires c =
    goes c.args.fleet.now.held c.args.session.now.held c.take-held.result.value _ c.take-going.result.value _ c.take-held.ensures.taken
    c.take-going.ensures.taken c.deref.ensures c.deref_mut.ensures.value c.requires.going

pub returns-clause-told : goal.returns-clause-told
returns-clause-told c =
    let call = c.tell-told in
    on_held c.args.fleet.now.held c.args.session.now.held c.put.new.self.held c.take-held.result.value _ c.take-going.result.value _
    call.new.self
    (Says c.args.name.now (λ told. IsHanded told c.hand_out.result c.args.text.now c.hand_out.new.room c.args.needed.now
    c.hand_out.new.needed × (c.leave_row.new.row ≡ row_by c.args.verdict.now told)))
    c.take-held.ensures.taken c.take-going.ensures.taken c.put.ensures c.deref.ensures c.deref_mut.ensures.value
    (record {
      ends = call.ensures.ends;
      told = call.result;
      sentence = call.ensures.sentence;
      stops = call.ensures.stops;
      left = (c.hand_out.ensures, c.leave_row.ensures);
    })
