use Rattle.std.proofs.Common.{Err, Ok, Result, refl}
use Rattle.streams.specs.declared.error.Error.{Error}
use Rattle.pclcheck_c.specs.declared.kept_session.KeptSession.{KeptSession}
use Rattle.pclcheck_c.proofs.Sessions.{done_alike, stopped_alike}
use Rattle.pclcheck_c.proofs.session_handle.begin.Goals as goal

pub returns-in-Ok : goal.returns-in-Ok
returns-in-Ok c =
    let session = c.in-Ok.session in
    let answer : Result KeptSession Error = Ok session.value in
    record {
      answer = answer;
      right = c.in-Ok.ensures.right;
      no_printer = done_alike c.begun.result answer _ c.begun.ensures.no_printer session session.value c.in-Ok.is refl;
      number_is = refl;
      held_is = c.put.ensures;
    }

pub returns-in-Err : goal.returns-in-Err
returns-in-Err c =
    let answer : Result KeptSession Error = Err c.in-Err.error in
    record {
      answer = answer;
      right = tt;
      no_printer = stopped_alike c.begun.result answer _ c.begun.ensures.no_printer c.in-Err.error c.in-Err.is refl;
      number_is = c.error_number.ensures;
      held_is = c.requires;
    }
