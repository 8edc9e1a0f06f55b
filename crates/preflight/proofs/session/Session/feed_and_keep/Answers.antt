use Rattle.std.proofs.Common.{◌++◌}
use Rattle.preflight.proofs.session.Session.feed_and_keep.Goals as goal

pub returns-in-Ok : goal.returns-in-Ok
returns-in-Ok g c = λ fleet bytes checked.
    c.keep.ensures fleet (bytes ++ c.args.piece.now) (c.in-Ok.ensures.fed fleet bytes checked)

pub returns-in-Err : goal.returns-in-Err
returns-in-Err g c = λ fleet bytes checked. tt
