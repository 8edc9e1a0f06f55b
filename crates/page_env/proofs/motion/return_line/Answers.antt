use Rattle.page_env.specs.Motion.{return_with}
use Rattle.page_env.proofs.Transitions.{carries_behind, unset_behind}
use Rattle.page_env.proofs.motion.return_line.Goals as goal

pub returns-in_err-read : goal.returns-in_err-read
returns-in_err-read g c =
    unset_behind c.args.page.now
    (return_with c.args.profile.now) c.in_err-read.field-0.0 _ c.from_residual.result c.in_err-read.ensures c.from_residual.ensures.1

pub returns : goal.returns
returns g c =
    carries_behind c.args.page.now (return_with c.args.profile.now) c.in_ok-read.read _ _ c.in_ok-read.ensures c.return_with.ensures
