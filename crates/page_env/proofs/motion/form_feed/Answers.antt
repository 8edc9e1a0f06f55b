use Rattle.std.proofs.Common.{Ok, ap}
use Rattle.page_env.specs.declared.change.Carried.TheVariants.{Ending}
use Rattle.page_env.specs.Answers.{CarriesOut, Changes}
use Rattle.page_env.specs.Effect.{moving, Ends, GoesThenEnds}
use Rattle.page_env.specs.Motion.{before_feed}
use Rattle.page_env.proofs.Transitions.{carries_behind, unset_behind}
use Rattle.page_env.proofs.motion.form_feed.Goals as goal

pub returns-in_err-termination : goal.returns-in_err-termination
returns-in_err-termination c =
    unset_behind c.args.page.now (λ termination s. Ends (moving (before_feed termination s)))
    c.in_err-termination.field-0.0 _ c.from_residual.result c.in_err-termination.ensures c.from_residual.ensures.1

pub returns : goal.returns
unfolding CarriesOut Changes
returns c =
    carries_behind c.args.page.now (λ termination s. Ends (moving (before_feed termination s))) c.in_ok-termination.termination
    c.return_before_feed.new.page (Ok Ending) c.in_ok-termination.ensures
    (λ panel defaults. ap GoesThenEnds (c.return_before_feed.ensures c.args.page.now.env panel))
