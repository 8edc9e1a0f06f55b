use Rattle.page_env.specs.declared.motion.Feed.TheVariants.{Line as WholeLine}
use Rattle.page_env.specs.Motion.{before_feed, feed_by}
use Rattle.page_env.proofs.Transitions.{carries_after, before_keeps, carries_behind, unset_behind}
use Rattle.page_env.proofs.motion.line_feed.Goals as goal

pub returns-in_err-termination : goal.returns-in_err-termination
returns-in_err-termination g c =
    unset_behind c.args.page.now (λ termination s. feed_by c.args.profile.now (before_feed termination s) WholeLine)
    c.in_err-termination.field-0.0 _ c.from_residual.result c.in_err-termination.ensures c.from_residual.ensures.1

pub returns : goal.returns
returns g c =
    let termination = c.in_ok-termination.termination in
    carries_behind c.args.page.now
    (λ termination s. feed_by c.args.profile.now (before_feed termination s) WholeLine) termination _ _ c.in_ok-termination.ensures
    (carries_after (before_feed termination) (before_keeps termination) _ _ c.return_before_feed.ensures
    (λ defaults s. feed_by c.args.profile.now s WholeLine) _ _ c.feed_by.ensures)
