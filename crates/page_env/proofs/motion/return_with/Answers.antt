use Rattle.std.proofs.Common.{refl, ap, []}
use Rattle.page_env.specs.declared.motion.Feed.TheVariants.{Line as WholeLine}
use Rattle.page_env.specs.Answers.{CarriesOut}
use Rattle.page_env.specs.Settings.{state_at}
use Rattle.page_env.specs.Effect.{moving, Step, Goes}
use Rattle.page_env.specs.Motion.{carriage_return, feed_by}
use Rattle.page_env.proofs.Transitions.{carries_after, first_transition, second_transition, moved}
use Rattle.page_env.proofs.motion.return_with.Goals as goal

pub returns-then-termination : goal.returns-then-termination
unfolding CarriesOut
returns-then-termination g c = λ panel defaults.
    let s = state_at panel c.args.page.now in
    first_transition s.settings (feed_by c.args.profile.now (carriage_return s) WholeLine) (Step (moving (carriage_return s))) _ _
    c.if-termination.true
    (carries_after carriage_return (λ t. refl) c.args.page.now c.go_left.new.page c.go_left.ensures
    (λ defaults t. feed_by c.args.profile.now t WholeLine) c.feed_by.new.page _ c.feed_by.ensures panel defaults)

pub returns-else-termination : goal.returns-else-termination
unfolding CarriesOut
returns-else-termination g c = λ panel defaults.
    let s = state_at panel c.args.page.now in
    second_transition s.settings (feed_by c.args.profile.now (carriage_return s) WholeLine) (Step (moving (carriage_return s))) _ _
    c.if-termination.false
    (ap (λ t. Goes t []) (moved carriage_return (λ t. refl) c.args.page.now c.go_left.new.page c.go_left.ensures panel))
