use Rattle.std.proofs.Common.{rules, ◌≡◌, ℤ, cond, pos, Some, None, ap, sym}
use Rattle.std.specs.Prelude.{◌+ℤ◌, ◌-ℤ◌, int_lt, unwrap_or}
use Rattle.tick_length.specs.declared.unit.Unit.TheVariants.{FortyEighthInch}
use Rattle.page_env.specs.Answers.{CarriesOut}
use Rattle.page_env.specs.Settings.{half_inch}
use Rattle.page_env.specs.Places.{ticks_in, first_line}
use Rattle.page_env.specs.Motion.{distance_of}
use Rattle.page_env.proofs.Lines.{found}
use Rattle.page_env.proofs.Judging.{is_late, is_taken, taken-at}
use Rattle.page_env.proofs.Feeds.{feed-unset, feed-past, feed-steps}
use Rattle.page_env.proofs.motion.feed_by.Goals as goal

pub returns-in_err-geometry : goal.returns-in_err-geometry
unfolding CarriesOut
returns-in_err-geometry g c = λ panel defaults.
    found panel defaults c.args.page.now _ _ _ (c.from_residual.ensures.1)
    (feed-unset c.args.profile.now panel c.args.page.now c.args.by c.in_err-geometry.field-0.0 (c.in_err-geometry.ensures panel))

pub returns-in-None : goal.returns-in-None
unfolding CarriesOut
returns-in-None g c = λ panel defaults.
    let limit : ℤ =
    cond c.args.page.now.env.job.skips_perforation
    (unwrap_or c.args.page.now.env.job.bottom_margin (c.in_ok-geometry.geometry.logical_height -ℤ half_inch))
    c.in_ok-geometry.geometry.logical_height in
    let place : ℤ =
    unwrap_or c.args.page.now.cursor.y (first_line c.args.page.now.env.job.top_margin c.in_ok-geometry.vmi)
    +ℤ pos (distance_of c.args.by (ticks_in FortyEighthInch c.in_ok-geometry.vmi)) in
    let past : None ≡ cond (int_lt limit place) None (Some place) = search rules in
    rw c.past_limit.ensures (feed-past c.args.profile.now panel c.args.page.now c.args.by
    c.in_ok-geometry.geometry c.in_ok-geometry.vmi (ap (λ r. r.0) ((c.in_ok-geometry.ensures panel).1))
    (ap (λ r. r.1) ((c.in_ok-geometry.ensures panel).1)) ((c.in_ok-geometry.ensures panel).0)
    defaults (is_late (int_lt limit place) place past))

pub returns-in-Some : goal.returns-in-Some
unfolding CarriesOut
returns-in-Some g c = λ panel defaults.
    let limit : ℤ =
    cond c.args.page.now.env.job.skips_perforation
    (unwrap_or c.args.page.now.env.job.bottom_margin (c.in_ok-geometry.geometry.logical_height -ℤ half_inch))
    c.in_ok-geometry.geometry.logical_height in
    let place : ℤ =
    unwrap_or c.args.page.now.cursor.y (first_line c.args.page.now.env.job.top_margin c.in_ok-geometry.vmi)
    +ℤ pos (distance_of c.args.by (ticks_in FortyEighthInch c.in_ok-geometry.vmi)) in
    let near : Some c.in-Some.y ≡ cond (int_lt limit place) None (Some place) = search rules in
    rw (sym (taken-at (int_lt limit place) place c.in-Some.y near)) (feed-steps c.args.profile.now panel c.args.page.now c.args.by
    c.in_ok-geometry.geometry c.in_ok-geometry.vmi (ap (λ r. r.0) ((c.in_ok-geometry.ensures panel).1))
    (ap (λ r. r.1) ((c.in_ok-geometry.ensures panel).1)) ((c.in_ok-geometry.ensures panel).0)
    (is_taken (int_lt limit place) place c.in-Some.y near))
