use Rattle.std.proofs.Common.{rules, ◌≡◌, true}
use Rattle.page_env.specs.Pens.{place_of}
use Rattle.page_env.proofs.PenMoves.{move_draws}
use Rattle.page_env.proofs.pens.move_pen.Goals as goal

pub returns-then-page : goal.returns-then-page
returns-then-page g c =
    let down : c.args.page.now.env.job.pen.is_down ≡ true = search rules in
    move_draws c.args.profile.now (c.args.to.x.units, c.args.to.y.units)
    (place_of c.pen_target-target.result) c.args.page.now c.draw.new.page c.draw.result down c.pen_target-target.ensures c.draw.ensures
