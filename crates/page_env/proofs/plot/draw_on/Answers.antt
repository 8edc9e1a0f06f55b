use Rattle.std.proofs.Common.{Option, Some, subst, sym}
use Rattle.std.specs.Prelude.{IfSome}
use Rattle.pcl_items.specs.declared.frame.Coordinates.{Coordinates}
use Rattle.pcl_items.specs.declared.frame.Motion.{Motion}
use Rattle.pcl_items.specs.Items.{pair}
use Rattle.page_env.specs.Plot.{DrawsTo}
use Rattle.page_env.proofs.plot.draw_on.Goals as goal

pub returns-in-Some-clause-drawn : goal.returns-in-Some-clause-drawn
returns-in-Some-clause-drawn c =
    subst
    (λ (to : Option Coordinates). IfSome c.draw_line.result
    (λ marks. DrawsTo c.args.bounds.now c.args.motion (pair to) marks c.args.page.now c.draw_line.new.page)) (sym c.in-Some.is)
    (subst
    (λ (motion : Motion). IfSome c.draw_line.result
    (λ marks. DrawsTo c.args.bounds.now motion (pair (Some c.in-Some.to)) marks c.args.page.now c.draw_line.new.page))
    (sym (c.goes_on_drawing.ensures.lowers c.if-not-goes_on_drawing.false)) c.draw_line.ensures.drawn)
