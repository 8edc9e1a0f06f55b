use Rattle.std.proofs.Common.{◌≡◌, ℤ, Some, [], ◌∷◌, ◌++◌, cond, length, sym, ap, ◌∙◌}
use Rattle.pcl_items.specs.declared.frame.Motion.TheVariants.{Down}
use Rattle.page_env.specs.declared.page.Pen.{Pen}
use Rattle.page_env.specs.declared.page.PenPlace.{PenPlace}
use Rattle.page_env.specs.Mark.{Line}
use Rattle.page_env.specs.Plot.{lies_within, led, lines_to, page_with, turned}
use Rattle.page_env.proofs.plot.draw_line.Goals as goal

pub returns-clause-drawn : goal.returns-clause-drawn
returns-clause-drawn c =
    let page = c.args.page.now in
    let pen : Pen = page.env.job.pen in
    let to : ℤ × ℤ = (c.args.to.x.units, c.args.to.y.units) in
    let place_is : c.in_ok-place.place ≡ led pen (Some to) = c.in_ok-place.ensures.place in
    record {
      inside = ap (lies_within c.args.bounds.now) (sym place_is) ∙ c.in_ok-place.ensures.inside;
      count = λ line. ap
          (λ is_down. length (cond is_down [] (Line (line pen.place pen.place) ∷ []) ++ lines_to line (turned Down pen) (Some to)))
          c.requires.down;
      page = λ line i. page_with (record pen { is_down = c.requires.down i; place = place_is i })
          (c.requires.marked i) page;
    }
