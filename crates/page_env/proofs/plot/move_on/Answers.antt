use Rattle.std.proofs.Common.{◌≡◌, ℕ, ◌+◌, ◌++◌, length, sym, ap, ◌∙◌}
use Rattle.std.proofs.lemmas.List.{length-append}
use Rattle.pcl_items.specs.Items.{pair}
use Rattle.page_env.specs.declared.mark.PenLine.{PenLine}
use Rattle.page_env.specs.declared.page.Pen.{Pen}
use Rattle.page_env.specs.declared.page.PenPlace.{PenPlace}
use Rattle.page_env.specs.Plot.{dots, led, lies_within, lines_to, page_with, turned}
use Rattle.page_env.proofs.PlotFacts.{marks_are}
use Rattle.page_env.proofs.plot.move_on.Goals as goal

pub returns-clause-drawn : goal.returns-clause-drawn
returns-clause-drawn c =
    let page = c.args.page.now in
    let box = c.args.bounds.now in
    let motion = c.args.motion in
    let to = pair c.args.to in
    let pen : Pen = turned motion page.env.job.pen in
    let pen_is : c.turned-pen.result ≡ pen = c.turned-pen.ensures in
    let place_is : c.in_ok-place.place ≡ led pen to = c.in_ok-place.ensures.place ∙ ap (λ p. led p to) pen_is in
    let counted : (line : PenPlace → PenPlace → PenLine) →
    length (dots line motion page.env.job.pen ++ lines_to line pen to) ≡ c.dots.result + c.lines_to.result =
    λ line.
    length-append (dots line motion page.env.job.pen) (lines_to line pen to)
    ∙ ap (λ (n : ℕ). n + length (lines_to line pen to)) (c.dots.ensures.count line)
    ∙ ap (λ (n : ℕ). c.dots.result + n) (ap (λ p. length (lines_to line p to)) (sym pen_is) ∙ c.lines_to.ensures.count line) in
    record {
      inside = ap (lies_within box) (sym place_is) ∙ c.in_ok-place.ensures.inside;
      count = counted;
      page = λ line.
          let marked =
          c.is_marked-marked.ensures ∙ marks_are (dots line motion page.env.job.pen) (lines_to line pen to) page.marked _ (counted line) in
          λ i. page_with (record (pen_is i) { place = place_is i }) (marked i) page;
    }
