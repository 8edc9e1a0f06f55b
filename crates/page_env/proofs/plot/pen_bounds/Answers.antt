use Rattle.std.proofs.Common.{◌≡◌, false, is_some, Option, None, Some, refl, sym, ap, ◌∙◌}
use Rattle.std.proofs.lemmas.Bool.{ne_eqb}
use Rattle.page_env.specs.Pens.{line_between}
use Rattle.page_env.specs.Plot.{lies_within}
use Rattle.page_env.proofs.PlotFacts.{draws_within, near_end}
use Rattle.page_env.proofs.plot.pen_bounds.Goals as goal

is_none : {X : Type 0} (o : Option X) → is_some o ≡ false → o ≡ None
is_none None e = refl
is_none (Some x) e = absurd cc

pub returns-then-lies_within : goal.returns-then-lies_within
returns-then-lies_within g c =
    let page = c.args.page.now in
    let geometry = c.in-Some.geometry.now in
    let origin = c.in-Some.origin in
    let frame = c.frame_on-frame.result in
    let width = page.env.job.pen.width in
    let go = c.lines_go.ensures c.if-lines_go.true in
    record {
      no_raster = is_none page.raster (sym c.is_some.ensures ∙ c.if-is_some.false);
      inside =
          ap (lies_within c.box_for-bounds.result) (sym c.own_place.ensures) ∙ sym c.lies_within.ensures.within ∙ c.if-lies_within.true;
      near = λ place inside. near_end geometry origin frame width place place (go place place inside inside);
      line = λ from target. line_between origin frame width from target;
      draws =
          draws_within c.args.profile.now page c.box_for-bounds.result geometry origin frame
          (ne_eqb page.env.job.pen.number 0 c.if-pen-eq0.false) c.in-Some.ensures c.frame_on-frame.ensures go;
    }
