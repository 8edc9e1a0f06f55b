use Rattle.std.proofs.Common.{rules, ◌≡◌, Bool, true, false, cond, Option, Some, None, is_some, sym, ap, ◌∙◌, refl}
use Rattle.page_env.specs.declared.mark.PenLine.{PenLine}
use Rattle.page_env.specs.declared.page.PenPlace.{PenPlace}
use Rattle.page_env.specs.Mark.{is_inside, line_bounds}
use Rattle.page_env.specs.Pens.{line_between, stays_in_frame}
use Rattle.page_env.proofs.PlotFacts.{line_passes_too}
use Rattle.page_env.proofs.plot.lines_go.Goals as goal

taken : {X : Type 0} (b : Bool) (x : X) (r : Option X) → r ≡ cond b (Some x) None → is_some r ≡ true → b ≡ true
taken true x r e h = refl
taken false x r e h = absurd (let none : is_some r ≡ false = ap is_some e in cc)

pub returns-then-is_some : goal.returns-then-is_some
returns-then-is_some c = λ yes from to in_from in_to.
    let g = c.args.geometry.now in
    let frame = c.args.frame.now in
    let low : PenPlace = c.args.bounds.now.low in
    let high : PenPlace = c.args.bounds.now.high in
    let line : PenLine = line_between c.args.origin.now frame c.args.width low high in
    let found : c.line_inside.result ≡ cond (is_inside g (line_bounds line)) (Some line) None = search rules in
    let placed : c.place_within.result ≡ cond (stays_in_frame frame low high) (Some high) None = search rules in
    let inside = taken (is_inside g (line_bounds line)) line c.line_inside.result found (sym c.is_some.ensures ∙ c.if-is_some.true) in
    let stays = taken (stays_in_frame frame low high) high c.place_within.result placed (sym c.is_some-then-is_some.ensures ∙ yes) in
    line_passes_too g c.args.origin.now frame c.args.width c.args.bounds.now from to in_from in_to inside stays
