use Rattle.std.proofs.Common.{rules, ◌≡◌, ◌==◌, ◌||◌, ◌*◌, false, cond, Some, None, pos, ap, sym, ◌∙◌}
use Rattle.std.specs.Prelude.{◌+ℤ◌, int_lt}
use Rattle.tick_length.specs.declared.unit.Unit.TheVariants.{FortyEighthInch}
use Rattle.page_env.specs.Places.{ticks_in, place_between}
use Rattle.page_env.proofs.Judging.{below_is_between}
use Rattle.page_env.proofs.margins.margin_below.Goals as goal

pub returns : goal.returns
returns c =
    let at : c.place_between.result ≡ place_between c.args.place c.args.foot c.below.result = search rules in
    let spaced : (c.args.vmi == 0) ≡ false = search rules in
    let by = ticks_in FortyEighthInch c.args.vmi * c.args.lines in
    at
    ∙ ap (λ z. place_between c.args.place c.args.foot z)
    (c.below.ensures ∙ ap (λ line. c.args.place +ℤ pos (line * c.args.lines)) c.ticks_in-line.ensures.value)
    ∙ below_is_between c.args.place c.args.foot by
    ∙ ap (λ b. cond (b || int_lt c.args.foot (c.args.place +ℤ pos by)) None (Some (c.args.place +ℤ pos by))) (sym spaced)
