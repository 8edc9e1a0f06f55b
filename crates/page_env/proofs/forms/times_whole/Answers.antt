use Rattle.std.proofs.Common.{◌*◌, ◌∙◌, Some, sym, ap}
use Rattle.page_env.proofs.FormFacts.{whole_times}
use Rattle.page_env.proofs.forms.times_whole.Goals as goal

pub returns : goal.returns
returns c =
    whole_times c.args.length c.args.n.ten_thousandths c.requires
    ∙ ap (λ ticks. Some ticks) (sym (c.in-Some.ensures.1 ∙ ap (λ whole. c.args.length * whole) (c.from.ensures ∙ c.whole_part.ensures)))
