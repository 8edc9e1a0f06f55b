use Rattle.std.proofs.Common.{sym, ◌∙◌}
use Rattle.page_env.proofs.SameLooks.{eq_look_decides}
use Rattle.page_env.proofs.text_lines.is_same_look.Goals as goal

pub returns : goal.returns
returns c =
    let same = eq_look_decides c.args.a.now c.args.b.now in
    (λ h. same.0 (sym c.eq.ensures ∙ h), λ e. c.eq.ensures ∙ same.1 e)
