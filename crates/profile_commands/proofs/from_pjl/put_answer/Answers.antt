use Rattle.std.proofs.Common.{◌∙◌, ap, refl, sym}
use Rattle.profile_commands.proofs.Answering.{base_word_is, refused}
use Rattle.profile_commands.proofs.from_pjl.put_answer.Goals as goal

pub returns-clause-left : goal.returns-clause-left
returns-clause-left g c =
    refused _ c.args.word.now _ _ _ _ _ _ _ _ c.in-Err-answered_text.error _ _ _ _ _
    c.in-Ok.ensures.text c.as_slice-text.ensures.value c.in-Err-answered_text.ensures.err
    (ap (λ b. b.now) c.unwrap_or.ensures ∙ sym (base_word_is c.args.base _ refl))
    (ap g.E.Outlet.state c.in-Ok.ensures.quiet) c.refuse.ensures
