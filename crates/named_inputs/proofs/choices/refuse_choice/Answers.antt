use Rattle.std.proofs.Common.{◌∙◌, refl, subst}
use Rattle.streams.specs.Writing.{Writes}
use Rattle.named_inputs.proofs.choices.refuse_choice.Goals as goal

pub returns-clause-choice : goal.returns-clause-choice
returns-clause-choice g c = (
  refl,
  subst (λ text. Writes (g.E.Outlet.state c.args.stderr.now) (g.E.Outlet.state c.write_text.new.outlet) text)
      (c.as_slice.ensures.value ∙ c.in-Ok.ensures) c.write_text.ensures.text,
)
