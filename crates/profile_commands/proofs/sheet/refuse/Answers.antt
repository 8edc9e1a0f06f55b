use Rattle.std.proofs.Common.{◌∙◌, refl, subst}
use Rattle.streams.specs.Writing.{Writes}
use Rattle.profile_commands.proofs.sheet.refuse.Goals as goal

pub returns : goal.returns
returns g c = (
  refl,
  subst (λ text. Writes (g.E.Outlet.state c.args.stderr.now) (g.E.Outlet.state c.write_text.new.outlet) text)
      (c.as_slice.ensures.value ∙ c.in-Ok.ensures) c.write_text.ensures.text,
)
