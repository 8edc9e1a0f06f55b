use Rattle.std.proofs.Common.{subst}
use Rattle.streams.specs.Writing.{Writes}
use Rattle.profile_commands.specs.ProfileNew.{unknown_model}
use Rattle.profile_commands.proofs.new.refuse_model.Goals as goal

pub returns-clause-line : goal.returns-clause-line
returns-clause-line g c =
    subst (λ model. Writes (g.E.Outlet.state c.args.stderr.now) (g.E.Outlet.state c.write_pieces.new.outlet) (unknown_model model))
    c.as_bytes.ensures.value c.write_pieces.ensures
