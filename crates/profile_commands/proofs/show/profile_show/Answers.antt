use Rattle.std.proofs.Common.{ap, inr, refl}
use Rattle.profile_commands.proofs.Sheets.{faults_told}
use Rattle.profile_commands.proofs.show.profile_show.Goals as goal

pub returns-in-Err-profile_of-clause-left : goal.returns-in-Err-profile_of-clause-left
returns-in-Err-profile_of-clause-left g c =
    inr (
      faults_told _ c.args.word.now _ _ _ _ _ _ _ _ _ c.in-Ok.ensures.text c.as_slice.ensures.value
          (ap g.E.Outlet.state c.in-Ok.ensures.quiet) c.in-Err-profile_of.ensures.none,
      refl,
    )
