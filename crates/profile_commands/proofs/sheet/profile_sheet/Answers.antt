use Rattle.std.proofs.Common.{◌∙◌, ap, inr, refl}
use Rattle.profile_commands.proofs.Sheets.{faults_told, sheet_left}
use Rattle.profile_commands.proofs.sheet.profile_sheet.Goals as goal

pub returns-clause-left : goal.returns-clause-left
returns-clause-left g c =
    sheet_left _ c.args.word.now _ _ _ _ _ _ _ _ _ c.in-Ok-profile_of.profile _ _ _ _ _ _
    c.in-Ok.ensures.text c.as_slice.ensures.value c.in-Ok-profile_of.ensures.profile c.as_slice-2.ensures.value c.printer_name.ensures
    c.in-Ok-sheet_job.ensures c.as_slice-3.ensures.value
    (ap g.E.Outlet.state (c.in-Ok-profile_of.ensures.quiet ∙ c.in-Ok.ensures.quiet)) c.write_sheet.ensures.left

pub returns-in-Err-profile_of-clause-left : goal.returns-in-Err-profile_of-clause-left
returns-in-Err-profile_of-clause-left g c =
    inr (
      faults_told _ c.args.word.now _ _ _ _ _ _ _ _ _ c.in-Ok.ensures.text c.as_slice.ensures.value
          (ap g.E.Outlet.state c.in-Ok.ensures.quiet) c.in-Err-profile_of.ensures.none,
      refl,
    )
