use Rattle.std.proofs.Common.{◌≡◌, IfOk, subst}
use Rattle.std.specs.Str.Lines.{lines}
use Rattle.device_profile.specs.Draft.{Draft}
use Rattle.profile_lint.specs.TextFaults.{faults_past}
use Rattle.profile_lint.proofs.text_faults.faults_behind.Goals as goal

pub returns : goal.returns
returns g c =
    subst
    (λ (before : Draft). IfOk c.faults_past.result (λ faults. faults.items ≡ faults_past c.args.format before (lines c.args.text.now)))
    c.in_ok-draft.ensures c.faults_past.ensures
