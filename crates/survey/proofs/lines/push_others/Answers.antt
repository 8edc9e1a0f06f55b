use Rattle.std.proofs.Common.{codes, refl}
use Rattle.job_reports.proofs.Appending.{two_appended}
use Rattle.survey.specs.Lines.{others_words}
use Rattle.survey.proofs.lines.push_others.Goals as goal

pub returns : goal.returns
unfolding others_words
returns g c =
    two_appended c.extend_from_slice.result c.args.text.now.items _ _ _ (codes "; this is no verdict, check gives one\n") _
    c.in_ok-push_named.ensures c.extend_from_slice.ensures.items refl
