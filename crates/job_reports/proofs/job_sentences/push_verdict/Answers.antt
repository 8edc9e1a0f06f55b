use Rattle.std.proofs.Common.{ap, codes}
use Rattle.line_words.specs.Figures.{named}
use Rattle.job_reports.specs.JobSentences.{fails_where, verdict_phrase}
use Rattle.job_reports.proofs.Appending.{three_appended}
use Rattle.job_reports.proofs.job_sentences.push_verdict.Goals as goal

pub returns-in_ok-push_named-in-Pass-2 : goal.returns-in_ok-push_named-in-Pass-2
returns-in_ok-push_named-in-Pass-2 g c =
    three_appended c.extend_from_slice.result c.args.line.now.items _ _ _ (named (codes " (pages=") c.in-Pass.pages)
    (named (codes " marks=") c.in-Pass.marks) (codes ")") _
    c.in_ok-push_named-in-Pass.ensures c.in_ok-push_named-in-Pass-2.ensures c.extend_from_slice.ensures.items
    (ap (verdict_phrase (fails_where c.args.at.page c.args.at.cursor c.args.at.font c.args.at.failing_item)) c.in-Pass.is)
