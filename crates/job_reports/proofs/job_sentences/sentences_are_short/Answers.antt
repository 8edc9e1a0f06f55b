use Rattle.job_reports.proofs.JobSentences.{sentence_is_short}
use Rattle.job_reports.proofs.job_sentences.sentences_are_short.Goals as goal

pub returns : goal.returns
returns c = sentence_is_short
