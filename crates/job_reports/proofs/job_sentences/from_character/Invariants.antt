use Rattle.std.proofs.Common.{◌≡◌, drop}
use Rattle.job_reports.specs.JobSentences.{from_character}
use Rattle.job_reports.proofs.job_sentences.from_character.Given as goal

abbrev pub invariant-loop-start : goal.invariant-loop-start
invariant-loop-start l = from_character (drop l.start l.text) ≡ from_character l.text
