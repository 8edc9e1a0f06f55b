-- What is asked of a check of many jobs, by the words.
use Rattle.std.specs.Prelude.{map, option_map}
use Rattle.many_jobs.specs.declared.check_jobs.ManyJobs.{ManyJobs}
use Rattle.many_jobs.specs.declared.telling.Telling.{Telling}
use Rattle.many_jobs.specs.CheckMany.{Asked}
use Rattle.many_jobs.specs.Telling.{HowTold}

abbrev pub told_by : Telling → HowTold
told_by telling = record {
  format = telling.format;
  explanations = map (λ text. text.now) telling.explanations.now;
  exit_zero = telling.exit_zero;
  passes_unchecked = telling.passes_unchecked;
  read_once = map (λ name. name.now) telling.read_once.now;
  documents = option_map (λ folder. folder.now) telling.documents;
}

abbrev pub asked_for : ManyJobs → Asked
asked_for many = record {
  jobs = map (λ name. name.now) many.jobs.now;
  printers = map (λ word. word.now) many.printers.now;
  most_items = many.most_items;
  is_each = many.is_each;
  tells_notes = many.tells_notes;
  telling = told_by many.telling;
}
