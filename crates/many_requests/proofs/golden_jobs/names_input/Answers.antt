use Rattle.std.proofs.Common.{sym, ◌∙◌}
use Rattle.compare_command.specs.Golden.{names_of}
use Rattle.many_requests.specs.GoldenJobs.{is_input_of}
use Rattle.many_requests.proofs.GoldenLeft.{any_of_map}
use Rattle.many_requests.proofs.golden_jobs.names_input.Goals as goal

pub returns : goal.returns
returns c = c.has_input.ensures ∙ sym (any_of_map is_input_of names_of c.args.asked.now.pairs.now)
