use Rattle.std.proofs.Common.{◌≡◌, length}
use Rattle.job_rows.specs.Links.{behind_slash}
use Rattle.job_rows.proofs.links.last_part.Given as goal

abbrev pub invariant-loop-first : goal.invariant-loop-first
invariant-loop-first l = behind_slash l.part l.rest ≡ behind_slash l.path l.path

abbrev pub decreases-loop-first : goal.decreases-loop-first
decreases-loop-first l = length l.rest
