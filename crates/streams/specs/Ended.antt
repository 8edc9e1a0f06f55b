-- The jobs that were read, under their names.
use Rattle.std.specs.Prelude.{ℕ, List, None}
use Rattle.streams.specs.declared.ended.JobEnd.{JobEnd}
use Rattle.streams.specs.Source.{SourceState}

-- the name of a job, and what its source had come to when no more was read of it
pub record JobRead : Type 0 where
  pub name : List ℕ
  pub state : SourceState

abbrev pub job_read : List ℕ → SourceState → JobRead
job_read name state = record { name = name; state = state }

-- so by the end of a job; what it would have given is not known
abbrev pub read_at_end : JobEnd → JobRead
read_at_end job =
    job_read job.name.now (record { given = job.given.pieces; remaining = None; failed = job.has_failed })
