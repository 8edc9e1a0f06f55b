-- What a job stands for that is a file or standard input.
use Rattle.std.specs.Prelude.{◌≡◌, ℕ, Bool, List, [], ◌∷◌, None, codes, if◌then◌else◌, ⊤}
use Rattle.std.specs.Str.{bytes_eq}
use Rattle.streams.specs.Source.{SourceState}
use Rattle.streams.specs.Used.{FileUse, read_at}
use Rattle.named_inputs.specs.declared.file_jobs.JobSource.{JobSource}
use Rattle.named_inputs.specs.declared.file_jobs.JobSource.TheVariants.{File, Standard, NoText}

abbrev pub state_of_job : {R F I N : Type 0} → JobSource R F I N → SourceState
state_of_job (File file) = record file.source { remaining = None }
state_of_job (Standard input) = record { given = input.given; remaining = None; failed = input.has_failed }
state_of_job (NoText none) = record { given = none.given; remaining = None; failed = none.has_failed }

-- a file is read at the path that its name is
abbrev pub is_job_at : {R F I N : Type 0} → JobSource R F I N → List ℕ → Type 0
is_job_at (File file) name = file.path ≡ name
is_job_at (Standard input) name = ⊤
is_job_at (NoText none) name = ⊤

-- a word for standard input
abbrev pub is_input : List ℕ → Bool
is_input name = bytes_eq name (codes "-")

-- what the reading of a word, which came to this, adds to the history of files: standard input is none
abbrev pub reads_named : List ℕ → SourceState → List FileUse
reads_named word source = if is_input word then [] else read_at word source ∷ []
