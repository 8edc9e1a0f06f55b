-- A text that is kept in memory, or why it could not be had.
use Rattle.std.specs.Prelude.{ℕ, List, Option, None, Some, Result, Ok, Err}
use Rattle.streams.specs.declared.error.Error.{Error}

abbrev pub kept_text : {T : Type 0} → (T → List ℕ) → Result T Error → Result (List ℕ) Error
kept_text bytes (Ok text) = Ok (bytes text)
kept_text bytes (Err error) = Err error

-- the same of a part of a row, where it has that
abbrev pub kept_part : {T : Type 0} → (T → List ℕ) → Option (Result T Error) → Option (Result (List ℕ) Error)
kept_part bytes None = None
kept_part bytes (Some part) = Some (kept_text bytes part)
