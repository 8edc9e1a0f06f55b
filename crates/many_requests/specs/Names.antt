-- The names that a file has, and its bytes.
use Rattle.std.specs.Prelude.{◌≡◌, ◌<◌, ◌==◌, ◌-◌, ◌^◌, ℕ, List, [], ◌∷◌, length, take, if◌then◌else◌, Option, None}
use Rattle.std.specs.Prelude.{Some, ◌++◌}
use Rattle.streams.specs.Files.{no_source}
use Rattle.streams.specs.Pieces.{ByReads}
use Rattle.streams.specs.Source.{SourceState}
use Rattle.streams.specs.Used.{FileUse}
use Rattle.named_inputs.specs.FileJobs.{reads_named}

-- the byte stands before the first of these names; where there is none, it is one
abbrev pub with_byte : ℕ → List (List ℕ) → List (List ℕ)
with_byte byte [] = (byte ∷ []) ∷ []
with_byte byte (name ∷ names) = (byte ∷ name) ∷ names

-- each name is ended by a zero byte, the last one perhaps by the end
abbrev pub names_in : List ℕ → List (List ℕ)
names_in [] = []
names_in (byte ∷ bytes) = if byte == 0 then [] ∷ names_in bytes else with_byte byte (names_in bytes)

-- this is the first name, and behind it stand fewer bytes
pub record LeadsTo (bytes name behind : List ℕ) : Type 0 where
  pub names : names_in bytes ≡ name ∷ names_in behind
  pub fewer : length behind < length bytes

-- These are the bytes of a file that was read from the one state to the other:
-- of each that may be by its reads all, or the first 2^64 - 1.
abbrev pub AreBytesBy : SourceState → SourceState → List ℕ → Type 0
AreBytesBy old new bytes = ByReads old new (λ file. bytes ≡ take (2 ^ 64 - 1) file)

-- the bytes that were read under this word, where the history of files went on so
abbrev pub AreBytesOf : List ℕ → List FileUse → List FileUse → List ℕ → Type 0
AreBytesOf path used used' bytes =
    (file : SourceState) × AreBytesBy no_source file bytes × (used' ≡ used ++ reads_named path file)

-- the bytes of the file of names at this path, or none where there is no such file
abbrev pub AreNamesAt : Option (List ℕ) → List FileUse → List FileUse → List ℕ → Type 0
AreNamesAt None used used' bytes = (bytes ≡ []) × (used' ≡ used)
AreNamesAt (Some path) used used' bytes = AreBytesOf path used used' bytes
