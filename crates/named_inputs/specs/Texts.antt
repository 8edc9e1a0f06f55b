-- The texts of profiles, and the words that name them.
use Rattle.std.specs.Prelude.{◌≡◌, [], ◌∷◌, ◌++◌, take, Result, Ok, Err, ℕ, List, Option, Some, None, option_map, codes}
use Rattle.std.specs.Prelude.{if◌then◌else◌, ⊤}
use Rattle.std.specs.Str.{bytes_eq}
use Rattle.device_profile.specs.declared.sample.Sample.{Sample}
use Rattle.device_profile.specs.declared.sample.Sample.TheVariants.{A, B, C, D}
use Rattle.device_profile.specs.SampleTexts.{sample_text}
use Rattle.streams.specs.declared.error.Error.{Error}
use Rattle.streams.specs.declared.error.Error.TheVariants.{Memory, Read}
use Rattle.streams.specs.Pieces.{MayBeBy}

-- an error in reading a text: no memory, or a read that failed
abbrev pub IsErrorOfReading : Error → Type 0
IsErrorOfReading Memory = ⊤
IsErrorOfReading Read = ⊤
IsErrorOfReading _ = ⊥

-- the built-in sample that a word names; any other word is a path
abbrev pub sample_named : List ℕ → Option Sample
sample_named word =
    if bytes_eq word (codes "@A") then Some A
    else (if bytes_eq word (codes "@B") then Some B
    else (if bytes_eq word (codes "@C") then Some C
    else (if bytes_eq word (codes "@D") then Some D else None)))

-- the text that a word names on this machine, where it is known: a file's is not
abbrev pub text_named : List ℕ → Option (List ℕ)
text_named word = option_map sample_text (sample_named word)

-- these bytes are the text of which reads gave these pieces: of whatever may be by these they are the
-- first 65,537, or all, where it has no more
abbrev pub IsTextBy : List (List ℕ) → List ℕ → Type 0
IsTextBy pieces text = (input : List ℕ) → MayBeBy pieces input → text ≡ take 65_537 input

-- texts were asked for by some of these words, the first ones in their order, and by no others
abbrev pub AsksInOrder : (words old new : List (List ℕ)) → Type 0
AsksInOrder words old new =
    (asked : List (List ℕ)) × (later : List (List ℕ)) × (words ≡ asked ++ later) × (new ≡ old ++ asked)

-- the text that was read; where it could not be, none
abbrev pub text_read : {T : Type 0} → (T → List ℕ) → Result T Error → List (List ℕ)
text_read bytes (Ok text) = bytes text ∷ []
text_read bytes (Err e) = []
