-- How the reading of words ends where they ask for no work.
use Rattle.std.specs.Prelude.{⊤}
use Rattle.streams.specs.declared.error.Error.TheVariants.{Memory, Write}
use Rattle.requests.specs.declared.status.Status.{Status}
use Rattle.requests.specs.declared.status.Status.TheVariants.{Help, Usage, Overwrites, Stopped}

-- help or the version, bad words, an OUT that is read, no memory, or a text that could not be written
abbrev pub IsEndOfWords : Status → Type 0
IsEndOfWords Help = ⊤
IsEndOfWords Usage = ⊤
IsEndOfWords (Overwrites input) = ⊤
IsEndOfWords (Stopped Memory) = ⊤
IsEndOfWords (Stopped Write) = ⊤
IsEndOfWords _ = ⊥
