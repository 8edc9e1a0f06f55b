-- What an error says of the reads and the writes.
use Rattle.std.specs.Prelude.{Bool, true, false, Result, Ok, Err}
use Rattle.streams.specs.declared.error.CreateError.{CreateError}
use Rattle.streams.specs.declared.error.CreateError.TheVariants.{NoMemory, Refused}
use Rattle.streams.specs.declared.error.Error.{Error}
use Rattle.streams.specs.declared.error.Error.TheVariants.{Memory, Read, Write, Turns, NoProfile, Items}

-- a read failed
abbrev pub is_read : Error → Bool
is_read Memory = false
is_read Read = true
is_read Write = false
is_read Turns = false
is_read NoProfile = false
is_read Items = false

-- the result is the error of a read that failed
abbrev pub is_err_of_read : {T : Type 0} → Result T Error → Bool
is_err_of_read (Ok x) = false
is_err_of_read (Err e) = is_read e

-- a write failed
abbrev pub is_write : Error → Bool
is_write Memory = false
is_write Read = false
is_write Write = true
is_write Turns = false
is_write NoProfile = false
is_write Items = false

-- the result is the error of a write that failed
abbrev pub is_err_of_write : {T : Type 0} → Result T Error → Bool
is_err_of_write (Ok x) = false
is_err_of_write (Err e) = is_write e

-- the result is that the system refused to create an outlet; want of memory is no failure of the outlet
abbrev pub is_refused : {T : Type 0} → Result T CreateError → Bool
is_refused (Ok x) = false
is_refused (Err NoMemory) = false
is_refused (Err Refused) = true
