-- Work on a text that is kept in memory.
use Rattle.streams.specs.declared.error.Error.{Error}
use Rattle.streams.specs.declared.error.Error.TheVariants.{Memory, Write}

-- why work on a text in memory stopped: a write there fails for want of memory alone
abbrev pub kept_error : Error → Error
kept_error Write = Memory
kept_error error = error
