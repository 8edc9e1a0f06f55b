-- The modes of what stands before bytes.
use Rattle.pcl_items.specs.declared.item.Mode.{Mode}
use Rattle.pcl_items.specs.declared.item.Mode.TheVariants as modes
use Rattle.pcl_lexer.specs.Lexing.Contexts.{Context, Pcl, Sequence, Frame, Letters, Numbered, Pjl}

-- what stands before a unit of a mode
abbrev pub between : Mode → Context
between modes.Pcl = Pcl
between modes.Frame = Frame
between modes.Pjl = Pjl

-- the mode of the bytes before which this stands
abbrev pub mode_of : Context → Mode
mode_of Pcl = modes.Pcl
mode_of (Sequence group) = modes.Pcl
mode_of Frame = modes.Frame
mode_of (Letters mnemonic n) = modes.Frame
mode_of (Numbered numbers gap n) = modes.Frame
mode_of Pjl = modes.Pjl
