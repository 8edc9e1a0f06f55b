-- What stands before the bytes that are read next.
use Rattle.std.specs.Prelude.{ℕ, ◌-◌}
use Rattle.pcl_items.specs.declared.pcl.command.Group.{Group}
use Rattle.pcl_items.specs.declared.frame.Mnemonic.{Mnemonic}
use Rattle.pcl_lexer.specs.declared.frame.Gap.{Gap}
pub use Rattle.pcl_lexer.specs.Frames.CommandParts.{Numbers, Single, Odd, Even, spaced}

-- Between items of mode PCL; in a combined sequence of this group; between commands of a frame; behind the letters of a
-- command, which begins n bytes before;
-- behind numbers and a gap, where the item begins n bytes before; between lines of mode PJL.
pub data Context : Type 0 where
  Pcl : Context
  Sequence : (group : Group) → Context
  Frame : Context
  Letters : (mnemonic : Mnemonic) (n : ℕ) → Context
  Numbered : (numbers : Numbers) (gap : Gap) (n : ℕ) → Context
  Pjl : Context

-- how many bytes are counted
abbrev pub counted : Context → ℕ
counted Pcl = 0
counted (Sequence group) = 0
counted Frame = 0
counted (Letters mnemonic n) = n
counted (Numbered numbers gap n) = n
counted Pjl = 0

-- where the item stands that begins from this context, or has begun before it: behind whole pairs none has begun
abbrev pub item_place : Context → ℕ → ℕ
item_place Pcl place = place
item_place (Sequence group) place = place
item_place Frame place = place
item_place (Letters mnemonic n) place = place - n
item_place (Numbered (Single setting amount) gap n) place = place - n
item_place (Numbered (Odd motion x) gap n) place = place - n
item_place (Numbered (Even motion) gap n) place = place
item_place Pjl place = place

-- whether a command is open, which an item of no further bytes may end
abbrev pub pending : Context → ℕ
pending Pcl = 0
pending (Sequence group) = 0
pending Frame = 0
pending (Letters mnemonic n) = 1
pending (Numbered numbers gap n) = 1
pending Pjl = 0

-- all bytes may end there
abbrev pub MayEndAt : Context → Type 0
MayEndAt Pcl = Unit {0}
MayEndAt (Sequence group) = ⊥
MayEndAt Frame = ⊥
MayEndAt (Letters mnemonic n) = ⊥
MayEndAt (Numbered numbers gap n) = ⊥
MayEndAt Pjl = Unit {0}
