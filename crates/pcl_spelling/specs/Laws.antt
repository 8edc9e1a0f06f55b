-- Laws of spellings.
use Rattle.std.specs.Prelude.{ℕ, ◌+◌, List, [], ◌∷◌, ◌++◌, length, Bool}
use Rattle.pcl_items.specs.declared.item.Mode.{Mode}
use Rattle.pcl_items.specs.Items.{Entry, at}
use Rattle.pcl_items.specs.Spellings.Canon.{canon}
use Rattle.pcl_lexer.specs.Modes.{between}
use Rattle.pcl_lexer.specs.Grammar.{IsUnit, SpellsTo}
use Rattle.pcl_lexer.specs.Reading.{ReadsTo}

-- In a mode its spelling is one unit, which leaves another mode behind it. Whatever bytes follow, that unit is spelled
-- first and the item is read first, over all of the spelling.
pub record HasCanon (mode : Mode) (item : Entry) (mode2 : Mode) : Type 0 where
  pub unit : (place : ℕ) (rest : List ℕ) → IsUnit mode place (canon item) rest (at place item ∷ []) mode2
  pub spells : (place : ℕ) (rest : List ℕ) →
      SpellsTo mode place (canon item ++ rest) (at place item ∷ []) mode2 (place + length (canon item)) rest
  pub reads : (whole : Bool) (place : ℕ) (rest : List ℕ) →
      ReadsTo whole (between mode) place (canon item ++ rest) (at place item ∷ []) (between mode2)
      (place + length (canon item)) rest

-- in the mode the spelling of the item is one unit, whatever bytes follow, with the other mode behind it
abbrev pub IsOneUnit : Mode → Entry → Mode → Type 0
IsOneUnit mode item mode2 = (place : ℕ) (rest : List ℕ) → IsUnit mode place (canon item) rest (at place item ∷ []) mode2
