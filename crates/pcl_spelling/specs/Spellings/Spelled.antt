-- Items by their spellings, one behind another.
use Rattle.std.specs.Prelude.{◌≡◌, ℕ, suc, ◌+◌, List, [], ◌∷◌, ◌++◌, length, drop, Some}
use Rattle.pcl_items.specs.declared.item.Mode.{Mode}
use Rattle.pcl_items.specs.Items.{Entry, entries}
use Rattle.pcl_items.specs.Modes.{follows}
use Rattle.pcl_items.specs.Spellings.Canon.{canon, IsItem}
use Rattle.pcl_lexer.specs.Reading.{items_of, left, read_on}
use Rattle.pcl_lexer.specs.Modes.{between}

-- the spelling of an item that the mode admits stands at a place of the bytes, and ends before another, in
-- the next mode
pub record StandsAt (mode : Mode) (bytes : List ℕ) (at : ℕ) (item : Entry) (end : ℕ) (next : Mode) : Type 0 where
  pub is_item : IsItem item
  pub admitted : follows mode item ≡ Some next
  pub rest : List ℕ
  pub spelled : drop at bytes ≡ canon item ++ rest
  pub ends : end ≡ at + length (canon item)

-- no such item's spelling does
abbrev pub NothingStands : Mode → List ℕ → ℕ → Type 0
NothingStands mode bytes at = (item : Entry) (end : ℕ) (next : Mode) → StandsAt mode bytes at item end next → ⊥

abbrev pub spelled : List Entry → List ℕ
spelled [] = []
spelled (item ∷ items) = canon item ++ spelled items

-- items that a mode admits, each of the others being admitted by the mode behind the one before it
pub data AreAdmitted : Mode → List Entry → Type 0 where
  none : {mode : Mode} → AreAdmitted mode []
  some : {mode next : Mode} {item : Entry} {items : List Entry} → IsItem item → follows mode item ≡ Some next →
      AreAdmitted next items → AreAdmitted mode (item ∷ items)

-- the bytes are the spellings of such items
abbrev pub IsSpelled : Mode → List ℕ → Type 0
IsSpelled mode bytes = (items : List Entry) × AreAdmitted mode items × (bytes ≡ spelled items)

-- the items that are read of the bytes from a mode on, up to their end or a fault
unfoldable pub items_in : Mode → List ℕ → List Entry
items_in mode bytes = entries (items_of (read_on (suc (left (between mode) bytes)) (between mode) 0 bytes))
