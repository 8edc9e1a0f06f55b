-- The lines of items and of faults.
use Rattle.std.specs.Prelude.{ℕ, List, [], ◌∷◌, ◌++◌, codes, decimal, flat_map}
use Rattle.pcl_items.specs.declared.fault.LexCause.{LexCause}
use Rattle.pcl_items.specs.Spellings.Canon.{canon}
use Rattle.pcl_items.specs.Items.{Placed}
use Rattle.verdict.specs.declared.reason.Reason.TheVariants.{Fault}
use Rattle.line_words.specs.Figures.{escaped_byte}
use Rattle.line_words.specs.Reason.{reason_words}

-- an item: its place and its spelling
abbrev pub item_line : Placed → List ℕ
item_line x = decimal x.place ++ 32 ∷ flat_map escaped_byte (canon x.item) ++ 10 ∷ []

-- a fault: its place, its number and its name
abbrev pub fault_line : ℕ → LexCause → List ℕ
fault_line place cause = decimal place ++ codes " FAULT " ++ reason_words (Fault cause) ++ 10 ∷ []
