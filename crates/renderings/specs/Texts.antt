-- The texts that are written of a job: its items in their spelling, and the list of its items.
use Rattle.std.specs.Prelude.{ℕ, List, ◌++◌, flat_map}
use Rattle.pcl_items.specs.Items.{Placed}
use Rattle.pcl_items.specs.Spellings.Canon.{canon}
use Rattle.pcl_lexer.specs.Reading.{Reading, Whole, Stopped, items_of}
use Rattle.renderings.specs.declared.outcome.Outcome.{Outcome}
use Rattle.renderings.specs.declared.outcome.Outcome.TheVariants.{Done}
use Rattle.renderings.specs.Outcomes.{fails_with}
use Rattle.verdict.specs.Failing.{fault_at}
use Rattle.line_words.specs.ItemLines.{item_line, fault_line}

-- bytes that are items to their end, or up to a fault
abbrev pub reading_outcome : Reading → Outcome
reading_outcome (Whole items place) = Done
reading_outcome (Stopped items place cause) = fails_with (fault_at place cause)

-- each item in its canonical spelling
abbrev pub plain_text : Reading → List ℕ
plain_text reading = flat_map (λ (x : Placed). canon x.item) (items_of reading)

-- ---- the list of items

-- a line for each item, and for the fault where the bytes have one
abbrev pub list_text : Reading → List ℕ
list_text (Whole items place) = flat_map item_line items
list_text (Stopped items place cause) = flat_map item_line items ++ fault_line place cause
