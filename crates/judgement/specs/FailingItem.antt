-- Which item a job fails at.
use Rattle.std.specs.Prelude.{◌≡◌, ℕ, List, length, Option, None, Some}
use Rattle.std.specs.List.{Contains}
use Rattle.pcl_items.specs.Items.{Entry, simple_view, at}
use Rattle.pcl_items.specs.Items as entries
use Rattle.pcl_items.specs.PjlLines.Text.{PjlCommand}
use Rattle.pcl_lexer.specs.Reading.{Reading, IsReading, items_of}
use Rattle.verdict.specs.declared.reason.Reason.TheVariants.{Fault, Finding, Differs, Unpinnable}
use Rattle.verdict.specs.declared.verdict.Verdict.{Verdict}
use Rattle.verdict.specs.declared.verdict.Verdict.TheVariants.{Pass, Fail}
use Rattle.judgement.specs.declared.failing_item.FailingItem.{FailingItem}
use Rattle.judgement.specs.declared.failing_item.FailingItem.TheVariants as failing_items

-- the item is this one, but for its data
abbrev pub IsFailingItem : FailingItem → Entry → Type 0
IsFailingItem (failing_items.Text code) entry = entry ≡ entries.Text code
IsFailingItem (failing_items.Simple item) entry = entry ≡ simple_view item
IsFailingItem (failing_items.WithData command count) entry =
    (bytes : List ℕ) × (entry ≡ entries.WithData command bytes) × (length bytes ≡ count)
IsFailingItem failing_items.Line entry = (line : PjlCommand) × (entry ≡ entries.PjlLine line)

-- there is one, and the item is this
abbrev pub Names : Option FailingItem → Entry → Type 0
Names (Some failing_item) entry = IsFailingItem failing_item entry
Names None entry = ⊥

-- what stands at a place in the job's one reading: this item, or none where it is the end of the job
abbrev pub StandsAt : List ℕ → ℕ → Option FailingItem → Type 0
StandsAt job place (Some failing_item) =
    (reading : Reading) × IsReading job reading × (entry : Entry) × Contains (items_of reading) (at place entry)
    × IsFailingItem failing_item entry
StandsAt job place None = place ≡ length job

-- what is told with a verdict on a job:
-- what stands at the place of a finding or a difference; no check answers Unpinnable
abbrev pub IsTold : List ℕ → Verdict → Option FailingItem → Type 0
IsTold job (Pass pages marks) failing_item = failing_item ≡ None
IsTold job (Fail place number (Fault cause)) failing_item = failing_item ≡ None
IsTold job (Fail place number (Finding finding)) failing_item = StandsAt job place failing_item
IsTold job (Fail place number Differs) failing_item = StandsAt job place failing_item
IsTold job (Fail place number Unpinnable) failing_item = ⊥
