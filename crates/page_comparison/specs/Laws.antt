-- What the relations of two jobs have to do with each other.
use Rattle.std.specs.Prelude.{◌≡◌, ℕ, Bool, true, false, ◌↔◌}
use Rattle.pcl_lexer.specs.Reading.{Reading}
use Rattle.device_profile.specs.declared.panel.Panel.{Panel}
use Rattle.device_profile.specs.Printer.{Printer}
use Rattle.sinks.specs.declared.counts.Counts.{Counts}
use Rattle.comparison.specs.Comparison.{comparison_from}
use Rattle.comparison.specs.declared.difference.Comparison.TheVariants.{Same}
use Rattle.page_comparison.specs.declared.differences.Most.{Most}
use Rattle.page_comparison.specs.declared.differences.Nearness.{Nearness}
use Rattle.page_comparison.specs.Comparison.{SamePages}
use Rattle.page_comparison.specs.Comparison as pages

abbrev pub near_by : Bool → ℕ → Nearness
near_by any_order within = record { any_order = any_order; within = within }

-- both print the same by this relation, on this printer from this panel
abbrev pub AreSame : Nearness → Most → (number : ℕ) → Printer → Panel → (old new : Reading) → Type 0
AreSame near most number printer panel old new =
    (counts : Counts) × (pages.comparison_from near most number printer panel old new ≡ SamePages counts)

-- within no distance and in their order they are the same exactly where they are so event by event
abbrev pub IsExact : Most → (number : ℕ) → Printer → Panel → (old new : Reading) → Type 0
IsExact most number printer panel old new =
    AreSame (near_by false 0) most number printer panel old new
    ↔ ((counts : Counts) × (comparison_from number printer panel old new ≡ Same counts))

-- what is the same in its order is so in any order
abbrev pub NeedsNoOrder : (within : ℕ) → Most → (number : ℕ) → Printer → Panel → (old new : Reading) → Type 0
NeedsNoOrder within most number printer panel old new =
    AreSame (near_by false within) most number printer panel old new →
    AreSame (near_by true within) most number printer panel old new

-- a job that does not fail is the same as itself
abbrev pub IsSameAsItself : Nearness → Most → (number : ℕ) → Printer → Panel → Reading → Type 0
IsSameAsItself near most number printer panel job =
    (counts : Counts) → comparison_from number printer panel job job ≡ Same counts →
    AreSame near most number printer panel job job
