-- How far macros may still go down, for the measure of what carries them out.
use Rattle.std.specs.Prelude.{ℕ, ◌+◌}
use Rattle.page_machine.specs.declared.nesting.Nesting.{Nesting}
use Rattle.page_machine.specs.declared.nesting.Nesting.TheVariants.{Overlaid}

-- the levels that may still be begun there: outside an overlay those of an overlay, too
abbrev pub levels_left : (depth left : ℕ) → Nesting → ℕ
levels_left depth left Overlaid = left
levels_left depth left _ = left + depth + 1
