-- What is said of two jobs that print the same.
use Rattle.std.specs.Prelude.{◌≡◌, ℕ, List}
use Rattle.pcl_lexer.specs.Reading.{Reading, IsReading}
use Rattle.device_profile.specs.declared.panel.Panel.{Panel}
use Rattle.device_profile.specs.Printer.{Printer}
use Rattle.page_machine.specs.Job.{events_of, plain_run}
use Rattle.sinks.specs.declared.counts.Counts.{Counts}
use Rattle.comparison.specs.declared.difference.Comparison.TheVariants.{Same}
use Rattle.comparison.specs.Comparison.{IsComparison}

-- on this printer, from this panel, the plain runs of both jobs give the same marks and ends of pages
abbrev pub PrintsSame : Printer → Panel → (old new : List ℕ) → Type 0
PrintsSame printer panel old new =
    (old_reading new_reading : Reading) → IsReading old old_reading → IsReading new new_reading →
    events_of (plain_run printer panel old_reading).items ≡ events_of (plain_run printer panel new_reading).items

-- what is the same from one panel is so from there
abbrev pub SaysSame : ℕ → Printer → Panel → (old new : List ℕ) → Type 0
SaysSame number printer panel old new =
    (counts : Counts) → IsComparison number printer panel old new (Same counts) → PrintsSame printer panel old new
