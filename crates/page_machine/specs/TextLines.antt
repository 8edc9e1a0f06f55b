-- Lines of text that a machine carries out one byte after another, without a finding.
use Rattle.std.specs.Prelude.{◌≡◌, None, ℕ, false, map, List, [], ◌∷◌}
use Rattle.device_profile.specs.declared.panel.Panel.{Panel}
use Rattle.pcl_items.specs.declared.item.Mode.TheVariants.{Pcl}
use Rattle.pcl_items.specs.Lines.{line_item}
use Rattle.page_env.specs.declared.text_lines.TextAppearance.{TextAppearance}
use Rattle.page_env.specs.declared.text_lines.TextPlace.{TextPlace}
use Rattle.page_env.specs.Mark.{characters_of}
use Rattle.page_env.specs.Settings.{state_at}
use Rattle.page_env.specs.TextLines.{StandsAt, behind, glyph_at, page_behind}
use Rattle.page_env.specs.TextMeasure.{HasMeasure, TextMeasure}
use Rattle.page_machine.specs.Event.{Event, Marked}
use Rattle.page_machine.specs.Run.{just, after, Done, peaks_of}
use Rattle.page_machine.specs.MachineState.{MachineState}
use Rattle.page_machine.specs.Machine.{item_of}

-- what lines of text take from the machine, and where they begin; it may go on in mode PCL, and no definition is open
pub record IsMeasuredAt (machine : MachineState) (m : TextMeasure) (from : TextPlace) : Type 0 where
  pub measure : HasMeasure machine.printer machine.page m
  pub stands : StandsAt machine.page from
  pub no_definition : machine.macros.definition ≡ None
  pub mode : machine.mode ≡ Pcl
  pub running : machine.stopped ≡ false

-- what lines of text take from the machine, which may go on in mode PCL; no definition is open
pub record MeasuresLines (m : TextMeasure) (machine : MachineState) : Type 0 where
  pub measure : HasMeasure machine.printer machine.page m
  pub no_definition : machine.macros.definition ≡ None
  pub mode : machine.mode ≡ Pcl

-- the machine behind a byte that goes
abbrev pub machine_behind : TextAppearance → TextPlace → ℕ → MachineState → MachineState
machine_behind look place code machine = record machine { page = page_behind look place code machine.page }

-- the events of such a byte: its character, if it has one
abbrev pub glyph_events : TextAppearance → TextPlace → ℕ → List Event
glyph_events look place code = map Marked (characters_of (glyph_at look place code))

-- Each of the bytes is an item that the machine carries out to its end, whatever the panel, with the mark of this look.
abbrev pub PrintsLines : TextAppearance → TextPlace → List ℕ → MachineState → MachineState → Type 0
PrintsLines look place [] old new = new ≡ old
PrintsLines look place (code ∷ codes) old new =
    let mid = machine_behind look place code old in
    ((panel : Panel) →
    (item_of old (line_item code)).run panel
    ≡ after (glyph_events look place code) (peaks_of (state_at panel mid.page))
    (just [] (Done (state_at panel mid.page))))
    × ((item_of old (line_item code)).macros ≡ old.macros)
    × PrintsLines look (behind look code place) codes mid new
