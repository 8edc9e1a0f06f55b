-- Moves and rectangles on the machines of a fleet, which go in step.
use Rattle.std.specs.Prelude.{◌≡◌, None, List, [], ◌∷◌}
use Rattle.page_env.specs.declared.lookup.FormBounds.{FormBounds}
use Rattle.page_env.specs.Forms.{LeavesRest}
use Rattle.page_env.specs.TextMeasure.{TextMeasure}
use Rattle.page_machine.specs.Forms.{FormsOn}
use Rattle.page_machine.specs.MachineState.{MachineState}
use Rattle.page_machine.specs.TextLines.{MeasuresLines}

-- what moves and rectangles take from the first machine, on which no overlay is enabled
abbrev pub FirstForms : FormBounds → List MachineState → Type 0
FirstForms bounds [] = ⊥
FirstForms bounds (m ∷ ms) = FormsOn bounds m × (m.page.env.job.overlay ≡ None)

-- what lines of text take from the first machine
abbrev pub FirstMeasures : TextMeasure → List MachineState → Type 0
FirstMeasures measure [] = ⊥
FirstMeasures measure (m ∷ ms) = MeasuresLines measure m

-- the first machine stands where it did, but for what moves, rectangles and lines of text change of its page
abbrev pub FirstKeeps : List MachineState → List MachineState → Type 0
FirstKeeps [] [] = Unit {0}
FirstKeeps (m ∷ ms) (m' ∷ ms') = (m' ≡ record m { page = m'.page }) × LeavesRest m.page m'.page
FirstKeeps _ _ = ⊥
