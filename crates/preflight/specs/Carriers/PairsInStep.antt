-- Pairs of coordinates on the machines of a fleet, which go in step.
use Rattle.std.specs.Prelude.{◌≡◌, None, List, [], ◌∷◌}
use Rattle.page_env.specs.declared.plot.PenBounds.{PenBounds}
use Rattle.page_machine.specs.MachineState.{MachineState}
use Rattle.page_machine.specs.PenLines.{DrawsIn}

-- the pen of the first machine draws within the box, and no overlay is enabled on it
abbrev pub FirstDraws : PenBounds → List MachineState → Type 0
FirstDraws box [] = ⊥
FirstDraws box (m ∷ ms) = DrawsIn box m × (m.page.env.job.overlay ≡ None)
