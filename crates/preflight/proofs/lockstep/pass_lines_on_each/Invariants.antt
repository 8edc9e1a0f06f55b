use Rattle.std.proofs.Common.{◌≡◌, ℕ, List}
use Rattle.page_env.specs.declared.text_lines.TextAppearance.{TextAppearance}
use Rattle.page_env.specs.declared.text_lines.TextPlace.{TextPlace}
use Rattle.page_env.specs.TextLines.{glyph_count, place_behind}
use Rattle.page_machine.specs.TextLines.{PrintsLines}
use Rattle.preflight.specs.Carriers.TextInStep.{GoOnAll}
use Rattle.preflight.proofs.TextInStep.{ChangedUpTo}
use Rattle.preflight.proofs.lockstep.pass_lines_on_each.Given as goal

abbrev pub invariant-loop-machine : goal.invariant-loop-machine
invariant-loop-machine g l =
    (look : TextAppearance) (from : TextPlace) (bytes : List ℕ) → GoOnAll look from bytes l.initial.machines →
    l.lines.end ≡ place_behind look bytes from → l.lines.glyphs ≡ glyph_count bytes
    → ChangedUpTo (PrintsLines look from bytes) l.machine-index l.initial.machines l.machines
