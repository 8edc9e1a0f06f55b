use Rattle.std.proofs.Common.{◌<◌, length, subst, sym, arith}
use Rattle.page_machine.specs.TextLines.{PrintsLines}
use Rattle.preflight.specs.Carriers.TextInStep.{GoOn}
use Rattle.preflight.proofs.TextInStep.{goes_at, unchanged_at, changed_more}
use Rattle.preflight.proofs.lockstep.pass_lines_on_each.Goals as goal

pub loop-machine-preserved : goal.loop-machine-preserved
loop-machine-preserved g c = λ look from bytes go end glyphs.
    let prints = PrintsLines look from bytes in
    let i = c.loop-machine.machine-index in
    let d = c.machine-item.result in
    let old = c.args.machines.now in
    let new = c.loop-machine.machines in
    let h = c.loop-machine.invariant look from bytes go end glyphs in
    let inside : i < length new = omega (arith, c.loop-machine-test.true, c.loop-machine.auto.machines) in
    let same = unchanged_at prints i old new d h inside in
    let goes = subst (GoOn look from bytes) (sym same) (goes_at look from bytes old i d c.loop-machine-test.true go) in
    changed_more prints i old new d h inside c.pass_lines.new.self
    (subst (λ m. prints m c.pass_lines.new.self) same
    (c.pass_lines.ensures look from bytes goes.no_definition (record { stands = goes.stands; go = goes.go; end = end; glyphs = glyphs })))
