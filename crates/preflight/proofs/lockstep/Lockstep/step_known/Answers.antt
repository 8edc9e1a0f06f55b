use Rattle.std.proofs.Common.{sym, ap, subst}
use Rattle.pcl_items.specs.Items.{simple_view}
use Rattle.preflight.specs.CheckState.{StandsBy, is_open}
use Rattle.preflight.specs.Carriers.Lockstep.{AllAdmit, AreRunning, Execute, Fleet, GoesInStep, counts_of, machines_of}
use Rattle.preflight.proofs.CheckStates.{open_by}
use Rattle.preflight.proofs.FormsInStep.{measure_kept, none_kept}
use Rattle.preflight.proofs.lockstep.Lockstep.step_known.Goals as goal

-- ---- a command of forms

pub returns-then-form-clause-came : goal.returns-then-form-clause-came
returns-then-form-clause-came g c = open_by _ _ c.requires.open (c.form.ensures.formed c.if-form.true)

pub returns-then-form-clause-open : goal.returns-then-form-clause-open
returns-then-form-clause-open g c = sym (ap is_open c.requires.open)

pub returns-then-form-clause-known : goal.returns-then-form-clause-known
returns-then-form-clause-known g c = λ yes. c.form.ensures.known c.if-form.true

pub returns-then-form-clause-measured : goal.returns-then-form-clause-measured
returns-then-form-clause-measured g c = λ yes.
    measure_kept c.args.measure.now c.args.self.now.machines c.form.new.self.machines (c.form.ensures.kept c.if-form.true)
    c.requires.measured

-- ---- any other, before which the machines stand where they did

pub step_copied-requires-clause-running : goal.step_copied-requires-clause-running
step_copied-requires-clause-running g c =
    subst (λ (f : Fleet). AreRunning f.machines) (sym (c.form.ensures.same c.if-form.false)) c.requires.running

pub step_copied-requires-clause-admitted : goal.step_copied-requires-clause-admitted
step_copied-requires-clause-admitted g c =
    subst (λ (f : Fleet). AllAdmit (Execute (simple_view c.args.read.item)) f.machines) (sym (c.form.ensures.same c.if-form.false))
    c.requires.admitted

pub returns-clause-came : goal.returns-clause-came
returns-clause-came g c =
    subst
    (λ (f : Fleet). StandsBy c.step_copied.new.state
    (λ failed. GoesInStep (Execute (simple_view c.args.read.item)) c.args.read.place f.machines (machines_of c.step_copied.new.self)
    f.counts (counts_of c.step_copied.new.self) failed))
    (c.form.ensures.same c.if-form.false) c.step_copied.ensures.came

pub returns-clause-known : goal.returns-clause-known
returns-clause-known g c = λ yes. none_kept _ _ c.step_copied.ensures.no_bounds

pub returns-clause-measured : goal.returns-clause-measured
returns-clause-measured g c = λ yes. none_kept _ _ c.step_copied.ensures.no_measure
