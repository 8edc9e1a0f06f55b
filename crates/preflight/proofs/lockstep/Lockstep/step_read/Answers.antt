use Rattle.std.proofs.Common.{ap, sym, subst}
use Rattle.pcl_items.specs.Items.{Entry, Parameterized, amount, simple_view}
use Rattle.preflight.specs.Carriers.Lockstep.{Fleet, AreRunning}
use Rattle.preflight.proofs.Executing.{as_one_formed, item_in_step}
use Rattle.preflight.proofs.lockstep.Lockstep.step_read.Goals as goal

pub invariant_of-self : goal.invariant_of-self
invariant_of-self g c = λ runs.
    let before = c.self.inside in
    let others = before.others.items in
    let item : Entry = Parameterized c.in-Parameterized.command (amount c.in-Parameterized.n) in
    let running = (subst (λ (f : Fleet). AreRunning f.machines) (sym c.self.view_is) c.requires.running).0 in
    let goes = c.command_goes_as_one.ensures c.if-not-command_goes_as_one.false (amount c.in-Parameterized.n) others in
    as_one_formed c.items_run_on_like_printers.ensures item before.fleet_mode before.counts c.step_command-answer.new.sink before.first
    c.step_command-answer.new.self others (c.self.invariant running) goes
    c.step_command-answer.result running runs c.step_command-answer.ensures

pub returns-then-judge-clause-came : goal.returns-then-judge-clause-came
returns-then-judge-clause-came g c =
    let before = c.self.inside in
    let others = before.others.items in
    let item : Entry = Parameterized c.in-Parameterized.command (amount c.in-Parameterized.n) in
    let running = (subst (λ (f : Fleet). AreRunning f.machines) (sym c.self.view_is) c.requires.running).0 in
    let goes = c.command_goes_as_one.ensures c.if-not-command_goes_as_one.false (amount c.in-Parameterized.n) others in
    item_in_step c.items_run_on_like_printers.ensures item before.fleet_mode before.counts c.step_command-answer.new.sink before.first
    c.step_command-answer.new.self others (c.self.invariant running) goes
    (simple_view c.args.read.item) (ap simple_view c.in-Parameterized.is) c.args.self.now c.self.view_is c.args.read.place
    c.step_command-answer.result c.judge.new.self c.judge.ensures.standing c.step_command-answer.ensures

pub returns-clause-came : goal.returns-clause-came
returns-clause-came g c =
    let before = c.self.inside in
    let others = before.others.items in
    let item : Entry = Parameterized c.in-Parameterized.command (amount c.in-Parameterized.n) in
    let running = (subst (λ (f : Fleet). AreRunning f.machines) (sym c.self.view_is) c.requires.running).0 in
    let goes = c.command_goes_as_one.ensures c.if-not-command_goes_as_one.false (amount c.in-Parameterized.n) others in
    item_in_step c.items_run_on_like_printers.ensures item before.fleet_mode before.counts c.step_command-answer.new.sink before.first
    c.step_command-answer.new.self others (c.self.invariant running) goes
    (simple_view c.args.read.item) (ap simple_view c.in-Parameterized.is) c.args.self.now c.self.view_is c.args.read.place
    c.step_command-answer.result c.judge.new.self c.judge.ensures.standing c.step_command-answer.ensures
