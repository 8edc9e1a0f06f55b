use Rattle.std.proofs.Common.{sym, ap, subst}
use Rattle.pcl_items.specs.Items.{Entry, simple_view}
use Rattle.preflight.specs.Carriers.Lockstep.{Execute, GoesAlike}
use Rattle.preflight.proofs.FormsInStep.{bound_kept}
use Rattle.preflight.proofs.lockstep.Lockstep.form.Goals as goal

-- ---- a command

pub returns-in-Parameterized-clause-formed : goal.returns-in-Parameterized-clause-formed
returns-in-Parameterized-clause-formed g c = λ yes.
    let old = c.args.self.now in
    let new = c.form_command.new.self in
    subst (λ (i : Entry). GoesAlike (Execute i) old.machines new.machines old.counts new.counts)
    (sym (ap simple_view c.in-Parameterized.is)) (c.form_command.ensures.formed yes)

-- ---- a half line feed

pub returns-in-HalfLineFeed-clause-formed : goal.returns-in-HalfLineFeed-clause-formed
returns-in-HalfLineFeed-clause-formed g c = λ yes.
    let old = c.args.self.now in
    let new = c.feed_half_line.new.self in
    subst (λ (i : Entry). GoesAlike (Execute i) old.machines new.machines old.counts new.counts)
    (sym (ap simple_view c.in-HalfLineFeed.is)) (c.feed_half_line.ensures.fed yes)

pub returns-in-HalfLineFeed-clause-known : goal.returns-in-HalfLineFeed-clause-known
returns-in-HalfLineFeed-clause-known g c = λ yes.
    bound_kept c.args.known.now c.args.self.now.machines c.feed_half_line.new.self.machines (c.feed_half_line.ensures.kept yes)
    c.requires.known
