use Rattle.std.proofs.Common.{Option, subst}
use Rattle.std.specs.Prelude.{IfSome}
use Rattle.page_env.specs.declared.lookup.FormBounds.{FormBounds}
use Rattle.preflight.specs.Carriers.FormsInStep.{FirstForms}
use Rattle.preflight.specs.Carriers.Lockstep.{machines_of}
use Rattle.preflight.proofs.FormsInStep.{bound_kept}
use Rattle.preflight.proofs.lockstep.Lockstep.form_command.Goals as goal

pub form_on-requires-clause-known : goal.form_on-requires-clause-known
form_on-requires-clause-known g c =
    subst (λ (o : Option FormBounds). IfSome o (λ bounds. FirstForms bounds (machines_of c.args.self.now))) c.in-Some.is
    c.keep_bounds.ensures

pub returns-in-Some-clause-known : goal.returns-in-Some-clause-known
returns-in-Some-clause-known g c = λ yes.
    bound_kept c.keep_bounds.new.known c.args.self.now.machines c.form_on.new.self.machines (c.form_on.ensures.kept yes)
    c.keep_bounds.ensures
