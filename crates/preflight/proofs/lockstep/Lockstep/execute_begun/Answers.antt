use Rattle.std.proofs.Common.{Option, subst}
use Rattle.std.specs.Prelude.{IfSome}
use Rattle.page_env.specs.TextMeasure.{TextMeasure}
use Rattle.preflight.specs.Carriers.FormsInStep.{FirstMeasures}
use Rattle.preflight.specs.Carriers.Lockstep.{machines_of}
use Rattle.preflight.proofs.FormsInStep.{forms_kept, measure_kept}
use Rattle.preflight.proofs.lockstep.Lockstep.execute_begun.Goals as goal

pub execute_measured-requires-clause-measured : goal.execute_measured-requires-clause-measured
execute_measured-requires-clause-measured g c =
    subst (λ (o : Option TextMeasure). IfSome o (λ m. FirstMeasures m (machines_of c.args.self.now))) c.in-Some.is c.keep_measure.ensures

pub returns-in-Some-clause-measured : goal.returns-in-Some-clause-measured
returns-in-Some-clause-measured g c =
    measure_kept c.keep_measure.new.measure c.args.self.now.machines c.execute_measured.new.self.machines c.execute_measured.ensures.kept
    c.keep_measure.ensures

pub returns-in-Some-clause-kept : goal.returns-in-Some-clause-kept
returns-in-Some-clause-kept g c = λ bounds forms.
    forms_kept bounds c.args.self.now.machines c.execute_measured.new.self.machines c.execute_measured.ensures.kept forms
