use Rattle.std.proofs.Common.{◌≡◌, true, rules}
use Rattle.std.specs.Prelude.{is_none}
use Rattle.preflight.proofs.FormsInStep.{none_of}
use Rattle.preflight.proofs.known.forget_measure.Goals as goal

pub returns-then-is_none : goal.returns-then-is_none
returns-then-is_none g c =
    let none : is_none c.args.measure.now ≡ true = search rules in
    none_of c.args.measure.now none
