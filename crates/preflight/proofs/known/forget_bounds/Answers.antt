use Rattle.std.proofs.Common.{◌≡◌, true, rules}
use Rattle.std.specs.Prelude.{is_none}
use Rattle.preflight.proofs.FormsInStep.{none_of}
use Rattle.preflight.proofs.known.forget_bounds.Goals as goal

pub returns-then-is_none : goal.returns-then-is_none
returns-then-is_none c =
    let none : is_none c.args.known.now ≡ true = search rules in
    none_of c.args.known.now none
