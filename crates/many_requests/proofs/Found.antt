-- What is said of a value that may be found.
use Rattle.std.proofs.Common.{None, Option, Some}
use Rattle.std.specs.Prelude.{IfNone, IfSome}

pub none_weaker : {X : Type 0} {P Q : Type 0} (found : Option X) → (P → Q) → IfNone found P → IfNone found Q
none_weaker None more has = more has
none_weaker (Some x) more has = tt

pub some_weaker : {X : Type 0} {P Q : X → Type 0} (found : Option X) → ((x : X) → P x → Q x) → IfSome found P → IfSome found Q
some_weaker None more has = tt
some_weaker (Some x) more has = more x has
