use Rattle.std.proofs.Common.{arith}
use Rattle.std.proofs.lemmas.Int.{ints}
use Rattle.page_env.proofs.text.baseline.Goals as goal

pub overflow_add-from : goal.overflow_add-from
overflow_add-from c =
    first_of (omega (arith, ints), grind (arith, ints, c.ticks.ensures, c.ticks-2.ensures, c.from.ensures, c.from-2.ensures))
