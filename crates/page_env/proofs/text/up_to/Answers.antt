use Rattle.std.proofs.Common.{arith}
use Rattle.std.proofs.lemmas.Int.{ints}
use Rattle.page_env.proofs.text.up_to.Goals as goal

pub overflow_add-place : goal.overflow_add-place
overflow_add-place c = grind (arith, ints, c.ticks.ensures, c.from.ensures, c.from-2.ensures, c.ranges)
