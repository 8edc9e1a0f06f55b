use Rattle.std.proofs.Common.{arith}
use Rattle.std.proofs.lemmas.Int.{ints}
use Rattle.page_env.proofs.text_lines.columns_behind.Goals as goal

pub overflow_add-from : goal.overflow_add-from
overflow_add-from c = grind (arith, ints, c.ticks.ensures, c.from-from.ensures, c.from.ensures, c.ranges)
