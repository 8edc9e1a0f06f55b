use Rattle.std.proofs.Common.{sym, arith}
use Rattle.std.proofs.lemmas.List.{length-take-le, take_all}
use Rattle.profile_lint.proofs.shown.quoted_part.Goals as goal

pub slice_bounds-result-end : goal.slice_bounds-result-end
slice_bounds-result-end c = sym (length-take-le 40 c.args.line.now (omega arith))

pub returns-else-line-gt-MOST_QUOTED : goal.returns-else-line-gt-MOST_QUOTED
returns-else-line-gt-MOST_QUOTED c = sym (take_all 40 c.args.line.now (omega arith))
