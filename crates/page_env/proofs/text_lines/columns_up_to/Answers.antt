use Rattle.std.proofs.Common.{arith}
use Rattle.page_env.proofs.TextRuns.{begin_up_to}
use Rattle.page_env.proofs.text_lines.columns_up_to.Goals as goal

pub returns-clause-columns : goal.returns-clause-columns
returns-clause-columns c = λ n some less.
    let min = c.min.ensures in
    let more = c.saturating_add.ensures in (
      c.columns_between-ended.ensures.columns n some (omega (arith, less, min)),
      begin_up_to c.args.x c.args.last c.args.column c.columns_between-others.result c.requires c.columns_between-others.ensures.columns n
          some (omega (arith, less, min, more)),
    )
