use Rattle.std.proofs.Common.{rules}
use Rattle.streams.proofs.OutletFacts.{Adds-none}
use Rattle.meanings.specs.CommandsTold.{list_line}
use Rattle.meanings.proofs.CommandFacts.{lines_cut, lines_more, lines_whole}
use Rattle.meanings.proofs.commands_told.write_list.Goals as goal

pub returns-in_err-write_text-clause-text : goal.returns-in_err-write_text-clause-text
returns-in_err-write_text-clause-text g c =
    lines_cut list_line (λ text. text.now) c.args.commands.now c.loop-text.text-index _ _ _ _ (search rules) (search rules)
    c.loop-text.invariant.1 _ c.list_line.ensures c.write_text.ensures.text.front

pub loop-text-init : goal.loop-text-init
loop-text-init g c = (search rules, Adds-none _)

pub loop-text-preserved : goal.loop-text-preserved
loop-text-preserved g c = (
  search rules,
  lines_more list_line (λ text. text.now) c.args.commands.now c.loop-text.text-index _ _ _ _ (search rules) c.loop-text.invariant.1
      _ c.list_line.ensures (c.write_text.ensures.text.whole (search rules)),
)

pub returns-clause-text : goal.returns-clause-text
returns-clause-text g c =
    lines_whole list_line (λ text. text.now) c.args.commands.now c.loop-text.text-index _ _ c.loop-text-test.false c.loop-text.invariant.1
