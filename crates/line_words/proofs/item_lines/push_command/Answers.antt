use Rattle.std.proofs.Common.{arith}
use Rattle.std.proofs.lemmas.Grind.{common_steps}
use Rattle.pcl_items.specs.Items.{amount}
use Rattle.line_words.proofs.CommandLines.{line_is_pushed}
use Rattle.line_words.proofs.item_lines.push_command.Goals as goal

pub returns : goal.returns
returns g c =
    line_is_pushed c.args.place c.args.command
    (amount c.args.number) c.args.text.now.items c.extend_from_slice.new.self.items c.extend_from_slice.result c.args.number.within
    (grind (arith, common_steps))
