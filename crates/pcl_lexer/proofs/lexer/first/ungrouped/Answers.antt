use Rattle.std.proofs.Common.{◌∙◌}
use Rattle.pcl_lexer.specs.Escapes.FieldEnd.{Open, BadNumber, Ended}
use Rattle.pcl_items.specs.Items.{amount}
use Rattle.pcl_lexer.proofs.Escapes.FieldEnds.{ungrouped_by}
use Rattle.pcl_lexer.proofs.lexer.first.ungrouped.Goals as goal

pub returns-in-Open-clause-first : goal.returns-in-Open-clause-first
returns-in-Open-clause-first c = λ all. ungrouped_by c.args.introducer c.args.bytes.now Open c.in-Open.ensures.end

pub returns-in-BadNumber-clause-first : goal.returns-in-BadNumber-clause-first
returns-in-BadNumber-clause-first c = λ all. ungrouped_by c.args.introducer c.args.bytes.now BadNumber c.in-BadNumber.ensures.end

pub returns-in-Ended-clause-first : goal.returns-in-Ended-clause-first
returns-in-Ended-clause-first c = λ all.
    let field = c.in-Ended.field in
    c.ended_ungrouped.ensures.first all
    ∙ ungrouped_by c.args.introducer c.args.bytes.now (Ended (amount field.number) field.len field.last) c.in-Ended.ensures.end
