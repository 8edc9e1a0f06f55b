use Rattle.std.proofs.Common.{ap, sym, ◌∙◌}
use Rattle.pcl_lexer.specs.Lexing.FirstView.{context_view}
use Rattle.survey.specs.declared.step.Standing as code_standing
use Rattle.survey.specs.Survey.{at_end}
use Rattle.survey.specs.Carriers.Steps.{standing_view}
use Rattle.survey.proofs.Steps.{reads_end}
use Rattle.survey.proofs.step.Standing.at_end.Goals as goal

pub returns-in-Reads : goal.returns-in-Reads
returns-in-Reads c =
    reads_end (context_view c.in-Reads.context) c.args.place c.args.bytes.now c.is_empty.result c.cause_at_end.result c.item_place.result
    c.ends_so.result c.is_empty.ensures c.cause_at_end.ensures c.item_place.ensures c.ends_so.ensures
    ∙ ap (λ (s : code_standing.Standing). at_end (standing_view s) c.args.place c.args.bytes.now) (sym c.in-Reads.is)
