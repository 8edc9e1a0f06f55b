use Rattle.std.proofs.Common.{codes, ◌∙◌}
use Rattle.printer_models.specs.Paper.{word_of}
use Rattle.profile_lint.specs.HintLines.{length_names, paper_words}
use Rattle.profile_lint.proofs.Pushed.{word_is_pushed}
use Rattle.profile_lint.proofs.hint_line.push_paper_words.Goals as goal

pub returns : goal.returns
unfolding paper_words
returns g c =
    word_is_pushed c.push_word_in.result c.push_word_in.new.out.items c.args.out.now.items
    (codes " on ") c.as_bytes.result.now (codes " paper in the table of papers (") c.length_names.result.now
    (word_of c.args.paper) (length_names c.args.area)
    (c.as_bytes.ensures.value ∙ c.word.ensures) c.length_names.ensures c.push_word_in.ensures
