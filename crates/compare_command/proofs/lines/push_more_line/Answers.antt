use Rattle.std.proofs.Common.{◌++◌, ◌∙◌, ap, append_assoc, codes}
use Rattle.line_words.specs.Figures.{named}
use Rattle.compare_command.specs.Lines.{line_end, more_line}
use Rattle.compare_command.proofs.lines.push_more_line.Goals as goal

pub returns : goal.returns
unfolding more_line
returns g c =
    let end = line_end c.args.is_named c.args.job.now in
    c.in_ok-push_line_end.ensures ∙ ap (λ l. l ++ end) c.in_ok-push_named.ensures
    ∙ append_assoc c.args.text.now.items (named (codes "MORE pages=") c.args.pages) end
