use Rattle.std.proofs.Common.{sym, ◌∙◌}
use Rattle.std.proofs.lemmas.List.{length-map}
use Rattle.page_comparison.specs.Pages.{MadeMark, made_page, shapes_of}
use Rattle.page_comparison.proofs.Steps.{few_marks}
use Rattle.page_comparison.proofs.compare.count_marks.Goals as goal

pub returns : goal.returns
returns g c =
    let marks = (made_page c.args.page.now).marks in
    c.add_marks.ensures (shapes_of marks)
    (length-map marks (λ (m : MadeMark). m.shape) ∙ few_marks c.args.page.now.marks.items
    ∙ sym (c.len.ensures ∙ c.args.page.now.marks.ok.0))
