use Rattle.std.proofs.Common.{◌≤◌, ◌^◌, ap, arith, length, subst, sym, ◌∙◌}
use Rattle.page_comparison.specs.Pages.{MadePage, made_page}
use Rattle.page_comparison.specs.Reading.{page_at_end}
use Rattle.page_comparison.proofs.PageSteps.{reads_none}
use Rattle.page_comparison.proofs.reading.read_page.Goals as goal

pub returns-then-is_over-clause-read : goal.returns-then-is_over-clause-read
returns-then-is_over-clause-read g c =
    reads_none (g.S.Source.state c.args.source.now) c.args.job.now (made_page c.end_at.new.self)
    (sym c.is_over.ensures ∙ c.if-is_over.true)
    (c.end_at.ensures ∙ (λ i. page_at_end (c.place.ensures i) (c.new-page.ensures i)))

pub returns-then-is_over-clause-few : goal.returns-then-is_over-clause-few
returns-then-is_over-clause-few g c =
    let is = c.end_at.ensures ∙ ap (page_at_end c.place.result) c.new-page.ensures in
    subst (λ (p : MadePage). length p.marks ≤ 2 ^ 21) (sym is) (omega arith)

pub fill_page-requires-clause-unended : goal.fill_page-requires-clause-unended
fill_page-requires-clause-unended g c = sym c.is_over.ensures ∙ c.if-is_over.false
