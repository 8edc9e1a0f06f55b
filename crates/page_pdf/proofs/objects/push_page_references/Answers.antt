use Rattle.std.proofs.Common.{◌≡◌, ◌++◌, ◌∙◌, ap, arith}
use Rattle.std.specs.List.{flat_map, range_with_len}
use Rattle.page_pdf.proofs.Loops.{entries_more}
use Rattle.page_pdf.specs.Objects.{page_reference}
use Rattle.page_pdf.proofs.objects.push_page_references.Goals as goal

pub loop-index-preserved : goal.loop-index-preserved
loop-index-preserved g c =
    c.in_ok-push_page_reference.ensures
    ∙ ap (λ l. l ++ page_reference c.loop-index.index) c.loop-index.invariant
    ∙ entries_more page_reference c.args.text.now.items c.loop-index.index

pub returns : goal.returns
returns g c =
    let all : c.loop-index.index ≡ c.args.count = omega arith in
    c.loop-index.invariant ∙ ap (λ n. c.args.text.now.items ++ flat_map page_reference (range_with_len 0 n)) all
