use Rattle.std.proofs.Common.{◌++◌, ◌∙◌, ap, flat_map}
use Rattle.std.proofs.lemmas.List.{take_all}
use Rattle.shown_bytes.proofs.Further.{further}
use Rattle.page_pdf.specs.Table.{table_entry}
use Rattle.page_pdf.proofs.table.push_entries.Goals as goal

pub loop-place-preserved : goal.loop-place-preserved
loop-place-preserved g c =
    further table_entry c.args.places.now c.loop-place.place-index _
    c.args.text.now.items c.loop-place.text.items c.push_entry.new.text.items
    c.loop-place-test.true c.loop-place.invariant c.in_ok-push_entry.ensures

pub returns : goal.returns
returns g c =
    c.loop-place.invariant ∙ ap (λ places. c.args.text.now.items ++ flat_map table_entry places) (take_all _ _ c.loop-place-test.false)
