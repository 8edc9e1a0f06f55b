use Rattle.std.proofs.Common.{◌≡◌, ◌++◌, ◌∙◌, ap, arith}
use Rattle.std.specs.List.{flat_map, range_with_len}
use Rattle.page_pdf.proofs.Loops.{entries_more}
use Rattle.page_pdf.specs.Maps.{entries_to, map_entry}
use Rattle.page_pdf.proofs.maps.push_entries.Goals as goal

pub loop-code-preserved : goal.loop-code-preserved
loop-code-preserved g c =
    c.in_ok-push_entry.ensures
    ∙ ap (λ l. l ++ map_entry c.args.repertoire c.loop-code.code) c.loop-code.invariant
    ∙ entries_more (map_entry c.args.repertoire) c.args.text.now.items c.loop-code.code

pub returns : goal.returns
unfolding entries_to
returns g c =
    let all : c.loop-code.code ≡ c.args.count = omega arith in
    c.loop-code.invariant ∙ ap (λ n. c.args.text.now.items ++ flat_map (map_entry c.args.repertoire) (range_with_len 0 n)) all
