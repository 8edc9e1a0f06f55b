use Rattle.std.proofs.Common.{◌++◌, ◌∙◌, ap, flat_map}
use Rattle.std.proofs.lemmas.List.{take_all}
use Rattle.shown_bytes.proofs.Further.{further}
use Rattle.test_sheet.specs.OwnPage.{numbered_line}
use Rattle.test_sheet.proofs.own_page.push_numbered_lines.Goals as goal

pub loop-number-preserved : goal.loop-number-preserved
loop-number-preserved g c =
    further (numbered_line c.args.area c.args.face.now c.args.termination) c.args.numbers.now c.loop-number.number-index _
    c.args.text.now.items c.loop-number.text.items c.push_numbered_line.new.text.items
    c.loop-number-test.true c.loop-number.invariant c.in_ok-push_numbered_line.ensures

pub returns : goal.returns
returns g c =
    let part = numbered_line c.args.area c.args.face.now c.args.termination in
    c.loop-number.invariant
    ∙ ap (λ numbers. c.args.text.now.items ++ flat_map part numbers) (take_all _ _ c.loop-number-test.false)
