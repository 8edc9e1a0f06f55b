use Rattle.std.proofs.Common.{◌++◌, ◌∙◌, ap, flat_map}
use Rattle.std.proofs.lemmas.List.{take_all}
use Rattle.shown_bytes.proofs.Further.{further}
use Rattle.page_pdf.specs.Hexes.{letter_code}
use Rattle.page_pdf.proofs.hexes.push_letters.Goals as goal

pub loop-byte-preserved : goal.loop-byte-preserved
loop-byte-preserved g c =
    further letter_code c.args.bytes.now c.loop-byte.byte-index _
    c.args.text.now.items c.loop-byte.text.items c.push_letter.new.text.items
    c.loop-byte-test.true c.loop-byte.invariant c.in_ok-push_letter.ensures

pub returns : goal.returns
returns g c =
    c.loop-byte.invariant ∙ ap (λ bytes. c.args.text.now.items ++ flat_map letter_code bytes) (take_all _ _ c.loop-byte-test.false)
