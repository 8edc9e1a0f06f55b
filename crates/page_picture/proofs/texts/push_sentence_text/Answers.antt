use Rattle.std.proofs.Common.{◌++◌, ◌∙◌, ap, flat_map}
use Rattle.std.proofs.lemmas.List.{take_all}
use Rattle.shown_bytes.proofs.Further.{further}
use Rattle.page_picture.specs.Texts.{byte_text}
use Rattle.page_picture.proofs.texts.push_sentence_text.Goals as goal

pub loop-byte-preserved : goal.loop-byte-preserved
loop-byte-preserved g c =
    further byte_text c.args.sentence.now c.loop-byte.byte-index _
    c.args.text.now.items c.loop-byte.text.items c.push_byte.new.text.items
    c.loop-byte-test.true c.loop-byte.invariant c.in_ok-push_byte.ensures

pub returns : goal.returns
returns g c =
    c.loop-byte.invariant ∙ ap (λ sentence. c.args.text.now.items ++ flat_map byte_text sentence) (take_all _ _ c.loop-byte-test.false)
