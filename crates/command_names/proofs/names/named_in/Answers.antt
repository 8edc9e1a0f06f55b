use Rattle.std.proofs.Common.{option_map, sym, ◌∙◌, ap}
use Rattle.command_names.specs.CommandNames.{text_by, texts_of}
use Rattle.command_names.proofs.NamedFacts.{named_at, named_behind}
use Rattle.command_names.proofs.names.named_in.Goals as goal

pub returns-in-Some : goal.returns-in-Some
returns-in-Some c =
    c.name_of.ensures
    ∙ sym (c.loop-chapter.invariant
    ∙ named_at c.args.key.now texts_of c.args.chapters.now c.loop-chapter.chapter-index _ c.loop-chapter-test.true
    (option_map (λ text. text.now) c.text_by.result) (c.text_by.ensures ∙ ap (text_by c.args.key.now) c.texts.ensures)
    c.in-Some.text.now (ap (option_map (λ text. text.now)) c.in-Some.is))

pub loop-chapter-preserved : goal.loop-chapter-preserved
loop-chapter-preserved c =
    c.loop-chapter.invariant
    ∙ named_behind c.args.key.now texts_of c.args.chapters.now c.loop-chapter.chapter-index _ c.loop-chapter-test.true
    (option_map (λ text. text.now) c.text_by.result) (c.text_by.ensures ∙ ap (text_by c.args.key.now) c.texts.ensures)
    (ap (option_map (λ text. text.now)) c.in_default.is)
