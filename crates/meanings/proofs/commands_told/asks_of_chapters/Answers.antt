use Rattle.std.proofs.Common.{ℕ, List, Option, option_map, sym, ◌∙◌, ap}
use Rattle.std.proofs.lemmas.List.Folds.{list_any_at}
use Rattle.std.specs.List.{list_any}
use Rattle.command_names.specs.CommandNames.{texts_of}
use Rattle.meanings.proofs.ChapterFacts.{any_of_chapters}
use Rattle.meanings.proofs.ExplainFacts.{none_more, none_at_all}
use Rattle.meanings.specs.CommandsTold.{asks_of}
use Rattle.meanings.proofs.commands_told.asks_of_chapters.Goals as goal

pub returns-then-asks_of_some : goal.returns-then-asks_of_some
returns-then-asks_of_some c =
    let code : Option (List ℕ) = option_map (λ word. word.now) c.args.code in
    sym (any_of_chapters (asks_of code) texts_of c.args.chapters.now
    ∙ list_any_at (λ chapter. list_any (asks_of code) (texts_of chapter)) c.args.chapters.now c.loop-chapter.chapter-index _
    c.loop-chapter-test.true
    (sym (c.asks_of_some.ensures ∙ ap (list_any (asks_of code)) c.texts.ensures) ∙ c.if-asks_of_some.true))

pub loop-chapter-preserved : goal.loop-chapter-preserved
loop-chapter-preserved c =
    let code : Option (List ℕ) = option_map (λ word. word.now) c.args.code in
    none_more (λ chapter. list_any (asks_of code) (texts_of chapter)) c.args.chapters.now c.loop-chapter.chapter-index _
    c.loop-chapter-test.true c.loop-chapter.invariant
    (sym (c.asks_of_some.ensures ∙ ap (list_any (asks_of code)) c.texts.ensures) ∙ c.if-asks_of_some.false)

pub returns : goal.returns
returns c =
    let code : Option (List ℕ) = option_map (λ word. word.now) c.args.code in
    sym (any_of_chapters (asks_of code) texts_of c.args.chapters.now
    ∙ none_at_all (λ chapter. list_any (asks_of code) (texts_of chapter)) c.args.chapters.now c.loop-chapter.chapter-index
    c.loop-chapter-test.false c.loop-chapter.invariant)
