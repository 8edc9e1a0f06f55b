use Rattle.std.proofs.Common.{ℕ, List, Option, option_map, filter, refl, rules}
use Rattle.std.specs.List.{concat}
use Rattle.streams.proofs.OutletFacts.{Adds-none}
use Rattle.command_names.specs.CommandNames.{texts_of}
use Rattle.meanings.specs.CommandsTold.{asks_of}
use Rattle.meanings.proofs.ChapterFacts.{asked_join, chapters_cut, chapters_more, chapters_whole}
use Rattle.meanings.proofs.commands_told.write_asked_of_chapters.Goals as goal

pub returns-in_err-write_asked_commands-clause-text : goal.returns-in_err-write_asked_commands-clause-text
returns-in_err-write_asked_commands-clause-text g c =
    let code : Option (List ℕ) = option_map (λ word. word.now) c.args.code in
    chapters_cut (λ texts. concat (filter (asks_of code) texts)) refl (asked_join (asks_of code)) texts_of c.args.chapters.now
    c.loop-chapter.chapter-index _ _ _ _ (search rules) (search rules) c.loop-chapter.invariant.1 _ c.texts.ensures
    c.write_asked_commands.ensures.text.front

pub loop-chapter-init : goal.loop-chapter-init
loop-chapter-init g c = (search rules, Adds-none _)

pub loop-chapter-preserved : goal.loop-chapter-preserved
loop-chapter-preserved g c =
    let code : Option (List ℕ) = option_map (λ word. word.now) c.args.code in (
      search rules,
      chapters_more (λ texts. concat (filter (asks_of code) texts)) refl (asked_join (asks_of code)) texts_of c.args.chapters.now
          c.loop-chapter.chapter-index _ _ _ _ (search rules) c.loop-chapter.invariant.1 _ c.texts.ensures
          (c.write_asked_commands.ensures.text.whole (search rules)),
    )

pub returns-clause-text : goal.returns-clause-text
returns-clause-text g c =
    let code : Option (List ℕ) = option_map (λ word. word.now) c.args.code in
    chapters_whole (λ texts. concat (filter (asks_of code) texts)) refl (asked_join (asks_of code)) texts_of c.args.chapters.now
    c.loop-chapter.chapter-index _ _ c.loop-chapter-test.false c.loop-chapter.invariant.1
