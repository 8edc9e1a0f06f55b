use Rattle.std.proofs.Common.{map, refl, rules}
use Rattle.std.specs.List.{concat}
use Rattle.streams.proofs.OutletFacts.{Adds-none}
use Rattle.command_names.specs.CommandNames.{texts_of}
use Rattle.meanings.specs.CommandsTold.{list_line}
use Rattle.meanings.proofs.ChapterFacts.{chapters_cut, chapters_more, chapters_whole, lines_join}
use Rattle.meanings.proofs.commands_told.write_lists.Goals as goal

pub returns-in_err-write_list-clause-text : goal.returns-in_err-write_list-clause-text
returns-in_err-write_list-clause-text g c =
    chapters_cut (λ texts. concat (map list_line texts)) refl (lines_join list_line) texts_of c.args.chapters.now
    c.loop-chapter.chapter-index _ _ _ _ (search rules) (search rules) c.loop-chapter.invariant.1 _ c.texts.ensures
    c.write_list.ensures.text.front

pub loop-chapter-init : goal.loop-chapter-init
loop-chapter-init g c = (search rules, Adds-none _)

pub loop-chapter-preserved : goal.loop-chapter-preserved
loop-chapter-preserved g c = (
  search rules,
  chapters_more (λ texts. concat (map list_line texts)) refl (lines_join list_line) texts_of c.args.chapters.now
      c.loop-chapter.chapter-index _ _ _ _ (search rules) c.loop-chapter.invariant.1 _ c.texts.ensures
      (c.write_list.ensures.text.whole (search rules)),
)

pub returns-clause-text : goal.returns-clause-text
returns-clause-text g c =
    chapters_whole (λ texts. concat (map list_line texts)) refl (lines_join list_line) texts_of c.args.chapters.now
    c.loop-chapter.chapter-index _ _ c.loop-chapter-test.false c.loop-chapter.invariant.1
