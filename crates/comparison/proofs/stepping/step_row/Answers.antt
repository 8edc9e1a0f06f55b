use Rattle.std.proofs.Common.{ap, ◌∙◌, ◌+◌, length, refl, subst, sym}
use Rattle.pcl_items.specs.declared.item.Item.TheVariants.{WithData}
use Rattle.pcl_items.specs.declared.pcl.command.DataCommand.TheVariants.{RasterRow}
use Rattle.pcl_items.specs.Items.{view}
use Rattle.pcl_items.specs.Modes.{follows}
use Rattle.pcl_lexer.specs.Lexing.Meaning.{answer_of_row}
use Rattle.pcl_lexer.specs.Lexing.State.{LexerState}
use Rattle.pcl_lexer.specs.Modes.{mode_of}
use Rattle.pcl_lexer.proofs.Lexing.Steps.{item_admitted}
use Rattle.comparison.specs.Running.{StepsBy}
use Rattle.comparison.proofs.Steps.{item_leaves, item_steps, no_row, row_next}
use Rattle.comparison.proofs.stepping.step_row.Goals as goal

-- ---- a row

pub carry_out-requires-clause-admitted : goal.carry_out-requires-clause-admitted
carry_out-requires-clause-admitted g c =
    let row = c.in-Some.row in
    let there = c.next_row.follows.lender-at-none in
    let next = row_next c.args.lexer.now there c.next_row.result c.next_row.follows.holds-at-none row c.in-Some.is in (
      mode_of there.context,
      ap (λ mode. follows mode (view (WithData RasterRow row.lent))) c.requires.mode
          ∙ item_admitted c.args.lexer.now there (answer_of_row row) next row.place (WithData RasterRow row.lent) refl,
    )

pub returns-in-Some-clause-came : goal.returns-in-Some-clause-came
returns-in-Some-clause-came g c =
    let row = c.in-Some.row in
    let there = c.next_row.follows.lender-at-none in
    let next = row_next c.args.lexer.now there c.next_row.result c.next_row.follows.holds-at-none row c.in-Some.is in
    let carried = c.carry_out.ensures in record {
      events = carried.events;
      taken = carried.taken;
      came = λ printer panel bytes made total under.
          item_steps printer panel c.args.number bytes made c.args.lexer.now c.args.machine.now under (answer_of_row row) there next
          row.place (WithData RasterRow row.lent) refl c.carry_out.new.machine carried.events c.carry_out.result carried.carried;
      leaves =
          item_leaves c.args.lexer.now there (answer_of_row row) next c.args.machine.now row.place (WithData RasterRow row.lent) refl
          c.requires.mode c.args.number c.carry_out.new.machine carried.events c.carry_out.result carried.carried;
    }

pub returns-in-Some-clause-ended : goal.returns-in-Some-clause-ended
returns-in-Some-clause-ended g c =
    let row = c.in-Some.row in
    let there = c.next_row.follows.lender-at-none in
    let next = row_next c.args.lexer.now there c.next_row.result c.next_row.follows.holds-at-none row c.in-Some.is in
    next.ended

pub returns-in-Some-clause-place : goal.returns-in-Some-clause-place
returns-in-Some-clause-place g c =
    let row = c.in-Some.row in
    let there = c.next_row.follows.lender-at-none in
    let next = row_next c.args.lexer.now there c.next_row.result c.next_row.follows.holds-at-none row c.in-Some.is in
    next.total

-- ---- what else stands next

pub step_other-requires-clause-mode : goal.step_other-requires-clause-mode
step_other-requires-clause-mode g c =
    let same =
    no_row c.args.lexer.now c.next_row.follows.lender-at-none c.next_row.result c.next_row.follows.holds-at-none c.in-None.is in
    c.requires.mode ∙ ap (λ (lexer : LexerState). mode_of lexer.context) (sym same)

pub returns-in-None-clause-came : goal.returns-in-None-clause-came
returns-in-None-clause-came g c =
    let same =
    no_row c.args.lexer.now c.next_row.follows.lender-at-none c.next_row.result c.next_row.follows.holds-at-none c.in-None.is in
    subst
    (λ (lexer : LexerState). StepsBy g.K.MarkSink.takes c.args.number c.args.total lexer c.args.machine.now c.step_other.result
    c.step_other.new.lexer c.step_other.new.machine c.args.sink.now c.step_other.new.sink)
    same c.step_other.ensures.came

pub returns-in-None-clause-ended : goal.returns-in-None-clause-ended
returns-in-None-clause-ended g c =
    let same =
    no_row c.args.lexer.now c.next_row.follows.lender-at-none c.next_row.result c.next_row.follows.holds-at-none c.in-None.is in
    c.step_other.ensures.ended ∙ ap (λ (lexer : LexerState). lexer.ended) same

pub returns-in-None-clause-place : goal.returns-in-None-clause-place
returns-in-None-clause-place g c =
    let same =
    no_row c.args.lexer.now c.next_row.follows.lender-at-none c.next_row.result c.next_row.follows.holds-at-none c.in-None.is in
    c.step_other.ensures.place ∙ ap (λ (lexer : LexerState). lexer.place + length lexer.rest) same
