use Rattle.std.proofs.Common.{ap, ◌∙◌, ◌+◌, length, refl, subst, sym}
use Rattle.pcl_items.specs.declared.item.Item.TheVariants.{Simple}
use Rattle.pcl_items.specs.Items.{view}
use Rattle.pcl_items.specs.Modes.{follows}
use Rattle.pcl_lexer.specs.Lexing.Meaning.{answer_of}
use Rattle.pcl_lexer.specs.Lexing.State.{LexerState}
use Rattle.pcl_lexer.specs.Modes.{mode_of}
use Rattle.pcl_lexer.proofs.Lexing.Steps.{item_admitted}
use Rattle.comparison.specs.Running.{StepsBy}
use Rattle.comparison.proofs.Steps.{item_leaves, item_steps}
use Rattle.comparison.proofs.stepping.step.Goals as goal

pub carry_out-requires-clause-admitted : goal.carry_out-requires-clause-admitted
carry_out-requires-clause-admitted g c = (
  mode_of c.next_known.new.lexer.context,
  ap (λ mode. follows mode (view (Simple c.in-Some.read.item))) c.requires.mode
      ∙ item_admitted c.args.lexer.now c.next_known.new.lexer (answer_of c.in-Some.read) c.in-Some.ensures.some c.in-Some.read.place
      (Simple c.in-Some.read.item) refl,
)

-- ---- a command

pub returns-in-Some-clause-came : goal.returns-in-Some-clause-came
returns-in-Some-clause-came g c =
    let carried = c.carry_out.ensures in record {
      events = carried.events;
      taken = carried.taken;
      came = λ printer panel bytes made total under.
          item_steps printer panel c.args.number bytes made c.args.lexer.now c.args.machine.now under (answer_of c.in-Some.read)
          c.next_known.new.lexer c.in-Some.ensures.some c.in-Some.read.place (Simple c.in-Some.read.item) refl
          c.carry_out.new.machine carried.events c.carry_out.result carried.carried;
      leaves =
          item_leaves c.args.lexer.now c.next_known.new.lexer (answer_of c.in-Some.read) c.in-Some.ensures.some c.args.machine.now
          c.in-Some.read.place (Simple c.in-Some.read.item) refl c.requires.mode c.args.number c.carry_out.new.machine carried.events
          c.carry_out.result carried.carried;
    }

pub returns-in-Some-clause-ended : goal.returns-in-Some-clause-ended
returns-in-Some-clause-ended g c = c.in-Some.ensures.some.ended

pub returns-in-Some-clause-place : goal.returns-in-Some-clause-place
returns-in-Some-clause-place g c = c.in-Some.ensures.some.total

-- ---- what else stands next

pub step_row-requires-clause-mode : goal.step_row-requires-clause-mode
step_row-requires-clause-mode g c =
    c.requires.mode ∙ ap (λ (lexer : LexerState). mode_of lexer.context) (sym c.in-None.ensures.none)

pub returns-in-None-clause-came : goal.returns-in-None-clause-came
returns-in-None-clause-came g c =
    subst
    (λ (lexer : LexerState). StepsBy g.K.MarkSink.takes c.args.number c.args.total lexer c.args.machine.now c.step_row.result
    c.step_row.new.lexer c.step_row.new.machine c.args.sink.now c.step_row.new.sink)
    c.in-None.ensures.none c.step_row.ensures.came

pub returns-in-None-clause-ended : goal.returns-in-None-clause-ended
returns-in-None-clause-ended g c = c.step_row.ensures.ended ∙ ap (λ (lexer : LexerState). lexer.ended) c.in-None.ensures.none

pub returns-in-None-clause-place : goal.returns-in-None-clause-place
returns-in-None-clause-place g c =
    c.step_row.ensures.place ∙ ap (λ (lexer : LexerState). lexer.place + length lexer.rest) c.in-None.ensures.none
