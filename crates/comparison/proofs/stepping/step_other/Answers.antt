use Rattle.std.proofs.Common.{ap, ◌∙◌, [], refl, subst, sym, Ok}
use Rattle.pcl_items.specs.Items.{view}
use Rattle.pcl_items.specs.Modes.{follows}
use Rattle.pcl_lexer.specs.Lexing.Meaning.{Advances}
use Rattle.pcl_lexer.specs.Modes.{mode_of}
use Rattle.pcl_lexer.proofs.Lexing.Steps.{item_admitted}
use Rattle.comparison.specs.declared.stepping.Stepped.TheVariants.{FailsBy}
use Rattle.comparison.specs.Running.{StepsTo}
use Rattle.comparison.proofs.Steps.{end_leaves, end_steps, fault_steps, item_leaves, item_steps, wait_leaves, wait_steps}
use Rattle.comparison.proofs.stepping.step_other.Goals as goal

pub carry_out_other-requires-clause-admitted : goal.carry_out_other-requires-clause-admitted
carry_out_other-requires-clause-admitted g c =
    let is = c.in-Ok-Item.is ∙ ap Ok c.in-Ok-Item.field-0-is in
    let next = c.next.follows.holds-at-none in (
      mode_of c.next.follows.lender-at-none.context,
      ap (λ mode. follows mode (view c.in-Ok-Item.item)) c.requires.mode
          ∙ item_admitted c.args.lexer.now c.next.follows.lender-at-none c.next.result next c.in-Ok-Item.place c.in-Ok-Item.item is,
    )

-- ---- an item

pub returns-in-Ok-Item-clause-came : goal.returns-in-Ok-Item-clause-came
returns-in-Ok-Item-clause-came g c =
    let is = c.in-Ok-Item.is ∙ ap Ok c.in-Ok-Item.field-0-is in
    let next = c.next.follows.holds-at-none in
    let carried = c.carry_out_other.ensures in record {
      events = carried.events;
      taken = carried.taken;
      came = λ printer panel bytes made total under.
          item_steps printer panel c.args.number bytes made c.args.lexer.now c.args.machine.now under c.next.result
          c.next.follows.lender-at-none next c.in-Ok-Item.place c.in-Ok-Item.item is c.carry_out_other.new.machine carried.events
          c.carry_out_other.result carried.carried;
      leaves =
          item_leaves c.args.lexer.now c.next.follows.lender-at-none c.next.result next c.args.machine.now c.in-Ok-Item.place
          c.in-Ok-Item.item is c.requires.mode c.args.number c.carry_out_other.new.machine carried.events c.carry_out_other.result
          carried.carried;
    }

pub returns-in-Ok-Item-clause-ended : goal.returns-in-Ok-Item-clause-ended
returns-in-Ok-Item-clause-ended g c = c.next.follows.holds-at-none.ended

pub returns-in-Ok-Item-clause-place : goal.returns-in-Ok-Item-clause-place
returns-in-Ok-Item-clause-place g c = c.next.follows.holds-at-none.total

-- ---- no more bytes

pub returns-in-Ok-NeedMore-clause-came : goal.returns-in-Ok-NeedMore-clause-came
returns-in-Ok-NeedMore-clause-came g c =
    let is = c.in-Ok-NeedMore.is ∙ ap Ok c.in-Ok-NeedMore.field-0-is in
    let next = c.next.follows.holds-at-none in
    record {
      events = [];
      taken = refl;
      came = λ printer panel bytes made total under.
          wait_steps printer panel c.args.number bytes made c.args.lexer.now c.args.machine.now under c.next.result
          c.next.follows.lender-at-none next is c.args.machine.now [] refl;
      leaves =
          wait_leaves c.args.lexer.now c.next.follows.lender-at-none c.next.result next c.args.machine.now is c.requires.running
          c.requires.mode [] refl;
    }

pub returns-in-Ok-NeedMore-clause-ended : goal.returns-in-Ok-NeedMore-clause-ended
returns-in-Ok-NeedMore-clause-ended g c = c.next.follows.holds-at-none.ended

pub returns-in-Ok-NeedMore-clause-place : goal.returns-in-Ok-NeedMore-clause-place
returns-in-Ok-NeedMore-clause-place g c = c.next.follows.holds-at-none.total

-- ---- the end

pub returns-in-Ok-End-clause-came : goal.returns-in-Ok-End-clause-came
returns-in-Ok-End-clause-came g c =
    let is = c.in-Ok-End.is ∙ ap Ok c.in-Ok-End.field-0-is in
    let next = c.next.follows.holds-at-none in
    let ended = c.carry_out_end.ensures in record {
      events = ended.events;
      taken = ended.taken;
      came = λ printer panel bytes made total under.
          end_steps printer panel c.args.number bytes made c.args.lexer.now c.args.machine.now under c.next.result
          c.next.follows.lender-at-none next is c.args.total total c.carry_out_end.new.machine ended.events c.carry_out_end.result
          ended.ends;
      leaves =
          end_leaves c.args.lexer.now c.next.follows.lender-at-none c.next.result next c.args.machine.now is c.args.number c.args.total
          c.carry_out_end.new.machine ended.events c.carry_out_end.result ended.ends;
    }

pub returns-in-Ok-End-clause-ended : goal.returns-in-Ok-End-clause-ended
returns-in-Ok-End-clause-ended g c = c.next.follows.holds-at-none.ended

pub returns-in-Ok-End-clause-place : goal.returns-in-Ok-End-clause-place
returns-in-Ok-End-clause-place g c = c.next.follows.holds-at-none.total

-- ---- a fault

pub returns-in-Err-clause-came : goal.returns-in-Err-clause-came
returns-in-Err-clause-came g c =
    let next = c.next.follows.holds-at-none in
    record {
      events = [];
      taken = refl;
      came = λ printer panel bytes made total under.
          subst
          (λ failure. StepsTo (FailsBy failure) printer panel c.args.number bytes made c.next.follows.lender-at-none c.args.machine.now [])
          (sym c.of_fault.ensures)
          (fault_steps printer panel c.args.number bytes made c.args.lexer.now c.args.machine.now under c.next.result
          c.next.follows.lender-at-none next c.in-Err.fault c.in-Err.is c.args.machine.now []);
      leaves = subst (λ answer. Advances c.args.lexer.now answer c.next.follows.lender-at-none) c.in-Err.is next.advances;
    }

pub returns-in-Err-clause-ended : goal.returns-in-Err-clause-ended
returns-in-Err-clause-ended g c = c.next.follows.holds-at-none.ended

pub returns-in-Err-clause-place : goal.returns-in-Err-clause-place
returns-in-Err-clause-place g c = c.next.follows.holds-at-none.total
