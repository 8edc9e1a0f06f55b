use Rattle.std.proofs.Common.{◌≡◌, Bool, true, false, sym, ap, subst, ◌∙◌, refl, Ok, arith}
use Rattle.pcl_lexer.specs.Lexing.Meaning.{given}
use Rattle.pcl_lexer.specs.Reading.{left}
use Rattle.preflight.specs.CheckState.{is_open}
use Rattle.preflight.specs.Carriers.Checking.{FailsBy}
use Rattle.preflight.specs.Carriers.Lockstep.{counts_of, machines_of}
use Rattle.preflight.proofs.Answered.{all_admit_next, bytes_fail, bytes_whole, ends, fault_paged, item_takes, nothing_read, same_mode}
use Rattle.preflight.proofs.Answered.{wants_more}
use Rattle.preflight.proofs.Loops.{answered, decided_closed, goes_behind, goes_here, goes_none, goes_open, item_behind, may_again}
use Rattle.preflight.proofs.Loops.{on_behind, on_open}
use Rattle.preflight.proofs.CheckStates.{failed_by, open_by}
use Rattle.preflight.proofs.checking.Checking.execute_decided.Goals as goal

both : {b : Bool} → b ≡ true → b ≡ false → ⊥
both is other = let same : true ≡ false = sym is ∙ other in absurd cc

pub loop-is_open-init : goal.loop-is_open-init
loop-is_open-init g c = on_open _ _ (goes_none _ c.requires.may)

-- ---- commands, lines of text and the ends of lines

pub execute_pcl-requires : goal.execute_pcl-requires
execute_pcl-requires g c = may_again _ _ (goes_open _ _ _ c.loop-is_open-test.true c.loop-is_open.invariant)

pub returns-then-not-execute_pcl : goal.returns-then-not-execute_pcl
returns-then-not-execute_pcl g c =
    decided_closed _ _ _ c.if-not-execute_pcl.true
    (on_behind _ _ _ _ (goes_open _ _ _ c.loop-is_open-test.true c.loop-is_open.invariant) c.execute_pcl.ensures)

-- ---- a pair of coordinates

pub step-requires-clause-running : goal.step-requires-clause-running
step-requires-clause-running g c =
    let goes =
    goes_behind _ _ _ _
    (goes_open _ _ _ c.loop-is_open-test.true c.loop-is_open.invariant) c.if-not-execute_pcl.false c.execute_pcl.ensures in
    goes.through.running

pub step-requires-clause-admitted : goal.step-requires-clause-admitted
step-requires-clause-admitted g c =
    let goes =
    goes_behind _ _ _ _
    (goes_open _ _ _ c.loop-is_open-test.true c.loop-is_open.invariant) c.if-not-execute_pcl.false c.execute_pcl.ensures in
    all_admit_next _ _ _ c.in-Some.ensures.pair _ _ refl _ goes.through.modes

pub step-requires-clause-open : goal.step-requires-clause-open
step-requires-clause-open g c =
    let goes =
    goes_behind _ _ _ _
    (goes_open _ _ _ c.loop-is_open-test.true c.loop-is_open.invariant) c.if-not-execute_pcl.false c.execute_pcl.ensures in
    goes.stands

pub execute_plot-requires : goal.execute_plot-requires
execute_plot-requires g c =
    let goes =
    goes_behind _ _ _ _
    (goes_open _ _ _ c.loop-is_open-test.true c.loop-is_open.invariant) c.if-not-execute_pcl.false c.execute_pcl.ensures in
    let step = c.step.ensures in
    may_again _ _
    (goes_open _ _ _ c.if-step.true
    (item_behind _ _ _ _ c.one_reading.ensures c.watched_runs_are_alike.ensures _ _ _ refl goes c.in-Some.ensures.pair step.open
    step.told step.untold step.came))

pub loop-is_open-preserved-then-step : goal.loop-is_open-preserved-then-step
loop-is_open-preserved-then-step g c =
    let goes =
    goes_behind _ _ _ _
    (goes_open _ _ _ c.loop-is_open-test.true c.loop-is_open.invariant) c.if-not-execute_pcl.false c.execute_pcl.ensures in
    let step = c.step.ensures in
    let went =
    item_behind _
    (record {
      lexer = c.next_pair.new.self;
      machines = c.step.new.self;
      state = c.step.new.state;
      failing_item = c.step.new.failing_item;
    }) _ _
    c.one_reading.ensures c.watched_runs_are_alike.ensures _ _ _ refl goes c.in-Some.ensures.pair step.open
    step.told step.untold step.came in
    on_behind _ _ _ _ (goes_open _ _ _ c.if-step.true went) c.execute_plot.ensures

pub loop-is_open-preserved-else-step : goal.loop-is_open-preserved-else-step
loop-is_open-preserved-else-step g c =
    let goes =
    goes_behind _ _ _ _
    (goes_open _ _ _ c.loop-is_open-test.true c.loop-is_open.invariant) c.if-not-execute_pcl.false c.execute_pcl.ensures in
    let step = c.step.ensures in
    item_behind _ _ _ _ c.one_reading.ensures c.watched_runs_are_alike.ensures _ _ _ refl goes c.in-Some.ensures.pair step.open
    step.told step.untold step.came

pub loop-is_open-smaller-then-step : goal.loop-is_open-smaller-then-step
loop-is_open-smaller-then-step g c =
    omega
    (arith, item_takes _ _ _ c.in-Some.ensures.pair _ _ refl, c.execute_plot.ensures.further.no_more, c.execute_pcl.ensures.further.no_more)

-- ---- all else

pub step_other-requires-clause-running : goal.step_other-requires-clause-running
step_other-requires-clause-running g c =
    let goes =
    goes_behind _ _ _ _
    (goes_open _ _ _ c.loop-is_open-test.true c.loop-is_open.invariant) c.if-not-execute_pcl.false c.execute_pcl.ensures in
    let behind = goes_here _ _ _ c.in_default.ensures.none goes in
    let next = c.next_other.follows.holds-at-none in
    behind.through.running

pub step_other-requires-clause-admitted : goal.step_other-requires-clause-admitted
step_other-requires-clause-admitted g c =
    let goes =
    goes_behind _ _ _ _
    (goes_open _ _ _ c.loop-is_open-test.true c.loop-is_open.invariant) c.if-not-execute_pcl.false c.execute_pcl.ensures in
    let behind = goes_here _ _ _ c.in_default.ensures.none goes in
    let next = c.next_other.follows.holds-at-none in
    all_admit_next _ _ _ next _ _ (c.in-Ok-Item.is ∙ ap Ok c.in-Ok-Item.field-0-is) _ behind.through.modes

pub step_other-requires-clause-open : goal.step_other-requires-clause-open
step_other-requires-clause-open g c =
    let goes =
    goes_behind _ _ _ _
    (goes_open _ _ _ c.loop-is_open-test.true c.loop-is_open.invariant) c.if-not-execute_pcl.false c.execute_pcl.ensures in
    goes.stands

pub loop-is_open-preserved : goal.loop-is_open-preserved
loop-is_open-preserved g c =
    let goes =
    goes_behind _ _ _ _
    (goes_open _ _ _ c.loop-is_open-test.true c.loop-is_open.invariant) c.if-not-execute_pcl.false c.execute_pcl.ensures in
    let behind = goes_here _ _ _ c.in_default.ensures.none goes in
    let next = c.next_other.follows.holds-at-none in
    let item = c.in-Ok-Item.is ∙ ap Ok c.in-Ok-Item.field-0-is in
    let step = c.step_other.ensures in
    answered _ _ _ _ c.if-not-step_other.false
    (item_behind _ _ _ _ c.one_reading.ensures c.watched_runs_are_alike.ensures _ _ _ item behind next step.open
    step.told step.untold step.came)

pub loop-is_open-preserved-then-not-step_other : goal.loop-is_open-preserved-then-not-step_other
loop-is_open-preserved-then-not-step_other g c =
    let goes =
    goes_behind _ _ _ _
    (goes_open _ _ _ c.loop-is_open-test.true c.loop-is_open.invariant) c.if-not-execute_pcl.false c.execute_pcl.ensures in
    let behind = goes_here _ _ _ c.in_default.ensures.none goes in
    let next = c.next_other.follows.holds-at-none in
    let item = c.in-Ok-Item.is ∙ ap Ok c.in-Ok-Item.field-0-is in
    let step = c.step_other.ensures in
    answered _ _ _ _ c.if-not-step_other.true
    (item_behind _ _ _ _ c.one_reading.ensures c.watched_runs_are_alike.ensures _ _ _ item behind next step.open
    step.told step.untold step.came)

-- ---- rows behind a row

pub execute_rows-requires : goal.execute_rows-requires
execute_rows-requires g c =
    let goes =
    goes_behind _ _ _ _
    (goes_open _ _ _ c.loop-is_open-test.true c.loop-is_open.invariant) c.if-not-execute_pcl.false c.execute_pcl.ensures in
    let behind = goes_here _ _ _ c.in_default.ensures.none goes in
    let next = c.next_other.follows.holds-at-none in
    let item = c.in-Ok-Item.is ∙ ap Ok c.in-Ok-Item.field-0-is in
    let step = c.step_other.ensures in
    may_again _ _
    (goes_open _ _ _ c.if-not-step_other.false
    (item_behind _ _ _ _ c.one_reading.ensures c.watched_runs_are_alike.ensures _ _ _ item behind next step.open
    step.told step.untold step.came))

pub loop-is_open-preserved-then-is_row : goal.loop-is_open-preserved-then-is_row
loop-is_open-preserved-then-is_row g c =
    let goes =
    goes_behind _ _ _ _
    (goes_open _ _ _ c.loop-is_open-test.true c.loop-is_open.invariant) c.if-not-execute_pcl.false c.execute_pcl.ensures in
    let behind = goes_here _ _ _ c.in_default.ensures.none goes in
    let next = c.next_other.follows.holds-at-none in
    let item = c.in-Ok-Item.is ∙ ap Ok c.in-Ok-Item.field-0-is in
    let step = c.step_other.ensures in
    on_behind _ _ _ _
    (goes_open _ _ _ c.if-not-step_other.false
    (item_behind _ _ _ _ c.one_reading.ensures c.watched_runs_are_alike.ensures _ _ _ item behind next step.open
    step.told step.untold step.came))
    c.execute_rows.ensures

pub loop-is_open-smaller-then-is_row : goal.loop-is_open-smaller-then-is_row
loop-is_open-smaller-then-is_row g c =
    let here = c.in_default.ensures.none in
    let item = c.in-Ok-Item.is ∙ ap Ok c.in-Ok-Item.field-0-is in
    omega (
      arith,
      item_takes _ _ _ c.next_other.follows.holds-at-none _ _ item,
      c.execute_pcl.ensures.further.no_more,
      c.execute_rows.ensures.further.no_more,
      ap (λ lexer. left lexer.context lexer.rest) here,
    )

pub loop-is_open-smaller : goal.loop-is_open-smaller
loop-is_open-smaller g c =
    let here = c.in_default.ensures.none in
    let item = c.in-Ok-Item.is ∙ ap Ok c.in-Ok-Item.field-0-is in
    omega (
      arith,
      item_takes _ _ _ c.next_other.follows.holds-at-none _ _ item,
      c.execute_pcl.ensures.further.no_more,
      ap (λ lexer. left lexer.context lexer.rest) here,
    )

-- ---- the end

pub returns-in-Ok-NeedMore : goal.returns-in-Ok-NeedMore
returns-in-Ok-NeedMore g c =
    let goes =
    goes_behind _ _ _ _
    (goes_open _ _ _ c.loop-is_open-test.true c.loop-is_open.invariant) c.if-not-execute_pcl.false c.execute_pcl.ensures in
    let behind = goes_here _ _ _ c.in_default.ensures.none goes in
    let next = c.next_other.follows.holds-at-none in
    let more = c.in-Ok-NeedMore.is ∙ ap Ok c.in-Ok-NeedMore.field-0-is in
    let ended = next.ended ∙ behind.further.ended in
    let not_ended : c.args.self.now.lexer.ended ≡ false = sym ended ∙ (wants_more _ _ _ next more).0 in
    record {
      came = open_by _ _ behind.stands (λ fleet bytes executed. (
        nothing_read _ _ _ next (ap given more) fleet bytes _ _ (behind.through.executed fleet bytes executed),
        λ is. absurd (both is not_ended),
      ));
      tells = sym (ap is_open behind.stands);
      untold = λ _. behind.untold ∙ c.requires.untold;
      ended = ended;
      place = next.total ∙ behind.further.place;
      goes_on =
          open_by _ _ behind.stands
          (behind.through.running, λ _. ((wants_more _ _ _ next more).1, same_mode _ _ _ next more _ behind.through.modes));
    }

pub returns-in-Ok-End : goal.returns-in-Ok-End
returns-in-Ok-End g c =
    let goes =
    goes_behind _ _ _ _
    (goes_open _ _ _ c.loop-is_open-test.true c.loop-is_open.invariant) c.if-not-execute_pcl.false c.execute_pcl.ensures in
    let behind = goes_here _ _ _ c.in_default.ensures.none goes in
    let next = c.next_other.follows.holds-at-none in
    let end = c.in-Ok-End.is ∙ ap Ok c.in-Ok-End.field-0-is in
    let ended = next.ended ∙ behind.further.ended in
    record {
      came = open_by _ _ behind.stands (λ fleet bytes executed.
          let whole = bytes_whole _ _ _ next end fleet bytes _ _ (behind.through.executed fleet bytes executed) in
          (whole.0, λ _. whole.1));
      tells = sym (ap is_open behind.stands);
      untold = λ _. behind.untold ∙ c.requires.untold;
      ended = ended;
      place = next.total ∙ behind.further.place;
      goes_on = open_by _ _ behind.stands (behind.through.running, λ wants. absurd (both (sym ended ∙ ends _ _ _ next end) wants));
    }

pub returns-in-Err : goal.returns-in-Err
returns-in-Err g c =
    let goes =
    goes_behind _ _ _ _
    (goes_open _ _ _ c.loop-is_open-test.true c.loop-is_open.invariant) c.if-not-execute_pcl.false c.execute_pcl.ensures in
    let behind = goes_here _ _ _ c.in_default.ensures.none goes in
    let next = c.next_other.follows.holds-at-none in
    let untold = behind.untold ∙ c.requires.untold in
    record {
      came = failed_by _ _ _ c.fail.ensures.standing (λ fleet bytes executed job may_be.
          subst
          (λ failure. FailsBy fleet job failure c.execute_pcl.new.self.failing_item (counts_of c.execute_pcl.new.self.machines)
          (machines_of c.execute_pcl.new.self.machines))
          (sym c.of_fault.ensures) (
            bytes_fail _ _ _ next c.in-Err.fault c.in-Err.is c.watched_runs_are_alike.ensures fleet bytes _ _ _ behind.further.ended
                (behind.through.executed fleet bytes executed) job may_be,
            untold,
            fault_paged _ _ _ next c.in-Err.fault c.in-Err.is fleet bytes _ _ _ behind.further.ended
                (behind.through.executed fleet bytes executed) job may_be,
            tt,
          ));
      tells = c.fail.ensures.closed ∙ sym (ap is_open c.fail.ensures.standing);
      untold = λ is. absurd (both is c.fail.ensures.closed);
      ended = next.ended ∙ behind.further.ended;
      place = next.total ∙ behind.further.place;
      goes_on = failed_by _ _ _ c.fail.ensures.standing tt;
    }

pub returns : goal.returns
returns g c = decided_closed _ _ _ c.loop-is_open-test.false c.loop-is_open.invariant
