use Rattle.std.proofs.Common.{◌≡◌, false, ◌+◌, ℕ, List, [], drop, get_or, set, map, Option, None, Some, refl, sym, ap, subst, ◌∙◌, arith}
use Rattle.std.specs.Option.{option_or}
use Rattle.std.specs.Bool.{then_some}
use Rattle.std.proofs.lemmas.List.{drop-set}
use Rattle.page_machine.specs.Event.{Event, TakesAll}
use Rattle.sinks.specs.Owned.{event_of}
use Rattle.sinks.specs.Comparer.{Comparison, Compares}
use Rattle.sinks.specs.Counts.{pages_after}
use Rattle.sinks.specs.declared.counts.Counts.{Counts}
use Rattle.verdict.specs.declared.failure.Failure.{Failure}
use Rattle.preflight.specs.Carriers.Lockstep.{action_of, ModeAdmits, PagesAt, StopsAt, WrongFrom}
use Rattle.sinks.proofs.Recording.{differs_exactly, TakesAll-paged}
use Rattle.preflight.proofs.Executing.{SoFar, none_so_far, next_is, all_there, so_far_more, stops_so_far, all_so_far, other_so_far}
use Rattle.preflight.proofs.Executing.{was_running, does_by, fails_by, differ_of, finds_there, stops_there}
use Rattle.preflight.specs.CheckState.{is_open}
use Rattle.preflight.proofs.CheckStates.{failed_by, open_by, open_is}
use Rattle.preflight.proofs.lockstep.execute_by_others.Goals.{then-differs, else-differs}
use Rattle.preflight.proofs.lockstep.execute_by_others.Goals as goal

-- a comparer refuses nothing
abbrev never : Comparison → Event → Comparison → Type 0
never old event new = ⊥

or_none : (o : Option ℕ) → o ≡ option_or o None
or_none None = refl
or_none (Some n) = refl

pub loop-index-init : goal.loop-index-init
loop-index-init g c = record {
  stands_open = c.requires.open;
  uncounted = refl;
  so_far = none_so_far (action_of c.args.task.now) c.args.place (map event_of c.args.events.now) c.args.others.now;
}

pub execute_by-answer-requires : goal.execute_by-answer-requires
execute_by-answer-requires g c =
    let machine = get_or c.loop-index.others c.loop-index.index c.index-others-index.result in
    all_there (λ m. ModeAdmits m.mode (action_of c.args.task.now)) c.loop-index.index c.args.others.now machine _
    (next_is (action_of c.args.task.now) c.args.place (map event_of c.args.events.now) [] c.loop-index.index c.loop-index.first_other
    c.args.others.now c.loop-index.others c.index-others-index.result machine c.loop-index.invariant.so_far
    (omega (arith, c.loop-index-test.true, c.loop-index.auto.others)))
    c.requires.admitted

pub judge-requires-clause-running : goal.judge-requires-clause-running
judge-requires-clause-running g c =
    let machine = get_or c.loop-index.others c.loop-index.index c.index-others-index.result in
    let running : machine.stopped ≡ false = all_there (λ m. m.stopped ≡ false) c.loop-index.index c.args.others.now machine _
    (next_is (action_of c.args.task.now) c.args.place (map event_of c.args.events.now) [] c.loop-index.index c.loop-index.first_other
    c.args.others.now c.loop-index.others c.index-others-index.result machine c.loop-index.invariant.so_far
    (omega (arith, c.loop-index-test.true, c.loop-index.auto.others)))
    c.requires.running in
    was_running Compares never (action_of c.args.task.now) _ c.execute_by-answer.new.sink machine c.execute_by-answer.new.machine
    c.execute_by-answer.result running c.execute_by-answer.ensures

pub loop-index-preserved : goal.loop-index-preserved
loop-index-preserved g c =
    let events = map event_of c.args.events.now in
    let machine = get_or c.loop-index.others c.loop-index.index c.index-others-index.result in
    let number = c.loop-index.index + 2 in
    let went = sym c.judge.ensures.open ∙ c.if-not-judge.false in
    let did =
    does_by Compares never (action_of c.args.task.now) _ c.execute_by-answer.new.sink machine c.execute_by-answer.new.machine c.args.place
    number c.execute_by-answer.result c.judge.new.self c.judge.ensures.standing went c.execute_by-answer.ensures in
    let leads = subst (λ o. TakesAll Compares o did.0 c.execute_by-answer.new.sink) c.new-comparer.ensures did.2 in
    let told =
    differs_exactly events did.0 c.args.counts.now.pages c.execute_by-answer.new.sink c.differs.result leads c.differs.ensures in
    let other : c.if-differs.first_other ≡ option_or c.loop-index.first_other (then_some c.differs.result number) = elim
    c.if-differs.branch [
      | then-differs w ↦
          w.first_other-is ∙ w.keep_first-first_other.ensures
          ∙ ap (λ b. option_or c.loop-index.first_other (then_some b number)) (sym w.if-differs.true)
      | else-differs w ↦
          w.first_other-is ∙ or_none c.loop-index.first_other
          ∙ ap (λ b. option_or c.loop-index.first_other (then_some b number)) (sym w.if-differs.false)
    ] in
    record {
      stands_open = open_is c.judge.new.self went;
      uncounted = c.loop-index.invariant.uncounted;
      so_far =
          subst
          (λ o. SoFar (action_of c.args.task.now) c.args.place events (c.loop-index.index + 1) o c.args.others.now
          (set c.loop-index.others c.loop-index.index c.execute_by-answer.new.machine))
          (sym other)
          (so_far_more (action_of c.args.task.now) c.args.place events did.0 c.loop-index.index c.loop-index.first_other c.args.others.now
          c.loop-index.others c.index-others-index.result c.execute_by-answer.new.machine c.loop-index.invariant.so_far
          (omega (arith, c.loop-index-test.true, c.loop-index.auto.others))
          c.differs.result did.1 told.0 (differ_of did.0 events c.differs.result told));
    }

pub returns-then-not-judge-clause-came : goal.returns-then-not-judge-clause-came
returns-then-not-judge-clause-came g c =
    let machine = get_or c.loop-index.others c.loop-index.index c.index-others-index.result in
    let events = map event_of c.args.events.now in
    fails_by Compares never (action_of c.args.task.now) _ c.execute_by-answer.new.sink machine c.execute_by-answer.new.machine _
    c.args.place (c.loop-index.index + 2) c.execute_by-answer.result c.judge.new.self c.judge.ensures.standing
    (sym c.judge.ensures.open ∙ c.if-not-judge.true) c.execute_by-answer.ensures
    (λ finding finds leads stopped. (
      (
        refl,
        stops_so_far (action_of c.args.task.now) c.args.place events [] c.loop-index.index c.loop-index.first_other c.args.others.now
            c.loop-index.others c.index-others-index.result c.execute_by-answer.new.machine c.loop-index.invariant.so_far
            (omega (arith, c.loop-index-test.true, c.loop-index.auto.others)) finding finds,
      ),
      finds_there (action_of c.args.task.now) finding c.args.counts.now.pages c.pages-counts.result 2 c.loop-index.index c.args.others.now
          machine (drop (c.loop-index.index + 1) c.args.others.now)
          (next_is (action_of c.args.task.now) c.args.place events [] c.loop-index.index c.loop-index.first_other c.args.others.now
          c.loop-index.others c.index-others-index.result machine c.loop-index.invariant.so_far
          (omega (arith, c.loop-index-test.true, c.loop-index.auto.others)))
          finds
          (c.pages-counts.ensures
          ∙ TakesAll-paged c.new-comparer.result c.execute_by-answer.new.sink finds.events leads
          ∙ ap (λ (k : Comparison). pages_after finds.events k.pages) c.new-comparer.ensures),
      stops_there (action_of c.args.task.now) 2 c.loop-index.index c.args.others.now
          (set c.loop-index.others c.loop-index.index c.execute_by-answer.new.machine) machine c.execute_by-answer.new.machine
          (drop (c.loop-index.index + 1) c.args.others.now) (drop (c.loop-index.index + 1) c.loop-index.others)
          (next_is (action_of c.args.task.now) c.args.place events [] c.loop-index.index c.loop-index.first_other c.args.others.now
          c.loop-index.others c.index-others-index.result machine c.loop-index.invariant.so_far
          (omega (arith, c.loop-index-test.true, c.loop-index.auto.others)))
          (drop-set c.loop-index.others c.loop-index.index c.execute_by-answer.new.machine
          (omega (arith, c.loop-index-test.true, c.loop-index.auto.others)))
          stopped,
    ))

pub returns-in-Some-clause-came : goal.returns-in-Some-clause-came
returns-in-Some-clause-came g c =
    let events = map event_of c.args.events.now in
    let differs =
    other_so_far (action_of c.args.task.now) c.args.place events c.loop-index.index c.in-Some.number c.args.others.now c.loop-index.others
    (subst (λ o. SoFar (action_of c.args.task.now) c.args.place events c.loop-index.index o c.args.others.now c.loop-index.others)
    c.in-Some.is c.loop-index.invariant.so_far)
    (omega (arith, c.loop-index-test.false, c.loop-index.auto.others)) in
    failed_by _ _ _ c.fail.ensures.standing
    (subst
    (λ (failure : Failure).
    ((failure.place ≡ c.args.place) × WrongFrom (action_of c.args.task.now) events 2 c.args.others.now failure.profile failure.reason)
    × PagesAt (action_of c.args.task.now) c.args.counts.now.pages c.loop-index.counts.pages 2 c.args.others.now failure.profile
    failure.reason
    × StopsAt (action_of c.args.task.now) 2 c.args.others.now c.loop-index.others failure.profile failure.reason)
    (sym c.of_difference.ensures)
    ((refl, differs), ap (λ (k : Counts). k.pages) c.loop-index.invariant.uncounted, tt))

pub returns-in-None-clause-came : goal.returns-in-None-clause-came
returns-in-None-clause-came g c =
    open_by _ _ c.loop-index.invariant.stands_open (
      all_so_far (action_of c.args.task.now) c.args.place
          (map event_of c.args.events.now) c.loop-index.index c.args.others.now c.loop-index.others
          (subst
          (λ o. SoFar (action_of c.args.task.now) c.args.place
          (map event_of c.args.events.now) c.loop-index.index o c.args.others.now c.loop-index.others)
          c.in-None.is c.loop-index.invariant.so_far)
          (omega (arith, c.loop-index-test.false, c.loop-index.auto.others)),
      tt,
      tt,
    )

pub returns-in-None-clause-open : goal.returns-in-None-clause-open
returns-in-None-clause-open g c = sym (ap is_open c.loop-index.invariant.stands_open)
