-- How a step leads on, behind what a job made before it.
use Rattle.std.proofs.Common.{◌≡◌, ◌<◌, ◌≤◌, ℕ, Bool, true, false, List, [], ◌∷◌, ◌++◌, length, Option, None, Some, Result, Ok, Err}
use Rattle.std.proofs.Common.{unwrap_or, refl, ap, sym, ◌∙◌, subst, append-nil, append_assoc, arith}
use Rattle.pcl_items.specs.declared.fault.LexFault.{LexFault}
use Rattle.pcl_items.specs.declared.item.Item.{Item}
use Rattle.pcl_items.specs.Items.{Placed, at, view}
use Rattle.pcl_items.specs.Modes.{follows}
use Rattle.pcl_lexer.specs.declared.lexer.lexed.Lexed.{Lexed}
use Rattle.pcl_lexer.specs.declared.lexer.lexed.Lexed.TheVariants as answers
use Rattle.pcl_lexer.specs.declared.lexer.PlacedRow.{PlacedRow}
use Rattle.pcl_lexer.specs.Laws.{HasOneReading}
use Rattle.pcl_lexer.specs.Lexing.Meaning.{Advances, Allows, HasRead, IsNext, KeepsMode, MayBe, Decides, Settles, Tells, given}
use Rattle.pcl_lexer.specs.Lexing.Meaning.{IsNextRow, answer_of_row}
use Rattle.pcl_lexer.specs.Lexing.State.{LexerState}
use Rattle.pcl_lexer.specs.Modes.{mode_of}
use Rattle.pcl_lexer.specs.Reading.{Reading, Whole, Stopped, IsReading, items_of, left, reading_of, with_item}
use Rattle.pcl_lexer.proofs.Lexing.Steps.{item_admitted}
use Rattle.pcl_lexer.proofs.Reading.Readings.{one_reading}
use Rattle.device_profile.specs.declared.panel.Panel.{Panel}
use Rattle.device_profile.specs.Printer.{Printer}
use Rattle.page_machine.specs.declared.machine.Start.TheVariants.{At}
use Rattle.page_machine.specs.Event.{Event}
use Rattle.page_machine.specs.Job.{ItemRun, plain_run}
use Rattle.page_machine.specs.Machine.{IsNew}
use Rattle.page_machine.specs.MachineState.{MachineState}
use Rattle.verdict.specs.declared.failure.Failure.{Failure}
use Rattle.verdict.specs.Failing.{fault_at}
use Rattle.comparison.specs.declared.stepping.Stepped.{Stepped}
use Rattle.comparison.specs.declared.stepping.Stepped.TheVariants.{On, More, AtEnd, FailsBy, Refused}
use Rattle.comparison.specs.Comparison.{Made, made_at, all_made, failure_on}
use Rattle.comparison.specs.Running.{CarriedTo, EndsTo, HasEnded, IsFailing, IsUnderWay, LeavesOff, StepsTo, behind, rest_items}
use Rattle.comparison.proofs.Carried.{rest_at_start}

-- ---- readings by their first items

pub behind_more : (xs : List Placed) (x : Placed) (r : Reading) → behind (xs ++ x ∷ []) r ≡ behind xs (with_item x r)
behind_more xs x (Whole items place) = ap (λ l. Whole l place) (append_assoc xs (x ∷ []) items)
behind_more xs x (Stopped items place cause) = ap (λ l. Stopped l place cause) (append_assoc xs (x ∷ []) items)

behind_none : (r : Reading) → behind [] r ≡ r
behind_none (Whole items place) = refl
behind_none (Stopped items place cause) = refl

behind_front : (xs others : List Placed) (r : Reading) → items_of r ≡ xs ++ others → (rest : Reading) × (r ≡ behind xs rest)
behind_front xs others (Whole items place) e = (Whole others place, ap (λ l. Whole l place) e)
behind_front xs others (Stopped items place cause) e = (Stopped others place cause, ap (λ l. Stopped l place cause) e)

there_behind : (ended : Bool) (bytes : List ℕ) (xs : List Placed) → Decides ended bytes xs → (job : List ℕ) → MayBe ended bytes job →
    (rest : Reading) × IsReading job (behind xs rest)
there_behind ended bytes xs decided job may =
    let one : HasOneReading job = one_reading job in
    let first = decided job (reading_of job) may one.read in
    let split = behind_front xs first.0 (reading_of job) first.1 in
    (split.0, subst (IsReading job) split.1 one.read)

-- ---- the start

pub under_way_at_start : (printer : Printer) (panel : Panel) (number : ℕ) (lexer : LexerState) (machine : MachineState) →
    IsNew printer (At panel) machine → HasRead lexer [] [] → IsUnderWay printer panel number [] [] lexer machine
under_way_at_start printer panel number lexer machine new reads = record {
  items = [];
  reads = reads;
  making = λ rest.
      ap (λ r. all_made (plain_run printer panel r).items) (behind_none rest)
      ∙ ap all_made (sym (rest_at_start printer panel machine new rest));
  failing = λ rest.
      ap (λ r. failure_on number (plain_run printer panel r).items r) (behind_none rest)
      ∙ ap (λ (items : List ItemRun). failure_on number items rest) (sym (rest_at_start printer panel machine new rest));
}

-- ---- an item, the end, and a fault

module _ (printer : Printer) (panel : Panel) (number : ℕ) (bytes : List ℕ) (made : List Made) (lexer : LexerState)
    (machine : MachineState) (h : IsUnderWay printer panel number bytes made lexer machine) where
  -- more bytes, or none
  pub still_under_way : (bytes' : List ℕ) (lexer' : LexerState) → HasRead lexer' bytes' h.items →
      IsUnderWay printer panel number bytes' made lexer' machine
  still_under_way bytes' lexer' reads = record { items = h.items; reads = reads; making = h.making; failing = h.failing }

  -- the item was carried out
  pub item_on : (x : Placed) (lexer' : LexerState) (machine' : MachineState) (events : List Event) →
      HasRead lexer' bytes (h.items ++ x ∷ []) → CarriedTo (On x.place) number x machine machine' events →
      IsUnderWay printer panel number bytes (made ++ made_at x.place events) lexer' machine'
  item_on x lexer' machine' events reads carried = record {
    items = h.items ++ x ∷ [];
    reads = reads;
    making = λ rest.
        ap (λ r. all_made (plain_run printer panel r).items) (behind_more h.items x rest)
        ∙ (h.making (with_item x rest)
        ∙ (ap (λ more. made ++ more) (carried.3 rest)
        ∙ sym (append_assoc made (made_at x.place events) (all_made (rest_items machine' rest)))));
    failing = λ rest.
        ap (λ r. failure_on number (plain_run printer panel r).items r) (behind_more h.items x rest)
        ∙ (h.failing (with_item x rest) ∙ carried.4 rest);
  }

  -- by the item the job fails
  pub item_fails : (x : Placed) (machine' : MachineState) (events : List Event) (failure : Failure) (ended : Bool) →
      Decides ended bytes (h.items ++ x ∷ []) → CarriedTo (FailsBy failure) number x machine machine' events →
      IsFailing printer panel number ended bytes failure
  item_fails x machine' events failure ended decided carried job may =
      let there = there_behind ended bytes (h.items ++ x ∷ []) decided job may in
      let reading : Reading = behind h.items (with_item x there.0) in (
        reading,
        subst (IsReading job) (behind_more h.items x there.0) there.1,
        h.failing (with_item x there.0) ∙ carried there.0,
      )

  whole_is : Whole h.items (length bytes) ≡ behind h.items (Whole [] (length bytes))
  whole_is = ap (λ l. Whole l (length bytes)) (sym (append-nil h.items))

  -- the end was carried out
  pub end_on : (events : List Event) → IsReading bytes (Whole h.items (length bytes)) → EndsTo AtEnd number (length bytes) machine events →
      HasEnded printer panel number bytes (made ++ made_at (length bytes) events) (length bytes)
  end_on events is ends = record {
    reading = behind h.items (Whole [] (length bytes));
    spelled = subst (IsReading bytes) whole_is is;
    making = h.making (Whole [] (length bytes)) ∙ ap (λ more. made ++ more) ends.0;
    passing = h.failing (Whole [] (length bytes)) ∙ ends.1;
    place_is = refl;
  }

  -- by the end the job fails
  pub end_fails : (failure : Failure) (events : List Event) (ended : Bool) → ended ≡ true →
      IsReading bytes (Whole h.items (length bytes)) → EndsTo (FailsBy failure) number (length bytes) machine events →
      IsFailing printer panel number ended bytes failure
  end_fails failure events ended over is ends job may =
      let all : bytes ≡ job = sym (may.1 ∙ (ap (λ l. bytes ++ l) (may.2 over) ∙ append-nil bytes)) in
      let reading : Reading = behind h.items (Whole [] (length bytes)) in (
        reading,
        subst (λ j. IsReading j reading) all (subst (IsReading bytes) whole_is is),
        h.failing (Whole [] (length bytes)) ∙ ends,
      )

  -- the bytes have a fault
  pub fault_fails : (fault : LexFault) (ended : Bool) → Settles ended bytes (Stopped h.items fault.place fault.cause) →
      IsFailing printer panel number ended bytes (fault_at fault.place fault.cause)
  fault_fails fault ended settled job may =
      let stopped : Stopped h.items fault.place fault.cause ≡ behind h.items (Stopped [] fault.place fault.cause) =
      ap (λ l. Stopped l fault.place fault.cause) (sym (append-nil h.items)) in (
        behind h.items (Stopped [] fault.place fault.cause),
        subst (IsReading job) stopped (settled job may),
        h.failing (Stopped [] fault.place fault.cause),
      )

  -- ---- by an answer of the lexer

  module _ (answer : Result Lexed LexFault) (lexer' : LexerState) (next : IsNext lexer answer lexer') where
    module _ (place : ℕ) (item : Item) (is : answer ≡ Ok (answers.Item place item)) where
      pub item_steps : (machine' : MachineState) (events : List Event) (stepped : Stepped) →
          CarriedTo stepped number (at place (view item)) machine machine' events →
          StepsTo stepped printer panel number bytes made lexer' machine' events
      item_steps machine' events (On there) carried =
          let x : Placed = at place (view item) in
          let reads : HasRead lexer' bytes (h.items ++ x ∷ []) =
          subst (λ a. HasRead lexer' bytes (h.items ++ given a)) is (next.reads bytes h.items h.reads) in
          subst (λ p. IsUnderWay printer panel number bytes (made ++ made_at p events) lexer' machine') (sym carried.0)
          (item_on x lexer' machine' events reads (refl, carried.1, carried.2, carried.3, carried.4))
      item_steps machine' events (FailsBy failure) carried =
          let x : Placed = at place (view item) in
          let decided : Decides lexer.ended bytes (h.items ++ x ∷ []) =
          subst (λ a. Tells lexer.ended bytes h.items a) is (next.tells bytes h.items h.reads) in
          item_fails x machine' events failure lexer'.ended
          (subst (λ e. Decides e bytes (h.items ++ x ∷ [])) (sym next.ended) decided) carried
      item_steps machine' events More carried = absurd carried
      item_steps machine' events AtEnd carried = absurd carried
      item_steps machine' events Refused carried = tt

    pub wait_steps : answer ≡ Ok answers.NeedMore → (machine' : MachineState) (events : List Event) → machine' ≡ machine →
        StepsTo More printer panel number bytes made lexer' machine' events
    wait_steps is machine' events same =
        subst (λ m. IsUnderWay printer panel number bytes made lexer' m) (sym same)
        (still_under_way bytes lexer'
        (subst (HasRead lexer' bytes) (ap (λ a. h.items ++ given a) is ∙ append-nil h.items) (next.reads bytes h.items h.reads)))

    pub end_steps : answer ≡ Ok answers.End → (total : ℕ) → total ≡ length bytes → (machine' : MachineState) (events : List Event)
        (stepped : Stepped) → EndsTo stepped number total machine events →
        StepsTo stepped printer panel number bytes made lexer' machine' events
    end_steps is total total_is machine' events AtEnd ends =
        let tells = subst (λ a. Tells lexer.ended bytes h.items a) is (next.tells bytes h.items h.reads) in
        end_on events tells.1 (subst (λ n. EndsTo AtEnd number n machine events) total_is ends)
    end_steps is total total_is machine' events (FailsBy failure) ends =
        let tells = subst (λ a. Tells lexer.ended bytes h.items a) is (next.tells bytes h.items h.reads) in
        end_fails failure events lexer'.ended (next.ended ∙ tells.0) tells.1
        (subst (λ n. EndsTo (FailsBy failure) number n machine events) total_is ends)
    end_steps is total total_is machine' events (On place) ends = absurd ends
    end_steps is total total_is machine' events More ends = absurd ends
    end_steps is total total_is machine' events Refused ends = tt

    pub fault_steps : (fault : LexFault) → answer ≡ Err fault → (machine' : MachineState) (events : List Event) →
        StepsTo (FailsBy (fault_at fault.place fault.cause)) printer panel number bytes made lexer' machine' events
    fault_steps fault is machine' events =
        let settled : Settles lexer.ended bytes (Stopped h.items fault.place fault.cause) =
        subst (λ a. Tells lexer.ended bytes h.items a) is (next.tells bytes h.items h.reads) in
        fault_fails fault lexer'.ended
        (subst (λ e. Settles e bytes (Stopped h.items fault.place fault.cause)) (sym next.ended) settled)

-- ---- a row of a raster that stands next, or none

module _ (lexer lexer' : LexerState) (answer : Option PlacedRow) (next : IsNextRow lexer answer lexer') where
  pub row_next : (row : PlacedRow) → answer ≡ Some row → IsNext lexer (answer_of_row row) lexer'
  row_next row is = (subst (λ a. IsNextRow lexer a lexer') is next).0

  pub no_row : answer ≡ None → lexer' ≡ lexer
  no_row is = subst (λ a. IsNextRow lexer a lexer') is next

-- ---- where a step leaves off

at_most : (l m : ℕ) → l < m → l ≤ m
at_most l m less = omega arith

module _ (lexer lexer' : LexerState) (answer : Result Lexed LexFault) (next : IsNext lexer answer lexer') (machine : MachineState) where
  pub item_leaves : (place : ℕ) (item : Item) → answer ≡ Ok (answers.Item place item) → machine.mode ≡ mode_of lexer.context →
      (number : ℕ) (machine' : MachineState) (events : List Event) (stepped : Stepped) →
      CarriedTo stepped number (at place (view item)) machine machine' events → LeavesOff stepped lexer lexer' machine' events
  item_leaves place item is mode number machine' events (On there) carried =
      let behind_is : Some machine'.mode ≡ Some (mode_of lexer'.context) =
      sym carried.2 ∙ (ap (λ m. follows m (view item)) mode ∙ item_admitted lexer lexer' answer next place item is) in (
        carried.1,
        ap (λ o. unwrap_or o machine'.mode) behind_is,
        subst (λ a. Advances lexer a lexer') is next.advances,
      )
  item_leaves place item is mode number machine' events (FailsBy failure) carried =
      at_most (left lexer'.context lexer'.rest) (left lexer.context lexer.rest) (subst (λ a. Advances lexer a lexer') is next.advances)
  item_leaves place item is mode number machine' events More carried = absurd carried
  item_leaves place item is mode number machine' events AtEnd carried = absurd carried
  item_leaves place item is mode number machine' events Refused carried = tt

  pub wait_leaves : answer ≡ Ok answers.NeedMore → machine.stopped ≡ false → machine.mode ≡ mode_of lexer.context → (events : List Event) →
      events ≡ [] → LeavesOff More lexer lexer' machine events
  wait_leaves is running mode events none =
      let allows = subst (λ a. Allows a lexer') is next.allows in (
        running,
        mode ∙ sym (subst (λ a. KeepsMode lexer a lexer') is next.admits),
        allows.0,
        allows.1,
        none,
        subst (λ a. Advances lexer a lexer') is next.advances,
      )

  pub end_leaves : answer ≡ Ok answers.End → (number total : ℕ) (machine' : MachineState) (events : List Event) (stepped : Stepped) →
      EndsTo stepped number total machine events → LeavesOff stepped lexer lexer' machine' events
  end_leaves is number total machine' events AtEnd ends =
      let allows = subst (λ a. Allows a lexer') is next.allows in (allows.0, subst (λ a. Advances lexer a lexer') is next.advances)
  end_leaves is number total machine' events (FailsBy failure) ends = subst (λ a. Advances lexer a lexer') is next.advances
  end_leaves is number total machine' events (On place) ends = absurd ends
  end_leaves is number total machine' events More ends = absurd ends
  end_leaves is number total machine' events Refused ends = tt
