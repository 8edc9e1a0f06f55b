-- What the loops over the items of a job promise one another.
use Rattle.std.specs.Prelude.{◌≡◌, ◌+◌, ◌≤◌, ◌<◌, ℕ, List, length, Bool, IsTrue, Option, None, IfSome}
use Rattle.pcl_lexer.specs.Modes.{mode_of}
use Rattle.pcl_lexer.specs.Reading.{left}
use Rattle.pcl_lexer.specs.Lexing.State.{LexerState}
use Rattle.device_profile.specs.Printer.{Printer}
use Rattle.page_env.specs.declared.lookup.FormBounds.{FormBounds}
use Rattle.page_env.specs.TextMeasure.{TextMeasure}
use Rattle.page_machine.specs.MachineState.{MachineState}
use Rattle.preflight.specs.declared.checking.Checking.{Checking}
use Rattle.preflight.specs.declared.check_state.CheckState.TheVariants.{Open}
use Rattle.preflight.specs.CheckState.{StandsBy, is_open}
use Rattle.preflight.specs.Carriers.FormsInStep.{FirstForms, FirstMeasures}
use Rattle.preflight.specs.Carriers.Lockstep.{machines_of, counts_of, AreRunning, AreIn}
use Rattle.preflight.specs.Carriers.Checking.{HasExecuted, CameTo, ComesThrough, MayGoOn}

-- nothing is wrong so far, and the machines run, in the lexer's mode
pub record MayExecute {A P : Type 0} (check : Checking A P) : Type 0 where
  pub running : AreRunning (machines_of check.machines)
  pub modes : AreIn (mode_of check.lexer.context) (machines_of check.machines)
  pub stands : check.state ≡ Open

-- the lexer has come no less far, in the same bytes
pub record IsFurther (first last : LexerState) : Type 0 where
  pub ended : last.ended ≡ first.ended
  pub place : last.place + length last.rest ≡ first.place + length first.rest
  pub no_more : left last.context last.rest ≤ left first.context first.rest

-- A loop executed what stands next, and answered whether the check is still open. Then no item is told.
pub record ExecutesOn {A P : Type 0} (old new : Checking A P) (answer : Bool) : Type 0 where
  pub came : StandsBy new.state (λ failed.
      ComesThrough failed new.failing_item old.lexer new.lexer (machines_of old.machines) (machines_of new.machines)
      (counts_of old.machines) (counts_of new.machines))
  pub tells : answer ≡ is_open new.state
  pub untold : IsTrue answer → new.failing_item ≡ old.failing_item
  pub further : IsFurther old.lexer new.lexer

-- So did the loop over all that the bytes decide.
pub record ExecutesDecided {A P : Type 0} (old new : Checking A P) (answer : Bool) : Type 0 where
  pub came : StandsBy new.state (λ failed.
      (fleet : List Printer) (bytes : List ℕ) →
      HasExecuted fleet bytes old.lexer (machines_of old.machines) (counts_of old.machines)
      → CameTo fleet bytes old.lexer.ended failed new.failing_item new.lexer (machines_of new.machines)
      (counts_of new.machines))
  pub tells : answer ≡ is_open new.state
  pub untold : IsTrue answer → new.failing_item ≡ None
  pub ended : new.lexer.ended ≡ old.lexer.ended
  pub place : new.lexer.place + length new.lexer.rest ≡ old.lexer.place + length old.lexer.rest
  pub goes_on : StandsBy new.state (λ failed. MayGoOn failed old.lexer.ended new.lexer (machines_of new.machines))

-- what is kept of the page and of text is that of the first machine
pub record Knows (known : Option FormBounds) (measure : Option TextMeasure) (machines : List MachineState) :
    Type 0 where
  pub forms : IfSome known (λ bounds. FirstForms bounds machines)
  pub measures : IfSome measure (λ m. FirstMeasures m machines)

-- An item was executed, and what is kept is right. Fewer bytes are left where the check is still open.
pub record ExecutesOne {A P : Type 0} (old new : Checking A P) (known : Option FormBounds)
    (measure : Option TextMeasure) (answer : Bool) : Type 0 where
  pub executes : ExecutesOn old new answer
  pub less : IsTrue answer → left new.lexer.context new.lexer.rest < left old.lexer.context old.lexer.rest
  pub knows : IsTrue answer → Knows known measure (machines_of new.machines)
