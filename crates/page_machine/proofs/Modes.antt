-- In which mode an open definition stands.
use Rattle.std.proofs.Common.{◌≡◌, ℕ, List, Option, Some, None, is_some, refl, sym, ap, subst, ◌∙◌}
use Rattle.std.specs.Option.{IsSome, option_and_then}
use Rattle.pcl_items.specs.declared.pcl.command.Command.{Command}
use Rattle.pcl_items.specs.declared.pcl.command.Command.TheVariants.{MacroControl}
use Rattle.pcl_items.specs.declared.item.Mode.{Mode}
use Rattle.pcl_items.specs.declared.item.Mode.TheVariants.{Pcl, Frame, Pjl}
use Rattle.pcl_items.specs.Modes.{follows}
use Rattle.pcl_items.specs.Items.{Entry, Reset, Parameterized, ExitLanguage}
use Rattle.pcl_items.specs.Escapes.Value.{Amount}
use Rattle.macro_store.specs.Store.{Store, mode_in, IsAdmittedIn, Admits, with_item, appended, committed}
use Rattle.macro_store.proofs.Modes.{mode_after-more}
use Rattle.page_env.specs.declared.macros.Control.{Control}
use Rattle.page_env.specs.declared.macros.Control.TheVariants.{Begin}
use Rattle.page_env.specs.Macros.{control_of}
use Rattle.page_machine.specs.Defining.{StandsIn, controlled_after, carried_after}

module _ (macros : Store) (mode next : Mode) (item : Entry) (e : follows mode item ≡ Some next) where
  -- what the mode admits may stand next in the definition
  pub admits_next : StandsIn macros mode → IsSome macros.definition → Admits macros item
  admits_next h opened = subst (λ m. IsAdmittedIn m item) (sym (h opened)) (ap is_some e)

  appended_case : (d : Option (ℕ × List Entry)) → (IsSome d → mode_in d ≡ Some mode) → IsSome (with_item item d) →
      mode_in (with_item item d) ≡ Some next
  appended_case None h opened = absurd cc
  appended_case (Some m) h opened = mode_after-more (Some Pcl) m.1 item ∙ ap (option_and_then (λ x. follows x item)) (h refl) ∙ e

  pub appended_stands : StandsIn macros mode → StandsIn (appended item macros) next
  appended_stands h = appended_case macros.definition h

pub committed_stands : (macros : Store) (mode : Mode) → StandsIn (committed macros) mode
committed_stands macros mode = λ opened. absurd cc

-- a command that is admitted leaves mode PCL
pub command_leaves : (mode : Mode) (command : Command) (n : Amount) → IsSome (follows mode (Parameterized command n)) →
    follows mode (Parameterized command n) ≡ Some Pcl
command_leaves Pcl command n admitted = refl
command_leaves Frame command n admitted = absurd cc
command_leaves Pjl command n admitted = refl

-- ---- where no definition is open

none_open : (d : Option (ℕ × List Entry)) (P : Type 0) → d ≡ None → IsSome d → P
none_open None P e h = absurd cc
none_open (Some m) P e h = absurd cc

module _ (macros : Store) (none : macros.definition ≡ None) where
  pub unopened_stands : (mode : Mode) → StandsIn macros mode
  unopened_stands mode = none_open macros.definition (mode_in macros.definition ≡ Some mode) none

  -- a definition begins in mode PCL, which alone admits its control
  begun_in : (n : Amount) (mode next : Mode) → follows mode (Parameterized MacroControl n) ≡ Some next → Some Pcl ≡ Some next
  begun_in n Pcl next e = e
  begun_in n Frame next e = absurd cc
  begun_in n Pjl next e = e

  control_stands : (id : ℕ) (n : Amount) (mode next : Mode) → follows mode (Parameterized MacroControl n) ≡ Some next →
      (control : Option Control) → StandsIn (controlled_after id control macros) next
  control_stands id n mode next e (Some Begin) = λ opened. begun_in n mode next e
  control_stands id n mode next e _ = unopened_stands next

  pub carried_stands : (id : ℕ) (item : Entry) (mode next : Mode) → follows mode item ≡ Some next →
      StandsIn (carried_after id item macros) next
  carried_stands id Reset mode next e = unopened_stands next
  carried_stands id ExitLanguage mode next e = unopened_stands next
  carried_stands id (Parameterized MacroControl n) mode next e = control_stands id n mode next e (control_of n)
  carried_stands id _ mode next e = unopened_stands next
