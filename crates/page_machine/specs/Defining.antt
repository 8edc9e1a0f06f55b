-- What an item of the job does: it is carried out, or stored in the definition that is open; and the macros after it.
use Rattle.std.specs.Prelude.{◌≡◌, ℕ, ◌+◌, nat_lt, length, Bool, true, false, cond, is_some, Option, Some, None, IsSome}
use Rattle.std.specs.Prelude.{[], ◌∷◌}
use Rattle.pcl_items.specs.declared.pcl.command.Command.TheVariants.{MacroControl}
use Rattle.pcl_items.specs.declared.item.Mode.{Mode}
use Rattle.pcl_items.specs.Spellings.Canon.{canon}
use Rattle.pcl_items.specs.Items.{Entry, Parameterized}
use Rattle.macro_store.specs.Store.{Store, mode_in, stored_bytes, began, appended, committed, deleted, cleared}
use Rattle.page_env.specs.declared.finding.Finding.TheVariants.{MacroMemory, DefinitionOpen}
use Rattle.page_env.specs.declared.macros.Control.{Control}
use Rattle.page_env.specs.declared.macros.Control.TheVariants.{Begin, End, DeleteAll, Delete}
use Rattle.page_env.specs.Effect.{check, first_finding}
use Rattle.page_env.specs.JobControl.{is_reset}
use Rattle.page_env.specs.Macros.{control_of}
use Rattle.page_env.specs.Settings.{State}
use Rattle.page_machine.specs.declared.defining.Defining.{Defining}
use Rattle.page_machine.specs.declared.defining.Defining.TheVariants.{Refused, Completed, Stored}
use Rattle.page_machine.specs.Run.{Peaks, Run, just, after, finding_or, Done, Halts, item_run, reset_run}
use Rattle.page_machine.specs.Macros.{MacroContext, in_job}

-- the control that an item is
abbrev pub control_in : Entry → Option Control
control_in (Parameterized MacroControl n) = control_of n
control_in _ = None

-- ---- while a definition is open

-- a control ends an open definition, or would begin another, or is stored as any other item
abbrev pub defining_control : Option Control → Defining
defining_control (Some Begin) = Refused
defining_control (Some End) = Completed
defining_control _ = Stored

-- what an item does to the open definition
abbrev pub defining_of : Entry → Defining
defining_of item = cond (is_reset item) Refused (defining_control (control_in item))

-- what a store peaks with
abbrev pub of_memory : ℕ → Peaks
of_memory bytes = record { level = 0; stack = 0; memory = bytes }

-- no item is carried out; the store peaks where an item is stored, and nowhere else
abbrev pub defining_run : Store → Entry → Defining → State → Run
defining_run macros item Refused s = just [] (Halts DefinitionOpen)
defining_run macros item Completed s = just [] (Done s)
defining_run macros item Stored s =
    finding_or
    (first_finding (check (nat_lt macros.limit (stored_bytes macros + length (canon item))) MacroMemory ∷ []))
    (after [] (of_memory (stored_bytes (appended item macros))) (just [] (Done s)))

abbrev pub defined_after : Entry → Defining → Store → Store
defined_after item Refused macros = macros
defined_after item Completed macros = committed macros
defined_after item Stored macros = appended item macros

-- an open definition's items leave this mode
abbrev pub StandsIn : Store → Mode → Type 0
StandsIn macros mode = IsSome macros.definition → mode_in macros.definition ≡ Some mode

-- ---- while none is open

-- the macros after a control that was carried out with this id in force
abbrev pub controlled_after : ℕ → Option Control → Store → Store
controlled_after id (Some Begin) macros = began id macros
controlled_after id (Some DeleteAll) macros = cleared macros
controlled_after id (Some Delete) macros = deleted id macros
controlled_after id _ macros = macros

-- an item that does nothing to the macros
abbrev pub LeavesMacros : Entry → Type 0
LeavesMacros item = (is_reset item ≡ false) × (control_in item ≡ None)

-- a reset deletes all macros
abbrev pub carried_after : ℕ → Entry → Store → Store
carried_after id item macros = cond (is_reset item) (cleared macros) (controlled_after id (control_in item) macros)

-- ---- an item of the job, and the end of its bytes

abbrev pub is_defining : Store → Bool
is_defining macros = is_some macros.definition

abbrev pub job_item_run : MacroContext → Entry → State → Run
job_item_run context item s =
    cond (is_defining context.macros) (defining_run context.macros item (defining_of item) s)
    (item_run context.printer (in_job context) item s)

-- the macros after the item, where this id was in force before it
abbrev pub macros_after : ℕ → Entry → Store → Store
macros_after id item macros =
    cond (is_defining macros) (defined_after item (defining_of item) macros) (carried_after id item macros)

-- the end of the bytes acts as a reset
abbrev pub job_end_run : MacroContext → State → Run
job_end_run context s =
    cond (is_defining context.macros) (just [] (Halts DefinitionOpen)) (reset_run (in_job context) s)

-- ---- memory

abbrev pub is_stored : Defining → Bool
is_stored Stored = true
is_stored _ = false

abbrev pub begins : Option Control → Bool
begins (Some Begin) = true
begins _ = false

-- an item takes memory that is stored, or begins a definition
abbrev pub takes_memory : Entry → Store → Bool
takes_memory item macros = cond (is_defining macros) (is_stored (defining_of item)) (begins (control_in item))
