-- What macros do: the bodies that controls run, the overlay of a page that closes, and under which
-- conditions each item stands.
use Rattle.std.specs.Prelude.{ℕ, zero, suc, ◌==◌, ◌&&◌, Bool, true, false, is_some, Option, Some, None, List, [], ◌∷◌}
use Rattle.pcl_items.specs.Items.{Entry}
use Rattle.pcl_items.specs.Escapes.Value.{Amount}
use Rattle.device_profile.specs.declared.field.Field.{Field}
use Rattle.device_profile.specs.declared.field.Field.TheVariants.{Size, Orientation, Copies, Sides, Tray}
use Rattle.device_profile.specs.Printer.{Printer}
use Rattle.macro_store.specs.Store.{Store, body_of}
use Rattle.page_env.specs.declared.finding.Finding.TheVariants.{MacroDepth, InMacro}
use Rattle.page_env.specs.declared.macros.Control.{Control}
use Rattle.page_env.specs.declared.macros.Control.TheVariants.{Execute, Call}
use Rattle.page_env.specs.Settings.{Settings, State}
use Rattle.page_env.specs.Effect.{Step, check, first_finding, first_unset}
use Rattle.page_env.specs.Macros.{control_of, control_checks, controlled, overlay_state, spend_item}
use Rattle.page_env.specs.Table.{page_end_of}
use Rattle.page_machine.specs.declared.nesting.Nesting.{Nesting}
use Rattle.page_machine.specs.declared.nesting.Nesting.TheVariants.{Job, Executed, Called, Overlaid}
use Rattle.page_machine.specs.Event.{Ended}
use Rattle.page_machine.specs.Run.{Peaks, Run, just, after, followed_by, finding_or, unset_or, goes, Ending, Done}
use Rattle.page_machine.specs.Run.{Halts, Conditions, transition_run, item_run, entries_run}

-- what does not change while an item of the job is carried out
pub record MacroContext : Type 0 where
  pub printer : Printer
  pub defaults : Settings
  pub macros : Store

-- ---- where an item stands

-- in a macro
abbrev pub is_macro : Nesting → Bool
is_macro Job = false
is_macro Executed = true
is_macro Called = true
is_macro Overlaid = true

-- in a call or an overlay, also deeper in one, the paper of the page is fixed
abbrev pub fixes_paper : Nesting → Bool
fixes_paper Job = false
fixes_paper Executed = false
fixes_paper Called = true
fixes_paper Overlaid = true

-- where the items of an executed body stand
abbrev pub executed_in : Nesting → Nesting
executed_in Job = Executed
executed_in nesting = nesting

-- where the items of a called body stand
abbrev pub called_in : Nesting → Nesting
called_in Overlaid = Overlaid
called_in nesting = Called

-- ---- controls

-- what a body peaks with at its level: 1 where the job or an overlay begins it, one more where a body does
abbrev pub at_level : ℕ → Peaks
at_level level = record { level = level; stack = 0; memory = 0 }

abbrev pub ending_with : Settings → Ending → Ending
ending_with settings (Done s) = Done (record s { settings = settings })
ending_with settings (Halts finding) = Halts finding

-- a call returns the settings; cursor, stack and page stay as its body left them
abbrev pub put_back : Settings → Run → Run
put_back settings r = record r { ending = ending_with settings r.ending }

-- a body that is found
abbrev pub found_run : Option (List Entry) → State → (List Entry → Run) → Run
found_run None s run = just [] (Done s)
found_run (Some body) s run = run body

-- what a control does after its own step, where `inner` runs a body one level deeper:
-- it executes or calls the macro of the id in force
abbrev pub control_body : Store → (Nesting → List Entry → State → Run) → Nesting → Option Control → State → Run
control_body macros inner nesting (Some Execute) s =
    found_run (body_of macros s.settings.job.macro_id) s (λ body. inner (executed_in nesting) body s)
control_body macros inner nesting (Some Call) s =
    found_run (body_of macros s.settings.job.macro_id) s
    (λ body. put_back s.settings (inner (called_in nesting) body s))
control_body macros inner nesting _ s = just [] (Done s)

-- `&f#X` macro control: its checks, its own step, and the body that it runs
abbrev pub control_run : Store → (Nesting → List Entry → State → Run) → Nesting → Amount → State → Run
control_run macros inner nesting n s =
    let known = is_some (body_of macros s.settings.job.macro_id) in
    finding_or (first_finding (control_checks known (is_macro nesting) (control_of n)))
    (followed_by (goes (controlled (control_of n) s) []) (control_body macros inner nesting (control_of n)))

-- ---- bodies

-- the conditions of items that stand there, where a page closes so and `inner` runs a body one level deeper
abbrev pub conditions_in : MacroContext → (State → Run) → Nesting → (Nesting → List Entry → State → Run) → Conditions
conditions_in context close nesting inner = record {
  defaults = context.defaults;
  fixes_paper = fixes_paper nesting;
  close = close;
  control = control_run context.macros inner nesting;
}

-- the end of a body ends the raster
abbrev pub raster_ended : State → Run
raster_ended s = just [] (Done (record s { raster = None }))

-- an item of a macro begins, where one more may be carried out, and is then carried out
abbrev pub macro_item_run : Printer → Conditions → Entry → State → Run
macro_item_run printer conditions item s =
    followed_by (transition_run conditions s (Step (spend_item s))) (item_run printer conditions item)

-- a body at a level, where so many levels are left, its own among them
abbrev pub body_run : MacroContext → (State → Run) → (left level : ℕ) → Nesting → List Entry → State → Run
body_run context close zero level nesting items s = just [] (Halts MacroDepth)
body_run context close (suc left) level nesting items s =
    after [] (at_level level)
    (followed_by
    (entries_run
    (macro_item_run context.printer (conditions_in context close nesting (body_run context close left (suc level))))
    items s)
    raster_ended)

-- ---- closing a page

-- the fields that the closing of a page reads
abbrev pub closing_reads : List Field
closing_reads = Size ∷ Orientation ∷ Copies ∷ Sides ∷ Tray ∷ []

-- the page ends with its five values; it is unmarked, no raster is started, and the cursor is at home
abbrev pub ended : State → Run
ended s =
    just (Ended (page_end_of s) ∷ [])
    (Done (record s { cursor = record s.cursor { y = None }; marked = false; raster = None }))

-- in an overlay no page is closed
abbrev pub refused : State → Run
refused s = just [] (Halts InMacro)

abbrev pub ending_at : State → Ending → Ending
ending_at s (Done t) = Done (record s { items_left = t.items_left })
ending_at s (Halts finding) = Halts finding

-- what an overlay did to the state is given up, but for what it carried out
abbrev pub give_up : State → Run → Run
give_up s r = record r { ending = ending_at s r.ending }

-- the overlay of a page, if one is enabled: its body from where an overlay begins, at level 1
abbrev pub overlay_run : MacroContext → State → Option ℕ → Run
overlay_run context s None = just [] (Done s)
overlay_run context s (Some id) =
    found_run (body_of context.macros id) s
    (λ body.
    give_up s (body_run context refused context.printer.depth 1 Overlaid body (overlay_state context.defaults s)))

-- an overlay is enabled on a printer that runs no macro
abbrev pub is_too_deep : Printer → State → Bool
is_too_deep printer s = is_some s.settings.job.overlay && (printer.depth == 0)

-- its own check, what it reads, the enabled overlay, and the end of the page
abbrev pub page_close : MacroContext → State → Run
page_close context s =
    finding_or (first_finding (check (is_too_deep context.printer s) MacroDepth ∷ []))
    (unset_or (first_unset s.settings closing_reads)
    (followed_by (overlay_run context s s.settings.job.overlay) ended))

-- how a page is closed there
abbrev pub close_in : MacroContext → Nesting → State → Run
close_in context Overlaid = refused
close_in context _ = page_close context

-- ---- the conditions of items

-- those of items that stand there: bodies below them begin at this level, and so many levels are left for them
abbrev pub conditions_at : MacroContext → (left level : ℕ) → Nesting → Conditions
conditions_at context left level nesting =
    conditions_in context (close_in context nesting) nesting (body_run context (close_in context nesting) left level)

-- the items of a job: all levels are left
abbrev pub in_job : MacroContext → Conditions
in_job context = conditions_at context context.printer.depth 1 Job
