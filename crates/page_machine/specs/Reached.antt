-- How a run comes to a step that reads a field of the panel which no item has set since it was last at its
-- user default.
use Rattle.std.specs.Prelude.{◌≡◌, ◌⊎◌, ℕ, ℤ, zero, suc, ◌&&◌, Bool, true, false, cond, is_some, Option, Some, None}
use Rattle.std.specs.Prelude.{List, [], ◌∷◌}
use Rattle.std.specs.List.{Contains}
use Rattle.pcl_items.specs.declared.pcl.command.Command.TheVariants.{MacroControl}
use Rattle.pcl_items.specs.Items.{Entry, Parameterized, Placed}
use Rattle.pcl_lexer.specs.Reading.{Reading, Whole, Stopped}
use Rattle.pcl_items.specs.Escapes.Value.{Amount}
use Rattle.device_profile.specs.declared.field.Field.{Field}
use Rattle.device_profile.specs.declared.panel.Panel.{Panel}
use Rattle.device_profile.specs.Printer.{Printer}
use Rattle.macro_store.specs.Store.{Store, body_of, no_macros}
use Rattle.page_env.specs.declared.finding.Finding.TheVariants.{MacroDepth, Unset}
use Rattle.page_env.specs.declared.finding.Finding.{Finding}
use Rattle.page_env.specs.declared.macros.Control.{Control}
use Rattle.page_env.specs.declared.macros.Control.TheVariants.{Execute, Call}
use Rattle.page_env.specs.Effect.{TableLine, Transition, Step, Closes, Ends, Behind, Controls, Effect, Goes}
use Rattle.page_env.specs.Effect.{GoesThenCloses, GoesThenEnds, Controlling, Fails, check, first_finding, effect_of}
use Rattle.page_env.specs.JobControl.{reset}
use Rattle.page_env.specs.Macros.{control_of, control_checks, controlled, overlay_state, spend_item}
use Rattle.page_env.specs.Pens.{move_pen}
use Rattle.page_env.specs.Rasters.{begun_by}
use Rattle.page_env.specs.Settings.{Flags, Settings, State, start_state, user_defaults, unwatched}
use Rattle.page_env.specs.Table.{printed_bytes, coordinates_of, transition_of}
use Rattle.page_env.specs.Text.{print_transparent}
use Rattle.page_env.specs.Untouched.{Untouched, all_untouched, untouched_in_overlay, untouched_behind, is_untouched}
use Rattle.page_env.specs.Untouched.{is_flagged}
use Rattle.page_machine.specs.declared.nesting.Nesting.{Nesting}
use Rattle.page_machine.specs.declared.nesting.Nesting.TheVariants.{Job, Overlaid}
use Rattle.page_machine.specs.Run.{Run, Ending, Done, Halts, Conditions, followed_by, byte_run, printing, own_run}
use Rattle.page_machine.specs.Macros.{MacroContext, is_macro, executed_in, called_in, closing_reads, is_too_deep}
use Rattle.page_machine.specs.Macros.{conditions_in, macro_item_run, body_run, refused, page_close, in_job}
use Rattle.page_machine.specs.Defining.{is_defining, job_item_run, macros_after}
use Rattle.page_machine.specs.Job.{ItemRun, run_from, with_macros}

-- ---- what items leave untouched that are carried out one after another

abbrev pub left_at : Untouched → (State → Untouched) → Ending → Untouched
left_at u next (Done s) = next s
left_at u next (Halts finding) = u

abbrev pub entries_leave : (Entry → State → Run) → (Entry → State → Untouched → Untouched) → List Entry → State →
    Untouched → Untouched
entries_leave run leaves [] s u = u
entries_leave run leaves (item ∷ items) s u =
    let left = leaves item s u in
    left_at left (λ t. entries_leave run leaves items t left) (run item s).ending

-- what a body leaves untouched, where one is found
abbrev pub found_leaves : Option (List Entry) → Untouched → (List Entry → Untouched) → Untouched
found_leaves None u left = u
found_leaves (Some body) u left = left body

-- A macro that is executed leaves what its body leaves, where `inner` is that of a body one level deeper.
-- One that is called puts the settings back.
abbrev pub control_leaves : Store → (Nesting → List Entry → State → Untouched → Untouched) → Nesting → Option Control →
    State → Untouched → Untouched
control_leaves macros inner nesting (Some Execute) s u =
    found_leaves (body_of macros s.settings.job.macro_id) u (λ body. inner (executed_in nesting) body s u)
control_leaves macros inner nesting _ s u = u

-- an item, from where it has begun
abbrev pub begun_leaves : Store → (Nesting → List Entry → State → Untouched → Untouched) → Nesting → Entry → State →
    Untouched → Untouched
begun_leaves macros inner nesting (Parameterized MacroControl n) s u =
    control_leaves macros inner nesting (control_of n) (controlled (control_of n) s) u
begun_leaves macros inner nesting item s u = untouched_behind item u

abbrev pub item_leaves : Store → (Nesting → List Entry → State → Untouched → Untouched) → Nesting → Entry → State →
    Untouched → Untouched
item_leaves macros inner nesting item s u = begun_leaves macros inner nesting item (begun_by item s) u

-- the run of an item of a body, where so many levels are left for the bodies below it
abbrev pub nested_run : MacroContext → (State → Run) → (left level : ℕ) → Nesting → Entry → State → Run
nested_run context close left level nesting =
    macro_item_run context.printer (conditions_in context close nesting (body_run context close left level))

-- an item of a body, from where it has begun
abbrev pub macro_item_leaves : (Entry → State → Untouched → Untouched) → Entry → State → Untouched → Untouched
macro_item_leaves leaves item s u = leaves item (spend_item s).state u

-- a body at a level, where so many levels are left, its own among them
abbrev pub body_leaves : MacroContext → (State → Run) → (left level : ℕ) → Nesting → List Entry → State → Untouched →
    Untouched
body_leaves context close zero level nesting items s u = u
body_leaves context close (suc left) level nesting items s u =
    entries_leave (nested_run context close left (suc level) nesting)
    (macro_item_leaves (item_leaves context.macros (body_leaves context close left (suc level)) nesting)) items s u

-- an item of the job: one that is stored is not carried out
abbrev pub job_item_leaves : MacroContext → Entry → State → Untouched → Untouched
job_item_leaves context item s u =
    cond (is_defining context.macros) u
    (item_leaves context.macros (body_leaves context (page_close context) context.printer.depth 1) Job item s u)

-- ---- where a step reads a field

-- among the fields that are read is this one, and no item has set it
abbrev pub ReadsUntouched : Field → Untouched → List Field → Type 0
ReadsUntouched field u reads = Contains reads field × (is_untouched u field ≡ true)

-- a line comes to its reads, and reads it there
abbrev pub LineReads : Field → Untouched → TableLine → Type 0
LineReads field u line = (first_finding line.checks_before ≡ None) × ReadsUntouched field u line.reads

-- an item's own step reads it, or it is read before that step is known
abbrev pub StepReads : Field → Untouched → Transition → Type 0
StepReads field u (Step line) = LineReads field u line
StepReads field u (Closes line sets_paper change) = LineReads field u line
StepReads field u (Ends line) = LineReads field u line
StepReads field u (Behind reads transition) = ReadsUntouched field u reads ⊎ StepReads field u transition
StepReads field u (Controls s n) = ⊥

-- or what comes behind it does: the closing of a page, where it is closed, or what a macro control runs
abbrev pub BehindReads : (fixes_paper : Bool) → (State → Type 0) → (Amount → State → Type 0) → Effect → Type 0
BehindReads fixes_paper closing controls (Goes s marks) = ⊥
BehindReads fixes_paper closing controls (GoesThenCloses s sets_paper change) =
    ((sets_paper && fixes_paper) ≡ false) × (s.marked ≡ true) × closing s
BehindReads fixes_paper closing controls (GoesThenEnds s) = closing s
BehindReads fixes_paper closing controls (Controlling s n) = controls n s
BehindReads fixes_paper closing controls (Fails finding) = ⊥

abbrev pub TransitionReads : (fixes_paper : Bool) → (State → Type 0) → (Amount → State → Type 0) → Field → Untouched →
    State → Transition → Type 0
TransitionReads fixes_paper closing controls field u s transition =
    StepReads field u transition ⊎ BehindReads fixes_paper closing controls (effect_of s.settings transition)

-- one of these bytes reads it, which are printed behind a run
abbrev pub BytesRead : Printer → Conditions → Field → Untouched → Run → List ℕ → Type 0
BytesRead printer conditions field u r [] = ⊥
BytesRead printer conditions field u r (code ∷ codes) =
    ((t : State) × (r.ending ≡ Done t) × LineReads field u (print_transparent printer t code))
    ⊎ BytesRead printer conditions field u (followed_by r (byte_run printer conditions code)) codes

-- the move of the pen behind a run, if it moves, reads it
abbrev pub MoveReads : Printer → Field → Untouched → Run → Option (ℤ × ℤ) → Type 0
MoveReads printer field u r None = ⊥
MoveReads printer field u r (Some to) = (t : State) × (r.ending ≡ Done t) × LineReads field u (move_pen printer t to)

-- a step of an item that has begun reads it
abbrev pub BegunReads : Printer → Conditions → (State → Type 0) → (Amount → State → Type 0) → Field → Untouched →
    Entry → State → Type 0
BegunReads printer conditions closing controls field u item s =
    let own : Run = own_run printer conditions item s in
    TransitionReads conditions.fixes_paper closing controls field u s (transition_of printer conditions.defaults s item)
    ⊎ (BytesRead printer conditions field u own (printed_bytes item)
    ⊎ MoveReads printer field u (printing printer conditions own (printed_bytes item)) (coordinates_of item))

abbrev pub ItemReads : Printer → Conditions → (State → Type 0) → (Amount → State → Type 0) → Field → Untouched → Entry →
    State → Type 0
ItemReads printer conditions closing controls field u item s =
    BegunReads printer conditions closing controls field u item (begun_by item s)

-- a step of one of these items reads it
abbrev pub EntriesRead : (Entry → State → Run) → (Entry → State → Untouched → Untouched) →
    (Untouched → Entry → State → Type 0) → Untouched → List Entry → State → Type 0
EntriesRead run leaves reads u [] s = ⊥
EntriesRead run leaves reads u (item ∷ items) s =
    reads u item s
    ⊎ ((t : State) × ((run item s).ending ≡ Done t) × EntriesRead run leaves reads (leaves item s u) items t)

-- ---- in bodies

-- a step of the body that a control executes or calls reads it
abbrev pub ControlBodyReads : Store → (Nesting → Untouched → List Entry → State → Type 0) → Nesting → Untouched →
    Option Control → State → Type 0
ControlBodyReads macros inner nesting u (Some Execute) s =
    (body : List Entry) × (body_of macros s.settings.job.macro_id ≡ Some body) × inner (executed_in nesting) u body s
ControlBodyReads macros inner nesting u (Some Call) s =
    (body : List Entry) × (body_of macros s.settings.job.macro_id ≡ Some body) × inner (called_in nesting) u body s
ControlBodyReads macros inner nesting u _ s = ⊥

abbrev pub ControlReads : Store → (Nesting → Untouched → List Entry → State → Type 0) → Nesting → Untouched → Amount →
    State → Type 0
ControlReads macros inner nesting u n s =
    (first_finding (control_checks (is_some (body_of macros s.settings.job.macro_id)) (is_macro nesting) (control_of n))
    ≡ None)
    × ControlBodyReads macros inner nesting u (control_of n) (controlled (control_of n) s)

-- an item reads it that stands there, where a page closes so, and bodies read so one level deeper
abbrev pub NestedReads : Field → MacroContext → Conditions → (Untouched → State → Type 0) →
    (Nesting → Untouched → List Entry → State → Type 0) → Nesting → Untouched → Entry → State → Type 0
NestedReads field context conditions closing inner nesting u item s =
    ItemReads context.printer conditions (closing u) (ControlReads context.macros inner nesting u) field u item s

-- an item of a body begins, and reads it then
abbrev pub MacroItemReads : (Untouched → Entry → State → Type 0) → Untouched → Entry → State → Type 0
MacroItemReads reads u item s = (first_finding (spend_item s).checks_before ≡ None) × reads u item (spend_item s).state

-- a body at a level, where so many levels are left, its own among them
abbrev pub BodyReads : Field → MacroContext → (State → Run) → (Untouched → State → Type 0) → (left level : ℕ) →
    Nesting → Untouched → List Entry → State → Type 0
BodyReads field context close closing zero level nesting u items s = ⊥
BodyReads field context close closing (suc left) level nesting u items s =
    EntriesRead (nested_run context close left (suc level) nesting)
    (macro_item_leaves (item_leaves context.macros (body_leaves context close left (suc level)) nesting))
    (MacroItemReads
    (NestedReads field context (conditions_in context close nesting (body_run context close left (suc level))) closing
    (BodyReads field context close closing left (suc level)) nesting)) u items s

-- ---- where a page is closed

-- in the overlay, if one is enabled
abbrev pub OverlayReads : Field → MacroContext → State → Type 0
OverlayReads field context s =
    (id : ℕ) × (s.settings.job.overlay ≡ Some id) × (body : List Entry) × (body_of context.macros id ≡ Some body)
    × BodyReads field context refused (λ v t. ⊥) context.printer.depth 1 Overlaid untouched_in_overlay body
    (overlay_state context.defaults s)

-- by the closing itself, or in the overlay
abbrev pub CloseReads : Field → MacroContext → Untouched → State → Type 0
CloseReads field context u s =
    (first_finding (check (is_too_deep context.printer s) MacroDepth ∷ []) ≡ None)
    × (ReadsUntouched field u closing_reads ⊎ OverlayReads field context s)

-- ---- in jobs

-- an item of the job that is carried out
abbrev pub JobItemReads : Field → MacroContext → Untouched → Entry → State → Type 0
JobItemReads field context u item s =
    (is_defining context.macros ≡ false)
    × NestedReads field context (in_job context) (CloseReads field context)
    (BodyReads field context (page_close context) (CloseReads field context) context.printer.depth 1) Job u item s

-- the end of the bytes, which acts as a reset
abbrev pub JobEndReads : Field → MacroContext → Untouched → State → Type 0
JobEndReads field context u s =
    (is_defining context.macros ≡ false)
    × TransitionReads (in_job context).fixes_paper (CloseReads field context u) (λ n t. ⊥) field u s
    (reset context.defaults s)

-- so many items come to their end without a finding, and the next one, at this place, reads it, or where
-- none is left what comes finally
abbrev pub ItemsRead : Field → Printer → Settings → (ℕ → Store → State → Untouched → Type 0) →
    (count_before place : ℕ) →
    List Placed → Store → State → Untouched → Type 0
ItemsRead field printer defaults finally count_before place [] macros s u = finally count_before macros s u
ItemsRead field printer defaults finally zero place (x ∷ items) macros s u =
    (x.place ≡ place) × JobItemReads field (with_macros printer defaults macros) u x.item s
ItemsRead field printer defaults finally (suc count_before) place (x ∷ items) macros s u =
    (t : State) × ((job_item_run (with_macros printer defaults macros) x.item s).ending ≡ Done t)
    × ItemsRead field printer defaults finally count_before place items
    (macros_after s.settings.job.macro_id x.item macros) t
    (job_item_leaves (with_macros printer defaults macros) x.item s u)

-- the end reads it, which comes at this place
abbrev pub EndReads : Field → Printer → Settings → (end place count_before : ℕ) → Store → State → Untouched → Type 0
EndReads field printer defaults end place zero macros s u =
    (end ≡ place) × JobEndReads field (with_macros printer defaults macros) u s
EndReads field printer defaults end place (suc count_before) macros s u = ⊥

abbrev pub ReadingReads : Field → Printer → Settings → (count_before place : ℕ) → Reading → Store → State →
    Untouched → Type 0
ReadingReads field printer defaults count_before place (Whole items end) macros s u =
    ItemsRead field printer defaults (EndReads field printer defaults end place) count_before place items macros s u
ReadingReads field printer defaults count_before place (Stopped items end cause) macros s u =
    ItemsRead field printer defaults (λ n m t v. ⊥) count_before place items macros s u

-- The plain run from a panel finds nothing in so many items, and in the next one, at this place, it comes without a
-- finding to a step that reads a field which no item has set.
abbrev pub ComesToRead : Printer → Panel → Reading → (count_before place : ℕ) → Field → Type 0
ComesToRead printer panel reading count_before place field =
    let defaults : Settings = user_defaults unwatched panel in
    ReadingReads field printer defaults count_before place reading (no_macros printer.memory)
    (start_state printer.most_items defaults) all_untouched

-- behind so many items that find nothing, one at this place has this finding
abbrev pub FindsBehind : ℕ → ℕ → Finding → List ItemRun → Type 0
FindsBehind count_before place finding [] = ⊥
FindsBehind zero place finding (item ∷ items) = (item.finding ≡ Some finding) × (item.place ≡ place)
FindsBehind (suc count_before) place finding (item ∷ items) = (item.finding ≡ None) ×
    FindsBehind count_before place finding items

-- A field that is found unset is watched, and there the plain run comes to a step that reads it, and no
-- item has set it.
abbrev pub UnsetIsRead : Printer → Flags → Panel → Reading → Type 0
UnsetIsRead printer flags panel reading =
    (count_before place : ℕ) (field : Field) →
    FindsBehind count_before place (Unset field) (run_from printer flags panel reading).items →
    (is_flagged flags field ≡ true) × ComesToRead printer panel reading count_before place field
