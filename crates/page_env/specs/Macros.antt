-- Macros: the id of which controls speak (`&f#Y`), the controls (`&f#X`), and where an overlay begins.
use Rattle.std.specs.Prelude.{ℕ, zero, suc, ◌-◌, ◌==◌, not, Bool, true, false, cond, Option, Some, None, List, [], ◌∷◌}
use Rattle.std.specs.Map.{lookup}
use Rattle.pcl_items.specs.Escapes.Value.{Amount}
use Rattle.page_env.specs.declared.finding.Finding.TheVariants.{BadValue, NoMacro, InMacro, ManyItems}
use Rattle.page_env.specs.declared.macros.Control.{Control}
use Rattle.page_env.specs.declared.macros.Control.TheVariants.{Begin, End, Execute, Call, EnableOverlay, DisableOverlay}
use Rattle.page_env.specs.declared.macros.Control.TheVariants.{DeleteAll, Delete, MakeTemporary}
use Rattle.page_env.specs.declared.page.JobSettings.{JobSettings}
use Rattle.page_env.specs.Settings.{Settings, State, home_cursor, with_job}
use Rattle.page_env.specs.Numbers.{is_whole_between, whole_of}
use Rattle.page_env.specs.Effect.{Check, check, TableLine, setting}

-- `&f#Y` macro id
abbrev pub set_macro_id : State → Amount → TableLine
set_macro_id s n =
    setting (check (not (is_whole_between 0 32_767 n)) BadValue ∷ [])
    (with_job s (record s.settings.job { macro_id = whole_of n }))

-- the controls by their values; every macro is temporary, so 6 (all) and 7 (all temporary ones) delete the same
abbrev pub controls : List (ℕ × Control)
controls =
    (0, Begin) ∷ (1, End) ∷ (2, Execute) ∷ (3, Call) ∷ (4, EnableOverlay) ∷ (5, DisableOverlay) ∷ (6, DeleteAll)
    ∷ (7, DeleteAll)
    ∷ (8, Delete) ∷ (9, MakeTemporary) ∷ []

-- `&f#X` macro control
abbrev pub control_of : Amount → Option Control
control_of n = cond (is_whole_between 0 9 n) (lookup (λ value. value == whole_of n) controls) None

-- What a control checks, where the macro of the id in force is known or not, and in a macro or not.
-- No definition is open, so there is none to end.
abbrev pub control_checks : (known in_macro : Bool) → Option Control → List Check
control_checks known in_macro None = check true BadValue ∷ []
control_checks known in_macro (Some Begin) = check in_macro InMacro ∷ []
control_checks known in_macro (Some End) = check true NoMacro ∷ []
control_checks known in_macro (Some Execute) = check (not known) NoMacro ∷ []
control_checks known in_macro (Some Call) = check (not known) NoMacro ∷ []
control_checks known in_macro (Some EnableOverlay) = check (not known) NoMacro ∷ check in_macro InMacro ∷ []
control_checks known in_macro (Some DisableOverlay) = check in_macro InMacro ∷ []
control_checks known in_macro (Some DeleteAll) = check in_macro InMacro ∷ []
control_checks known in_macro (Some Delete) = check (not known) NoMacro ∷ check in_macro InMacro ∷ []
control_checks known in_macro (Some MakeTemporary) = []

-- the overlay that is left where this macro goes
abbrev pub overlay_without : ℕ → Option ℕ → Option ℕ
overlay_without id None = None
overlay_without id (Some overlay) = cond (overlay == id) None (Some overlay)

-- the overlay that a control leaves; one whose macro goes is disabled
abbrev pub overlay_after : Option Control → JobSettings → Option ℕ
overlay_after None job = job.overlay
overlay_after (Some Begin) job = overlay_without job.macro_id job.overlay
overlay_after (Some End) job = job.overlay
overlay_after (Some Execute) job = job.overlay
overlay_after (Some Call) job = job.overlay
overlay_after (Some EnableOverlay) job = Some job.macro_id
overlay_after (Some DisableOverlay) job = None
overlay_after (Some DeleteAll) job = None
overlay_after (Some Delete) job = overlay_without job.macro_id job.overlay
overlay_after (Some MakeTemporary) job = job.overlay

-- all that a control does to the state by itself
abbrev pub controlled : Option Control → State → State
controlled control s = with_job s (record s.settings.job { overlay = overlay_after control s.settings.job })

-- the own step of a control, before a macro that it runs
abbrev pub control_line : (known in_macro : Bool) → Option Control → State → TableLine
control_line known in_macro control s = setting (control_checks known in_macro control) (controlled control s)

-- An overlay begins with the user defaults, but for the page's five values, with the cursor at the left edge and at
-- home, an empty stack, the page marked or not as it is, no raster started and outside any frame.
abbrev pub overlay_state : Settings → State → State
overlay_state defaults s = record {
  settings = record defaults {
    fields = record s.settings.fields {
      vmi = defaults.fields.vmi;
      font = defaults.fields.font;
      line_termination = defaults.fields.line_termination;
    };
    unset = record s.settings.unset {
      vmi = defaults.unset.vmi;
      font = defaults.unset.font;
      line_termination = defaults.unset.line_termination;
    };
  };
  cursor = home_cursor;
  stack = [];
  marked = s.marked;
  raster = None;
  in_frame = false;
  items_left = s.items_left;
}

-- ---- how many items macros may carry out

-- none may be carried out any more
abbrev pub is_spent : Option ℕ → Bool
is_spent None = false
is_spent (Some zero) = true
is_spent (Some (suc left)) = false

-- one fewer
abbrev pub less_one : Option ℕ → Option ℕ
less_one None = None
less_one (Some left) = Some (left - 1)

-- an item of a macro begins, where one may still be carried out
abbrev pub spend_item : State → TableLine
spend_item s = setting (check (is_spent s.items_left) ManyItems ∷ []) (record s { items_left = less_one s.items_left })
