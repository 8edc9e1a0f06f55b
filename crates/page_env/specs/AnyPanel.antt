-- Where the panel has other values in fields that the job has left unset, items come to the same:
-- one that reads such a field finds it unset, whatever the panel has.
use Rattle.std.specs.Prelude.{◌≡◌, ℕ, ℤ, Bool, cond, Option}
use Rattle.device_profile.specs.declared.panel.Panel.{Panel}
use Rattle.device_profile.specs.Printer.{Printer}
use Rattle.pcl_items.specs.Items.{Entry}
use Rattle.page_env.specs.declared.macros.Control.{Control}
use Rattle.page_env.specs.Settings.{Flags, Settings, State}
use Rattle.page_env.specs.Effect.{TableLine, Step, Effect, Goes, GoesThenCloses, GoesThenEnds, Controlling, Fails}
use Rattle.page_env.specs.Effect.{effect_of}
use Rattle.page_env.specs.Macros.{control_line}
use Rattle.page_env.specs.Pens.{move_pen}
use Rattle.page_env.specs.Table.{transition_of}
use Rattle.page_env.specs.Text.{print_transparent}

-- these fields, where the panel has its own values in those that are unset
abbrev pub fields_with : Panel → Flags → Panel → Panel
fields_with panel unset fields = record {
  size = cond unset.size panel.size fields.size;
  orientation = cond unset.orientation panel.orientation fields.orientation;
  vmi = cond unset.vmi panel.vmi fields.vmi;
  font = cond unset.font panel.font fields.font;
  copies = cond unset.copies panel.copies fields.copies;
  sides = cond unset.sides panel.sides fields.sides;
  tray = cond unset.tray panel.tray fields.tray;
  line_termination = cond unset.line_termination panel.line_termination fields.line_termination;
}

-- the same settings, and the same state, at a printer whose panel has these values
abbrev pub settings_with : Panel → Settings → Settings
settings_with panel settings = record settings { fields = fields_with panel settings.unset settings.fields }

abbrev pub state_with : Panel → State → State
state_with panel s = record s { settings = settings_with panel s.settings }

-- two effects, the second at that panel:
-- they find the same, mark the same, and lead to the same states but for its values
abbrev pub GoesAlike : Panel → Effect → Effect → Type 0
GoesAlike panel (Goes s marks) (Goes s' marks') = (s' ≡ state_with panel s) × (marks' ≡ marks)
GoesAlike panel (GoesThenCloses s sets_paper change) (GoesThenCloses s' sets_paper' change') =
    (s' ≡ state_with panel s) × (sets_paper' ≡ sets_paper)
    × ((t : State) → change' (state_with panel t) ≡ state_with panel (change t))
GoesAlike panel (GoesThenEnds s) (GoesThenEnds s') = s' ≡ state_with panel s
GoesAlike panel (Controlling s n) (Controlling s' n') = (s' ≡ state_with panel s) × (n' ≡ n)
GoesAlike panel (Fails finding) (Fails finding') = finding' ≡ finding
GoesAlike panel _ _ = ⊥

abbrev pub line_effect : State → TableLine → Effect
line_effect s line = effect_of s.settings (Step line)

-- an item comes to the same from every state, whatever the panel has in the fields that are unset
abbrev pub IsAlikeItem : Printer → Panel → Settings → Entry → Type 0
IsAlikeItem printer panel defaults item =
    (s : State) →
    GoesAlike panel (effect_of s.settings (transition_of printer defaults s item))
    (effect_of (settings_with panel s.settings)
    (transition_of printer (settings_with panel defaults) (state_with panel s) item))

-- so does the own step of each macro control
abbrev pub IsAlikeControl : Panel → Type 0
IsAlikeControl panel =
    (s : State) (known in_macro : Bool) (control : Option Control) →
    GoesAlike panel (line_effect s (control_line known in_macro control s))
    (line_effect (state_with panel s) (control_line known in_macro control (state_with panel s)))

-- so does each byte of transparent print data
abbrev pub IsAlikeByte : Printer → Panel → ℕ → Type 0
IsAlikeByte printer panel code =
    (s : State) →
    GoesAlike panel (line_effect s (print_transparent printer s code))
    (line_effect (state_with panel s) (print_transparent printer (state_with panel s) code))

-- so does each move of the pen
abbrev pub IsAlikeMove : Printer → Panel → ℤ × ℤ → Type 0
IsAlikeMove printer panel to =
    (s : State) →
    GoesAlike panel (line_effect s (move_pen printer s to))
    (line_effect (state_with panel s) (move_pen printer (state_with panel s) to))
