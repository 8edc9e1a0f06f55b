-- Where a job has set all that a panel chooses, its items go as from that panel itself.
use Rattle.std.specs.Prelude.{◌≡◌, ℕ, ℤ, Bool, true, false, ◌||◌, unwrap_or, Option, None, Some, List}
use Rattle.pcl_items.specs.declared.pcl.command.Command.TheVariants.{Orientation, MacroControl}
use Rattle.pcl_items.specs.Items.{Entry, DefaultFont, Parameterized}
use Rattle.device_profile.specs.declared.field.Field.{Field}
use Rattle.device_profile.specs.declared.font.FontRequest.{FontRequest}
use Rattle.device_profile.specs.Printer.{Printer}
use Rattle.page_env.specs.declared.macros.Control.{Control}
use Rattle.page_env.specs.declared.macros.Control.TheVariants.{EnableOverlay}
use Rattle.page_env.specs.declared.page.FontParts.{FontParts}
use Rattle.page_env.specs.Settings.{Settings, State, unwatched}
use Rattle.page_env.specs.FontInForce.{request_at}
use Rattle.page_env.specs.Effect.{first_unset, TableLine, Transition, Step, Closes, Ends, Behind, Controls}
use Rattle.page_env.specs.JobControl.{is_reset}
use Rattle.page_env.specs.Macros.{control_of, control_line}
use Rattle.page_env.specs.Text.{print_transparent}
use Rattle.page_env.specs.Pens.{move_pen}
use Rattle.page_env.specs.Table.{transition_of}

-- all parts set: to what this request has, where they were not
abbrev pub with_all_parts : FontRequest → FontParts → FontParts
with_all_parts request parts = record {
  symbol_set = Some (unwrap_or parts.symbol_set request.symbol_set);
  spacing = Some (unwrap_or parts.spacing request.spacing);
  pitch = Some (unwrap_or parts.pitch request.pitch);
  height = Some (unwrap_or parts.height request.height);
  style = Some (unwrap_or parts.style request.style);
  weight = Some (unwrap_or parts.weight request.weight);
  typeface = Some (unwrap_or parts.typeface request.typeface);
}

-- The same state, but that the job has set all that the panel chooses: each field, and all parts of the font request.
-- The font of the panel is that of these user defaults then, watched or not: nothing reads it.
abbrev pub pinned : Printer → Settings → State → State
pinned printer defaults s = record s {
  settings = record {
    fields = record s.settings.fields { font = defaults.fields.font };
    unset = record unwatched { font = defaults.unset.font };
    job = record s.settings.job {
      font = with_all_parts (request_at printer.faces s.settings.fields.font) s.settings.job.font;
    };
  };
}

-- none of these fields is unset where all is set
abbrev pub AreSet : Printer → Settings → State → List Field → Type 0
AreSet printer defaults s reads = first_unset (pinned printer defaults s).settings reads ≡ None

-- A line from a state, and the same from where all is set:
-- but for what they read they go alike, and nothing that the second reads is unset.
abbrev pub GoesPinned : Printer → Settings → State → TableLine → TableLine → Type 0
GoesPinned printer defaults s line set =
    (set ≡ record line { reads = set.reads; state = pinned printer defaults line.state })
    × AreSet printer defaults s set.reads

abbrev pub GoesPinnedBy : Printer → Settings → State → Transition → Transition → Type 0
GoesPinnedBy printer defaults s (Step line) (Step set) = GoesPinned printer defaults s line set
GoesPinnedBy printer defaults s (Closes line sets_paper change) (Closes set sets_paper' change') =
    GoesPinned printer defaults s line set × (sets_paper' ≡ sets_paper)
    × ((t : State) → change' (pinned printer defaults t) ≡ pinned printer defaults (change t))
GoesPinnedBy printer defaults s (Ends line) (Ends set) = GoesPinned printer defaults s line set
GoesPinnedBy printer defaults s (Behind reads transition) (Behind reads' set) =
    AreSet printer defaults s reads' × GoesPinnedBy printer defaults s transition set
GoesPinnedBy printer defaults s (Controls t n) (Controls set m) = (set ≡ pinned printer defaults t) × (m ≡ n)
GoesPinnedBy printer defaults s _ _ = ⊥

abbrev pub enables_overlay : Option Control → Bool
enables_overlay (Some EnableOverlay) = true
enables_overlay _ = false

-- an orientation sets the VMI to what the panel has
abbrev pub is_orientation : Entry → Bool
is_orientation (Parameterized Orientation n) = true
is_orientation _ = false

-- An item for which there is no pinned job:
-- the default font returns to the panel's, and an overlay begins with what the panel has.
abbrev pub is_unpinnable : Entry → Bool
is_unpinnable DefaultFont = true
is_unpinnable (Parameterized MacroControl n) = enables_overlay (control_of n)
is_unpinnable _ = false

-- items that return to what the panel has
abbrev pub returns_to_panel : Entry → Bool
returns_to_panel item = is_reset item || is_orientation item || is_unpinnable item

-- an item goes alike from every state of a job with these user defaults, where another has the second ones
abbrev pub IsPinnedItem : Printer → Settings → Settings → Entry → Type 0
IsPinnedItem printer defaults defaults' item =
    (s : State) → returns_to_panel item ≡ false →
    GoesPinnedBy printer defaults' s (transition_of printer defaults s item)
    (transition_of printer defaults' (pinned printer defaults' s) item)

-- so does the own step of each macro control
abbrev pub IsPinnedControl : Printer → Settings → Type 0
IsPinnedControl printer defaults =
    (s : State) (known in_macro : Bool) (control : Option Control) →
    GoesPinned printer defaults s (control_line known in_macro control s)
    (control_line known in_macro control (pinned printer defaults s))

-- so does each byte of transparent print data
abbrev pub IsPinnedByte : Printer → Settings → ℕ → Type 0
IsPinnedByte printer defaults code =
    (s : State) →
    GoesPinned printer defaults s (print_transparent printer s code)
    (print_transparent printer (pinned printer defaults s) code)

-- so does each move of the pen
abbrev pub IsPinnedMove : Printer → Settings → ℤ × ℤ → Type 0
IsPinnedMove printer defaults to =
    (s : State) →
    GoesPinned printer defaults s (move_pen printer s to) (move_pen printer (pinned printer defaults s) to)

-- ---- neither an overlay nor what is watched, nor a limit of items

-- no overlay is enabled, and nothing is watched
abbrev pub AreBare : Settings → Type 0
AreBare settings = (settings.job.overlay ≡ None) × (settings.unset ≡ unwatched)

-- nor are the items limited that macros carry out
abbrev pub IsBare : State → Type 0
IsBare s = (s.settings.job.overlay ≡ None) × (s.settings.unset ≡ unwatched) × (s.items_left ≡ None)

-- the line leaves a bare state bare: no overlay is enabled, and nothing is watched
abbrev pub KeepsBare : Transition → Type 0
KeepsBare (Step line) = IsBare line.state
KeepsBare (Closes line sets_paper change) = IsBare line.state × ((t : State) → IsBare t → IsBare (change t))
KeepsBare (Ends line) = IsBare line.state
KeepsBare (Behind reads transition) = KeepsBare transition
KeepsBare (Controls t n) = IsBare t × (control_of n ≡ Some EnableOverlay → ⊥)

-- an item enables no overlay by its own step, watches nothing and limits nothing
abbrev pub IsBareItem : Printer → Entry → Type 0
IsBareItem printer item =
    (defaults : Settings) (s : State) → returns_to_panel item ≡ false → AreBare defaults → IsBare s →
    KeepsBare (transition_of printer defaults s item)

-- so does a macro control that does not do just that
abbrev pub IsBareControl : Type 0
IsBareControl =
    (s : State) (known in_macro : Bool) (control : Option Control) → (control ≡ Some EnableOverlay → ⊥) → IsBare s →
    IsBare (control_line known in_macro control s).state

-- so does a byte of transparent print data, and a move of the pen
abbrev pub IsBareByte : Printer → ℕ → Type 0
IsBareByte printer code = (s : State) → IsBare s → IsBare (print_transparent printer s code).state

abbrev pub IsBareMove : Printer → ℤ × ℤ → Type 0
IsBareMove printer to = (s : State) → IsBare s → IsBare (move_pen printer s to).state
