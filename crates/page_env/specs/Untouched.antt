-- What no item has set since the last return to user defaults.
use Rattle.std.specs.Prelude.{◌≡◌, ℕ, ℤ, ◌==◌, ◌||◌, Bool, true, false, cond, is_none, List, [], ◌∷◌}
use Rattle.pcl_items.specs.declared.pcl.command.Command.TheVariants as commands
use Rattle.pcl_items.specs.Items.{Entry, Reset, ExitLanguage, Parameterized, SymbolSet, DefaultFont}
use Rattle.device_profile.specs.declared.field.Field.{Field}
use Rattle.device_profile.specs.declared.field.Field.TheVariants.{Size, Orientation, Vmi, Font, Copies, Sides, Tray}
use Rattle.device_profile.specs.declared.field.Field.TheVariants.{LineTerm}
use Rattle.device_profile.specs.Printer.{Printer}
use Rattle.page_env.specs.declared.page.FontParts.{FontParts}
use Rattle.page_env.specs.Effect.{TableLine, Transition, Step, Closes, Ends, Behind}
use Rattle.page_env.specs.FontInForce.{are_set}
use Rattle.page_env.specs.Numbers.{whole_of}
use Rattle.page_env.specs.Pens.{move_pen}
use Rattle.page_env.specs.Settings.{Flags, Settings, State}
use Rattle.page_env.specs.Sound.{plain_settings, plain_state}
use Rattle.page_env.specs.Table.{transition_of}
use Rattle.page_env.specs.Text.{print_transparent}

-- for each part of the font request a flag
pub record PartFlags : Type 0 where
  pub symbol_set : Bool
  pub spacing : Bool
  pub pitch : Bool
  pub height : Bool
  pub style : Bool
  pub weight : Bool
  pub typeface : Bool

-- the fields of the panel that no item has set, the font by its parts;
-- one that an item returns to its user default counts as not set
pub record Untouched : Type 0 where
  pub size : Bool
  pub orientation : Bool
  pub vmi : Bool
  pub parts : PartFlags
  pub copies : Bool
  pub sides : Bool
  pub tray : Bool
  pub line_termination : Bool

abbrev pub all_parts : PartFlags
all_parts = record {
  symbol_set = true;
  spacing = true;
  pitch = true;
  height = true;
  style = true;
  weight = true;
  typeface = true;
}

-- at user defaults nothing is set
abbrev pub all_untouched : Untouched
all_untouched = record {
  size = true;
  orientation = true;
  vmi = true;
  parts = all_parts;
  copies = true;
  sides = true;
  tray = true;
  line_termination = true;
}

-- where an overlay begins, the five values of the page are set
abbrev pub untouched_in_overlay : Untouched
untouched_in_overlay =
    record all_untouched { size = false; orientation = false; copies = false; sides = false; tray = false }

-- What an item's own step leaves untouched, where it is carried out: it sets a field or a part of the font, or returns
-- it to the user default. What a macro control runs is counted beside it.
abbrev pub untouched_behind : Entry → Untouched → Untouched
untouched_behind (Parameterized commands.PageSize n) u = record u { size = false }
untouched_behind (Parameterized commands.Orientation n) u = record u { orientation = false; vmi = true }
untouched_behind (Parameterized commands.VerticalMotionIndex n) u = record u { vmi = false }
untouched_behind (Parameterized commands.LineSpacing n) u = record u { vmi = false }
untouched_behind (SymbolSet n letter) u = record u { parts = record u.parts { symbol_set = false } }
untouched_behind (Parameterized commands.FontSpacing n) u = record u { parts = record u.parts { spacing = false } }
untouched_behind (Parameterized commands.FontPitch n) u = record u { parts = record u.parts { pitch = false } }
untouched_behind (Parameterized commands.FontHeight n) u = record u { parts = record u.parts { height = false } }
untouched_behind (Parameterized commands.FontStyle n) u = record u { parts = record u.parts { style = false } }
untouched_behind (Parameterized commands.FontWeight n) u = record u { parts = record u.parts { weight = false } }
untouched_behind (Parameterized commands.FontTypeface n) u = record u { parts = record u.parts { typeface = false } }
untouched_behind DefaultFont u = record u { parts = all_parts }
untouched_behind (Parameterized commands.Copies n) u = record u { copies = false }
untouched_behind (Parameterized commands.Sides n) u = record u { sides = false }
untouched_behind (Parameterized commands.Source n) u = record u { tray = cond (whole_of n == 0) u.tray false }
untouched_behind (Parameterized commands.LineTermination n) u = record u { line_termination = false }
untouched_behind Reset u = all_untouched
untouched_behind ExitLanguage u = all_untouched
untouched_behind _ u = u

abbrev pub is_some_part : PartFlags → Bool
is_some_part parts =
    parts.symbol_set || parts.spacing || parts.pitch || parts.height || parts.style || parts.weight || parts.typeface

-- the font is untouched while one of its parts is
abbrev pub is_untouched : Untouched → Field → Bool
is_untouched u Size = u.size
is_untouched u Orientation = u.orientation
is_untouched u Vmi = u.vmi
is_untouched u Font = is_some_part u.parts
is_untouched u Copies = u.copies
is_untouched u Sides = u.sides
is_untouched u Tray = u.tray
is_untouched u LineTerm = u.line_termination

-- ---- what the flags of settings say of it

abbrev pub is_flagged : Flags → Field → Bool
is_flagged flags Size = flags.size
is_flagged flags Orientation = flags.orientation
is_flagged flags Vmi = flags.vmi
is_flagged flags Font = flags.font
is_flagged flags Copies = flags.copies
is_flagged flags Sides = flags.sides
is_flagged flags Tray = flags.tray
is_flagged flags LineTerm = flags.line_termination

-- The fields that are watched and untouched. Of the font the flag says no more than that it is watched.
abbrev pub unset_where : Flags → Untouched → Flags
unset_where watched u = record {
  size = cond u.size watched.size false;
  orientation = cond u.orientation watched.orientation false;
  vmi = cond u.vmi watched.vmi false;
  font = watched.font;
  copies = cond u.copies watched.copies false;
  sides = cond u.sides watched.sides false;
  tray = cond u.tray watched.tray false;
  line_termination = cond u.line_termination watched.line_termination false;
}

-- the parts that the job has not set
abbrev pub unset_parts : FontParts → PartFlags
unset_parts parts = record {
  symbol_set = is_none parts.symbol_set;
  spacing = is_none parts.spacing;
  pitch = is_none parts.pitch;
  height = is_none parts.height;
  style = is_none parts.style;
  weight = is_none parts.weight;
  typeface = is_none parts.typeface;
}

-- where these fields are watched, settings say what is untouched, by their flags, and of the font by the
-- parts that the job has set
abbrev pub SaysUntouched : Flags → Untouched → Settings → Type 0
SaysUntouched watched u settings = (settings.unset ≡ unset_where watched u) × (unset_parts settings.job.font ≡ u.parts)

-- ---- what is known of each line

abbrev pub names_font : List Field → Bool
names_font [] = false
names_font (Font ∷ fields) = true
names_font (_ ∷ fields) = names_font fields

-- the font is read only while one of its parts is not set, and watched or not, the same is read
abbrev pub IsReadAlike : State → List Field → List Field → Type 0
IsReadAlike s reads plain = (plain ≡ reads) × (are_set s.settings.job.font ≡ true → names_font reads ≡ false)

-- the state that a line leads to says what is left untouched;
-- beside it the same line where nothing is watched, which reads the same
abbrev pub LineLeaves : Flags → State → Untouched → TableLine → TableLine → Type 0
LineLeaves watched s left line plain =
    IsReadAlike s line.reads plain.reads × SaysUntouched watched left line.state.settings

-- An item's own step leads to what is left untouched; where it closes a page, this is left behind the closing.
abbrev pub TransitionLeaves : Flags → State → (u left : Untouched) → Transition → Transition → Type 0
TransitionLeaves watched s u left (Step line) (Step plain) = LineLeaves watched s left line plain
TransitionLeaves watched s u left (Closes line sets change) (Closes plain sets' change') =
    LineLeaves watched s u line plain
    × ((t : State) → SaysUntouched watched u t.settings → SaysUntouched watched left (change t).settings)
TransitionLeaves watched s u left (Ends line) (Ends plain) =
    LineLeaves watched s u line plain
    × ((t : State) → SaysUntouched watched u t.settings → SaysUntouched watched left t.settings)
TransitionLeaves watched s u left (Behind reads transition) (Behind reads' plain) =
    IsReadAlike s reads reads' × TransitionLeaves watched s u left transition plain
TransitionLeaves watched s u left _ _ = ⊥

-- a macro control: where it runs a body, this may set what it will
abbrev pub is_macro_control : Entry → Bool
is_macro_control (Parameterized commands.MacroControl n) = true
is_macro_control _ = false

-- an item but a macro control leaves so much untouched, from every state that says what was untouched before
abbrev pub LeavesItsUntouched : Printer → Entry → Type 0
LeavesItsUntouched printer item =
    (watched : Flags) (defaults : Settings) (u : Untouched) (s : State) →
    is_macro_control item ≡ false → SaysUntouched watched all_untouched defaults → SaysUntouched watched u s.settings →
    TransitionLeaves watched s u (untouched_behind item u) (transition_of printer defaults s item)
    (transition_of printer (plain_settings defaults) (plain_state s) item)

-- a line sets nothing that is in the panel, and reads the same where nothing is watched
abbrev pub SetsNothing : (State → TableLine) → Type 0
SetsNothing line =
    (watched : Flags) (u : Untouched) (s : State) → SaysUntouched watched u s.settings →
    LineLeaves watched s u (line s) (line (plain_state s))

-- a byte of transparent print data and a move of the pen set nothing
abbrev pub ByteSetsNothing : Printer → ℕ → Type 0
ByteSetsNothing printer code = SetsNothing (λ s. print_transparent printer s code)

abbrev pub MoveSetsNothing : Printer → ℤ × ℤ → Type 0
MoveSetsNothing printer to = SetsNothing (λ s. move_pen printer s to)
