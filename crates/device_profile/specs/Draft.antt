-- What the lines of a profile's text have given so far.
use Rattle.std.specs.Prelude.{ℕ, List, [], ◌∷◌, ◌++◌, Bool, true, false, not, ◌==◌, length, Option, None, Some, is_some}
use Rattle.std.specs.Prelude.{find, if◌then◌else◌, Result, Ok, Err}
use Rattle.std.specs.Option.{option_map_or, option_and_then}
use Rattle.std.specs.Str.{bytes_eq}
use Rattle.device_profile.specs.declared.field.Field.{Field}
use Rattle.device_profile.specs.declared.field.Field.TheVariants.{Tray, LineTerm}
use Rattle.device_profile.specs.declared.format.Format.{Format}
use Rattle.device_profile.specs.declared.format.Format.TheVariants.{One, Two}
use Rattle.device_profile.specs.declared.geometry.Geometry.{Geometry}
use Rattle.device_profile.specs.declared.key.Key.{Key}
use Rattle.device_profile.specs.declared.key.Key.TheVariants.{Name, Choice, Trays, Duplex, Depth, Memory, Page}
use Rattle.device_profile.specs.declared.key.Key.TheVariants.{Face as FaceRow}
use Rattle.device_profile.specs.declared.fault.Cause.{Cause}
use Rattle.device_profile.specs.declared.fault.Cause.TheVariants.{Unknown, Repeated, Range}
use Rattle.device_profile.specs.Key.{every_key, key_word}
use Rattle.device_profile.specs.Choices.{Choices, no_choices, values_in, with_values}
use Rattle.device_profile.specs.Faces.{Face}
use Rattle.device_profile.specs.Values.{values_on_line, number_on_line, is_name}
use Rattle.device_profile.specs.GeometryLine.{geometry_on_line}
use Rattle.device_profile.specs.FaceLine.{face_on_line}

-- whether texts of a version have a key: line termination came with the second
abbrev pub is_key_in : Format → Key → Bool
is_key_in One (Choice LineTerm) = false
is_key_in One _ = true
is_key_in Two _ = true

-- the key that a word is in texts of a version
unfoldable pub key_of : Format → List ℕ → Option Key
key_of format word =
    option_and_then (λ key. if is_key_in format key then Some key else None)
    (find (λ key. bytes_eq (key_word key) word) every_key)

-- What the lines gave so far. A list that is empty was not given.
pub record Draft : Type 0 where
  pub is_named : Bool
  pub choices : Choices
  pub device_trays : List ℕ
  pub duplex : Option ℕ
  pub depth : Option ℕ
  pub memory : Option ℕ
  pub geometries : List Geometry
  pub faces : List Face

-- the line terminations that the panel may have before a line lists them:
-- 0 in texts of version 1, which have no such line
abbrev pub line_terminations_of : Format → List ℕ
line_terminations_of One = 0 ∷ []
line_terminations_of Two = []

-- nothing was given yet
abbrev pub no_draft : Format → Draft
no_draft format = record {
  is_named = false;
  choices = with_values no_choices LineTerm (line_terminations_of format);
  device_trays = [];
  duplex = None;
  depth = None;
  memory = None;
  geometries = [];
  faces = [];
}

-- the values that were given for a field
abbrev pub choice_of : Draft → Field → List ℕ
choice_of draft field = values_in draft.choices field

-- these values are given for a field
abbrev pub with_choice : Draft → Field → List ℕ → Draft
with_choice draft field values = record draft { choices = with_values draft.choices field values }

-- what a value gives, or Range where there is none
abbrev pub or_range : {X : Type 0} → (X → Draft) → Option X → Result Draft Cause
or_range with_value value = option_map_or (λ x. Ok (with_value x)) value (Err Range)

-- what a row or a list gives, or why the line is wrong
abbrev pub or_cause : {X : Type 0} → (X → Draft) → Result X Cause → Result Draft Cause
or_cause with_value (Ok x) = Ok (with_value x)
or_cause with_value (Err cause) = Err cause

-- a key that comes once gives this where it was not given, and is Repeated where it was
abbrev pub once : Bool → Result Draft Cause → Result Draft Cause
once was_given given = if was_given then Err Repeated else given

-- what was given after a line of this key and these words behind it, or why the line is wrong
abbrev pub draft_after_key : Draft → Key → List (List ℕ) → Result Draft Cause
draft_after_key draft Name words =
    once draft.is_named (if is_name words then Ok (record draft { is_named = true }) else Err Range)
draft_after_key draft (Choice field) words =
    once (not (length (choice_of draft field) == 0)) (or_cause (with_choice draft field) (values_on_line field words))
draft_after_key draft Trays words =
    once (not (length draft.device_trays == 0))
    (or_cause (λ trays. record draft { device_trays = trays }) (values_on_line Tray words))
draft_after_key draft Duplex words =
    once (is_some draft.duplex) (or_range (λ n. record draft { duplex = Some n }) (number_on_line 1 words))
draft_after_key draft Depth words =
    once (is_some draft.depth) (or_range (λ n. record draft { depth = Some n }) (number_on_line 8 words))
draft_after_key draft Memory words =
    once (is_some draft.memory) (or_range (λ n. record draft { memory = Some n }) (number_on_line 1_048_576 words))
draft_after_key draft Page words =
    or_cause (λ row. record draft { geometries = draft.geometries ++ row ∷ [] })
    (geometry_on_line draft.geometries words)
draft_after_key draft FaceRow words =
    or_cause (λ face. record draft { faces = draft.faces ++ face ∷ [] }) (face_on_line draft.faces words)

-- what was given after a line of these words in a text of a version, or why the line is wrong
abbrev pub draft_after : Format → Draft → List (List ℕ) → Result Draft Cause
draft_after format draft [] = Ok draft
draft_after format draft (key ∷ words) =
    option_map_or (λ k. draft_after_key draft k words) (key_of format key) (Err Unknown)
