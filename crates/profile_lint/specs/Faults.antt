-- What is wrong with the lines of a profile's text, each of which is read as if the faulty ones before it
-- were not there.
use Rattle.std.specs.Prelude.{ℕ, ◌+◌, List, [], ◌∷◌, ◌++◌, Bool, false, Option, None, Result, Ok, Err}
use Rattle.std.specs.List.{list_any}
use Rattle.std.specs.Option.{option_map_or}
use Rattle.std.specs.Str.{bytes_eq}
use Rattle.device_profile.specs.declared.fault.Cause.{Cause}
use Rattle.device_profile.specs.declared.fault.Cause.TheVariants.{Version, Range, Missing, NoGeometry}
use Rattle.device_profile.specs.declared.fault.ProfileFault.{ProfileFault}
use Rattle.device_profile.specs.declared.fault.ProfileFault.TheVariants.{Fault}
use Rattle.device_profile.specs.declared.format.Format.{Format}
use Rattle.device_profile.specs.declared.key.Key.{Key}
use Rattle.device_profile.specs.Draft.{Draft, draft_after, key_of}
use Rattle.device_profile.specs.Key.{key_word}
use Rattle.device_profile.specs.Text.{words_of_line}
use Rattle.profile_lint.specs.declared.fault.TextFault.{TextFault}
use Rattle.profile_lint.specs.declared.fault.TextFault.TheVariants.{TooLong, NoVersion, OnLine, Ungiven, NoPageOfSize}
use Rattle.profile_lint.specs.declared.fault.TextFault.TheVariants.{NoPageInOrientation, NoPair, NoFace, NoTray}
use Rattle.profile_lint.specs.declared.fault.TextFault.TheVariants.{NoSides}

-- the line of a fault, or 0 for the whole
abbrev pub line_of : TextFault → ℕ
line_of NoVersion = 1
line_of (OnLine number key cause) = number
line_of TooLong = 0
line_of (Ungiven key) = 0
line_of (NoPageOfSize size) = 0
line_of (NoPageInOrientation orientation) = 0
line_of (NoPair size orientation) = 0
line_of (NoFace font) = 0
line_of (NoTray tray) = 0
line_of (NoSides sides) = 0

-- its cause
abbrev pub cause_of : TextFault → Cause
cause_of TooLong = Range
cause_of NoVersion = Version
cause_of (OnLine number key cause) = cause
cause_of (Ungiven key) = Missing
cause_of (NoPageOfSize size) = NoGeometry
cause_of (NoPageInOrientation orientation) = NoGeometry
cause_of (NoPair size orientation) = NoGeometry
cause_of (NoFace font) = Range
cause_of (NoTray tray) = Range
cause_of (NoSides sides) = Range

-- a fault as the reader of texts tells it
abbrev pub fault_of : TextFault → ProfileFault
fault_of fault = Fault (line_of fault) (cause_of fault)

-- the key of a line of these words
abbrev pub key_on_line : Format → List (List ℕ) → Option Key
key_on_line format [] = None
key_on_line format (word ∷ words) = key_of format word

-- a faulty line gives nothing
abbrev pub given_or : Draft → {E : Type 0} → Result Draft E → Draft
given_or draft (Ok next) = next
given_or draft (Err cause) = draft

-- what was given after a line
abbrev pub draft_past : Format → Draft → List ℕ → Draft
draft_past format draft line = given_or draft (draft_after format draft (words_of_line line))

-- what was given after lines
abbrev pub draft_past_lines : Format → Draft → List (List ℕ) → Draft
draft_past_lines format draft [] = draft
draft_past_lines format draft (line ∷ more) = draft_past_lines format (draft_past format draft line) more

-- what is wrong with the line of this number
abbrev pub fault_on_line : Format → Draft → ℕ → List ℕ → List TextFault
fault_on_line format draft number line =
    elim (draft_after format draft (words_of_line line))
    [ Ok next ↦ [] | Err cause ↦ OnLine number (key_on_line format (words_of_line line)) cause ∷ [] ]

-- what is wrong with lines, of which the first has this number
abbrev pub faults_on_lines : Format → Draft → ℕ → List (List ℕ) → List TextFault
faults_on_lines format draft number [] = []
faults_on_lines format draft number (line ∷ more) =
    fault_on_line format draft number line ++ faults_on_lines format (draft_past format draft line) (number + 1) more

-- the two are the same key
abbrev pub is_same_key : Key → Key → Bool
is_same_key a b = bytes_eq (key_word a) (key_word b)

-- the fault is one of a line of this key
abbrev pub is_on_line_of : Key → TextFault → Bool
is_on_line_of key TooLong = false
is_on_line_of key NoVersion = false
is_on_line_of key (OnLine number found cause) = option_map_or (λ k. is_same_key k key) found false
is_on_line_of key (Ungiven other) = false
is_on_line_of key (NoPageOfSize size) = false
is_on_line_of key (NoPageInOrientation orientation) = false
is_on_line_of key (NoPair size orientation) = false
is_on_line_of key (NoFace font) = false
is_on_line_of key (NoTray tray) = false
is_on_line_of key (NoSides sides) = false

-- some line of this key is faulty
abbrev pub has_faulty_line : List TextFault → Key → Bool
has_faulty_line on_lines key = list_any (is_on_line_of key) on_lines
