-- The line that is written for a fault.
use Rattle.std.specs.Prelude.{ℕ, ◌==◌, if◌then◌else◌, List, [], ◌∷◌, ◌++◌, codes, decimal}
use Rattle.device_profile.specs.declared.fault.Cause.{Cause}
use Rattle.device_profile.specs.declared.fault.Cause.TheVariants.{Version, Unknown, Repeated, Range, Missing}
use Rattle.device_profile.specs.declared.fault.Cause.TheVariants.{NoGeometry}
use Rattle.profile_lint.specs.declared.fault.TextFault.{TextFault}
use Rattle.profile_lint.specs.declared.fault.TextFault.TheVariants.{TooLong, NoVersion, OnLine, Ungiven, NoPageOfSize}
use Rattle.profile_lint.specs.declared.fault.TextFault.TheVariants.{NoPageInOrientation, NoPair, NoFace, NoTray}
use Rattle.profile_lint.specs.declared.fault.TextFault.TheVariants.{NoSides}
use Rattle.profile_lint.specs.Faults.{cause_of, line_of}
use Rattle.device_profile.specs.Key.{key_word}
use Rattle.profile_lint.specs.Rules.{broken_rule, meaning_of}
use Rattle.profile_lint.specs.Shown.{line_at, quoted}
use Rattle.shown_bytes.specs.Shown.{shown}

abbrev pub cause_word : Cause → List ℕ
cause_word Version = codes "Version"
cause_word Unknown = codes "Unknown"
cause_word Repeated = codes "Repeated"
cause_word Range = codes "Range"
cause_word Missing = codes "Missing"
cause_word NoGeometry = codes "NoGeometry"

-- the number of a line behind its file, and nothing for the whole
unfoldable pub line_words : ℕ → List ℕ
line_words number = if number == 0 then [] else 58 ∷ decimal number

-- what is wrong with a text
unfoldable pub fault_words : List ℕ → TextFault → List ℕ
fault_words text TooLong = codes "it has more than 65536 bytes, which no profile has"
fault_words text NoVersion =
    quoted (line_at text 1) ++ codes ": the first line has to be 'pclprofile 1' or 'pclprofile 2'"
fault_words text (OnLine number key cause) = quoted (line_at text number) ++ codes ": " ++ broken_rule key cause
fault_words text (Ungiven key) = codes "no line gives '" ++ key_word key ++ codes "', " ++ meaning_of key
fault_words text (NoPageOfSize size) =
    codes "the panel may have size " ++ decimal size ++ codes ", but no geometry line has it"
fault_words text (NoPageInOrientation orientation) =
    codes "the panel may have orientation " ++ decimal orientation ++ codes ", but no geometry line has it"
fault_words text (NoPair size orientation) =
    codes "no geometry line has both size " ++ decimal size ++ codes " and orientation " ++ decimal orientation
    ++ codes ", but some have either"
fault_words text (NoFace font) =
    codes "the panel may have font " ++ decimal font ++ codes ", but no face line has this id"
fault_words text (NoTray tray) =
    codes "the panel may take paper from tray " ++ decimal tray ++ codes ", but 'trays' lacks it"
fault_words text (NoSides sides) = codes "the panel may have sides " ++ decimal sides ++ codes ", but 'duplex' is 0"

-- the file, the line if there is one, what is wrong with its text, and the cause
unfoldable pub fault_line : List ℕ → List ℕ → TextFault → List ℕ
fault_line file text fault =
    shown file ++ line_words (line_of fault) ++ codes ": " ++ fault_words text fault ++ codes " ("
    ++ cause_word (cause_of fault) ++ codes ")\n"
