-- Every fault of a profile's text.
use Rattle.std.specs.Prelude.{ℕ, nat_lt, List, [], ◌∷◌, ◌++◌, length, if◌then◌else◌}
use Rattle.std.specs.Option.{option_map_or}
use Rattle.std.specs.Str.Lines.{lines}
use Rattle.device_profile.specs.declared.format.Format.{Format}
use Rattle.device_profile.specs.Draft.{Draft, no_draft}
use Rattle.device_profile.specs.Text.{format_of}
use Rattle.device_profile.specs.Words.{words_of}
use Rattle.profile_lint.specs.declared.fault.TextFault.{TextFault}
use Rattle.profile_lint.specs.declared.fault.TextFault.TheVariants.{TooLong, NoVersion}
use Rattle.profile_lint.specs.Faults.{draft_past_lines, faults_on_lines}
use Rattle.profile_lint.specs.Whole.{faults_of_whole}

-- of the lines behind the first of a text of this version, before which this was given, and then of the whole
abbrev pub faults_past : Format → Draft → List (List ℕ) → List TextFault
faults_past format draft more =
    let on_lines : List TextFault = faults_on_lines format draft 2 more in
    on_lines ++ faults_of_whole (draft_past_lines format draft more) on_lines

abbrev pub faults_behind : Format → List (List ℕ) → List TextFault
faults_behind format more = faults_past format (no_draft format) more

-- a first line that names no version is the only fault, since what keys there are hangs on it
abbrev pub faults_of_lines : List (List ℕ) → List TextFault
faults_of_lines [] = NoVersion ∷ []
faults_of_lines (first ∷ more) =
    option_map_or (λ format. faults_behind format more) (format_of (words_of first)) (NoVersion ∷ [])

-- a text of more than 65536 bytes has no other fault
unfoldable pub faults_of : List ℕ → List TextFault
faults_of text = if nat_lt 65_536 (length text) then TooLong ∷ [] else faults_of_lines (lines text)
