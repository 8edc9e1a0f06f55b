-- What the commands on profiles come to. Nothing is known of files beforehand, so this is said for what the history of
-- files tells: which texts were asked for, and what they gave, which answer was read and which file written.
use Rattle.std.specs.Prelude.{◌≡◌, [], ◌∷◌, ◌++◌, ℕ, List, Bool, Option, option_to_list}
use Rattle.profile_commands.specs.ProfileFromPjl.{LeavesAnswered}
use Rattle.profile_commands.specs.ProfileLint.{LeavesLint}
use Rattle.profile_commands.specs.ProfileSheet.{LeavesSheet}
use Rattle.profile_commands.specs.ProfileShow.{LeavesShown}
use Rattle.streams.specs.Files.{no_outlet, no_source}
use Rattle.streams.specs.Outlet.{OutletState}
use Rattle.streams.specs.Source.{SourceState}
use Rattle.streams.specs.Used.{FileUse, TextsAt}
use Rattle.file_requests.specs.Outs.{PutsOut}
use Rattle.named_inputs.specs.FileJobs.{reads_named}
use Rattle.named_inputs.specs.Texts.{text_named}
use Rattle.requests.specs.declared.status.Status.{Status}

-- what is found in the texts that these words name, of which the first ones were asked for, as far as it came
pub record LeavesLintFor (words : List (List ℕ)) (status : Status) (used used' : List FileUse)
    (out out' err err' : OutletState) : Type 0 where
  pub texts : List (List ℕ)
  pub failed : Bool
  pub asked : List (List ℕ)
  pub later : List (List ℕ)
  pub in_order : words ≡ asked ++ later
  pub used_are : used' ≡ used ++ TextsAt asked texts failed ∷ []
  pub left : LeavesLint text_named words [] texts failed status out out' err err'

-- what the profile says that this word names
pub record LeavesShownFor (word : List ℕ) (status : Status) (used used' : List FileUse)
    (out out' err err' : OutletState) : Type 0 where
  pub texts : List (List ℕ)
  pub failed : Bool
  pub used_are : used' ≡ used ++ TextsAt (word ∷ []) texts failed ∷ []
  pub left : LeavesShown (text_named word) word [] texts failed status out out' err err'

-- the sheet of the profile that this word names, put in the place of the file at a path
pub record LeavesSheetFor (word into : List ℕ) (status : Status) (used used' : List FileUse)
    (err err' : OutletState) : Type 0 where
  pub texts : List (List ℕ)
  pub failed : Bool
  pub file : OutletState
  pub answer : Status
  pub one : FileUse
  pub used_are : used' ≡ used ++ TextsAt (word ∷ []) texts failed ∷ one ∷ []
  pub left : LeavesSheet (text_named word) word [] texts failed answer no_outlet file err err'
  pub put : PutsOut into answer status file one

-- a profile with what the answer tells that a word names; the text under the word of its base, where there is one, was
-- asked for, unless it did not come to that
pub record LeavesAnsweredFor (answer : List ℕ) (base : Option (List ℕ)) (status : Status) (used used' : List FileUse)
    (out out' err err' : OutletState) : Type 0 where
  pub source : SourceState
  pub texts : List (List ℕ)
  pub failed : Bool
  pub asked : List (List ℕ)
  pub later : List (List ℕ)
  pub in_order : option_to_list base ≡ asked ++ later
  pub used_are : used' ≡ used ++ TextsAt asked texts failed ∷ reads_named answer source
  pub left : LeavesAnswered no_source source text_named answer base [] texts failed status out out' err err'
