-- What the command `profile new` leaves.
use Rattle.std.specs.Prelude.{◌≡◌, ◌⊎◌, ℕ, List, [], ◌++◌, codes, get_or}
use Rattle.streams.specs.declared.error.Error.TheVariants.{Memory}
use Rattle.streams.specs.Writing.{Writes}
use Rattle.printer_models.specs.declared.asked.PaperFault.{PaperFault}
use Rattle.printer_models.specs.declared.asked.PaperFault.TheVariants.{Unknown, NotHeld, Repeated}
use Rattle.printer_models.specs.declared.new_profile.NewError.{NewError}
use Rattle.printer_models.specs.declared.new_profile.NewError.TheVariants.{UnknownModel, Paper, Mismatch as OtherText}
use Rattle.printer_models.specs.declared.new_profile.NewError.TheVariants.{Memory as NoMemory}
use Rattle.printer_models.specs.declared.panel_lists.PanelLists.{PanelLists}
use Rattle.printer_models.specs.Model.{model_named}
use Rattle.printer_models.specs.NewText.{DescribesAsked, IsNewError}
use Rattle.streams.specs.Outlet.{OutletState}
use Rattle.requests.specs.declared.status.Status.{Status}
use Rattle.requests.specs.declared.status.Status.TheVariants.{Usage, Told, Stopped}
use Rattle.requests.specs.declared.status.Trouble.TheVariants.{Mismatch}
use Rattle.profile_commands.specs.WholeText.{WritesWhole}

-- no model has the name
abbrev pub unknown_model : List ℕ → List ℕ
unknown_model model = codes "error: no model has the name '" ++ model ++ codes "'; 'pclcheck profile list' names all\n"

-- what is wrong with the name of a paper, for a model
abbrev pub wrong_paper : List ℕ → List ℕ → PaperFault → List ℕ
wrong_paper model paper Unknown =
    codes "error: no paper has the name '" ++ paper ++ codes "'; 'pclcheck profile list' names those of each model\n"
wrong_paper model paper NotHeld =
    codes "error: '"
    ++ (model
    ++ (codes "' cannot have the paper '" ++ (paper ++ codes "'; 'pclcheck profile list' names those that it can\n")))
wrong_paper model paper Repeated = codes "error: the paper '" ++ paper ++ codes "' comes twice\n"

-- a mistake in the program
abbrev pub mismatch_line : List ℕ
mismatch_line = codes "ERROR mismatch: the tables of this program and the text that it made of them do not agree\n"

-- How the command ends where there is no text, by the reason, and what standard error is told:
-- the name that is wrong and what is wrong with it, or that the program is. Of want of memory the status alone tells.
abbrev pub TellsWhy : List ℕ → List (List ℕ) → NewError → Status → OutletState → OutletState → Type 0
TellsWhy model papers UnknownModel status err err' = (status ≡ Usage) × Writes err err' (unknown_model model)
TellsWhy model papers (Paper fault) status err err' =
    (status ≡ Usage) × Writes err err' (wrong_paper model (get_or papers fault.index []) fault.fault)
TellsWhy model papers OtherText status err err' = (status ≡ Told Mismatch) × Writes err err' mismatch_line
TellsWhy model papers NoMemory status err err' = (status ≡ Stopped Memory) × (err' ≡ err)

-- A text is written that describes what is asked for by these names and lists, and nothing is told;
-- or there is a reason for no text, and nothing is written.
abbrev pub LeavesProfile : List ℕ → List (List ℕ) → PanelLists → Status → OutletState → OutletState → OutletState →
    OutletState → Type 0
LeavesProfile model papers lists status out out' err err' =
    ((text : List ℕ) × DescribesAsked (model_named model) papers lists text × WritesWhole text status out out'
    × (err' ≡ err))
    ⊎ ((error : NewError) × IsNewError (model_named model) papers error × TellsWhy model papers error status err err'
    × (out' ≡ out))
