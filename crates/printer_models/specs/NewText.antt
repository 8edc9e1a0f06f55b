-- What a user gets who asks for the text of a profile.
use Rattle.std.specs.Prelude.{◌≡◌, List, ℕ, Bool, true, false, Option, IsNone, IsSomeAnd, IsOkAnd, Err}
use Rattle.printer_models.specs.declared.asked.AskedError.{AskedError}
use Rattle.printer_models.specs.declared.asked.AskedError.TheVariants.{Wrong, Memory as NoMemory}
use Rattle.printer_models.specs.declared.model.Model.{Model}
use Rattle.printer_models.specs.declared.new_profile.NewError.{NewError}
use Rattle.printer_models.specs.declared.new_profile.NewError.TheVariants.{UnknownModel, Paper, Mismatch, Memory}
use Rattle.printer_models.specs.declared.panel_lists.PanelLists.{PanelLists}
use Rattle.printer_models.specs.Asked.{papers_asked}
use Rattle.printer_models.specs.Describes.{DescribesModel}

-- there is such a model, the words are those of papers, and the text describes that model with them
abbrev pub DescribesAsked : Option Model → List (List ℕ) → PanelLists → List ℕ → Type 0
DescribesAsked model words lists text =
    IsSomeAnd model (λ known. IsOkAnd (papers_asked known words) (λ papers. DescribesModel known papers lists text))

-- why there are no papers, as an error of the whole
abbrev pub error_of : AskedError → NewError
error_of (Wrong fault) = Paper fault
error_of NoMemory = Memory

-- there is no such model; that word is the first that is wrong;
-- a text was made that is not that of the tables, or memory was wanted, where there is such a model
abbrev pub IsNewError : Option Model → List (List ℕ) → NewError → Type 0
IsNewError model words UnknownModel = IsNone model
IsNewError model words (Paper fault) = IsSomeAnd model (λ known. papers_asked known words ≡ Err fault)
IsNewError model words Mismatch = IsSomeAnd model (λ known. IsOkAnd (papers_asked known words) (λ papers. Unit {0}))
IsNewError model words Memory = IsSomeAnd model (λ known. Unit {0})

-- the text was not made, though the model and the papers were known
abbrev pub is_late : NewError → Bool
is_late UnknownModel = false
is_late (Paper fault) = false
is_late Mismatch = true
is_late Memory = true
