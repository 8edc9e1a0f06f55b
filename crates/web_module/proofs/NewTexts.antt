-- A lemma on new texts of profiles.
use Rattle.std.proofs.Common.{List, [], ℕ}
use Rattle.printer_models.specs.declared.new_profile.NewError.{NewError}
use Rattle.printer_models.specs.declared.new_profile.NewError.TheVariants.{UnknownModel, Paper, Mismatch, Memory}
use Rattle.printer_models.specs.Model.{model_named}
use Rattle.printer_models.specs.NewText.{IsNewError}
use Rattle.web_module.specs.ProfileTexts.{IsNoNew, why_no_new}

pub no_new_of : (model : List ℕ) (error : NewError) → IsNewError (model_named model) [] error → IsNoNew model (why_no_new error)
no_new_of model UnknownModel is = is
no_new_of model (Paper fault) is = tt
no_new_of model Mismatch is = tt
no_new_of model Memory is = tt
