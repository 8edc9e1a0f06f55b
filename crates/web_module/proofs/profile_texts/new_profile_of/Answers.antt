use Rattle.std.proofs.Common.{subst, sym}
use Rattle.web_module.specs.ProfileTexts.{IsNoNew}
use Rattle.web_module.proofs.NewTexts.{no_new_of}
use Rattle.web_module.proofs.profile_texts.new_profile_of.Goals as goal

pub returns-in-Err-clause-why : goal.returns-in-Err-clause-why
returns-in-Err-clause-why g c =
    subst (IsNoNew c.args.word.now) (sym c.why_no_new.ensures) (no_new_of c.args.word.now c.in-Err.error c.in-Err.ensures.err)
