use Rattle.device_profile.proofs.TextLaws as lemmas
use Rattle.device_profile.proofs.laws.accepted_is_valid.Goals as goal

pub returns : goal.returns
returns c = lemmas.gives_valid
