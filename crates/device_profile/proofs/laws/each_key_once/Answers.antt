use Rattle.device_profile.proofs.TextLaws as lemmas
use Rattle.device_profile.proofs.laws.each_key_once.Goals as goal

pub returns : goal.returns
returns c = lemmas.has_each_key_once
