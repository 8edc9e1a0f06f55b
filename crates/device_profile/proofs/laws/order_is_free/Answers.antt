use Rattle.device_profile.proofs.TextLaws as lemmas
use Rattle.device_profile.proofs.laws.order_is_free.Goals as goal

pub returns : goal.returns
returns c = lemmas.order_is_free
