use Rattle.profile_lint.proofs.FirstFault as lemmas
use Rattle.profile_lint.proofs.laws.first_fault_is_why_refused.Goals as goal

pub returns : goal.returns
returns c = lemmas.tells_why_refused
