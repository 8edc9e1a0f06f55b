use Rattle.std.proofs.Common.{sym, ◌∙◌}
use Rattle.page_env.proofs.forms.whole_or_parts.Goals as goal

pub times_whole-requires : goal.times_whole-requires
times_whole-requires c = sym c.is_whole.ensures ∙ c.if-is_whole.true
