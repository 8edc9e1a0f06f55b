use Rattle.std.proofs.Common.{refl}
use Rattle.std.proofs.lemmas.Str.Ascii.{trim_ascii_is}
use Rattle.pjl_answer.specs.Answer.{trimmed, trimmed_start}
use Rattle.pjl_answer.proofs.line.trimmed.Goals as goal

pub returns : goal.returns
unfolding trimmed
returns c = trim_ascii_is c.args.text.now c.trim_ascii.result.now (trimmed_start c.args.text.now) refl c.trim_ascii.ensures.value
