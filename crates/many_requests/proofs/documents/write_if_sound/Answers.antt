use Rattle.std.proofs.Common.{◌∙◌, inl, inr, refl, sym}
use Rattle.many_requests.proofs.documents.write_if_sound.Goals as goal

pub returns-then-has_failed : goal.returns-then-has_failed
returns-then-has_failed g c = inl refl

pub returns : goal.returns
returns g c = inr (sym c.has_failed.ensures ∙ c.if-has_failed.false, c.write_text.ensures.text)
