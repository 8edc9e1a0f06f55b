use Rattle.std.proofs.Common.{◌∙◌, Option, ap, sym, ℕ}
use Rattle.foreign_calls.specs.Limits.{limited}
use Rattle.foreign_calls.proofs.printer_texts.limited.Goals as goal

pub returns-in-None : goal.returns-in-None
returns-in-None g c = ap (λ (most : Option ℕ). limited most c.args.printer) (sym c.in-None.is)

pub returns-in-Some : goal.returns-in-Some
returns-in-Some g c = c.limit_items.ensures ∙ ap (λ (most : Option ℕ). limited most c.args.printer) (sym c.in-Some.is)
