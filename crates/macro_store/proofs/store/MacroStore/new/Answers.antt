use Rattle.std.proofs.Common.{rules}
use Rattle.std.proofs.lemmas.List.Elements.{All-nil}
use Rattle.macro_store.proofs.Laid.{laid_none}
use Rattle.macro_store.proofs.store.MacroStore.new.Goals as goal

pub invariant_of-result : goal.invariant_of-result
invariant_of-result g c =
    (rw (c.new.ensures.items, c.new-2.ensures.empty) laid_none, search rules, λ opened. absurd cc, rw c.new-3.ensures.items (All-nil _))
