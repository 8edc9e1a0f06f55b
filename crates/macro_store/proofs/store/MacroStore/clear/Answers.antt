use Rattle.std.proofs.Common.{rules, ap, ◌∙◌}
use Rattle.std.proofs.lemmas.List.Elements.{All-nil}
use Rattle.macro_store.proofs.Laid.{laid_none}
use Rattle.macro_store.proofs.Calls.{not_defined, none_opened}
use Rattle.macro_store.proofs.store.MacroStore.clear.Goals as goal

pub invariant_of-self : goal.invariant_of-self
invariant_of-self g c =
    let none = not_defined c.self.inside.pool.items c.self.inside.definition (ap (λ s. s.definition) c.self.view_is ∙ c.requires) in (
      rw (c.clear.ensures.items, c.clear-2.ensures.empty, none) laid_none,
      search rules,
      none_opened c.self.inside.definition _ none,
      rw c.clear-3.ensures.items (All-nil _),
    )
