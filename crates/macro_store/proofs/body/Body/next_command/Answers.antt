use Rattle.std.proofs.Common.{◌-◌, ◌∷◌, ℕ, drop, sym, ap, subst, ◌∙◌, arith}
use Rattle.std.proofs.lemmas.List.{take_rest}
use Rattle.std.proofs.lemmas.List.Elements.{All-drop}
use Rattle.pcl_items.specs.declared.item.Mode.TheVariants.{Pcl}
use Rattle.pcl_items.specs.Items.{Parameterized, amount}
use Rattle.pcl_spelling.specs.Spellings.Spelled.{IsSpelled, items_in}
use Rattle.macro_store.specs.Commands.{IsStored, AreStored}
use Rattle.macro_store.proofs.BodyItems.{IsNext, next_of}
use Rattle.macro_store.proofs.KeptCommands.{lies_on, lies_with, stands_first}
use Rattle.macro_store.proofs.body.Body.next_command.Goals as goal

module _ (c : goal.After-result-2-1) where
  abbrev len : ℕ
  len = c.first-item.result.end - c.first-item.result.at

  stored : IsStored c.self.invariant.1.pool c.first-item.result
  stored = subst (IsStored c.self.invariant.1.pool) (sym c.first-item.is) (c.self.invariant.1.stored 0 _ c.in-Pcl-len1-up.len_at_least)

  next : IsNext Pcl c.self.inside.rest.now (Parameterized c.first-item.result.command (amount c.first-item.result.number)) len Pcl
  next =
      next_of c.self.inside.rest.now
      (subst (λ mode. IsSpelled mode c.self.inside.rest.now) c.in-Pcl-len1-up.is-0 c.self.invariant.0) _ len Pcl
      (stands_first c.self.inside.at c.self.inside.rest.now c.self.inside.commands.now c.self.invariant.1 c.first-item.result stored
      c.if-first-self.false len (omega (arith, stored.ends)) c.if-self-len.false)

pub invariant_of-self : goal.invariant_of-self
invariant_of-self c =
    let left = take_rest c.self.inside.rest.now (len c) in
    let others =
    subst (AreStored c.self.invariant.1.pool) (sym (take_rest c.self.inside.commands.now 1))
    (All-drop (IsStored c.self.invariant.1.pool) 1 c.self.inside.commands.now c.self.invariant.1.stored) in (
      subst (IsSpelled c.self.inside.mode) (sym left)
          (subst (λ mode. IsSpelled mode (drop (len c) c.self.inside.rest.now)) (sym c.in-Pcl-len1-up.is-0) (next c).left),
      lies_on c.self.inside.at c.self.inside.rest.now _
          (lies_with c.self.inside.at c.self.inside.rest.now c.self.inside.commands.now c.self.invariant.1 _ others)
          (len c) c.if-self-len.false _ left,
    )

pub returns-clause-some : goal.returns-clause-some
returns-clause-some c =
    let command = Parameterized c.first-item.result.command (amount c.first-item.result.number) in
    sym c.self.view_is
    ∙ ap (λ mode. items_in mode c.self.inside.rest.now) c.in-Pcl-len1-up.is-0
    ∙ (next c).items
    ∙ ap (λ mode. command ∷ items_in mode (drop (len c) c.self.inside.rest.now)) (sym c.in-Pcl-len1-up.is-0)
    ∙ ap (λ bytes. command ∷ items_in c.self.inside.mode bytes) (sym (take_rest c.self.inside.rest.now (len c)))
