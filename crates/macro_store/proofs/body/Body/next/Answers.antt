use Rattle.std.proofs.Common.{◌∷◌, sym, ap, subst, ◌∙◌}
use Rattle.std.proofs.lemmas.List.{take_rest}
use Rattle.pcl_items.specs.Items.{view}
use Rattle.pcl_spelling.specs.Spellings.Spelled.{IsSpelled, items_in}
use Rattle.macro_store.proofs.BodyItems.{next_of, none_left}
use Rattle.macro_store.proofs.KeptCommands.{end_within, lies_on}
use Rattle.macro_store.proofs.body.Body.next.Goals as goal

pub invariant_of-self : goal.invariant_of-self
invariant_of-self c =
    let next = next_of c.self.inside.rest.now c.self.invariant.0 (view c.in-Some.item) c.in-Some.end c.in-Some.mode c.in-Some.ensures in
    let left = take_rest c.self.inside.rest.now c.in-Some.end in (
      subst (IsSpelled c.in-Some.mode) (sym left) next.left,
      lies_on c.self.inside.at c.self.inside.rest.now c.self.inside.commands.now c.self.invariant.1 c.in-Some.end
          (end_within c.self.inside.rest.now 0 c.in-Some.end (view c.in-Some.item) c.in-Some.ensures) _ left,
    )

pub returns-in-None : goal.returns-in-None
returns-in-None c =
    let none = sym c.self.view_is ∙ none_left c.self.inside.rest.now c.self.invariant.0 c.in-None.ensures in (none, none)

pub returns-in-Some : goal.returns-in-Some
returns-in-Some c =
    let next = next_of c.self.inside.rest.now c.self.invariant.0 (view c.in-Some.item) c.in-Some.end c.in-Some.mode c.in-Some.ensures in
    sym c.self.view_is ∙ next.items
    ∙ ap (λ bytes. view c.in-Some.item ∷ items_in c.in-Some.mode bytes) (sym (take_rest c.self.inside.rest.now c.in-Some.end))
