use Rattle.std.proofs.Common.{Some, sym, subst, ap, ◌∙◌, arith}
use Rattle.std.specs.Option.{option_map, option_copied}
use Rattle.pcl_items.specs.declared.item.Mode.TheVariants.{Pcl}
use Rattle.pcl_spelling.specs.Spellings.Spelled.{IsSpelled, items_in}
use Rattle.macro_store.specs.Store.{body_of}
use Rattle.macro_store.specs.Layout.{bytes_at}
use Rattle.macro_store.specs.Commands.{AreStored}
use Rattle.macro_store.proofs.KeptCommands.{lies_at}
use Rattle.macro_store.proofs.Laid.{found_in}
use Rattle.macro_store.proofs.Calls.{body_found}
use Rattle.macro_store.proofs.store.MacroStore.body.Goals as goal

pub part-requires-clause-forward : goal.part-requires-clause-forward
part-requires-clause-forward g c =
    (found_in c.self.inside.pool.items c.self.inside.spans.entries c.self.inside.definition c.self.invariant.0 c.args.id c.in-Some.span.now
    (sym c.get.ensures.value ∙ ap option_copied c.in-Some.is)).forward

pub part-requires-clause-within : goal.part-requires-clause-within
part-requires-clause-within g c =
    rw c.deref.ensures.value
    ((found_in c.self.inside.pool.items c.self.inside.spans.entries c.self.inside.definition c.self.invariant.0 c.args.id c.in-Some.span.now
    (sym c.get.ensures.value ∙ ap option_copied c.in-Some.is)).within)

pub invariant_of-result : goal.invariant_of-result
invariant_of-result g c =
    let found =
    found_in c.self.inside.pool.items c.self.inside.spans.entries c.self.inside.definition c.self.invariant.0 c.args.id c.in-Some.span.now
    (sym c.get.ensures.value ∙ ap option_copied c.in-Some.is) in
    let part = c.part.ensures ∙ ap (λ pool. bytes_at pool c.in-Some.span.now) c.deref.ensures.value in (
      subst (IsSpelled Pcl) (sym part) found.spelled,
      lies_at c.self.inside.pool.items c.in-Some.span.now c.commands_from.result.now
          (omega (arith, c.self.inside.pool.ok, c.self.invariant.1)) found.forward found.within
          (c.commands_from.ensures c.self.inside.pool.items
          (subst (AreStored c.self.inside.pool.items) (sym c.deref-in-Some.ensures.value) c.self.invariant.3))
          c.part.result.now part,
    )

pub returns-in-None : goal.returns-in-None
returns-in-None g c =
    sym (ap (λ store. body_of store c.args.id) (sym c.self.view_is)
    ∙ body_found c.self.inside.pool.items c.args.id c.self.inside.spans.entries
    ∙ ap (option_map (λ span. items_in Pcl (bytes_at c.self.inside.pool.items span)))
    (sym c.get.ensures.value ∙ ap option_copied c.in-None.is))

pub returns-in-Some : goal.returns-in-Some
returns-in-Some g c =
    ap (λ bytes. Some (items_in Pcl bytes)) (c.part.ensures ∙ ap (λ pool. bytes_at pool c.in-Some.span.now) c.deref.ensures.value)
    ∙ sym (ap (λ store. body_of store c.args.id) (sym c.self.view_is)
    ∙ body_found c.self.inside.pool.items c.args.id c.self.inside.spans.entries
    ∙ ap (option_map (λ span. items_in Pcl (bytes_at c.self.inside.pool.items span)))
    (sym c.get.ensures.value ∙ ap option_copied c.in-Some.is))
