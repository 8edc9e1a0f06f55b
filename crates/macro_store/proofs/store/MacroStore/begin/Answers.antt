use Rattle.std.proofs.Common.{ℕ, ap, ◌∙◌}
use Rattle.macro_store.specs.declared.span.Definition.{Definition}
use Rattle.macro_store.proofs.Calls.{store_of, not_defined, began_store}
use Rattle.macro_store.proofs.store.MacroStore.begin.Goals as goal

pub returns-clause-ok : goal.returns-clause-ok
returns-clause-ok g c =
    let begun : ℕ → Definition = λ n. record { id = c.args.id; start = n } in
    let pool = c.self.inside.pool.items in
    let definition = c.self.inside.definition in
    began_store c.self.inside.limit pool c.take_out.new.pool.items c.reserve.new.self.entries c.take_out.new.spans.entries definition
    (not_defined pool definition (ap (λ s. s.definition) c.self.view_is ∙ c.requires)) c.args.id c.take_out.ensures.bodies
    (ap (λ spans. store_of c.self.inside.limit pool spans definition) c.reserve.ensures.entries ∙ c.self.view_is) c.take_out.ensures.laid
    c.take_out.ensures.gone (begun c.len.result)
    (ap begun (c.len.ensures ∙ c.take_out.new.pool.ok.0))
