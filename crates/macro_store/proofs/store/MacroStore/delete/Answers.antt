use Rattle.std.proofs.Common.{ap, ◌∙◌, arith}
use Rattle.macro_store.proofs.Calls.{not_defined, undefined_laid, laid_undefined, deleted_store, body_gone, none_opened}
use Rattle.macro_store.proofs.store.MacroStore.delete.Goals as goal

pub take_out-requires-clause-laid : goal.take_out-requires-clause-laid
take_out-requires-clause-laid g c =
    undefined_laid c.self.inside.pool.items c.self.inside.spans.entries c.self.inside.definition
    (not_defined c.self.inside.pool.items c.self.inside.definition (ap (λ s. s.definition) c.self.view_is ∙ c.requires)) c.self.invariant.0

pub invariant_of-self : goal.invariant_of-self
invariant_of-self g c =
    let none = not_defined c.self.inside.pool.items c.self.inside.definition (ap (λ s. s.definition) c.self.view_is ∙ c.requires) in (
      laid_undefined c.take_out.new.pool.items c.take_out.new.spans.entries c.self.inside.definition none c.take_out.ensures.laid,
      omega (arith, c.take_out.ensures.fewer, c.self.invariant.1),
      none_opened c.self.inside.definition _ none,
      c.take_out.ensures.stored,
    )

pub returns-clause-deleted : goal.returns-clause-deleted
returns-clause-deleted g c =
    deleted_store c.self.inside.limit c.self.inside.pool.items c.take_out.new.pool.items c.self.inside.spans.entries
    c.take_out.new.spans.entries c.self.inside.definition
    (not_defined c.self.inside.pool.items c.self.inside.definition (ap (λ s. s.definition) c.self.view_is ∙ c.requires)) c.args.id
    c.take_out.ensures.bodies c.self.view_is

pub returns-clause-gone : goal.returns-clause-gone
returns-clause-gone g c = body_gone c.take_out.new.pool.items c.args.id c.take_out.new.spans.entries c.take_out.ensures.gone
