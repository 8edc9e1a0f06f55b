use Rattle.std.proofs.Common.{ap, ◌∙◌, arith}
use Rattle.pcl_items.specs.Items.{view}
use Rattle.pcl_spelling.proofs.Spellings.ReadAgain.{item_known}
use Rattle.macro_store.specs.Store.{stored_bytes}
use Rattle.macro_store.proofs.Laid.{pool_length}
use Rattle.macro_store.proofs.Calls.{add_laid, add_fits, add_is}
use Rattle.macro_store.proofs.store.MacroStore.add.Goals as goal

pub spell_behind-requires-clause-short : goal.spell_behind-requires-clause-short
spell_behind-requires-clause-short g c =
    let bytes =
    pool_length c.self.inside.pool.items c.self.inside.spans.entries c.self.inside.definition c.self.invariant.0
    ∙ ap stored_bytes c.self.view_is in
    omega (arith, bytes, c.requires.fits, ap (λ s. s.limit) c.self.view_is)

pub invariant_of-self : goal.invariant_of-self
invariant_of-self g c = (
  add_laid c.self.inside.limit c.self.inside.pool.items c.self.inside.spans.entries c.self.inside.definition c.self.invariant.0
      (view c.args.item.now) (item_known c.args.item.now) c.self.view_is c.requires.admitted c.spell_behind.new.pool.items
      c.spell_behind.result c.spell_behind.ensures.ok c.spell_behind.ensures.err,
  add_fits c.self.inside.limit c.self.inside.pool.items c.self.inside.spans.entries c.self.inside.definition c.self.invariant.0
      (view c.args.item.now) c.self.view_is c.requires.fits c.spell_behind.new.pool.items c.spell_behind.result c.spell_behind.ensures.ok
      c.spell_behind.ensures.err,
  c.self.invariant.2,
  c.spell_behind.ensures.stored,
)

pub returns-clause-ok : goal.returns-clause-ok
returns-clause-ok g c =
    add_is c.self.inside.limit c.self.inside.pool.items c.self.inside.spans.entries c.self.inside.definition c.self.invariant.0
    (view c.args.item.now) (item_known c.args.item.now) c.self.view_is c.requires.admitted c.spell_behind.new.pool.items
    c.spell_behind.result c.spell_behind.ensures.ok
