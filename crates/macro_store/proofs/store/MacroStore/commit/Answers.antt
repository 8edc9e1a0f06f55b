use Rattle.std.proofs.Common.{◌≡◌, ◌∷◌, [], ◌++◌, sym, ap, ◌∙◌, Some}
use Rattle.indexmap.proofs.CallerLemmas.{insert_entry-new}
use Rattle.macro_store.proofs.Calls.{none_before, ended_laid, ended_is, none_opened}
use Rattle.macro_store.proofs.store.MacroStore.commit.Goals as goal

pub invariant_of-self : goal.invariant_of-self
invariant_of-self g c =
    let some : c.self.inside.definition ≡ Some c.in-Some.field-0 = sym c.take.ensures.value ∙ c.in-Some.is in
    let absent =
    none_before c.self.inside.limit c.self.inside.pool.items c.self.inside.spans.entries c.self.inside.definition
    c.self.invariant.0 c.in-Some.field-0 some in
    let spans =
    c.in-Ok.ensures.entries ∙ insert_entry-new _ c.self.inside.spans _ _ absent
    ∙ ap (λ end. c.self.inside.spans.entries ++ (c.in-Some.field-0.id, record { start = c.in-Some.field-0.start; end = end }) ∷ [])
    (c.len.ensures ∙ c.self.inside.pool.ok.0) in (
      rw c.take.ensures.after
          (ended_laid c.self.inside.limit c.self.inside.pool.items c.self.inside.spans.entries c.self.inside.definition c.self.invariant.0
          c.in-Some.field-0 some c.insert.new.self.entries spans),
      c.self.invariant.1,
      none_opened c.take.new.self _ c.take.ensures.after,
      c.self.invariant.3,
    )

pub returns : goal.returns
returns g c =
    let some : c.self.inside.definition ≡ Some c.in-Some.field-0 = sym c.take.ensures.value ∙ c.in-Some.is in
    let absent =
    none_before c.self.inside.limit c.self.inside.pool.items c.self.inside.spans.entries c.self.inside.definition
    c.self.invariant.0 c.in-Some.field-0 some in
    let spans =
    c.in-Ok.ensures.entries ∙ insert_entry-new _ c.self.inside.spans _ _ absent
    ∙ ap (λ end. c.self.inside.spans.entries ++ (c.in-Some.field-0.id, record { start = c.in-Some.field-0.start; end = end }) ∷ [])
    (c.len.ensures ∙ c.self.inside.pool.ok.0) in
    rw c.take.ensures.after
    (ended_is c.self.inside.limit c.self.inside.pool.items c.self.inside.spans.entries c.self.inside.definition c.self.invariant.0
    c.in-Some.field-0 some c.self.view_is c.insert.new.self.entries spans)
