use Rattle.std.proofs.Common.{nat_eq, None, ◌-◌, sym, ap, ◌∙◌, cond, subst}
use Rattle.std.specs.Map.{lookup}
use Rattle.macro_store.specs.Commands.{AreStored}
use Rattle.macro_store.specs.Layout.{down}
use Rattle.macro_store.proofs.Laid.{found_in}
use Rattle.macro_store.proofs.Calls.{gone_laid, gone_fewer, gone_bodies, absent_bodies, down_gone, same_id}
use Rattle.macro_store.proofs.KeptCommands.{stored_cut}
use Rattle.macro_store.proofs.store.take_out.Goals as goal

pub cut-requires-clause-forward : goal.cut-requires-clause-forward
cut-requires-clause-forward g c =
    (found_in c.args.pool.now.items c.args.spans.now.entries None c.requires.laid c.args.id c.in-Some.span
    (sym c.shift_remove.ensures.value ∙ c.in-Some.is)).forward

pub cut-requires-clause-within : goal.cut-requires-clause-within
cut-requires-clause-within g c =
    (found_in c.args.pool.now.items c.args.spans.now.entries None c.requires.laid c.args.id c.in-Some.span
    (sym c.shift_remove.ensures.value ∙ c.in-Some.is)).within

pub overflow_sub-span : goal.overflow_sub-span
overflow_sub-span g c =
    (found_in c.args.pool.now.items c.args.spans.now.entries None c.requires.laid c.args.id c.in-Some.span
    (sym c.shift_remove.ensures.value ∙ c.in-Some.is)).forward

pub returns-in-Some-clause-laid : goal.returns-in-Some-clause-laid
returns-in-Some-clause-laid g c =
    gone_laid c.args.pool.now.items c.args.spans.now.entries c.requires.laid c.args.id c.in-Some.span
    (sym c.shift_remove.ensures.value ∙ c.in-Some.is) c.move_down.new.spans.entries
    (c.move_down.ensures.moved ∙ ap (down c.in-Some.span.end (c.in-Some.span.end - c.in-Some.span.start)) c.shift_remove.ensures.entries)
    c.cut.new.pool.items c.cut.ensures

pub returns-in-Some-clause-bodies : goal.returns-in-Some-clause-bodies
returns-in-Some-clause-bodies g c =
    gone_bodies c.args.pool.now.items c.args.spans.now.entries c.requires.laid c.args.id c.in-Some.span
    (sym c.shift_remove.ensures.value ∙ c.in-Some.is) c.move_down.new.spans.entries
    (c.move_down.ensures.moved ∙ ap (down c.in-Some.span.end (c.in-Some.span.end - c.in-Some.span.start)) c.shift_remove.ensures.entries)
    c.cut.new.pool.items c.cut.ensures

pub returns-in-Some-clause-fewer : goal.returns-in-Some-clause-fewer
returns-in-Some-clause-fewer g c =
    gone_fewer c.args.pool.now.items c.args.spans.now.entries c.requires.laid c.args.id c.in-Some.span
    (sym c.shift_remove.ensures.value ∙ c.in-Some.is) c.move_down.new.spans.entries
    (c.move_down.ensures.moved ∙ ap (down c.in-Some.span.end (c.in-Some.span.end - c.in-Some.span.start)) c.shift_remove.ensures.entries)
    c.cut.new.pool.items c.cut.ensures

pub returns-in-Some-clause-gone : goal.returns-in-Some-clause-gone
returns-in-Some-clause-gone g c =
    ap (lookup (nat_eq c.args.id)) c.move_down.ensures.moved
    ∙ down_gone c.in-Some.span.end (c.in-Some.span.end - c.in-Some.span.start) c.args.id c.shift_remove.new.self.entries
    (c.shift_remove.ensures.updates.0 c.args.id
    ∙ ap (λ b. cond b None (lookup (nat_eq c.args.id) c.args.spans.now.entries)) (same_id c.args.id))

pub returns-in_default-clause-bodies : goal.returns-in_default-clause-bodies
returns-in_default-clause-bodies g c =
    absent_bodies c.args.pool.now.items c.args.spans.now.entries c.requires.laid c.args.id
    (sym c.shift_remove.ensures.value ∙ c.in_default.is) c.shift_remove.new.self.entries c.shift_remove.ensures.entries

pub returns-in-Some-clause-stored : goal.returns-in-Some-clause-stored
returns-in-Some-clause-stored g c =
    subst (λ pool. AreStored pool c.forget_from.new.commands.items) (sym c.cut.ensures)
    (stored_cut c.args.pool.now.items c.in-Some.span.start c.in-Some.span.end c.forget_from.new.commands.items
    (c.forget_from.ensures.kept c.args.pool.now.items c.requires.stored) c.forget_from.ensures.before)
