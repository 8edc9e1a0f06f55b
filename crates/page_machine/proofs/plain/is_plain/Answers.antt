use Rattle.std.proofs.Common.{sym, subst, ap, ◌∙◌, length, arith}
use Rattle.pcl_items.specs.Items.{view}
use Rattle.page_machine.specs.PlainMacros.{ArePlain}
use Rattle.page_machine.proofs.PlainMacros.{plain_is}
use Rattle.page_machine.proofs.plain.is_plain.Goals as goal

pub loop-left-init : goal.loop-left-init
loop-left-init c = λ plain. plain

pub loop-left-preserved : goal.loop-left-preserved
loop-left-preserved c = λ plain.
    c.loop-left.invariant (c.in-Some.ensures.plain (subst ArePlain (sym c.in-Some-next.ensures) (
      plain_is (view c.in-Some-next.item) (sym c.is_plain_item.ensures ∙ c.if-not-is_plain_item.false),
      plain,
    )))

pub loop-left-smaller : goal.loop-left-smaller
loop-left-smaller c = omega (arith, c.in-Some.ensures.shorter, ap length c.in-Some-next.ensures)

pub returns-in_default-next : goal.returns-in_default-next
returns-in_default-next c = λ _.
    c.loop-left.invariant (c.in-Some.ensures.plain (subst ArePlain (sym c.in_default-next.ensures.0) tt))
