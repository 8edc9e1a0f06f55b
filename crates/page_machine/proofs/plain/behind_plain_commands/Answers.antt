use Rattle.std.proofs.Common.{sym, subst, ap, ◌∙◌, length, arith}
use Rattle.pcl_items.specs.Items.{simple_view}
use Rattle.page_machine.specs.PlainMacros.{ArePlain}
use Rattle.page_machine.proofs.PlainMacros.{plain_is}
use Rattle.page_machine.proofs.plain.behind_plain_commands.Goals as goal

pub loop-item-init : goal.loop-item-init
loop-item-init c = (λ plain. plain, omega arith)

pub loop-item-preserved : goal.loop-item-preserved
loop-item-preserved c = (
  λ plain. c.loop-item.invariant.0 (subst ArePlain (sym c.in-Some.ensures.some) (
    plain_is (simple_view c.in-Some.item) (sym c.is_plain_item.ensures ∙ c.if-not-is_plain_item.false),
    plain,
  )),
  omega (arith, ap length c.in-Some.ensures.some, c.loop-item.invariant.1),
)

pub returns-clause-plain : goal.returns-clause-plain
returns-clause-plain c = λ plain. c.loop-item.invariant.0 (subst ArePlain c.in_default.ensures.none plain)

pub returns-clause-shorter : goal.returns-clause-shorter
returns-clause-shorter c = omega (arith, ap length c.in_default.ensures.none, c.loop-item.invariant.1)
