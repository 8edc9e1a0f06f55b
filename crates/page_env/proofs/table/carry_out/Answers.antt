use Rattle.std.proofs.Common.{refl, ap}
use Rattle.pcl_items.specs.Items.{simple_view}
use Rattle.page_env.specs.Action.{Acts}
use Rattle.page_env.proofs.Steps.{as_valued}
use Rattle.page_env.proofs.table.carry_out.Goals as goal

pub returns-in-CarriageReturn : goal.returns-in-CarriageReturn
unfolding Acts
returns-in-CarriageReturn g c = (refl, ap simple_view c.in-CarriageReturn.is)

pub returns-in-LineFeed : goal.returns-in-LineFeed
unfolding Acts
returns-in-LineFeed g c = (refl, ap simple_view c.in-LineFeed.is)

pub returns-in-Parameterized : goal.returns-in-Parameterized
returns-in-Parameterized g c =
    rw (c.in-Parameterized.is, c.valued.ensures) (as_valued _ _ _ _ _ c.carry_out_command.result c.carry_out_command.ensures)

pub returns-in-Move : goal.returns-in-Move
unfolding Acts
returns-in-Move g c = (refl, ap simple_view c.in-Move.is)
