use Rattle.std.proofs.Common.{refl, ap}
use Rattle.pcl_items.specs.Items.{simple_view}
use Rattle.page_env.specs.Action.{Acts}
use Rattle.page_env.proofs.Steps.{as_step, as_item, as_valued}
use Rattle.page_env.proofs.table.carry_out_item.Goals as goal

pub returns-in-CarriageReturn : goal.returns-in-CarriageReturn
unfolding Acts
returns-in-CarriageReturn g c = (refl, ap simple_view c.in-CarriageReturn.is)

pub returns-in-LineFeed : goal.returns-in-LineFeed
unfolding Acts
returns-in-LineFeed g c = (refl, ap simple_view c.in-LineFeed.is)

pub returns-in-FormFeed : goal.returns-in-FormFeed
unfolding Acts
returns-in-FormFeed g c = (refl, ap simple_view c.in-FormFeed.is)

pub returns-in-Reset : goal.returns-in-Reset
unfolding Acts
returns-in-Reset g c = (refl, ap simple_view c.in-Reset.is)

pub returns-in-ExitLanguage : goal.returns-in-ExitLanguage
unfolding Acts
returns-in-ExitLanguage g c = (refl, ap simple_view c.in-ExitLanguage.is)

pub returns-in-ClearMargins : goal.returns-in-ClearMargins
returns-in-ClearMargins g c =
    rw (c.in-ClearMargins.is, c.item_stepped.ensures)
    (as_item _ _ _ _ c.clear_margins.result (refl, refl) (as_step _ _ _ _ c.clear_margins.ensures))

pub returns-in-HalfLineFeed : goal.returns-in-HalfLineFeed
unfolding Acts
returns-in-HalfLineFeed g c = (refl, ap simple_view c.in-HalfLineFeed.is)

pub returns-in-SymbolSet : goal.returns-in-SymbolSet
returns-in-SymbolSet g c =
    rw (c.in-SymbolSet.is, c.item_stepped-in-SymbolSet.ensures)
    (as_item _ _ _ _ c.set_symbol_set.result (refl, refl) (as_step _ _ _ _ c.set_symbol_set.ensures))

pub returns-in-DefaultFont : goal.returns-in-DefaultFont
returns-in-DefaultFont g c =
    rw (c.in-DefaultFont.is, c.item_stepped-in-DefaultFont.ensures)
    (as_item _ _ _ _ c.default_font.result (refl, refl) (as_step _ _ _ _ c.default_font.ensures))

pub returns-in-EnterFrame : goal.returns-in-EnterFrame
returns-in-EnterFrame g c =
    rw (c.in-EnterFrame.is, c.item_stepped-in-EnterFrame.ensures)
    (as_item _ _ _ _ c.enter_frame.result (refl, refl) (as_step _ _ _ _ c.enter_frame.ensures))

pub returns-in-LeaveFrame : goal.returns-in-LeaveFrame
returns-in-LeaveFrame g c =
    rw (c.in-LeaveFrame.is, c.item_stepped-in-LeaveFrame.ensures)
    (as_item _ _ _ _ c.leave_frame.result (refl, refl) (as_step _ _ _ _ c.leave_frame.ensures))

pub returns-in-Initialize : goal.returns-in-Initialize
returns-in-Initialize g c =
    rw (c.in-Initialize.is, c.item_stepped-in-Initialize.ensures)
    (as_item _ _ _ _ c.initialize.result (refl, refl) (as_step _ _ _ _ c.initialize.ensures))

pub returns-in-Set : goal.returns-in-Set
returns-in-Set g c =
    rw (c.in-Set.is, c.item_stepped-in-Set.ensures) (as_item _ _ _ _ c.set_pen.result (refl, refl) (as_step _ _ _ _ c.set_pen.ensures))

pub returns-in-Parameterized : goal.returns-in-Parameterized
returns-in-Parameterized g c =
    rw (c.in-Parameterized.is, c.valued.ensures) (as_valued _ _ _ _ _ c.carry_out_command.result c.carry_out_command.ensures)

pub returns-in-Move : goal.returns-in-Move
unfolding Acts
returns-in-Move g c = (refl, ap simple_view c.in-Move.is)
