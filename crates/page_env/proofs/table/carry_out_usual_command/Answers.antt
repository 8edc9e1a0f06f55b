use Rattle.std.proofs.Common.{refl}
use Rattle.pcl_items.specs.declared.pcl.command.Command.TheVariants as commands
use Rattle.page_env.specs.Action.{ActsOnCommand}
use Rattle.page_env.proofs.Steps.{as_step, as_command}
use Rattle.page_env.proofs.table.carry_out_usual_command.Goals as goal

pub returns-in-Column : goal.returns-in-Column
returns-in-Column g c =
    rw (c.in-Column.is, c.stepped.ensures)
    (as_command _ commands.Column _ _ _ c.move_columns.result (as_step _ _ _ _ c.move_columns.ensures))

pub returns-in-HorizontalUnits : goal.returns-in-HorizontalUnits
returns-in-HorizontalUnits g c =
    rw (c.in-HorizontalUnits.is, c.stepped-in-HorizontalUnits.ensures)
    (as_command _ commands.HorizontalUnits _ _ _ c.move_x.result (as_step _ _ _ _ c.move_x.ensures))

pub returns-in-VerticalUnits : goal.returns-in-VerticalUnits
returns-in-VerticalUnits g c =
    rw (c.in-VerticalUnits.is, c.stepped-in-VerticalUnits.ensures)
    (as_command _ commands.VerticalUnits _ _ _ c.move_y.result (as_step _ _ _ _ c.move_y.ensures))

pub returns-in-RectangleWidth : goal.returns-in-RectangleWidth
returns-in-RectangleWidth g c =
    rw (c.in-RectangleWidth.is, c.stepped-in-RectangleWidth.ensures)
    (as_command _ commands.RectangleWidth _ _ _ c.set_rectangle_width.result (as_step _ _ _ _ c.set_rectangle_width.ensures))

pub returns-in-RectangleHeight : goal.returns-in-RectangleHeight
returns-in-RectangleHeight g c =
    rw (c.in-RectangleHeight.is, c.stepped-in-RectangleHeight.ensures)
    (as_command _ commands.RectangleHeight _ _ _ c.set_rectangle_height.result (as_step _ _ _ _ c.set_rectangle_height.ensures))

pub returns-in-FillRectangle : goal.returns-in-FillRectangle
unfolding ActsOnCommand
returns-in-FillRectangle g c = (refl, c.in-FillRectangle.is)
