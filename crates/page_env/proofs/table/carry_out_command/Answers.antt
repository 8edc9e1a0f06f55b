use Rattle.std.proofs.Common.{refl}
use Rattle.pcl_items.specs.declared.pcl.command.Command.TheVariants as commands
use Rattle.page_env.specs.Action.{ActsOnCommand}
use Rattle.page_env.proofs.Steps.{as_step, as_command}
use Rattle.page_env.proofs.table.carry_out_command.Goals as goal

pub returns-in-Copies : goal.returns-in-Copies
returns-in-Copies g c =
    rw (c.in-Copies.is, c.stepped.ensures) (as_command _ commands.Copies _ _ _ c.set_copies.result (as_step _ _ _ _ c.set_copies.ensures))

pub returns-in-Sides : goal.returns-in-Sides
unfolding ActsOnCommand
returns-in-Sides g c = (refl, c.in-Sides.is)

pub returns-in-Source : goal.returns-in-Source
unfolding ActsOnCommand
returns-in-Source g c = (refl, c.in-Source.is)

pub returns-in-PageSize : goal.returns-in-PageSize
unfolding ActsOnCommand
returns-in-PageSize g c = (refl, c.in-PageSize.is)

pub returns-in-Orientation : goal.returns-in-Orientation
unfolding ActsOnCommand
returns-in-Orientation g c = (refl, c.in-Orientation.is)

pub returns-in-VerticalMotionIndex : goal.returns-in-VerticalMotionIndex
returns-in-VerticalMotionIndex g c =
    rw (c.in-VerticalMotionIndex.is, c.stepped-in-VerticalMotionIndex.ensures)
    (as_command _ commands.VerticalMotionIndex _ _ _ c.set_vmi.result (as_step _ _ _ _ c.set_vmi.ensures))

pub returns-in-LineSpacing : goal.returns-in-LineSpacing
returns-in-LineSpacing g c =
    rw (c.in-LineSpacing.is, c.stepped-in-LineSpacing.ensures)
    (as_command _ commands.LineSpacing _ _ _ c.set_line_spacing.result (as_step _ _ _ _ c.set_line_spacing.ensures))

pub returns-in-TopMargin : goal.returns-in-TopMargin
returns-in-TopMargin g c =
    rw (c.in-TopMargin.is, c.stepped-in-TopMargin.ensures)
    (as_command _ commands.TopMargin _ _ _ c.set_top_margin.result (as_step _ _ _ _ c.set_top_margin.ensures))

pub returns-in-TextLength : goal.returns-in-TextLength
returns-in-TextLength g c =
    rw (c.in-TextLength.is, c.stepped-in-TextLength.ensures)
    (as_command _ commands.TextLength _ _ _ c.set_text_length.result (as_step _ _ _ _ c.set_text_length.ensures))

pub returns-in-PerforationSkip : goal.returns-in-PerforationSkip
returns-in-PerforationSkip g c =
    rw (c.in-PerforationSkip.is, c.stepped-in-PerforationSkip.ensures)
    (as_command _ commands.PerforationSkip _ _ _ c.set_perforation_skip.result (as_step _ _ _ _ c.set_perforation_skip.ensures))

pub returns-in-UnitOfMeasure : goal.returns-in-UnitOfMeasure
returns-in-UnitOfMeasure g c =
    rw (c.in-UnitOfMeasure.is, c.stepped-in-UnitOfMeasure.ensures)
    (as_command _ commands.UnitOfMeasure _ _ _ c.set_units.result (as_step _ _ _ _ c.set_units.ensures))

pub returns-in-HorizontalMotionIndex : goal.returns-in-HorizontalMotionIndex
returns-in-HorizontalMotionIndex g c =
    rw (c.in-HorizontalMotionIndex.is, c.stepped-in-HorizontalMotionIndex.ensures)
    (as_command _ commands.HorizontalMotionIndex _ _ _ c.set_hmi.result (as_step _ _ _ _ c.set_hmi.ensures))

pub returns-in-LineTermination : goal.returns-in-LineTermination
returns-in-LineTermination g c =
    rw (c.in-LineTermination.is, c.stepped-in-LineTermination.ensures)
    (as_command _ commands.LineTermination _ _ _ c.set_line_termination.result (as_step _ _ _ _ c.set_line_termination.ensures))

pub returns-in-LeftMargin : goal.returns-in-LeftMargin
returns-in-LeftMargin g c =
    rw (c.in-LeftMargin.is, c.stepped-in-LeftMargin.ensures)
    (as_command _ commands.LeftMargin _ _ _ c.set_left_margin.result (as_step _ _ _ _ c.set_left_margin.ensures))

pub returns-in-RightMargin : goal.returns-in-RightMargin
returns-in-RightMargin g c =
    rw (c.in-RightMargin.is, c.stepped-in-RightMargin.ensures)
    (as_command _ commands.RightMargin _ _ _ c.set_right_margin.result (as_step _ _ _ _ c.set_right_margin.ensures))

pub returns-in-Column : goal.returns-in-Column
returns-in-Column g c =
    rw (c.in-Column.is, c.stepped-in-Column.ensures)
    (as_command _ commands.Column _ _ _ c.move_columns.result (as_step _ _ _ _ c.move_columns.ensures))

pub returns-in-Row : goal.returns-in-Row
returns-in-Row g c =
    rw (c.in-Row.is, c.stepped-in-Row.ensures) (as_command _ commands.Row _ _ _ c.move_rows.result (as_step _ _ _ _ c.move_rows.ensures))

pub returns-in-HorizontalDecipoints : goal.returns-in-HorizontalDecipoints
returns-in-HorizontalDecipoints g c =
    rw (c.in-HorizontalDecipoints.is, c.stepped-in-HorizontalDecipoints.ensures)
    (as_command _ commands.HorizontalDecipoints _ _ _ c.move_x_decipoints.result (as_step _ _ _ _ c.move_x_decipoints.ensures))

pub returns-in-VerticalDecipoints : goal.returns-in-VerticalDecipoints
returns-in-VerticalDecipoints g c =
    rw (c.in-VerticalDecipoints.is, c.stepped-in-VerticalDecipoints.ensures)
    (as_command _ commands.VerticalDecipoints _ _ _ c.move_y_decipoints.result (as_step _ _ _ _ c.move_y_decipoints.ensures))

pub returns-in-HorizontalUnits : goal.returns-in-HorizontalUnits
returns-in-HorizontalUnits g c =
    rw (c.in-HorizontalUnits.is, c.stepped-in-HorizontalUnits.ensures)
    (as_command _ commands.HorizontalUnits _ _ _ c.move_x.result (as_step _ _ _ _ c.move_x.ensures))

pub returns-in-VerticalUnits : goal.returns-in-VerticalUnits
returns-in-VerticalUnits g c =
    rw (c.in-VerticalUnits.is, c.stepped-in-VerticalUnits.ensures)
    (as_command _ commands.VerticalUnits _ _ _ c.move_y.result (as_step _ _ _ _ c.move_y.ensures))

pub returns-in-CursorStack : goal.returns-in-CursorStack
returns-in-CursorStack g c =
    rw (c.in-CursorStack.is, c.stepped-in-CursorStack.ensures)
    (as_command _ commands.CursorStack _ _ _ c.use_stack.result (as_step _ _ _ _ c.use_stack.ensures))

pub returns-in-MacroId : goal.returns-in-MacroId
returns-in-MacroId g c =
    rw (c.in-MacroId.is, c.stepped-in-MacroId.ensures)
    (as_command _ commands.MacroId _ _ _ c.set_macro_id.result (as_step _ _ _ _ c.set_macro_id.ensures))

pub returns-in-MacroControl : goal.returns-in-MacroControl
unfolding ActsOnCommand
returns-in-MacroControl g c = (refl, c.in-MacroControl.is)

pub returns-in-RectangleWidth : goal.returns-in-RectangleWidth
returns-in-RectangleWidth g c =
    rw (c.in-RectangleWidth.is, c.stepped-in-RectangleWidth.ensures)
    (as_command _ commands.RectangleWidth _ _ _ c.set_rectangle_width.result (as_step _ _ _ _ c.set_rectangle_width.ensures))

pub returns-in-RectangleHeight : goal.returns-in-RectangleHeight
returns-in-RectangleHeight g c =
    rw (c.in-RectangleHeight.is, c.stepped-in-RectangleHeight.ensures)
    (as_command _ commands.RectangleHeight _ _ _ c.set_rectangle_height.result (as_step _ _ _ _ c.set_rectangle_height.ensures))

pub returns-in-FillRectangle : goal.returns-in-FillRectangle
unfolding ActsOnCommand
returns-in-FillRectangle g c = (refl, c.in-FillRectangle.is)

pub returns-in-RectangleWidthDecipoints : goal.returns-in-RectangleWidthDecipoints
returns-in-RectangleWidthDecipoints g c =
    rw (c.in-RectangleWidthDecipoints.is, c.stepped-in-RectangleWidthDecipoints.ensures)
    (as_command _ commands.RectangleWidthDecipoints _ _ _ c.set_rectangle_width_decipoints.result
    (as_step _ _ _ _ c.set_rectangle_width_decipoints.ensures))

pub returns-in-RectangleHeightDecipoints : goal.returns-in-RectangleHeightDecipoints
returns-in-RectangleHeightDecipoints g c =
    rw (c.in-RectangleHeightDecipoints.is, c.stepped-in-RectangleHeightDecipoints.ensures)
    (as_command _ commands.RectangleHeightDecipoints _ _ _ c.set_rectangle_height_decipoints.result
    (as_step _ _ _ _ c.set_rectangle_height_decipoints.ensures))

pub returns-in-FillId : goal.returns-in-FillId
returns-in-FillId g c =
    rw (c.in-FillId.is, c.stepped-in-FillId.ensures)
    (as_command _ commands.FillId _ _ _ c.set_fill_id.result (as_step _ _ _ _ c.set_fill_id.ensures))

pub returns-in-PictureFrameAnchor : goal.returns-in-PictureFrameAnchor
returns-in-PictureFrameAnchor g c =
    rw (c.in-PictureFrameAnchor.is, c.stepped-in-PictureFrameAnchor.ensures)
    (as_command _ commands.PictureFrameAnchor _ _ _ c.set_frame_anchor.result (as_step _ _ _ _ c.set_frame_anchor.ensures))

pub returns-in-PictureFrameWidth : goal.returns-in-PictureFrameWidth
returns-in-PictureFrameWidth g c =
    rw (c.in-PictureFrameWidth.is, c.stepped-in-PictureFrameWidth.ensures)
    (as_command _ commands.PictureFrameWidth _ _ _ c.set_frame_width.result (as_step _ _ _ _ c.set_frame_width.ensures))

pub returns-in-PictureFrameHeight : goal.returns-in-PictureFrameHeight
returns-in-PictureFrameHeight g c =
    rw (c.in-PictureFrameHeight.is, c.stepped-in-PictureFrameHeight.ensures)
    (as_command _ commands.PictureFrameHeight _ _ _ c.set_frame_height.result (as_step _ _ _ _ c.set_frame_height.ensures))

pub returns-in-RasterResolution : goal.returns-in-RasterResolution
returns-in-RasterResolution g c =
    rw (c.in-RasterResolution.is, c.stepped-in-RasterResolution.ensures)
    (as_command _ commands.RasterResolution _ _ _ c.set_resolution.result (as_step _ _ _ _ c.set_resolution.ensures))

pub returns-in-StartRaster : goal.returns-in-StartRaster
returns-in-StartRaster g c =
    rw (c.in-StartRaster.is, c.stepped-in-StartRaster.ensures)
    (as_command _ commands.StartRaster _ _ _ c.start_raster.result (as_step _ _ _ _ c.start_raster.ensures))

pub returns-in-RasterWidth : goal.returns-in-RasterWidth
returns-in-RasterWidth g c =
    rw (c.in-RasterWidth.is, c.stepped-in-RasterWidth.ensures)
    (as_command _ commands.RasterWidth _ _ _ c.set_raster_width.result (as_step _ _ _ _ c.set_raster_width.ensures))

pub returns-in-RasterHeight : goal.returns-in-RasterHeight
returns-in-RasterHeight g c =
    rw (c.in-RasterHeight.is, c.stepped-in-RasterHeight.ensures)
    (as_command _ commands.RasterHeight _ _ _ c.set_raster_height.result (as_step _ _ _ _ c.set_raster_height.ensures))

pub returns-in-RasterPresentation : goal.returns-in-RasterPresentation
returns-in-RasterPresentation g c =
    rw (c.in-RasterPresentation.is, c.stepped-in-RasterPresentation.ensures)
    (as_command _ commands.RasterPresentation _ _ _ c.set_presentation.result (as_step _ _ _ _ c.set_presentation.ensures))

pub returns-in-EndRaster : goal.returns-in-EndRaster
returns-in-EndRaster g c =
    rw (c.in-EndRaster.is, c.stepped-in-EndRaster.ensures)
    (as_command _ commands.EndRaster _ _ _ c.end_raster.result (as_step _ _ _ _ c.end_raster.ensures))

pub returns-in-EndRasterAndMethod : goal.returns-in-EndRasterAndMethod
returns-in-EndRasterAndMethod g c =
    rw (c.in-EndRasterAndMethod.is, c.stepped-in-EndRasterAndMethod.ensures)
    (as_command _ commands.EndRasterAndMethod _ _ _ c.end_raster-in-EndRasterAndMethod.result
    (as_step _ _ _ _ c.end_raster-in-EndRasterAndMethod.ensures))

pub returns-in-CompressionMethod : goal.returns-in-CompressionMethod
returns-in-CompressionMethod g c =
    rw (c.in-CompressionMethod.is, c.stepped-in-CompressionMethod.ensures)
    (as_command _ commands.CompressionMethod _ _ _ c.set_compression.result (as_step _ _ _ _ c.set_compression.ensures))

pub returns-in-RasterOffset : goal.returns-in-RasterOffset
returns-in-RasterOffset g c =
    rw (c.in-RasterOffset.is, c.stepped-in-RasterOffset.ensures)
    (as_command _ commands.RasterOffset _ _ _ c.skip_rows.result (as_step _ _ _ _ c.skip_rows.ensures))

pub returns-in-FontSpacing : goal.returns-in-FontSpacing
returns-in-FontSpacing g c =
    rw (c.in-FontSpacing.is, c.stepped-in-FontSpacing.ensures)
    (as_command _ commands.FontSpacing _ _ _ c.set_spacing.result (as_step _ _ _ _ c.set_spacing.ensures))

pub returns-in-FontPitch : goal.returns-in-FontPitch
returns-in-FontPitch g c =
    rw (c.in-FontPitch.is, c.stepped-in-FontPitch.ensures)
    (as_command _ commands.FontPitch _ _ _ c.set_pitch.result (as_step _ _ _ _ c.set_pitch.ensures))

pub returns-in-FontHeight : goal.returns-in-FontHeight
returns-in-FontHeight g c =
    rw (c.in-FontHeight.is, c.stepped-in-FontHeight.ensures)
    (as_command _ commands.FontHeight _ _ _ c.set_height.result (as_step _ _ _ _ c.set_height.ensures))

pub returns-in-FontStyle : goal.returns-in-FontStyle
returns-in-FontStyle g c =
    rw (c.in-FontStyle.is, c.stepped-in-FontStyle.ensures)
    (as_command _ commands.FontStyle _ _ _ c.set_style.result (as_step _ _ _ _ c.set_style.ensures))

pub returns-in-FontWeight : goal.returns-in-FontWeight
returns-in-FontWeight g c =
    rw (c.in-FontWeight.is, c.stepped-in-FontWeight.ensures)
    (as_command _ commands.FontWeight _ _ _ c.set_weight.result (as_step _ _ _ _ c.set_weight.ensures))

pub returns-in-FontTypeface : goal.returns-in-FontTypeface
returns-in-FontTypeface g c =
    rw (c.in-FontTypeface.is, c.stepped-in-FontTypeface.ensures)
    (as_command _ commands.FontTypeface _ _ _ c.set_typeface.result (as_step _ _ _ _ c.set_typeface.ensures))
