-- Each item of the table is carried out soundly.
use Rattle.std.proofs.Common.{refl}
use Rattle.pcl_items.specs.declared.pcl.command.Command.{Command}
use Rattle.pcl_items.specs.declared.pcl.command.Command.TheVariants as commands
use Rattle.pcl_items.specs.declared.pcl.command.DataCommand.TheVariants.{RasterRow}
use Rattle.pcl_items.specs.Items.{Entry, Text, CarriageReturn, LineFeed, FormFeed, Reset, HalfLineFeed, Parameterized, EnterFrame}
use Rattle.pcl_items.specs.Items.{LeaveFrame, Set, Move, WithData, ExitLanguage}
use Rattle.pcl_items.specs.Escapes.Value.{Amount}
use Rattle.device_profile.specs.Printer.{Printer}
use Rattle.page_env.specs.Settings.{Settings, State}
use Rattle.page_env.specs.Table.{command_transition}
use Rattle.page_env.specs.Sound.{plain_settings, plain_state, IsSoundTransition, IsSoundItem}
use Rattle.page_env.proofs.JobControlFacts.{sides_are_sound, reset_is_sound}
use Rattle.page_env.proofs.PageControlFacts.{source_is_sound, size_is_sound, orientation_is_sound}
use Rattle.page_env.proofs.MarginFacts.{top_margin_is_sound, text_length_is_sound, left_margin_is_sound, right_margin_is_sound}
use Rattle.page_env.proofs.MotionFacts.{return_is_sound, line_feed_is_sound, form_feed_is_sound, half_line_feed_is_sound}
use Rattle.page_env.proofs.CursorFacts.{move_x_is_sound, move_y_is_sound, move_x_decipoints_is_sound, move_y_decipoints_is_sound}
use Rattle.page_env.proofs.CursorFacts.{move_columns_is_sound, move_rows_is_sound, stack_is_sound}
use Rattle.page_env.proofs.RectangleFacts.{fill_is_sound}
use Rattle.page_env.proofs.RasterFacts as rasters
use Rattle.page_env.proofs.FrameFacts as frames
use Rattle.page_env.proofs.PenFacts as pens
use Rattle.page_env.proofs.TextFacts.{byte_is_sound}
use Rattle.page_env.proofs.Sound.{quiet}

module _ (printer : Printer) (defaults : Settings) where
  command_is_sound : (command : Command) (n : Amount) (s : State) →
      IsSoundTransition printer defaults s (command_transition printer defaults s command n)
      (command_transition printer (plain_settings defaults) (plain_state s) command n)
  command_is_sound commands.Sides n s = sides_are_sound printer defaults s n
  command_is_sound commands.Source n s = source_is_sound printer defaults s n
  command_is_sound commands.PageSize n s = size_is_sound printer defaults s n
  command_is_sound commands.Orientation n s = orientation_is_sound printer defaults s n
  command_is_sound commands.TopMargin n s = top_margin_is_sound printer s n
  command_is_sound commands.TextLength n s = text_length_is_sound printer s n
  command_is_sound commands.LeftMargin n s = left_margin_is_sound printer s n
  command_is_sound commands.RightMargin n s = right_margin_is_sound printer s n
  command_is_sound commands.HorizontalUnits n s = move_x_is_sound printer s n
  command_is_sound commands.VerticalUnits n s = move_y_is_sound printer s n
  command_is_sound commands.HorizontalDecipoints n s = move_x_decipoints_is_sound printer s n
  command_is_sound commands.VerticalDecipoints n s = move_y_decipoints_is_sound printer s n
  command_is_sound commands.Column n s = move_columns_is_sound printer s n
  command_is_sound commands.Row n s = move_rows_is_sound printer s n
  command_is_sound commands.CursorStack n s = stack_is_sound printer s n
  command_is_sound commands.MacroControl n s = (refl, refl, refl)
  command_is_sound commands.FillRectangle n s = fill_is_sound printer s n
  command_is_sound commands.PictureFrameAnchor n s = frames.anchor_is_sound printer s n
  command_is_sound commands.StartRaster n s = rasters.start_is_sound printer s n
  command_is_sound commands.RasterOffset n s = rasters.skip_is_sound printer s n
  -- all others read nothing, and mark nothing
  command_is_sound _ n s = quiet refl refl refl refl refl refl refl refl

pub item_is_sound : (printer : Printer) (defaults : Settings) (item : Entry) → IsSoundItem printer defaults item
item_is_sound printer defaults (Text code) = λ s. byte_is_sound printer s code
item_is_sound printer defaults CarriageReturn = λ s. return_is_sound printer defaults s
item_is_sound printer defaults LineFeed = λ s. line_feed_is_sound printer defaults s
item_is_sound printer defaults FormFeed = λ s. form_feed_is_sound printer defaults s
item_is_sound printer defaults Reset = λ s. reset_is_sound printer defaults s
item_is_sound printer defaults ExitLanguage = λ s. reset_is_sound printer defaults s
item_is_sound printer defaults HalfLineFeed = λ s. half_line_feed_is_sound printer defaults s
item_is_sound printer defaults (Parameterized command n) = λ s. command_is_sound printer defaults command n s
item_is_sound printer defaults (EnterFrame handover) = λ s. frames.enter_is_sound printer s handover
item_is_sound printer defaults (LeaveFrame handover) = λ s. frames.leave_is_sound printer s handover
item_is_sound printer defaults (Set setting n) = λ s. pens.setting_is_sound printer s setting n
item_is_sound printer defaults (Move motion to) = λ s. pens.motion_is_sound printer s motion
item_is_sound printer defaults (WithData RasterRow bytes) = λ s. rasters.row_is_sound printer s bytes
item_is_sound printer defaults _ = λ s. quiet refl refl refl refl refl refl refl refl
