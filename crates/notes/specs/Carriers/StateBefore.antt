-- What the code keeps of the state before an item, and the notes that it finds by that and the state behind it.
use Rattle.std.specs.Prelude.{◌==◌, not, ◌&&◌, ◌||◌, cond, is_none, List, [], ◌++◌, Option, Some, None}
use Rattle.std.specs.Option.{option_map_or}
use Rattle.pcl_items.specs.Items.{Entry, Placed}
use Rattle.device_profile.specs.declared.panel.Panel.{Panel}
use Rattle.device_profile.specs.Printer.{Printer}
use Rattle.page_env.specs.Rasters.{is_of_raster}
use Rattle.page_env.specs.Settings.{State, state_at}
use Rattle.page_machine.specs.Defining.{is_defining}
use Rattle.page_machine.specs.MachineState.{MachineState}
use Rattle.notes.specs.declared.note.Note.TheVariants.{SameOrientation, RoundedColumn, ShortRaster, BlankOverflow}
use Rattle.notes.specs.declared.note.Note.TheVariants.{SourceMovesLeft}
use Rattle.notes.specs.declared.state_before.StateBefore.{StateBefore}
use Rattle.notes.specs.Note.{Told, told_if}
use Rattle.notes.specs.StateNotes.{sets_same_orientation, has_spacing, is_rounded_column, has_rows_left, feeds_line}
use Rattle.notes.specs.StateNotes.{is_source_with_margin}

abbrev pub state_before_of : Printer → Entry → State → StateBefore
state_before_of printer item s = record {
  sets_same_orientation = sets_same_orientation item s;
  has_spacing = has_spacing s.settings.job;
  vmi = s.settings.fields.vmi;
  is_rounded = is_rounded_column printer item s;
  has_rows_left = has_rows_left s.raster;
  feeds_blank = feeds_line item s && not s.marked;
  has_margin = is_source_with_margin item s;
}

-- of an item that is carried out: where a definition is open none is
abbrev pub state_before_at : MachineState → Panel → Entry → Option StateBefore
state_before_at machine panel item =
    cond (is_defining machine.macros) None (Some (state_before_of machine.printer item (state_at panel machine.page)))

-- the notes of an item by what was kept and the state behind it
abbrev pub before_notes : Placed → State → StateBefore → List Told
before_notes x t stood =
    told_if (stood.sets_same_orientation && (stood.has_spacing || not (stood.vmi == t.settings.fields.vmi))) x.place
    SameOrientation
    ++ told_if stood.is_rounded x.place RoundedColumn
    ++ told_if (stood.has_rows_left && (is_none t.raster || not (is_of_raster x.item))) x.place ShortRaster
    ++ told_if (stood.feeds_blank && is_none t.cursor.y) x.place BlankOverflow
    ++ told_if stood.has_margin x.place SourceMovesLeft

abbrev pub behind_notes : Placed → State → Option StateBefore → List Told
behind_notes x t stood = option_map_or (before_notes x t) stood []
