-- The notes that hold by the state of a printer before an item that the job carries out, and by the state behind it.
use Rattle.std.specs.Prelude.{ℕ, pos, ◌%◌, ◌==◌, nat_lt, length, Bool, true, false, not, ◌&&◌, ◌||◌, is_some, is_none}
use Rattle.std.specs.Prelude.{List, ◌++◌, Option}
use Rattle.std.specs.Option.{option_map_or}
use Rattle.std.specs.Ordering.{int_eq}
use Rattle.tick_length.specs.declared.unit.Unit.TheVariants.{PclUnit}
use Rattle.tick_length.specs.Unit.{ticks_of}
use Rattle.pcl_items.specs.declared.pcl.command.Command.TheVariants.{Orientation, Column, LeftMargin, RightMargin}
use Rattle.pcl_items.specs.declared.pcl.command.Command.TheVariants.{Source, Sides}
use Rattle.pcl_items.specs.declared.pcl.command.DataCommand.TheVariants.{TransparentText}
use Rattle.pcl_items.specs.Items.{Entry, Placed, Text, CarriageReturn, LineFeed, HalfLineFeed, Parameterized, WithData}
use Rattle.device_profile.specs.Printer.{Printer}
use Rattle.page_env.specs.declared.page.JobSettings.{JobSettings}
use Rattle.page_env.specs.declared.page.StartedRaster.{StartedRaster}
use Rattle.page_env.specs.Motion.{line_termination}
use Rattle.page_env.specs.Numbers.{whole_of}
use Rattle.page_env.specs.Places.{column_of}
use Rattle.page_env.specs.Rasters.{is_of_raster}
use Rattle.page_env.specs.Settings.{State, half_inch}
use Rattle.notes.specs.declared.note.Note.TheVariants.{SameOrientation, RoundedColumn, ShortRaster, BlankOverflow}
use Rattle.notes.specs.declared.note.Note.TheVariants.{SourceMovesLeft}
use Rattle.notes.specs.Note.{Told, told_if}

-- ---- 105 SameOrientation (the manual's "Logical Page Orientation Command")

-- an orientation is set that is in force
abbrev pub sets_same_orientation : Entry → State → Bool
sets_same_orientation (Parameterized Orientation n) s = whole_of n == s.settings.fields.orientation
sets_same_orientation _ s = false

-- the HMI is set, or a margin is another than its default
abbrev pub has_spacing : JobSettings → Bool
has_spacing job =
    is_some job.hmi || not (int_eq job.top_margin half_inch) || is_some job.bottom_margin
    || not (int_eq job.left_margin (pos 0))
    || is_some job.right_margin

-- where the HMI, a margin or the VMI is not what the command returns it to
abbrev pub is_same_orientation : Entry → State → State → Bool
is_same_orientation item s t =
    sets_same_orientation item s && (has_spacing s.settings.job || not (s.settings.fields.vmi == t.settings.fields.vmi))

-- ---- 106 RoundedColumn (the manual's "Horizontal Motion Index (HMI) Command")

-- text, and moves and margins in columns
abbrev pub uses_column : Entry → Bool
uses_column (Text code) = true
uses_column (WithData TransparentText bytes) = nat_lt 0 (length bytes)
uses_column (Parameterized Column n) = true
uses_column (Parameterized LeftMargin n) = true
uses_column (Parameterized RightMargin n) = true
uses_column _ = false

-- so many ticks are no whole number of PCL units, of which an inch has this many
abbrev pub is_rounded : ℕ → ℕ → Bool
is_rounded units_per_inch column = not (column % ticks_of (PclUnit units_per_inch) == 0)

-- the column in force is used, and is no whole number of the PCL units in force
abbrev pub is_rounded_column : Printer → Entry → State → Bool
is_rounded_column printer item s =
    uses_column item && option_map_or (is_rounded s.settings.job.units_per_inch) (column_of printer s) false

-- ---- 109 ShortRaster (the manual's "End Raster Graphics Command")

-- so many rows are left of a height, where one is set
abbrev pub has_rows : StartedRaster → Bool
has_rows raster = option_map_or (nat_lt 0) raster.rows_left false

-- a raster is started that has rows left of its height
abbrev pub has_rows_left : Option StartedRaster → Bool
has_rows_left raster = option_map_or has_rows raster false

-- such a raster ends: none is started behind the item, or the item is none of rasters, which ends it as it begins
abbrev pub is_short_raster : Entry → State → State → Bool
is_short_raster item s t = has_rows_left s.raster && (is_none t.raster || not (is_of_raster item))

-- ---- 110 BlankOverflow (the manual's "Perforation Skip Command")

-- a line feed, or a half one, or a return that feeds a line
abbrev pub feeds_line : Entry → State → Bool
feeds_line LineFeed s = true
feeds_line HalfLineFeed s = true
feeds_line CarriageReturn s = (line_termination s).feeds_at_return
feeds_line _ s = false

-- on a page without a mark one leads past the bottom margin, and so home
abbrev pub is_blank_overflow : Entry → State → State → Bool
is_blank_overflow item s t = feeds_line item s && not s.marked && is_none t.cursor.y

-- ---- 111 SourceMovesLeft (the manual's "Paper (Media) Source Command", "Simplex/Duplex Print Command")

abbrev pub is_source : Entry → Bool
is_source (Parameterized Source n) = true
is_source (Parameterized Sides n) = true
is_source _ = false

-- a paper source or sides are chosen where the left margin is not at the left edge
abbrev pub is_source_with_margin : Entry → State → Bool
is_source_with_margin item s = is_source item && not (int_eq s.settings.job.left_margin (pos 0))

-- ---- all of these

-- the notes of an item by the state before it and the state behind it
abbrev pub state_notes : Printer → Placed → State → State → List Told
state_notes printer x s t =
    told_if (is_same_orientation x.item s t) x.place SameOrientation
    ++ told_if (is_rounded_column printer x.item s) x.place RoundedColumn
    ++ told_if (is_short_raster x.item s t) x.place ShortRaster
    ++ told_if (is_blank_overflow x.item s t) x.place BlankOverflow
    ++ told_if (is_source_with_margin x.item s) x.place SourceMovesLeft
