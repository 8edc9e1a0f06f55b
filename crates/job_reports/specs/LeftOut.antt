-- What the language leaves out of the values of commands that HP's manual has.
use Rattle.std.specs.Prelude.{ℕ, ◌==◌, ◌&&◌, ◌||◌, nat_le, nat_lt, Bool, true, false, if◌then◌else◌, List, codes}
use Rattle.std.specs.Prelude.{Option, None, Some}
use Rattle.pcl_items.specs.declared.pcl.command.Command.{Command}
use Rattle.pcl_items.specs.declared.pcl.command.Command.TheVariants as commands
use Rattle.pcl_items.specs.declared.frame.Setting.{Setting}
use Rattle.pcl_items.specs.declared.frame.Setting.TheVariants as settings
use Rattle.pcl_items.specs.Escapes.Value.{Amount, is_whole, whole_part}
use Rattle.pcl_items.specs.Items.{Entry, Parameterized, SymbolSet, Set, simple_view}
use Rattle.page_env.specs.declared.finding.Finding.TheVariants.{BadValue}
use Rattle.page_env.specs.Numbers.{is_negative}
use Rattle.verdict.specs.declared.reason.Reason.TheVariants.{Finding}
use Rattle.line_words.specs.Reason.{short_reason}
use Rattle.judgement.specs.declared.failing_item.FailingItem.{FailingItem}
use Rattle.judgement.specs.declared.failing_item.FailingItem.TheVariants.{Simple}
use Rattle.job_reports.specs.declared.left_out.LeftOut.{LeftOut}
use Rattle.job_reports.specs.declared.left_out.LeftOut.TheVariants as left_outs

abbrev pub where_is : Bool → LeftOut → Option LeftOut
where_is is_so what = if is_so then Some what else None

abbrev pub is_between : (low value high : ℕ) → Bool
is_between low value high = nat_le low value && nat_le value high

-- the methods of the manual by which rasters are compressed: 1, 2, 3, 5 and 9
abbrev pub is_method_left_out : ℕ → Bool
is_method_left_out value = (is_between 1 value 3 || (value == 5)) || (value == 9)

-- Of a command by a whole value that is not taken. The last five take their values from these bounds:
-- there it is a macro that the item runs, or the overlay of a page that it closes, that has another one.
abbrev pub left_out_at : Command → ℕ → Option LeftOut
left_out_at commands.FontSpacing value = where_is (value == 1) left_outs.Proportional
left_out_at commands.CompressionMethod value = where_is (is_method_left_out value) left_outs.Compression
left_out_at commands.RasterResolution value = where_is (nat_lt 0 value) left_outs.Resolution
left_out_at commands.StartRaster value = where_is (is_between 2 value 3) left_outs.Scaling
left_out_at commands.FillRectangle value = where_is (is_between 4 value 5) left_outs.Pattern
left_out_at commands.MacroControl value =
    if value == 10 then Some left_outs.Permanent else where_is (nat_le value 9) left_outs.InMacro
left_out_at commands.PageSize value = where_is (is_between 1 value 999) left_outs.InMacro
left_out_at commands.Orientation value = where_is (nat_le value 3) left_outs.InMacro
left_out_at commands.Sides value = where_is (nat_le value 2) left_outs.InMacro
left_out_at commands.Source value = where_is (nat_le value 255) left_outs.InMacro
left_out_at _ value = None

-- These two take decimals within their bounds, and any other value is wrong. Each other command that takes decimals
-- does not take a negative value alone, or 0.
abbrev pub takes_decimals : Command → Bool
takes_decimals commands.VerticalMotionIndex = true
takes_decimals commands.HorizontalMotionIndex = true
takes_decimals _ = false

-- of a command by a value that is not taken: printers cut the decimals of one that has to be whole
abbrev pub left_out_by : Command → Amount → Option LeftOut
left_out_by command n =
    if takes_decimals command then None
    else (if is_negative n then None
    else (if is_whole n then left_out_at command (whole_part n) else Some left_outs.Decimals))

-- of a command of a frame: `SP` takes 0 and 1, and `PW` all but 0
abbrev pub setting_left_out : Setting → LeftOut
setting_left_out settings.Pen = left_outs.Pen
setting_left_out settings.Width = left_outs.ThinLine

-- of an item; one without a value runs an overlay that has it
abbrev pub left_out_in : Entry → Option LeftOut
left_out_in (Parameterized command n) = left_out_by command n
left_out_in (SymbolSet n letter) = None
left_out_in (Set setting n) = Some (setting_left_out setting)
left_out_in _ = Some left_outs.InMacro

-- of the item that a job fails at, or of its end, which may run an overlay, too
abbrev pub left_out_of : Option FailingItem → Option LeftOut
left_out_of (Some (Simple item)) = left_out_in (simple_view item)
left_out_of _ = Some left_outs.InMacro

-- why such a value is not taken, in a few words
abbrev pub value_words : Option LeftOut → List ℕ
value_words None = short_reason (Finding BadValue)
value_words (Some left_outs.Decimals) = codes "pclcheck does not check decimals of this value"
value_words (Some left_outs.Proportional) = codes "pclcheck does not check proportional spacing"
value_words (Some left_outs.Compression) = codes "pclcheck does not check compressed rasters"
value_words (Some left_outs.Resolution) = codes "pclcheck does not check rasters of this resolution"
value_words (Some left_outs.Scaling) = codes "pclcheck does not check scaled rasters"
value_words (Some left_outs.Pattern) = codes "pclcheck does not check patterns that a job defines"
value_words (Some left_outs.Permanent) = codes "pclcheck does not check permanent macros"
value_words (Some left_outs.Pen) = codes "pclcheck does not check pens other than 0 and 1"
value_words (Some left_outs.ThinLine) = codes "pclcheck does not check lines as thin as can be"
value_words (Some left_outs.InMacro) = codes "a value here or in a macro is one that pclcheck does not take"
