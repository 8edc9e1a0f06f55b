-- The tables of the parameterized commands.
use Rattle.std.specs.Prelude.{ℕ, ◌==◌, ◌&&◌, List, [], ◌∷◌, Bool, Option, None, Some, if◌then◌else◌}
use Rattle.pcl_items.specs.declared.pcl.command.Group.{Group}
use Rattle.pcl_items.specs.declared.pcl.command.Group.TheVariants as group_kinds
use Rattle.pcl_items.specs.declared.pcl.command.Command.{Command}
use Rattle.pcl_items.specs.declared.pcl.command.DataCommand.{DataCommand}
use Rattle.pcl_items.specs.declared.pcl.command.DataCommand.TheVariants.{TransparentText, RasterRow}
use Rattle.pcl_items.specs.declared.pcl.command.Command.TheVariants as command_kinds

-- the two characters of a group
abbrev pub introducer_of : Group → ℕ
introducer_of group_kinds.Position = 38
introducer_of group_kinds.Macro = 38
introducer_of group_kinds.Spacing = 38
introducer_of group_kinds.Layout = 38
introducer_of group_kinds.Transparent = 38
introducer_of group_kinds.Units = 38
introducer_of group_kinds.RasterData = 42
introducer_of group_kinds.Rectangle = 42
introducer_of group_kinds.UnitPosition = 42
introducer_of group_kinds.Raster = 42
introducer_of group_kinds.Resolution = 42
introducer_of group_kinds.Font = 40

abbrev pub character_of : Group → ℕ
character_of group_kinds.Position = 97
character_of group_kinds.Macro = 102
character_of group_kinds.Spacing = 107
character_of group_kinds.Layout = 108
character_of group_kinds.Transparent = 112
character_of group_kinds.Units = 117
character_of group_kinds.RasterData = 98
character_of group_kinds.Rectangle = 99
character_of group_kinds.UnitPosition = 112
character_of group_kinds.Raster = 114
character_of group_kinds.Resolution = 116
character_of group_kinds.Font = 115

abbrev pub groups : List Group
groups =
    group_kinds.Position ∷ group_kinds.Macro ∷ group_kinds.Spacing ∷ group_kinds.Layout ∷ group_kinds.Transparent
    ∷ group_kinds.Units ∷ group_kinds.RasterData ∷ group_kinds.Rectangle ∷ group_kinds.UnitPosition ∷ group_kinds.Raster
    ∷ group_kinds.Resolution ∷ group_kinds.Font ∷ []

-- the group and the capital letter of each command
abbrev pub spelling_of : Command → Group × ℕ
spelling_of command_kinds.LeftMargin = (group_kinds.Position, 76)
spelling_of command_kinds.RightMargin = (group_kinds.Position, 77)
spelling_of command_kinds.Column = (group_kinds.Position, 67)
spelling_of command_kinds.Row = (group_kinds.Position, 82)
spelling_of command_kinds.HorizontalDecipoints = (group_kinds.Position, 72)
spelling_of command_kinds.VerticalDecipoints = (group_kinds.Position, 86)
spelling_of command_kinds.CursorStack = (group_kinds.Macro, 83)
spelling_of command_kinds.MacroId = (group_kinds.Macro, 89)
spelling_of command_kinds.MacroControl = (group_kinds.Macro, 88)
spelling_of command_kinds.HorizontalMotionIndex = (group_kinds.Spacing, 72)
spelling_of command_kinds.LineTermination = (group_kinds.Spacing, 71)
spelling_of command_kinds.PageSize = (group_kinds.Layout, 65)
spelling_of command_kinds.Orientation = (group_kinds.Layout, 79)
spelling_of command_kinds.Copies = (group_kinds.Layout, 88)
spelling_of command_kinds.Sides = (group_kinds.Layout, 83)
spelling_of command_kinds.Source = (group_kinds.Layout, 72)
spelling_of command_kinds.VerticalMotionIndex = (group_kinds.Layout, 67)
spelling_of command_kinds.LineSpacing = (group_kinds.Layout, 68)
spelling_of command_kinds.TopMargin = (group_kinds.Layout, 69)
spelling_of command_kinds.TextLength = (group_kinds.Layout, 70)
spelling_of command_kinds.PerforationSkip = (group_kinds.Layout, 76)
spelling_of command_kinds.UnitOfMeasure = (group_kinds.Units, 68)
spelling_of command_kinds.RectangleWidth = (group_kinds.Rectangle, 65)
spelling_of command_kinds.RectangleHeight = (group_kinds.Rectangle, 66)
spelling_of command_kinds.FillRectangle = (group_kinds.Rectangle, 80)
spelling_of command_kinds.RectangleWidthDecipoints = (group_kinds.Rectangle, 72)
spelling_of command_kinds.RectangleHeightDecipoints = (group_kinds.Rectangle, 86)
spelling_of command_kinds.FillId = (group_kinds.Rectangle, 71)
spelling_of command_kinds.PictureFrameAnchor = (group_kinds.Rectangle, 84)
spelling_of command_kinds.PictureFrameWidth = (group_kinds.Rectangle, 88)
spelling_of command_kinds.PictureFrameHeight = (group_kinds.Rectangle, 89)
spelling_of command_kinds.RasterResolution = (group_kinds.Resolution, 82)
spelling_of command_kinds.StartRaster = (group_kinds.Raster, 65)
spelling_of command_kinds.RasterWidth = (group_kinds.Raster, 83)
spelling_of command_kinds.RasterHeight = (group_kinds.Raster, 84)
spelling_of command_kinds.RasterPresentation = (group_kinds.Raster, 70)
spelling_of command_kinds.EndRaster = (group_kinds.Raster, 66)
spelling_of command_kinds.EndRasterAndMethod = (group_kinds.Raster, 67)
spelling_of command_kinds.CompressionMethod = (group_kinds.RasterData, 77)
spelling_of command_kinds.RasterOffset = (group_kinds.RasterData, 89)
spelling_of command_kinds.HorizontalUnits = (group_kinds.UnitPosition, 88)
spelling_of command_kinds.VerticalUnits = (group_kinds.UnitPosition, 89)
spelling_of command_kinds.FontSpacing = (group_kinds.Font, 80)
spelling_of command_kinds.FontPitch = (group_kinds.Font, 72)
spelling_of command_kinds.FontHeight = (group_kinds.Font, 86)
spelling_of command_kinds.FontStyle = (group_kinds.Font, 83)
spelling_of command_kinds.FontWeight = (group_kinds.Font, 66)
spelling_of command_kinds.FontTypeface = (group_kinds.Font, 84)

abbrev pub group_of : Command → Group
group_of command = (spelling_of command).0

abbrev pub letter_of : Command → ℕ
letter_of command = (spelling_of command).1

abbrev pub commands : List Command
commands =
    command_kinds.LeftMargin ∷ command_kinds.RightMargin ∷ command_kinds.Column ∷ command_kinds.Row
    ∷ command_kinds.HorizontalDecipoints ∷ command_kinds.VerticalDecipoints ∷ command_kinds.CursorStack
    ∷ command_kinds.MacroId ∷ command_kinds.MacroControl ∷ command_kinds.HorizontalMotionIndex
    ∷ command_kinds.LineTermination ∷ command_kinds.PageSize ∷ command_kinds.Orientation ∷ command_kinds.Copies
    ∷ command_kinds.Sides ∷ command_kinds.Source ∷ command_kinds.VerticalMotionIndex ∷ command_kinds.LineSpacing
    ∷ command_kinds.TopMargin ∷ command_kinds.TextLength ∷ command_kinds.PerforationSkip ∷ command_kinds.UnitOfMeasure
    ∷ command_kinds.RectangleWidth ∷ command_kinds.RectangleHeight ∷ command_kinds.FillRectangle
    ∷ command_kinds.RectangleWidthDecipoints ∷ command_kinds.RectangleHeightDecipoints ∷ command_kinds.FillId
    ∷ command_kinds.PictureFrameAnchor ∷ command_kinds.PictureFrameWidth ∷ command_kinds.PictureFrameHeight
    ∷ command_kinds.RasterResolution ∷ command_kinds.StartRaster ∷ command_kinds.RasterWidth
    ∷ command_kinds.RasterHeight ∷ command_kinds.RasterPresentation ∷ command_kinds.EndRaster
    ∷ command_kinds.EndRasterAndMethod ∷ command_kinds.CompressionMethod ∷ command_kinds.RasterOffset
    ∷ command_kinds.HorizontalUnits ∷ command_kinds.VerticalUnits ∷ command_kinds.FontSpacing ∷ command_kinds.FontPitch
    ∷ command_kinds.FontHeight ∷ command_kinds.FontStyle ∷ command_kinds.FontWeight ∷ command_kinds.FontTypeface ∷ []

abbrev pub first_group : ℕ → ℕ → List Group → Option Group
first_group introducer character [] = None
first_group introducer character (g ∷ gs) =
    if (introducer == introducer_of g) && (character == character_of g) then Some g
    else first_group introducer character gs

-- the group of two characters
abbrev pub group_at : ℕ → ℕ → Option Group
group_at introducer character = first_group introducer character groups

abbrev pub same_group : Group → Group → Bool
same_group g h = (introducer_of g == introducer_of h) && (character_of g == character_of h)

abbrev pub first_command : Group → ℕ → List Command → Option Command
first_command group letter [] = None
first_command group letter (c ∷ cs) =
    if same_group group (group_of c) && (letter == letter_of c) then Some c else first_command group letter cs

-- the command of a group and a capital letter
abbrev pub command_at : Group → ℕ → Option Command
command_at group letter = first_command group letter commands

-- ---- commands with data

-- the group and the capital letter of each command whose number counts the bytes of data behind it
abbrev pub data_spelling_of : DataCommand → Group × ℕ
data_spelling_of TransparentText = (group_kinds.Transparent, 88)
data_spelling_of RasterRow = (group_kinds.RasterData, 87)

abbrev pub data_group_of : DataCommand → Group
data_group_of command = (data_spelling_of command).0

abbrev pub data_letter_of : DataCommand → ℕ
data_letter_of command = (data_spelling_of command).1

abbrev pub data_commands : List DataCommand
data_commands = TransparentText ∷ RasterRow ∷ []

abbrev pub first_data_command : Group → ℕ → List DataCommand → Option DataCommand
first_data_command group letter [] = None
first_data_command group letter (c ∷ cs) =
    if same_group group (data_group_of c) && (letter == data_letter_of c) then Some c
    else first_data_command group letter cs

-- the command with data of a group and a capital letter
abbrev pub data_command_at : Group → ℕ → Option DataCommand
data_command_at group letter = first_data_command group letter data_commands
