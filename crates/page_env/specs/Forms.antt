-- Moves of the cursor, its stack, and rectangles, one behind another, by what is looked up once of the page.
use Rattle.std.specs.Prelude.{◌≡◌, ℕ, ◌/◌, Option, None, IfSome, List, [], length}
use Rattle.tick_length.specs.declared.unit.Unit.TheVariants.{PclUnit}
use Rattle.tick_length.specs.Unit.{ticks_of}
use Rattle.pcl_items.specs.Escapes.Value.{Amount}
use Rattle.pcl_items.specs.declared.pcl.command.Command.{Command}
use Rattle.pcl_items.specs.declared.pcl.command.Command.TheVariants as commands
use Rattle.device_profile.specs.declared.geometry.Geometry.{Geometry}
use Rattle.device_profile.specs.declared.panel.Panel.{Panel}
use Rattle.device_profile.specs.Printer.{Printer}
use Rattle.page_env.specs.declared.lookup.FormBounds.{FormBounds}
use Rattle.page_env.specs.declared.page.JobSettings.{JobSettings}
use Rattle.page_env.specs.declared.page.Page.{Page}
use Rattle.page_env.specs.Effect.{Goes, effect_of, first_unset}
use Rattle.page_env.specs.Mark.{Shape}
use Rattle.page_env.specs.Motion.{half_line_feed}
use Rattle.page_env.specs.Places.{geometry_of, origin_on, page_reads}
use Rattle.page_env.specs.Settings.{Settings, settings_at, state_at}
use Rattle.page_env.specs.Table.{command_transition}
use Rattle.page_env.specs.TextMeasure.{area_of}

-- the page in force is this one, whatever the panel, and no raster is started
pub record KnowsPage (printer : Printer) (page : Page) (g : Geometry) : Type 0 where
  pub no_raster : page.raster ≡ None
  pub read : (panel : Panel) → first_unset (settings_at panel page.env) page_reads ≡ None
  pub geometry : (panel : Panel) → geometry_of printer (state_at panel page) ≡ g

-- what is looked up is that of a page and of the settings
pub record Bound (bounds : FormBounds) (g : Geometry) (job : JobSettings) : Type 0 where
  pub width : bounds.width ≡ g.logical_width
  pub height : bounds.height ≡ g.logical_height
  pub origin : bounds.origin ≡ origin_on g
  pub area : bounds.area ≡ area_of g
  pub top : bounds.top ≡ job.top_margin
  pub unit : bounds.unit ≡ ticks_of (PclUnit job.units_per_inch) / 10_000

-- it is that of the page in force, whatever the panel, and no raster is started
pub record HasBounds (printer : Printer) (page : Page) (bounds : FormBounds) : Type 0 where
  pub geometry : Geometry
  pub has : KnowsPage printer page geometry
  pub bound : Bound bounds geometry page.env.job

-- a move to the left or right, or up or down, in PCL units, in decipoints, and in columns or rows; a use of the cursor
-- stack; a width, a height, and a rectangle that is filled
pub data Form : Type 0 where
  Across : Form
  Down : Form
  AcrossDecipoints : Form
  DownDecipoints : Form
  Columns : Form
  Rows : Form
  Stacked : Form
  Width : Form
  Height : Form
  Filled : Form

-- the command of a form
abbrev pub command_of : Form → Command
command_of Across = commands.HorizontalUnits
command_of Down = commands.VerticalUnits
command_of AcrossDecipoints = commands.HorizontalDecipoints
command_of DownDecipoints = commands.VerticalDecipoints
command_of Columns = commands.Column
command_of Rows = commands.Row
command_of Stacked = commands.CursorStack
command_of Width = commands.RectangleWidth
command_of Height = commands.RectangleHeight
command_of Filled = commands.FillRectangle

-- a page is another but for what these commands change
abbrev pub LeavesRest : Page → Page → Type 0
LeavesRest old new =
    new
    ≡ record old {
      env = record old.env {
        job = record old.env.job {
          rectangle_width = new.env.job.rectangle_width;
          rectangle_height = new.env.job.rectangle_height;
        };
      };
      cursor = new.cursor;
      stack = new.stack;
      marked = new.marked;
    }

-- one of these commands goes, whatever the panel, with so many marks
pub record FormGoes (printer : Printer) (command : Command) (n : Amount) (marks : ℕ) (old new : Page) : Type 0 where
  pub form : Form
  pub is : command ≡ command_of form
  pub shapes : List Shape
  pub count : length shapes ≡ marks
  pub goes : (panel : Panel) (defaults : Settings) →
      effect_of (settings_at panel old.env) (command_transition printer defaults (state_at panel old) command n)
      ≡ Goes (state_at panel new) shapes
  pub rest : LeavesRest old new

-- what is answered of a command: with how many marks it goes where this is what it takes, if that is known
abbrev pub FormsBy : FormBounds → Command → Amount → Page → Page → Option ℕ → Type 0
FormsBy bounds command n old new answer =
    IfSome answer
    (λ marks. (printer : Printer) → HasBounds printer old bounds → FormGoes printer command n marks old new)

-- half a line is fed, whatever the panel
pub record FeedGoes (printer : Printer) (old new : Page) : Type 0 where
  pub goes : (panel : Panel) →
      effect_of (settings_at panel old.env) (half_line_feed printer (state_at panel old)) ≡ Goes (state_at panel new) []
  pub rest : LeavesRest old new

-- so it is where this is what moves take
abbrev pub FeedsBy : FormBounds → Page → Page → Type 0
FeedsBy bounds old new = (printer : Printer) → HasBounds printer old bounds → FeedGoes printer old new
