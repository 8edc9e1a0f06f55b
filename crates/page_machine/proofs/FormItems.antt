-- Moves and rectangles that go are items that are carried out.
use Rattle.std.proofs.Common.{◌≡◌, ℕ, cond, is_some, Option, None, Some, unwrap_or, List, [], map, refl, sym, ap, subst, ◌∙◌}
use Rattle.std.specs.Prelude.{IfSome}
use Rattle.device_profile.specs.declared.panel.Panel.{Panel}
use Rattle.device_profile.specs.Printer.{Printer}
use Rattle.pcl_items.specs.Escapes.Value.{Amount}
use Rattle.pcl_items.specs.declared.item.Mode.{Mode}
use Rattle.pcl_items.specs.declared.item.Mode.TheVariants.{Pcl}
use Rattle.pcl_items.specs.declared.pcl.command.Command.{Command}
use Rattle.pcl_items.specs.declared.pcl.command.Command.TheVariants as commands
use Rattle.pcl_items.specs.Items.{Entry, HalfLineFeed, Parameterized}
use Rattle.pcl_items.specs.Modes.{follows}
use Rattle.page_env.specs.declared.page.Page.{Page}
use Rattle.page_env.specs.Effect.{Goes, effect_of}
use Rattle.page_env.specs.declared.lookup.FormBounds.{FormBounds}
use Rattle.page_env.specs.Forms.{Across, AcrossDecipoints, Columns, Down, DownDecipoints, FeedGoes, FeedsBy, Filled, Form, FormGoes}
use Rattle.page_env.specs.Forms.{FormsBy, Height}
use Rattle.page_env.specs.Forms.{Rows, Stacked, Width, command_of}
use Rattle.page_env.specs.Mark.{Shape}
use Rattle.page_env.specs.Motion.{half_line_feed}
use Rattle.page_env.specs.Settings.{Settings, State, state_at}
use Rattle.page_env.specs.Table.{command_transition}
use Rattle.page_machine.specs.Event.{Marked}
use Rattle.page_machine.specs.Forms.{FormsOn, RunsFeed, RunsForm}
use Rattle.page_machine.specs.Run.{Conditions, Done, after, effect_run, item_run, just, peaks_of}
use Rattle.page_machine.specs.Macros.{in_job}
use Rattle.page_machine.specs.Defining.{defined_after, defining_of, defining_run}
use Rattle.page_machine.specs.MachineState.{MachineState}
use Rattle.page_machine.specs.Machine.{context_of, item_of}
use Rattle.page_machine.proofs.TextItems.{step_ends}

-- it is its own step, where no raster is started
one_step : (printer : Printer) (conditions : Conditions) (s : State) (n : Amount) (form : Form) →
    item_run printer conditions (Parameterized (command_of form) n) (record s { raster = None })
    ≡ effect_run conditions
    (effect_of s.settings (command_transition printer conditions.defaults (record s { raster = None }) (command_of form) n))
one_step printer conditions s n Across = refl
one_step printer conditions s n Down = refl
one_step printer conditions s n AcrossDecipoints = refl
one_step printer conditions s n DownDecipoints = refl
one_step printer conditions s n Columns = refl
one_step printer conditions s n Rows = refl
one_step printer conditions s n Stacked = refl
one_step printer conditions s n Width = refl
one_step printer conditions s n Height = refl
one_step printer conditions s n Filled = refl

module _ (machine : MachineState) (n : Amount) (none : machine.macros.definition ≡ None) where
  -- where no definition is open, it is carried out and leaves the macros
  is_carried : (item : Entry) (panel : Panel) →
      (item_of machine item).run panel ≡ item_run machine.printer (in_job (context_of machine panel)) item (state_at panel machine.page)
  is_carried item panel =
      ap
      (λ d. cond (is_some d) (defining_run machine.macros item (defining_of item) (state_at panel machine.page))
      (item_run machine.printer (in_job (context_of machine panel)) item (state_at panel machine.page)))
      none

  macros_stay : (form : Form) → (item_of machine (Parameterized (command_of form) n)).macros ≡ machine.macros
  macros_stay Across =
      let item : Entry = Parameterized commands.HorizontalUnits n in
      ap (λ d. cond (is_some d) (defined_after item (defining_of item) machine.macros) machine.macros) none
  macros_stay Down =
      let item : Entry = Parameterized commands.VerticalUnits n in
      ap (λ d. cond (is_some d) (defined_after item (defining_of item) machine.macros) machine.macros) none
  macros_stay AcrossDecipoints =
      let item : Entry = Parameterized commands.HorizontalDecipoints n in
      ap (λ d. cond (is_some d) (defined_after item (defining_of item) machine.macros) machine.macros) none
  macros_stay DownDecipoints =
      let item : Entry = Parameterized commands.VerticalDecipoints n in
      ap (λ d. cond (is_some d) (defined_after item (defining_of item) machine.macros) machine.macros) none
  macros_stay Columns =
      let item : Entry = Parameterized commands.Column n in
      ap (λ d. cond (is_some d) (defined_after item (defining_of item) machine.macros) machine.macros) none
  macros_stay Rows =
      let item : Entry = Parameterized commands.Row n in
      ap (λ d. cond (is_some d) (defined_after item (defining_of item) machine.macros) machine.macros) none
  macros_stay Stacked =
      let item : Entry = Parameterized commands.CursorStack n in
      ap (λ d. cond (is_some d) (defined_after item (defining_of item) machine.macros) machine.macros) none
  macros_stay Width =
      let item : Entry = Parameterized commands.RectangleWidth n in
      ap (λ d. cond (is_some d) (defined_after item (defining_of item) machine.macros) machine.macros) none
  macros_stay Height =
      let item : Entry = Parameterized commands.RectangleHeight n in
      ap (λ d. cond (is_some d) (defined_after item (defining_of item) machine.macros) machine.macros) none
  macros_stay Filled =
      let item : Entry = Parameterized commands.FillRectangle n in
      ap (λ d. cond (is_some d) (defined_after item (defining_of item) machine.macros) machine.macros) none

  mode_stays : (command : Command) (mode : Mode) → mode ≡ Pcl → unwrap_or (follows mode (Parameterized command n)) mode ≡ mode
  mode_stays command mode is = subst (λ m. unwrap_or (follows m (Parameterized command n)) m ≡ m) (sym is) refl

  form_run : (form : Form) (page : Page) (shapes : List Shape) (panel : Panel) → machine.page.raster ≡ None →
      ((defaults : Settings) →
      effect_of (state_at panel machine.page).settings
      (command_transition machine.printer defaults (state_at panel machine.page) (command_of form) n)
      ≡ Goes (state_at panel page) shapes) →
      (item_of machine (Parameterized (command_of form) n)).run panel
      ≡ after (map Marked shapes) (peaks_of (state_at panel page)) (just [] (Done (state_at panel page)))
  form_run form page shapes panel no_raster goes =
      let conditions : Conditions = in_job (context_of machine panel) in
      let s : State = state_at panel machine.page in
      let item : Entry = Parameterized (command_of form) n in
      is_carried item panel
      ∙ ap (λ raster. item_run machine.printer conditions item (record s { raster = raster })) no_raster
      ∙ one_step machine.printer conditions s n form
      ∙ ap
      (λ raster. effect_run conditions
      (effect_of s.settings
      (command_transition machine.printer conditions.defaults (record s { raster = raster }) (command_of form) n)))
      (sym no_raster)
      ∙ ap (effect_run conditions) (goes conditions.defaults)
      ∙ step_ends (map Marked shapes) (state_at panel page)

  pub form_runs : (command : Command) (marks : ℕ) (page : Page) → machine.page.raster ≡ None → machine.mode ≡ Pcl →
      FormGoes machine.printer command n marks machine.page page → RunsForm command n marks machine (record machine { page = page })
  form_runs command marks page no_raster in_pcl goes = record {
    form = goes.form;
    command_is = goes.is;
    shapes = goes.shapes;
    count = goes.count;
    is = refl;
    macros =
        subst (λ (c : Command). (item_of machine (Parameterized c n)).macros ≡ machine.macros) (sym goes.is) (macros_stay goes.form);
    mode = mode_stays command machine.mode in_pcl;
    run = λ panel.
        subst
        (λ (c : Command). (item_of machine (Parameterized c n)).run panel
        ≡ after (map Marked goes.shapes) (peaks_of (state_at panel page)) (just [] (Done (state_at panel page))))
        (sym goes.is)
        (form_run goes.form page goes.shapes panel no_raster
        (λ defaults.
        subst
        (λ (c : Command). effect_of (state_at panel machine.page).settings
        (command_transition machine.printer defaults (state_at panel machine.page) c n)
        ≡ Goes (state_at panel page) goes.shapes)
        goes.is (goes.goes panel defaults)));
    rest = goes.rest;
  }

-- so it is with what is answered of a command
pub forms_run : (bounds : FormBounds) (machine : MachineState) (command : Command) (n : Amount) (page : Page) (answer : Option ℕ) →
    FormsBy bounds command n machine.page page answer →
    IfSome answer (λ marks. FormsOn bounds machine → RunsForm command n marks machine (record machine { page = page }))
forms_run bounds machine command n page None goes = tt
forms_run bounds machine command n page (Some marks) goes = λ on.
    form_runs machine n on.no_definition command marks page on.page.has.no_raster on.mode (goes machine.printer on.page)

-- ---- half a line

-- its feed is its own step, where no raster is started
feed_step : (printer : Printer) (conditions : Conditions) (s : State) →
    item_run printer conditions HalfLineFeed (record s { raster = None })
    ≡ effect_run conditions (effect_of s.settings (half_line_feed printer (record s { raster = None })))
feed_step printer conditions s = refl

pub feed_runs : (bounds : FormBounds) (machine : MachineState) (page : Page) → FeedsBy bounds machine.page page →
    FormsOn bounds machine → RunsFeed machine (record machine { page = page })
feed_runs bounds machine page feeds on = record {
  is = refl;
  macros =
      ap (λ d. cond (is_some d) (defined_after HalfLineFeed (defining_of HalfLineFeed) machine.macros) machine.macros)
      on.no_definition;
  mode = subst (λ m. unwrap_or (follows m HalfLineFeed) m ≡ m) (sym on.mode) refl;
  run = λ panel.
      let goes : FeedGoes machine.printer machine.page page = feeds machine.printer on.page in
      let conditions : Conditions = in_job (context_of machine panel) in
      let s : State = state_at panel machine.page in
      let raster_none = on.page.has.no_raster in
      ap
      (λ d. cond (is_some d) (defining_run machine.macros HalfLineFeed (defining_of HalfLineFeed) s)
      (item_run machine.printer conditions HalfLineFeed s))
      on.no_definition
      ∙ ap (λ raster. item_run machine.printer conditions HalfLineFeed (record s { raster = raster })) raster_none
      ∙ feed_step machine.printer conditions s
      ∙ ap
      (λ raster. effect_run conditions (effect_of s.settings (half_line_feed machine.printer (record s { raster = raster }))))
      (sym raster_none)
      ∙ ap (effect_run conditions) (goes.goes panel)
      ∙ step_ends [] (state_at panel page);
  rest = (feeds machine.printer on.page).rest;
}
