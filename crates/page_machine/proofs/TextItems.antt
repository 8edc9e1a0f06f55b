-- Lines of text that go are items that are carried out.
use Rattle.std.proofs.Common.{◌≡◌, ℕ, ◌==◌, Bool, true, false, cond, is_some, None, List, [], ◌∷◌, refl, sym, ap, ◌∙◌, append-nil}
use Rattle.device_profile.specs.declared.panel.Panel.{Panel}
use Rattle.device_profile.specs.Printer.{Printer}
use Rattle.pcl_items.specs.Items.{CarriageReturn, LineFeed, Text}
use Rattle.pcl_items.specs.Lines.{line_item}
use Rattle.page_env.specs.declared.text_lines.TextAppearance.{TextAppearance}
use Rattle.page_env.specs.declared.text_lines.TextPlace.{TextPlace}
use Rattle.page_env.specs.Effect.{effect_of}
use Rattle.page_env.specs.Settings.{State, state_at}
use Rattle.page_env.specs.Table.{transition_of}
use Rattle.page_env.specs.TextLines.{AllGo, GoesAt, behind, page_behind, page_behind_all}
use Rattle.page_machine.specs.Event.{Event}
use Rattle.page_machine.specs.Run.{just, after, Done, no_peaks, higher, peaks_of, Conditions, effect_run, item_run}
use Rattle.page_machine.specs.Macros.{in_job}
use Rattle.page_machine.specs.Defining.{defining_of, defining_run, defined_after, macros_after}
use Rattle.page_machine.specs.MachineState.{MachineState}
use Rattle.page_machine.specs.Machine.{context_of, item_of}
use Rattle.page_machine.specs.TextLines.{machine_behind, glyph_events, PrintsLines}

-- a step with these events, by itself and with nothing behind it
pub step_ends : (events : List Event) (s : State) →
    after [] (peaks_of s) (just events (Done s)) ≡ after events (peaks_of s) (just [] (Done s))
step_ends events s =
    let whole = append-nil events in λ i. record { events = sym whole i; peaks = higher (peaks_of s) no_peaks; ending = Done s }

-- an item of lines is its own step, where no raster is started
one_step : (printer : Printer) (conditions : Conditions) (s : State) (code : ℕ) (returns feeds : Bool) →
    item_run printer conditions (cond returns CarriageReturn (cond feeds LineFeed (Text code))) (record s { raster = None }) ≡
    effect_run conditions
    (effect_of s.settings
    (transition_of printer conditions.defaults (record s { raster = None })
    (cond returns CarriageReturn (cond feeds LineFeed (Text code)))))
one_step printer conditions s code true feeds = refl
one_step printer conditions s code false true = refl
one_step printer conditions s code false false = refl

module _ (machine : MachineState) (code : ℕ) (none : machine.macros.definition ≡ None) where
  -- where no definition is open, a byte is carried out and leaves the macros
  byte_is_carried : (panel : Panel) →
      (item_of machine (line_item code)).run panel
      ≡ item_run machine.printer (in_job (context_of machine panel)) (line_item code) (state_at panel machine.page)
  byte_is_carried panel =
      ap
      (λ d. cond (is_some d) (defining_run machine.macros (line_item code) (defining_of (line_item code)) (state_at panel machine.page))
      (item_run machine.printer (in_job (context_of machine panel)) (line_item code) (state_at panel machine.page)))
      none

  macros_stay : (item_of machine (line_item code)).macros ≡ machine.macros
  macros_stay = by (code == 13) (code == 10)
    where
      by : (returns feeds : Bool) →
          macros_after machine.page.env.job.macro_id (cond returns CarriageReturn (cond feeds LineFeed (Text code))) machine.macros
          ≡ machine.macros
      by true feeds =
          ap (λ d. cond (is_some d) (defined_after CarriageReturn (defining_of CarriageReturn) machine.macros) machine.macros) none
      by false true = ap (λ d. cond (is_some d) (defined_after LineFeed (defining_of LineFeed) machine.macros) machine.macros) none
      by false false = ap (λ d. cond (is_some d) (defined_after (Text code) (defining_of (Text code)) machine.macros) machine.macros) none

  byte_prints : (look : TextAppearance) (place : TextPlace) → GoesAt machine.printer look place machine.page code → (panel : Panel) →
      let s = state_at panel (page_behind look place code machine.page) in
      (item_of machine (line_item code)).run panel ≡ after (glyph_events look place code) (peaks_of s) (just [] (Done s))
  byte_prints look place h panel =
      let conditions : Conditions = in_job (context_of machine panel) in
      let s : State = state_at panel machine.page in
      byte_is_carried panel
      ∙ ap (λ raster. item_run machine.printer conditions (line_item code) (record s { raster = raster })) h.no_raster
      ∙ one_step machine.printer conditions s code (code == 13) (code == 10)
      ∙ ap
      (λ raster. effect_run conditions
      (effect_of s.settings (transition_of machine.printer conditions.defaults (record s { raster = raster }) (line_item code))))
      (sym h.no_raster)
      ∙ ap (effect_run conditions) (h.goes panel conditions.defaults)
      ∙ step_ends (glyph_events look place code) (state_at panel (page_behind look place code machine.page))

pub prints_lines : (codes : List ℕ) (look : TextAppearance) (place : TextPlace) (machine : MachineState) →
    machine.macros.definition ≡ None →
    AllGo machine.printer look place machine.page codes →
    PrintsLines look place codes machine (record machine { page = page_behind_all look place codes machine.page })
prints_lines [] look place machine none h = refl
prints_lines (code ∷ codes) look place machine none h = (
  byte_prints machine code none look place h.0,
  macros_stay machine code none,
  prints_lines codes look (behind look code place) (machine_behind look place code machine) none h.1,
)
