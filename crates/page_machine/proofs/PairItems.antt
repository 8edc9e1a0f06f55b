-- Moves of the pen that lead within a box are items that are carried out.
use Rattle.std.proofs.Common.{◌≡◌, ℕ, ℤ, Bool, true, false, cond, is_some, max, Option, None, Some, unwrap_or, List, [], ◌∷◌, ◌++◌, map}
use Rattle.std.proofs.Common.{length, refl, sym, ap, subst, ◌∙◌, append-nil}
use Rattle.std.specs.Prelude.{IfSome}
use Rattle.std.proofs.Math.Nat.{max-zero}
use Rattle.std.proofs.lemmas.List.{map-append}
use Rattle.device_profile.specs.declared.panel.Panel.{Panel}
use Rattle.device_profile.specs.Printer.{Printer}
use Rattle.pcl_items.specs.declared.frame.Motion.{Motion}
use Rattle.pcl_items.specs.declared.frame.Motion.TheVariants.{Absolute, Down, Relative, Up}
use Rattle.pcl_items.specs.declared.item.Mode.{Mode}
use Rattle.pcl_items.specs.declared.item.Mode.TheVariants.{Frame, Pcl, Pjl}
use Rattle.pcl_items.specs.Modes.{follows}
use Rattle.pcl_items.specs.Items.{Entry, Move}
use Rattle.page_env.specs.declared.finding.Finding.TheVariants.{OutsideFrame}
use Rattle.page_env.specs.declared.mark.PenLine.{PenLine}
use Rattle.page_env.specs.declared.page.Page.{Page}
use Rattle.page_env.specs.declared.page.Pen.{Pen}
use Rattle.page_env.specs.declared.page.PenPlace.{PenPlace}
use Rattle.page_env.specs.declared.plot.PenBounds.{PenBounds}
use Rattle.page_env.specs.Effect.{Effect, Goes, Step, effect_of, fails_or, moving}
use Rattle.page_env.specs.Mark.{Line, Shape}
use Rattle.page_env.specs.Pens.{draw, lower_pen, motion_step, move_pen, pen_target}
use Rattle.page_env.specs.Plot.{DrawsTo, DrawsWithin, dots, led, lies_within, lines_to, marked_by, marks_both, page_with, pen_at, turned}
use Rattle.page_env.specs.Settings.{State, settings_at, state_at}
use Rattle.page_machine.specs.Event.{Event, Marked}
use Rattle.page_machine.specs.Run.{Conditions, Done, Peaks, after, effect_run, followed_by, goes, item_run, just, move_run, peaks_of}
use Rattle.page_machine.specs.Run.{transition_run}
use Rattle.page_machine.specs.Macros.{in_job}
use Rattle.page_machine.specs.Defining.{defined_after, defining_of, defining_run}
use Rattle.page_machine.specs.MachineState.{MachineState}
use Rattle.page_machine.specs.Machine.{context_of, item_of}
use Rattle.page_machine.specs.PenLines.{DrawsIn, MovesPen}
use Rattle.page_machine.proofs.TextItems.{step_ends}

-- ---- both steps of a command, whatever the panel

module _ (printer : Printer) (page : Page) (box : PenBounds) (within : DrawsWithin printer page box) where
  abbrev pen : Pen
  pen = page.env.job.pen

  abbrev own_marks : Motion → List Shape
  own_marks motion = dots within.line motion pen

  -- the page behind the own step
  abbrev behind_own : Motion → Page
  behind_own motion = page_with (turned motion pen) (marked_by (own_marks motion) page.marked) page

  abbrev dot : List Shape
  dot = Line (within.line pen.place pen.place) ∷ []

  -- a pen that is lowered, whether it was up or not
  lowered : (panel : Panel) (is_down : Bool) → pen.is_down ≡ is_down →
      effect_of (settings_at panel page.env) (Step (lower_pen printer (state_at panel page)))
      ≡ Goes (state_at panel (behind_own Down)) (own_marks Down)
  lowered panel true is =
      let s : State = state_at panel page in
      let behind : Bool → Effect =
      λ d. Goes (state_at panel (page_with (record pen { is_down = true }) (marked_by (cond d [] dot) page.marked) page)) (cond d [] dot) in
      ap (λ d. effect_of s.settings (Step (cond d (moving s) (draw printer s pen.place)))) is
      ∙ ap (λ d. Goes (state_at panel (page_with (record pen { is_down = d }) page.marked page)) []) is
      ∙ ap behind (sym is)
  lowered panel false is =
      let s : State = state_at panel page in
      let behind : Bool → Effect =
      λ d. Goes (state_at panel (page_with (record pen { is_down = true }) (marked_by (cond d [] dot) page.marked) page)) (cond d [] dot) in
      ap (λ d. effect_of s.settings (Step (cond d (moving s) (draw printer s pen.place)))) is
      ∙ within.draws pen.place pen.place within.inside within.inside panel pen.is_down pen.is_relative page.marked
      ∙ ap behind (sym is)

  own_goes : (motion : Motion) (panel : Panel) →
      effect_of (settings_at panel page.env) (Step (motion_step printer (state_at panel page) motion))
      ≡ Goes (state_at panel (behind_own motion)) (own_marks motion)
  own_goes Up panel = refl
  own_goes Absolute panel = refl
  own_goes Relative panel = refl
  own_goes Down panel = lowered panel pen.is_down refl

  -- the page behind a move of this pen to a place, where these marks are made
  abbrev behind_move : Pen → Bool → ℤ × ℤ → Page
  behind_move turn marked to =
      page_with (record turn { place = pen_target turn to }) (marked_by (lines_to within.line turn (Some to)) marked) page

  move_by : (is_down is_relative marked : Bool) (to : ℤ × ℤ) →
      let turn = pen_at is_down is_relative pen.place page in
      lies_within box (pen_target turn to) ≡ true → (panel : Panel) →
      let mid = page_with turn marked page in
      effect_of (settings_at panel mid.env) (Step (move_pen printer (state_at panel mid) to))
      ≡ Goes (state_at panel (behind_move turn marked to)) (lines_to within.line turn (Some to))
  move_by true is_relative marked to inside panel =
      within.draws pen.place (pen_target (pen_at true is_relative pen.place page) to) within.inside inside panel true is_relative marked
  move_by false is_relative marked to inside panel =
      let turn = pen_at false is_relative pen.place page in
      ap (λ far. fails_or (cond far (Some OutsideFrame) None) (Goes (state_at panel (behind_move turn marked to)) []))
      (within.near (pen_target turn to) inside)

  move_goes : (motion : Motion) (marked : Bool) (to : ℤ × ℤ) → lies_within box (pen_target (turned motion pen) to) ≡ true →
      (panel : Panel) →
      let mid = page_with (turned motion pen) marked page in
      effect_of (settings_at panel mid.env) (Step (move_pen printer (state_at panel mid) to))
      ≡ Goes (state_at panel (behind_move (turned motion pen) marked to)) (lines_to within.line (turned motion pen) (Some to))
  move_goes Up marked to inside panel = move_by false pen.is_relative marked to inside panel
  move_goes Down marked to inside panel = move_by true pen.is_relative marked to inside panel
  move_goes Absolute marked to inside panel = move_by pen.is_down false marked to inside panel
  move_goes Relative marked to inside panel = move_by pen.is_down true marked to inside panel

  -- behind both the pen draws within the box still
  still_within : (motion : Motion) (place : PenPlace) (marked : Bool) → lies_within box place ≡ true →
      DrawsWithin printer (page_with (record (turned motion pen) { place = place }) marked page) box
  still_within Up place marked inside = record {
    no_raster = within.no_raster;
    inside = inside;
    near = within.near;
    line = within.line;
    draws = within.draws;
  }
  still_within Down place marked inside = record {
    no_raster = within.no_raster;
    inside = inside;
    near = within.near;
    line = within.line;
    draws = within.draws;
  }
  still_within Absolute place marked inside = record {
    no_raster = within.no_raster;
    inside = inside;
    near = within.near;
    line = within.line;
    draws = within.draws;
  }
  still_within Relative place marked inside = record {
    no_raster = within.no_raster;
    inside = inside;
    near = within.near;
    line = within.line;
    draws = within.draws;
  }

-- ---- the run of the item

-- what both steps peak with
abbrev peaks_both : State → State → Peaks
peaks_both s t = record { level = 0; stack = max (max (length s.stack) 0) (max (length t.stack) 0); memory = 0 }

-- a step with these events, and then one with those
step_step : (first second : List Event) (s t : State) →
    followed_by (after [] (peaks_of s) (just first (Done s))) (λ u. after [] (peaks_of t) (just second (Done t)))
    ≡ after (first ++ second) (peaks_both s t) (just [] (Done t))
step_step first second s t = λ i. record {
  events = sym (append-nil (first ++ second)) i;
  peaks = record {
    level = 0;
    stack = sym (max-zero (max (max (length s.stack) 0) (max (length t.stack) 0))) i;
    memory = 0;
  };
  ending = Done t;
}

-- what an item peaks with that moves the pen from one page by another to a third
abbrev peaks_with : Option (ℤ × ℤ) → Page → Page → Panel → Peaks
peaks_with None mid page panel = peaks_of (state_at panel page)
peaks_with (Some to) mid page panel = peaks_both (state_at panel mid) (state_at panel page)

module _ (printer : Printer) (old : Page) (box : PenBounds) (within : DrawsWithin printer old box) (motion : Motion) (new : Page)
    (conditions : Conditions) (panel : Panel) where
  abbrev s : State
  s = state_at panel old

  abbrev turn : Pen
  turn = turned motion old.env.job.pen

  abbrev first : List Shape
  first = dots within.line motion old.env.job.pen

  abbrev mid : Page
  mid = page_with turn (marked_by first old.marked) old

  one_run : (to : Option (ℤ × ℤ)) → lies_within box (led turn to) ≡ true →
      new ≡ page_with (record turn { place = led turn to }) (marks_both first (lines_to within.line turn to) old.marked) old →
      item_run printer conditions (Move motion to) s
      ≡ after (map Marked (first ++ lines_to within.line turn to)) (peaks_with to mid new panel) (just [] (Done (state_at panel new)))
  one_run None inside is =
      ap (λ raster. item_run printer conditions (Move motion None) (record s { raster = raster })) within.no_raster
      ∙ ap
      (λ raster. transition_run conditions (record s { raster = raster })
      (Step (motion_step printer (record s { raster = raster }) motion)))
      (sym within.no_raster)
      ∙ ap (effect_run conditions) (own_goes printer old box within motion panel)
      ∙ ap (λ p. goes (state_at panel p) first) (sym is)
      ∙ step_ends (map Marked first) (state_at panel new)
      ∙ ap (λ shapes. after (map Marked shapes) (peaks_of (state_at panel new)) (just [] (Done (state_at panel new))))
      (sym (append-nil first))
  one_run (Some to) inside is =
      let second : List Shape = lines_to within.line turn (Some to) in
      ap (λ raster. item_run printer conditions (Move motion (Some to)) (record s { raster = raster })) within.no_raster
      ∙ ap
      (λ raster. followed_by
      (transition_run conditions (record s { raster = raster }) (Step (motion_step printer (record s { raster = raster }) motion)))
      (move_run printer conditions to))
      (sym within.no_raster)
      ∙ ap (λ effect. followed_by (effect_run conditions effect) (move_run printer conditions to))
      (own_goes printer old box within motion panel)
      ∙ ap (λ effect. followed_by (goes (state_at panel mid) first) (λ u. effect_run conditions effect))
      (move_goes printer old box within motion (marked_by first old.marked) to inside panel)
      ∙ ap (λ p. followed_by (goes (state_at panel mid) first) (λ u. goes (state_at panel p) second)) (sym is)
      ∙ step_step (map Marked first) (map Marked second) (state_at panel mid) (state_at panel new)
      ∙ ap (λ events. after events (peaks_both (state_at panel mid) (state_at panel new)) (just [] (Done (state_at panel new))))
      (sym (map-append Marked first second))

module _ (box : PenBounds) (machine : MachineState) (motion : Motion) (to : Option (ℤ × ℤ)) (marks : ℕ) (page : Page)
    (draws : DrawsIn box machine) (leads : DrawsTo box motion to marks machine.page page) where
  abbrev item : Entry
  item = Move motion to

  abbrev turn_of : Pen
  turn_of = turned motion machine.page.env.job.pen

  abbrev line : PenPlace → PenPlace → PenLine
  line = draws.within.line

  abbrev between : Page
  between = page_with turn_of (marked_by (dots line motion machine.page.env.job.pen) machine.page.marked) machine.page

  item_is_carried : (panel : Panel) →
      (item_of machine item).run panel ≡ item_run machine.printer (in_job (context_of machine panel)) item (state_at panel machine.page)
  item_is_carried panel =
      ap
      (λ d. cond (is_some d) (defining_run machine.macros item (defining_of item) (state_at panel machine.page))
      (item_run machine.printer (in_job (context_of machine panel)) item (state_at panel machine.page)))
      draws.no_definition

  mode_stays : (mode : Mode) → unwrap_or (follows mode item) mode ≡ mode
  mode_stays Pcl = refl
  mode_stays Frame = refl
  mode_stays Pjl = refl

  pub moves_pen : MovesPen box motion to marks machine (record machine { page = page })
  moves_pen = record {
    shapes = dots line motion machine.page.env.job.pen ++ lines_to line turn_of to;
    count = leads.count line;
    peaks = peaks_with to between page;
    is = refl;
    macros = ap (λ d. cond (is_some d) (defined_after item (defining_of item) machine.macros) machine.macros) draws.no_definition;
    mode = mode_stays machine.mode;
    run = λ panel.
        item_is_carried panel
        ∙ one_run machine.printer machine.page box draws.within motion page (in_job (context_of machine panel)) panel to leads.inside
        (leads.page line);
    overlay = ap (λ (p : Page). p.env.job.overlay) (leads.page line);
    still = record {
      within =
          subst (λ p. DrawsWithin machine.printer p box) (sym (leads.page line))
          (still_within machine.printer machine.page box draws.within motion (led turn_of to)
          (marks_both (dots line motion machine.page.env.job.pen) (lines_to line turn_of to) machine.page.marked) leads.inside);
      no_definition = draws.no_definition;
    };
  }

-- so it is with what is answered of a command
pub pens_move : (box : PenBounds) (machine : MachineState) (motion : Motion) (to : Option (ℤ × ℤ)) (page : Page) (answer : Option ℕ) →
    IfSome answer (λ marks. DrawsTo box motion to marks machine.page page) →
    IfSome answer (λ marks. DrawsIn box machine → MovesPen box motion to marks machine (record machine { page = page }))
pens_move box machine motion to page None leads = tt
pens_move box machine motion to page (Some marks) leads = λ draws. moves_pen box machine motion to marks page draws leads
