-- The items that set what a panel chooses: their checks pass, and each sets its field.
use Rattle.std.proofs.Common.{◌≡◌, ℕ, ℤ, pos, negsuc, suc, ◌==◌, ◌&&◌, nat_lt, nat_le, not, Bool, true, false, cond, List, [], ◌∷◌, ◌++◌}
use Rattle.std.proofs.Common.{drop, refl, ap, sym, ◌∙◌, subst, ltb-true, Option, Some, None, int_lt, ◌-ℤ◌, if◌then◌else◌, arith}
use Rattle.std.proofs.Math.Nat.{mul-div_cancel, mul-mod_left}
use Rattle.std.proofs.lemmas.Bool.Decides.{nat_tests}
use Rattle.std.proofs.lemmas.Int.{ints}
use Rattle.pcl_items.specs.declared.pcl.command.Command.TheVariants as commands
use Rattle.pcl_items.specs.declared.number.Sign.TheVariants.{Absent, Minus}
use Rattle.pcl_items.specs.Items.{Entry, Placed, Reset, Parameterized, SymbolSet}
use Rattle.pcl_items.specs.Escapes.Value.{Amount}
use Rattle.device_profile.specs.declared.font.FontRequest.{FontRequest}
use Rattle.device_profile.specs.declared.panel.Panel.{Panel}
use Rattle.device_profile.specs.Printer.{Printer, has_size, has_orientation, has_tray}
use Rattle.page_env.specs.declared.finding.Finding.{Finding}
use Rattle.page_env.specs.declared.finding.Finding.TheVariants.{BadValue, NotOnDevice, InMacro}
use Rattle.page_env.specs.Effect.{check, first_finding, fails_or, Goes, GoesThenCloses}
use Rattle.page_env.specs.Fonts.{with_font}
use Rattle.page_env.specs.JobControl.{set_copies, sides_checks, set_sides}
use Rattle.page_env.specs.Motion.{with_vmi, set_line_termination}
use Rattle.page_env.specs.Numbers.{whole_of, is_whole_between, signed}
use Rattle.page_env.specs.PageControl.{size_checks, set_size, orientation_checks, set_orientation, source_checks, set_source}
use Rattle.page_env.specs.Settings.{Flags, Settings, State, unwatched, job_defaults, no_parts, user_defaults, start_state}
use Rattle.page_env.specs.FontInForce.{request_at}
use Rattle.page_env.specs.Pinned.{pinned, with_all_parts}
use Rattle.macro_store.specs.Store.{Store}
use Rattle.page_machine.specs.Defining.{is_defining}
use Rattle.page_machine.specs.Job.{JobRun, with_macros, items_run}
use Rattle.page_machine.specs.Pinning.{unsigned, whole, weight_amount, prologue, placed_from}
use Rattle.page_machine.specs.Macros.{in_job}
use Rattle.page_machine.proofs.PinnedOrder.{EndAlike, LeadsTo, led_on}
use Rattle.page_machine.specs.Run.{peaks_of, just, after, followed_by, Done, Halts, effect_run, close_and_change, Conditions, item_run}

-- ---- whole numbers, without a sign

-- the value of a stroke weight
abbrev amount : Bool → ℕ → Amount
amount negative n = record { sign = if negative then Minus else Absent; ten_thousandths = n }

not_below : (n : ℕ) → int_lt (pos n) (pos 0) ≡ false
not_below n = grind (arith, ints, nat_tests)

is_below : (n : ℕ) → int_lt (negsuc n) (pos 0) ≡ true
is_below n = grind (arith, ints, nat_tests)

below : (n : ℕ) → (pos 0 -ℤ pos (suc n)) ≡ negsuc n
below n = grind (arith, ints)

signed_weight : (w : ℤ) → signed (weight_amount w) ≡ w
signed_weight (pos n) = ap (λ (b : Bool). signed (amount b n)) (not_below n)
signed_weight (negsuc n) = ap (λ (b : Bool). signed (amount b (suc n))) (is_below n) ∙ below n

pub whole_of_whole : (n : ℕ) → whole_of (whole n) ≡ n
whole_of_whole n = mul-div_cancel n (ltb-true 0 10_000 refl)

pub whole_between : (low high n : ℕ) → nat_le low n ≡ true → nat_le n high ≡ true → is_whole_between low high (whole n) ≡ true
whole_between low high n above below =
    ap (λ r. (r == 0) && nat_le low (whole_of (whole n)) && nat_le (whole_of (whole n)) high) (mul-mod_left n 10_000)
    ∙ (ap (λ w. nat_le low w && nat_le w high) (whole_of_whole n)
    ∙ (ap (λ b. b && nat_le n high) above ∙ below))

-- ---- parts of the font request

module _ (printer : Printer) (conditions : Conditions) where
  -- no raster is started, as an item begins
  abbrev begun : State → State
  begun s = record s { raster = None }

  pub pitch_leads : (n : ℕ) (s : State) →
      LeadsTo (item_run printer conditions (Parameterized commands.FontPitch (unsigned n)) s)
      (with_font (begun s) (record s.settings.job.font { pitch = Some n }))
  pitch_leads n s = record { events = refl; ending = refl }

  pub height_leads : (n : ℕ) (s : State) →
      LeadsTo (item_run printer conditions (Parameterized commands.FontHeight (unsigned n)) s)
      (with_font (begun s) (record s.settings.job.font { height = Some n }))
  height_leads n s = record { events = refl; ending = refl }

  pub style_leads : (n : ℕ) (s : State) →
      LeadsTo (item_run printer conditions (Parameterized commands.FontStyle (unsigned n)) s)
      (with_font (begun s) (record s.settings.job.font { style = Some n }))
  style_leads n s = record { events = refl; ending = refl }

  pub typeface_leads : (n : ℕ) (s : State) →
      LeadsTo (item_run printer conditions (Parameterized commands.FontTypeface (unsigned n)) s)
      (with_font (begun s) (record s.settings.job.font { typeface = Some n }))
  typeface_leads n s = record { events = refl; ending = refl }

  pub weight_leads : (n : Amount) (s : State) →
      LeadsTo (item_run printer conditions (Parameterized commands.FontWeight n) s)
      (with_font (begun s) (record s.settings.job.font { weight = Some (signed n) }))
  weight_leads n s = record { events = refl; ending = refl }

  pub symbol_set_leads : (n letter : ℕ) (s : State) →
      LeadsTo (item_run printer conditions (SymbolSet (unsigned n) letter) s)
      (with_font (begun s) (record s.settings.job.font { symbol_set = Some (record { number = n; letter = letter }) }))
  symbol_set_leads n letter s = record { events = refl; ending = refl }

  -- all faces are of fixed spacing
  pub spacing_leads : (s : State) →
      LeadsTo (item_run printer conditions (Parameterized commands.FontSpacing (unsigned 0)) s)
      (with_font (begun s) (record s.settings.job.font { spacing = Some 0 }))
  spacing_leads s = record { events = refl; ending = refl }

  -- ---- fields of the panel

  -- a value that passes its check
  one_passes : (b : Bool) → b ≡ true → first_finding (check (not b) BadValue ∷ []) ≡ None
  one_passes true e = refl
  one_passes false e = absurd cc

  -- a value that passes its check, and a device that has it
  two_pass : (b held : Bool) → b ≡ true → held ≡ false → first_finding (check (not b) BadValue ∷ check held NotOnDevice ∷ []) ≡ None
  two_pass true false e h = refl
  two_pass true true e h = absurd cc
  two_pass false held e h = absurd cc

  -- a step whose checks pass
  goes_on : (found : Option Finding) (t : State) → found ≡ None → LeadsTo (effect_run conditions (fails_or found (Goes t []))) t
  goes_on found t e =
      subst (λ (o : Option Finding). LeadsTo (effect_run conditions (fails_or o (Goes t []))) t) (sym e)
      (record { events = refl; ending = refl })

  pub vmi_leads : (n : ℕ) (s : State) → nat_le n 3_350_000 ≡ true →
      LeadsTo (item_run printer conditions (Parameterized commands.VerticalMotionIndex (unsigned n)) s) (with_vmi (begun s) n)
  vmi_leads n s few = goes_on _ (with_vmi (begun s) n) (one_passes (nat_le n 3_350_000) few)

  -- a change of the page where it has no mark, and no paper is fixed
  changes : (found : Option Finding) (w : State) (change : State → State) → found ≡ None → w.marked ≡ false →
      conditions.fixes_paper ≡ false → LeadsTo (effect_run conditions (fails_or found (GoesThenCloses w true change))) (change w)
  changes found w change e unmarked free =
      subst (λ (o : Option Finding). LeadsTo (effect_run conditions (fails_or o (GoesThenCloses w true change))) (change w)) (sym e)
      (subst (λ (b : Bool). LeadsTo (cond b (just [] (Halts InMacro)) (close_and_change conditions w change)) (change w)) (sym free)
      (subst
      (λ (b : Bool).
      LeadsTo (after [] (peaks_of w) (followed_by (cond b (conditions.close w) (just [] (Done w))) (λ t. just [] (Done (change t)))))
      (change w))
      (sym unmarked)
      (record { events = refl; ending = refl })))

  -- the paper can be set, on a page without a mark
  module _ (s : State) (unmarked : s.marked ≡ false) (free : conditions.fixes_paper ≡ false) where
    pub size_leads : (n : ℕ) → is_whole_between 1 999 (whole n) ≡ true → has_size printer.geometries (whole_of (whole n)) ≡ true →
        LeadsTo (item_run printer conditions (Parameterized commands.PageSize (whole n)) s) (set_size (begun s) (whole n))
    size_leads n good has =
        changes (first_finding (size_checks printer (whole n))) (begun s) (λ t. set_size t (whole n))
        (two_pass (is_whole_between 1 999 (whole n)) (not (has_size printer.geometries (whole_of (whole n)))) good (ap not has)) unmarked
        free

    pub orientation_leads : (n : ℕ) → is_whole_between 0 3 (whole n) ≡ true →
        has_orientation printer.geometries (whole_of (whole n)) ≡ true →
        LeadsTo (item_run printer conditions (Parameterized commands.Orientation (whole n)) s)
        (set_orientation conditions.defaults (begun s) (whole n))
    orientation_leads n good has =
        changes (first_finding (orientation_checks printer (whole n))) (begun s) (λ t. set_orientation conditions.defaults t (whole n))
        (two_pass (is_whole_between 0 3 (whole n)) (not (has_orientation printer.geometries (whole_of (whole n)))) good (ap not has))
        unmarked free

    pub source_leads : (n : ℕ) → is_whole_between 0 255 (whole n) ≡ true →
        (nat_lt 0 (whole_of (whole n)) && not (has_tray printer (whole_of (whole n)))) ≡ false →
        LeadsTo (item_run printer conditions (Parameterized commands.Source (whole n)) s) (set_source (begun s) (whole n))
    source_leads n good has =
        changes (first_finding (source_checks printer (whole n))) (begun s) (λ t. set_source t (whole n))
        (two_pass (is_whole_between 0 255 (whole n))
        (nat_lt 0 (whole_of (whole n)) && not (has_tray printer (whole_of (whole n)))) good has)
        unmarked free

    pub sides_leads : (n : ℕ) → is_whole_between 0 2 (whole n) ≡ true → (nat_lt 0 (whole_of (whole n)) && not printer.has_duplex) ≡ false →
        LeadsTo (item_run printer conditions (Parameterized commands.Sides (whole n)) s) (set_sides (begun s) (whole n))
    sides_leads n good has =
        changes (first_finding (sides_checks printer (whole n))) (begun s) (λ t. set_sides t (whole n))
        (two_pass (is_whole_between 0 2 (whole n)) (nat_lt 0 (whole_of (whole n)) && not printer.has_duplex) good has) unmarked free

  pub copies_leads : (n : ℕ) (s : State) → is_whole_between 1 32_767 (whole n) ≡ true →
      LeadsTo (item_run printer conditions (Parameterized commands.Copies (whole n)) s) (set_copies (begun s) (whole n)).state
  copies_leads n s good =
      goes_on (first_finding (set_copies (begun s) (whole n)).checks_before) (set_copies (begun s) (whole n)).state
      (one_passes (is_whole_between 1 32_767 (whole n)) good)

  pub line_termination_leads : (n : ℕ) (s : State) → is_whole_between 0 3 (whole n) ≡ true →
      LeadsTo (item_run printer conditions (Parameterized commands.LineTermination (whole n)) s)
      (set_line_termination (begun s) (whole n)).state
  line_termination_leads n s good =
      goes_on (first_finding (set_line_termination (begun s) (whole n)).checks_before) (set_line_termination (begun s) (whole n)).state
      (one_passes (is_whole_between 0 3 (whole n)) good)

-- ---- the prologue

-- what a printer takes of it
pub record CanBeSent (printer : Printer) (panel : Panel) (request : FontRequest) : Type 0 where
  pub size : is_whole_between 1 999 (whole panel.size) ≡ true
  pub has_size : has_size printer.geometries (whole_of (whole panel.size)) ≡ true
  pub orientation : is_whole_between 0 3 (whole panel.orientation) ≡ true
  pub has_orientation : has_orientation printer.geometries (whole_of (whole panel.orientation)) ≡ true
  pub copies : is_whole_between 1 32_767 (whole panel.copies) ≡ true
  pub sides : is_whole_between 0 2 (whole panel.sides) ≡ true
  pub duplex : (nat_lt 0 (whole_of (whole panel.sides)) && not printer.has_duplex) ≡ false
  pub tray : is_whole_between 0 255 (whole panel.tray) ≡ true
  pub has_tray : (nat_lt 0 (whole_of (whole panel.tray)) && not (has_tray printer (whole_of (whole panel.tray)))) ≡ false
  pub vmi : nat_le panel.vmi 3_350_000 ≡ true
  pub spacing : request.spacing ≡ 0
  pub line_termination : is_whole_between 0 3 (whole panel.line_termination) ≡ true

module _ (printer : Printer) (flags : Flags) (origin panel : Panel) (request : FontRequest) (can : CanBeSent printer panel request)
    (finally : Store → State → JobRun) (macros : Store) (closed : is_defining macros ≡ false) (place : ℕ) (items : List Entry) where
  abbrev defaults : Settings
  defaults = user_defaults flags origin

  abbrev conditions : Conditions
  conditions = in_job (with_macros printer defaults macros)

  abbrev sized : State
  sized = set_size (start_state None defaults) (whole panel.size)

  abbrev oriented : State
  oriented = set_orientation defaults sized (whole panel.orientation)

  abbrev copied : State
  copied = (set_copies oriented (whole panel.copies)).state

  abbrev sided : State
  sided = set_sides copied (whole panel.sides)

  abbrev fed : State
  fed = set_source sided (whole panel.tray)

  abbrev spaced : State
  spaced = with_vmi fed panel.vmi

  abbrev with_symbols : State
  with_symbols = with_font spaced (record spaced.settings.job.font {
    symbol_set = Some (record { number = request.symbol_set.number; letter = request.symbol_set.letter });
  })

  abbrev with_spacing : State
  with_spacing = with_font with_symbols (record with_symbols.settings.job.font { spacing = Some request.spacing })

  abbrev with_pitch : State
  with_pitch = with_font with_spacing (record with_spacing.settings.job.font { pitch = Some request.pitch })

  abbrev with_height : State
  with_height = with_font with_pitch (record with_pitch.settings.job.font { height = Some request.height })

  abbrev with_style : State
  with_style = with_font with_height (record with_height.settings.job.font { style = Some request.style })

  abbrev with_weight : State
  with_weight = with_font with_style (record with_style.settings.job.font { weight = Some (signed (weight_amount request.weight)) })

  abbrev with_typeface : State
  with_typeface = with_font with_weight (record with_weight.settings.job.font { typeface = Some request.typeface })

  abbrev terminated : State
  terminated = (set_line_termination with_typeface (whole panel.line_termination)).state

  -- the items behind the first of the prologue, and so on
  abbrev following : ℕ → List Placed
  following n = drop n (placed_from place (prologue panel request ++ items))

  abbrev first_of : List Placed → Placed
  first_of [] = record { place = place; item = Reset }
  first_of (x ∷ xs) = x

  abbrev from_item : ℕ → State → JobRun
  from_item n s = items_run printer defaults finally (following n) macros s

  -- a run goes as what is behind the prologue, and so as the prologue and what is behind it
  pub prologue_led : (r : JobRun) → EndAlike r (from_item 14 terminated) → EndAlike r (from_item 0 (start_state None defaults))
  prologue_led r behind =
      let on = led_on printer defaults finally macros closed in
      on (first_of (following 0)) (following 1) r (start_state None defaults) sized (λ id. refl)
      (size_leads printer conditions (start_state None defaults) refl refl panel.size can.size can.has_size)
      (on (first_of (following 1)) (following 2) r sized oriented (λ id. refl)
      (orientation_leads printer conditions sized refl refl panel.orientation can.orientation can.has_orientation)
      (on (first_of (following 2)) (following 3) r oriented copied (λ id. refl)
      (copies_leads printer conditions panel.copies oriented can.copies)
      (on (first_of (following 3)) (following 4) r copied sided (λ id. refl)
      (sides_leads printer conditions copied refl refl panel.sides can.sides can.duplex)
      (on (first_of (following 4)) (following 5) r sided fed (λ id. refl)
      (source_leads printer conditions sided refl refl panel.tray can.tray can.has_tray)
      (on (first_of (following 5)) (following 6) r fed spaced (λ id. refl) (vmi_leads printer conditions panel.vmi fed can.vmi)
      (on (first_of (following 6)) (following 7) r spaced with_symbols (λ id. refl)
      (symbol_set_leads printer conditions request.symbol_set.number request.symbol_set.letter spaced)
      (on (first_of (following 7)) (following 8) r with_symbols with_spacing (λ id. refl) (fixed)
      (on (first_of (following 8)) (following 9) r with_spacing with_pitch (λ id. refl)
      (pitch_leads printer conditions request.pitch with_spacing)
      (on (first_of (following 9)) (following 10) r with_pitch with_height (λ id. refl)
      (height_leads printer conditions request.height with_pitch)
      (on (first_of (following 10)) (following 11) r with_height with_style (λ id. refl)
      (style_leads printer conditions request.style with_height)
      (on (first_of (following 11)) (following 12) r with_style with_weight (λ id. refl)
      (weight_leads printer conditions (weight_amount request.weight) with_style)
      (on (first_of (following 12)) (following 13) r with_weight with_typeface (λ id. refl)
      (typeface_leads printer conditions request.typeface with_weight)
      (on (first_of (following 13)) (following 14) r with_typeface terminated (λ id. refl)
      (line_termination_leads printer conditions panel.line_termination with_typeface can.line_termination)
      behind)))))))))))))
    where
      fixed :
          LeadsTo (item_run printer conditions (Parameterized commands.FontSpacing (unsigned request.spacing)) with_symbols) with_spacing
      fixed =
          subst
          (λ (n : ℕ). LeadsTo (item_run printer conditions (Parameterized commands.FontSpacing (unsigned n)) with_symbols)
          (with_font with_symbols (record with_symbols.settings.job.font { spacing = Some n })))
          (sym can.spacing)
          (spacing_leads printer conditions with_symbols)

  -- the state behind the prologue, with these fields of the panel
  abbrev put : (size orientation copies sides tray line_termination : ℕ) → Bool → FontRequest → State
  put size orientation copies sides tray line_termination unset r = record (start_state None defaults) {
    settings = record {
      fields = record {
        size = size;
        orientation = orientation;
        vmi = panel.vmi;
        font = origin.font;
        copies = copies;
        sides = sides;
        tray = tray;
        line_termination = line_termination;
      };
      unset = record unwatched { font = flags.font; tray = unset };
      job = record job_defaults { font = with_all_parts r no_parts };
    };
  }

  abbrev read : ℕ → ℕ
  read n = whole_of (whole n)

  -- the tray is none that chooses nothing
  tray_set : (b : Bool) → b ≡ false → (cond b origin.tray panel.tray ≡ panel.tray) × (cond b flags.tray false ≡ false)
  tray_set false e = (refl, refl)
  tray_set true e = absurd cc

  -- behind it the job has set all that the panel chooses
  pub prologue_pins : request ≡ request_at printer.faces panel.font → (panel.tray == 0) ≡ false →
      terminated ≡ pinned printer defaults (start_state None (user_defaults unwatched panel))
  prologue_pins same trayed =
      let tray : ℕ → ℕ = λ n. cond (n == 0) origin.tray n in
      let unset : ℕ → Bool = λ n. cond (n == 0) flags.tray false in
      let weighed : ℤ → FontRequest = λ w. record request { weight = w } in
      ap
      (λ w. put (read panel.size) (read panel.orientation) (read panel.copies) (read panel.sides) (tray (read panel.tray))
      (read panel.line_termination) (unset (read panel.tray)) (weighed w))
      (signed_weight request.weight)
      ∙ (ap
      (λ n. put n (read panel.orientation) (read panel.copies) (read panel.sides) (tray (read panel.tray)) (read panel.line_termination)
      (unset (read panel.tray)) request)
      (whole_of_whole panel.size)
      ∙ (ap
      (λ n. put panel.size n (read panel.copies) (read panel.sides) (tray (read panel.tray)) (read panel.line_termination)
      (unset (read panel.tray)) request)
      (whole_of_whole panel.orientation)
      ∙ (ap
      (λ n. put panel.size panel.orientation n (read panel.sides) (tray (read panel.tray)) (read panel.line_termination)
      (unset (read panel.tray)) request)
      (whole_of_whole panel.copies)
      ∙ (ap
      (λ n. put panel.size panel.orientation panel.copies n (tray (read panel.tray)) (read panel.line_termination)
      (unset (read panel.tray)) request)
      (whole_of_whole panel.sides)
      ∙ (ap (λ n. put panel.size panel.orientation panel.copies panel.sides (tray n) (read panel.line_termination) (unset n) request)
      (whole_of_whole panel.tray)
      ∙ (ap (λ n. put panel.size panel.orientation panel.copies panel.sides n (read panel.line_termination) (unset panel.tray) request)
      (tray_set (panel.tray == 0) trayed).0
      ∙ (ap (λ b. put panel.size panel.orientation panel.copies panel.sides panel.tray (read panel.line_termination) b request)
      (tray_set (panel.tray == 0) trayed).1
      ∙ (ap (λ n. put panel.size panel.orientation panel.copies panel.sides panel.tray n false request)
      (whole_of_whole panel.line_termination)
      ∙ ap (λ r. put panel.size panel.orientation panel.copies panel.sides panel.tray panel.line_termination false r) same))))))))
