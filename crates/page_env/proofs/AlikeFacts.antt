-- How it is shown that a line comes to the same whatever the panel has in the fields that are unset.
use Rattle.std.proofs.Common.{◌≡◌, ◌++◌, ℕ, ℤ, Bool, true, false, cond, is_none, List, [], ◌∷◌, Option, Some, None, refl, sym, ◌∙◌, ap}
use Rattle.std.proofs.Common.{subst, append-nil}
use Rattle.device_profile.specs.declared.field.Field.{Field}
use Rattle.device_profile.specs.declared.font.SymbolSet.{SymbolSet}
use Rattle.device_profile.specs.declared.field.Field.TheVariants.{Size, Orientation, Vmi, Font, Copies, Sides, Tray, LineTerm}
use Rattle.device_profile.specs.declared.panel.Panel.{Panel}
use Rattle.page_env.specs.declared.finding.Finding.{Finding}
use Rattle.page_env.specs.declared.page.FontParts.{FontParts}
use Rattle.page_env.specs.Settings.{Flags, Settings, State}
use Rattle.page_env.specs.Effect.{is_unset, first_finding, first_unset, TableLine, Transition, Step, Closes, Ends, Behind, Effect, Goes}
use Rattle.page_env.specs.Effect.{GoesThenCloses, GoesThenEnds, Fails, fails_or, judged, effect_of}
use Rattle.page_env.specs.Effect as effect
use Rattle.page_env.specs.FontInForce.{font_reads}
use Rattle.page_env.specs.Places.{column_reads, vertical_reads}
use Rattle.page_env.specs.AnyPanel.{settings_with, state_with, GoesAlike}

some_none : {A : Type 0} {x : A} → Some x ≡ None → ⊥
some_none e = cc

-- ---- what is unset

module _ (panel : Panel) (settings : Settings) where
  same_unset : (field : Field) → is_unset (settings_with panel settings) field ≡ is_unset settings field
  same_unset Size = refl
  same_unset Orientation = refl
  same_unset Vmi = refl
  same_unset Font = refl
  same_unset Copies = refl
  same_unset Sides = refl
  same_unset Tray = refl
  same_unset LineTerm = refl

  pub same_first_unset : (fields : List Field) → first_unset (settings_with panel settings) fields ≡ first_unset settings fields
  same_first_unset [] = refl
  same_first_unset (field ∷ fields) =
      ap (λ b. cond b (Some field) (first_unset (settings_with panel settings) fields)) (same_unset field)
      ∙ ap (λ later. cond (is_unset settings field) (Some field) later) (same_first_unset fields)

-- ---- effects

module _ (panel : Panel) where
  -- behind a check that finds the same
  behind_check : (found found' : Option Finding) (e e' : Effect) → found' ≡ found → (found ≡ None → GoesAlike panel e e') →
      GoesAlike panel (fails_or found e) (fails_or found' e')
  behind_check found found' e e' same h = subst (λ f. GoesAlike panel (fails_or found e) (fails_or f e')) (sym same) (by_case found h)
    where
      by_case : (found : Option Finding) → (found ≡ None → GoesAlike panel e e') → GoesAlike panel (fails_or found e) (fails_or found e')
      by_case (Some finding) h = refl
      by_case None h = h refl

  -- behind fields that are unset alike
  pub behind_reads : (unset unset' : Option Field) (e e' : Effect) → unset' ≡ unset → (unset ≡ None → GoesAlike panel e e') →
      GoesAlike panel (effect.unset_or unset e) (effect.unset_or unset' e')
  behind_reads unset unset' e e' same h =
      subst (λ u. GoesAlike panel (effect.unset_or unset e) (effect.unset_or u e')) (sym same) (by_case unset h)
    where
      by_case : (unset : Option Field) → (unset ≡ None → GoesAlike panel e e') →
          GoesAlike panel (effect.unset_or unset e) (effect.unset_or unset e')
      by_case (Some field) h = refl
      by_case None h = h refl

-- Two lines, the second at the panel: they check the same before they read, read the same, and where nothing of that is unset they
-- are the same but for the state.
pub record IsAlike (panel : Panel) (s : State) (line line' : TableLine) : Type 0 where
  pub checks_before : line'.checks_before ≡ line.checks_before
  pub reads : line'.reads ≡ line.reads
  pub same : first_unset s.settings line.reads ≡ None → line' ≡ record line { state = state_with panel line.state }

module _ (panel : Panel) (s : State) (line line' : TableLine) (alike : IsAlike panel s line line') where
  -- what is behind the checks of such lines
  pub judged_alike : (e e' : Effect) → (line' ≡ record line { state = state_with panel line.state } → GoesAlike panel e e') →
      GoesAlike panel (judged s.settings line e) (judged (settings_with panel s.settings) line' e')
  judged_alike e e' h =
      behind_check panel (first_finding line.checks_before) (first_finding line'.checks_before) _ _ (ap first_finding alike.checks_before)
      (λ none. behind_reads panel (first_unset s.settings line.reads) (first_unset (settings_with panel s.settings) line'.reads) _ _
      (ap (λ reads. first_unset (settings_with panel s.settings) reads) alike.reads ∙ same_first_unset panel s.settings line.reads)
      (λ set. behind_check panel (first_finding line.checks_after) (first_finding line'.checks_after) e e'
      (ap (λ l. first_finding l.checks_after) (alike.same set)) (λ none. h (alike.same set))))

  pub step_alike : GoesAlike panel (effect_of s.settings (Step line)) (effect_of (settings_with panel s.settings) (Step line'))
  step_alike =
      judged_alike (Goes line.state line.marks) (Goes line'.state line'.marks) (λ same. (ap (λ l. l.state) same, ap (λ l. l.marks) same))

  pub ends_alike : GoesAlike panel (effect_of s.settings (Ends line)) (effect_of (settings_with panel s.settings) (Ends line'))
  ends_alike = judged_alike (GoesThenEnds line.state) (GoesThenEnds line'.state) (λ same. ap (λ l. l.state) same)

  pub closes_alike : (sets : Bool) (change change' : State → State) →
      ((t : State) → change' (state_with panel t) ≡ state_with panel (change t)) →
      GoesAlike panel (effect_of s.settings (Closes line sets change))
      (effect_of (settings_with panel s.settings) (Closes line' sets change'))
  closes_alike sets change change' h =
      judged_alike (GoesThenCloses line.state sets change) (GoesThenCloses line'.state sets change')
      (λ same. (ap (λ l. l.state) same, refl, h))

-- a line that reads nothing, or nothing of what the panel chooses
pub plainly_alike : (panel : Panel) (s : State) (line line' : TableLine) → line' ≡ record line { state = state_with panel line.state } →
    IsAlike panel s line line'
plainly_alike panel s line line' same = record {
  checks_before = ap (λ l. l.checks_before) same;
  reads = ap (λ l. l.reads) same;
  same = λ set. same;
}

-- ---- what is known of a state in which fields that are read are not unset

abbrev pub with_unset : State → Flags → State
with_unset s flags = record s { settings = record s.settings { unset = flags } }

-- size and orientation are set
abbrev pub paged : State → State
paged s = with_unset s (record s.settings.unset { size = false; orientation = false })

abbrev pub spaced : State → State
spaced s = with_unset s (record s.settings.unset { vmi = false })

abbrev pub faced : State → State
faced s = with_unset s (record s.settings.unset { font = false })

abbrev pub ended_so : State → State
ended_so s = with_unset s (record s.settings.unset { line_termination = false })

pub page_set : (P : State → Type 0) (s : State) (rest : List Field) → first_unset s.settings (Size ∷ Orientation ∷ rest) ≡ None →
    (first_unset (paged s).settings rest ≡ None → P (paged s)) → P s
page_set P s rest set h = by_flags s.settings.unset.size s.settings.unset.orientation set
  where
    at : Bool → Bool → State
    at size orientation = with_unset s (record s.settings.unset { size = size; orientation = orientation })

    by_flags : (size orientation : Bool) → first_unset (at size orientation).settings (Size ∷ Orientation ∷ rest) ≡ None →
        P (at size orientation)
    by_flags true orientation set = absurd (some_none set)
    by_flags false true set = absurd (some_none set)
    by_flags false false set = h set

pub line_set : (P : State → Type 0) (s : State) (rest : List Field) → first_unset s.settings (Vmi ∷ rest) ≡ None →
    (first_unset (spaced s).settings rest ≡ None → P (spaced s)) → P s
line_set P s rest set h = by_flag s.settings.unset.vmi set
  where
    at : Bool → State
    at vmi = with_unset s (record s.settings.unset { vmi = vmi })

    by_flag : (vmi : Bool) → first_unset (at vmi).settings (Vmi ∷ rest) ≡ None → P (at vmi)
    by_flag true set = absurd (some_none set)
    by_flag false set = h set

pub termination_set : (P : State → Type 0) (s : State) → first_unset s.settings (LineTerm ∷ []) ≡ None → P (ended_so s) → P s
termination_set P s set h = by_flag s.settings.unset.line_termination set
  where
    at : Bool → State
    at flag = with_unset s (record s.settings.unset { line_termination = flag })

    by_flag : (flag : Bool) → first_unset (at flag).settings (LineTerm ∷ []) ≡ None → P (at flag)
    by_flag true set = absurd (some_none set)
    by_flag false set = h

-- the cursor is at home, or at a number
abbrev pub at_place : State → Option ℤ → State
at_place s y = record s { cursor = record s.cursor { y = y } }

pub place_set : (P : State → Type 0) (s : State) (others : List Field) →
    first_unset s.settings (vertical_reads s.cursor.y ++ others) ≡ None →
    (first_unset (spaced (at_place s None)).settings others ≡ None → P (spaced (at_place s None))) →
    ((y : ℤ) → first_unset (at_place s (Some y)).settings others ≡ None → P (at_place s (Some y))) → P s
place_set P s others set home number = by_place s.cursor.y set
  where
    by_place : (y : Option ℤ) → first_unset s.settings (vertical_reads y ++ others) ≡ None → P (at_place s y)
    by_place None set = line_set P (at_place s None) others set home
    by_place (Some y) set = number y set

-- the same where nothing is read behind it
pub place_alone : (P : State → Type 0) (s : State) → first_unset s.settings (vertical_reads s.cursor.y) ≡ None →
    P (spaced (at_place s None)) → ((y : ℤ) → P (at_place s (Some y))) → P s
place_alone P s set home number =
    place_set P s [] (subst (λ fields. first_unset s.settings fields ≡ None) (sym (append-nil (vertical_reads s.cursor.y))) set)
    (λ none. home) (λ y none. number y)

-- the parts of the font request
abbrev pub with_parts_of : State → FontParts → State
with_parts_of s parts = record s { settings = record s.settings { job = record s.settings.job { font = parts } } }

abbrev pub all_parts : SymbolSet → (spacing pitch height style : ℕ) → ℤ → ℕ → FontParts
all_parts symbol_set spacing pitch height style weight typeface = record {
  symbol_set = Some symbol_set;
  spacing = Some spacing;
  pitch = Some pitch;
  height = Some height;
  style = Some style;
  weight = Some weight;
  typeface = Some typeface;
}

-- all parts are set, or the panel's font is known
pub font_set : (P : State → Type 0) (s : State) → first_unset s.settings (font_reads s.settings.job.font) ≡ None →
    ((parts : FontParts) → P (faced (with_parts_of s parts))) →
    ((symbol_set : SymbolSet) (spacing pitch height style : ℕ) (weight : ℤ) (typeface : ℕ) →
    P (with_parts_of s (all_parts symbol_set spacing pitch height style weight typeface))) →
    P s
font_set P s set known all =
    let font = s.settings.job.font in
    by_parts font.symbol_set font.spacing font.pitch font.height font.style font.weight font.typeface set
  where
    by_flag : (parts : FontParts) (font : Bool) →
        first_unset (with_unset s (record s.settings.unset { font = font })).settings (Font ∷ []) ≡ None →
        P (with_unset (with_parts_of s parts) (record s.settings.unset { font = font }))
    by_flag parts true set = absurd (some_none set)
    by_flag parts false set = known parts

    by_parts : (a : Option SymbolSet) (b c d e : Option ℕ) (w : Option ℤ) (t : Option ℕ) →
        first_unset s.settings
        (font_reads (record { symbol_set = a; spacing = b; pitch = c; height = d; style = e; weight = w; typeface = t }))
        ≡ None →
        P (with_parts_of s (record { symbol_set = a; spacing = b; pitch = c; height = d; style = e; weight = w; typeface = t }))
    by_parts (Some a) (Some b) (Some c) (Some d) (Some e) (Some w) (Some t) set = all a b c d e w t
    by_parts a b c d e w t set =
        by_flag
        (record { symbol_set = a; spacing = b; pitch = c; height = d; style = e; weight = w; typeface = t }) s.settings.unset.font set

-- no HMI is set, or one is
abbrev pub with_hmi : State → Option ℕ → State
with_hmi s hmi = record s { settings = record s.settings { job = record s.settings.job { hmi = hmi } } }

-- an HMI is set, or all parts of the font request are, or the panel's font is known
pub columns_set : (P : State → Type 0) (s : State) → first_unset s.settings (column_reads s.settings.job) ≡ None →
    ((parts : FontParts) → P (faced (with_parts_of (with_hmi s None) parts))) →
    ((symbol_set : SymbolSet) (spacing pitch height style : ℕ) (weight : ℤ) (typeface : ℕ) →
    P (with_parts_of (with_hmi s None) (all_parts symbol_set spacing pitch height style weight typeface))) →
    ((hmi : ℕ) → P (with_hmi s (Some hmi))) → P s
columns_set P s set known all number = by_hmi s.settings.job.hmi set
  where
    by_hmi : (hmi : Option ℕ) → first_unset s.settings (cond (is_none hmi) (font_reads s.settings.job.font) []) ≡ None → P (with_hmi s hmi)
    by_hmi None set = font_set P (with_hmi s None) set known all
    by_hmi (Some hmi) set = number hmi

-- ---- one of two

pub either_line : (panel : Panel) (s : State) (b : Bool) (l m l' m' : TableLine) → IsAlike panel s l l' → IsAlike panel s m m' →
    IsAlike panel s (cond b l m) (cond b l' m')
either_line panel s true l m l' m' h k = h
either_line panel s false l m l' m' h k = k

pub either : (panel : Panel) (u u' : Settings) (b : Bool) (m n m' n' : Transition) → GoesAlike panel (effect_of u m) (effect_of u' m') →
    GoesAlike panel (effect_of u n) (effect_of u' n') →
    GoesAlike panel (effect_of u (cond b m n)) (effect_of u' (cond b m' n'))
either panel u u' true m n m' n' h k = h
either panel u u' false m n m' n' h k = k

pub fails_alike : (panel : Panel) (finding : Finding) (e e' : Effect) → e ≡ Fails finding → e' ≡ Fails finding → GoesAlike panel e e'
fails_alike panel finding e e' p q = subst (λ x. GoesAlike panel x e') (sym p) (subst (λ x. GoesAlike panel (Fails finding) x) (sym q) refl)
