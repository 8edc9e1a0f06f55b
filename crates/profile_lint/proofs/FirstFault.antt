-- The first fault of a text is the one for which it is refused.
use Rattle.std.proofs.Common.{◌≡◌, ℕ, ◌+◌, List, [], ◌∷◌, ◌++◌, flat_map, nat_lt, length, Bool, true, false, not, ◌&&◌, ◌==◌, cond}
use Rattle.std.proofs.Common.{if◌then◌else◌, None, Some, Result, Ok, Err, arith, refl, sym, ap, ◌∙◌, subst, append_assoc}
use Rattle.std.specs.List.{AllPass, list_all, list_any}
use Rattle.std.specs.Option.{option_map_or}
use Rattle.std.specs.Str.Lines.{lines}
use Rattle.std.proofs.Math.Bool.{and-true}
use Rattle.std.proofs.lemmas.List.Sums.{AllPass-from_list_all}
use Rattle.device_profile.specs.declared.fault.Cause.TheVariants.{Version, Range, Missing, NoGeometry}
use Rattle.device_profile.specs.declared.fault.ProfileFault.{ProfileFault}
use Rattle.device_profile.specs.declared.fault.ProfileFault.TheVariants.{Fault}
use Rattle.device_profile.specs.declared.field.Field.TheVariants.{Size, Orientation, Font, Sides, Tray}
use Rattle.device_profile.specs.declared.format.Format.{Format}
use Rattle.device_profile.specs.declared.geometry.Geometry.{Geometry}
use Rattle.device_profile.specs.declared.key.Key.{Key}
use Rattle.device_profile.specs.declared.key.Key.TheVariants.{Trays, Duplex, Page, Face}
use Rattle.device_profile.specs.Draft.{Draft, no_draft, draft_after}
use Rattle.device_profile.specs.Faces.{has_face}
use Rattle.device_profile.specs.Key.{every_key}
use Rattle.device_profile.specs.Printer.{Printer, has_size, has_orientation, has_row, has_every_pair, are_sides}
use Rattle.device_profile.specs.Text.{draft_of, draft_of_lines, format_of, has_its_choices, has_its_pages, is_complete, is_duplex, is_given}
use Rattle.device_profile.specs.Text.{printer_of, printer_of_draft, printer_of_text, words_of_line}
use Rattle.device_profile.specs.Words.{words_of}
use Rattle.profile_lint.specs.declared.fault.TextFault.{TextFault}
use Rattle.profile_lint.specs.declared.fault.TextFault.TheVariants.{TooLong, NoVersion, OnLine, Ungiven, NoPageOfSize, NoPageInOrientation}
use Rattle.profile_lint.specs.declared.fault.TextFault.TheVariants.{NoPair, NoFace, NoTray, NoSides}
use Rattle.profile_lint.specs.Faults.{fault_of, draft_past_lines, faults_on_lines, given_or, key_on_line}
use Rattle.profile_lint.specs.Laws.{BeginsWith, IsToldBy, TellsWhyRefused}
use Rattle.profile_lint.specs.TextFaults.{faults_behind, faults_of, faults_of_lines}
use Rattle.profile_lint.specs.Whole.{choice_faults, faults_in, faults_of_size, faults_of_whole, orientations_of, page_faults, pair_faults}
use Rattle.profile_lint.specs.Whole.{sizes_of, ungiven_fault, ungiven_faults, unheld, unless, unpaired, where_settled}
use Rattle.profile_lint.proofs.Each.{every_pair}

-- where a test holds there is no fault, and else the first is this one
abbrev Tells : Bool → ProfileFault → List TextFault → Type 0
Tells true fault faults = faults ≡ []
Tells false fault faults = BeginsWith faults fault

begins_more : (fault : ProfileFault) (xs ys : List TextFault) → BeginsWith xs fault → BeginsWith (xs ++ ys) fault
begins_more fault [] ys first = cc
begins_more fault (x ∷ xs) ys first = first

tells_both : (a b : Bool) (fault : ProfileFault) (xs ys : List TextFault) → Tells a fault xs → Tells b fault ys →
    Tells (a && b) fault (xs ++ ys)
tells_both true b fault xs ys none rest = subst (λ zs. Tells b fault (zs ++ ys)) (sym none) rest
tells_both false b fault xs ys first rest = begins_more fault xs ys first

-- one fault, unless a test holds
tells_unless : (holds : Bool) (told : TextFault) (fault : ProfileFault) → fault_of told ≡ fault → Tells holds fault (unless holds told)
tells_unless true told fault is = refl
tells_unless false told fault is = ap Some is

tells_flat : {X : Type 0} (p : X → Bool) (tell : X → List TextFault) (fault : ProfileFault) → ((x : X) → Tells (p x) fault (tell x))
    → (xs : List X) → Tells (list_all p xs) fault (flat_map tell xs)
tells_flat p tell fault is [] = refl
tells_flat p tell fault is (x ∷ xs) =
    tells_both (p x) (list_all p xs) fault (tell x) (flat_map tell xs) (is x) (tells_flat p tell fault is xs)

-- ---- the whole

-- the keys are those of the table, in its order
tells_ungiven : (draft : Draft) → Tells (is_complete draft) (Fault 0 Missing) (ungiven_faults draft [])
tells_ungiven draft =
    tells_flat (is_given draft) (ungiven_fault draft []) (Fault 0 Missing)
    (λ key. elim (is_given draft key) as (λ given. Tells given (Fault 0 Missing) (cond (not given && true) (Ungiven key ∷ []) [])) [
      | true ↦ refl
      | false ↦ refl
    ]) every_key

tells_pairs : (rows : List Geometry) → Tells (has_every_pair rows) (Fault 0 NoGeometry) (pair_faults rows)
tells_pairs rows =
    subst (λ b. Tells b (Fault 0 NoGeometry) (pair_faults rows)) (every_pair rows)
    (tells_flat (λ size. list_all (λ turned. has_row rows size turned) (orientations_of rows))
    (faults_of_size rows (orientations_of rows)) (Fault 0 NoGeometry)
    (λ size. tells_flat (λ turned. has_row rows size turned) (unpaired rows size) (Fault 0 NoGeometry)
    (λ turned. tells_unless (has_row rows size turned) (NoPair size turned) (Fault 0 NoGeometry) refl) (orientations_of rows))
    (sizes_of rows))

tells_pages : (draft : Draft) → Tells (has_its_pages draft) (Fault 0 NoGeometry) (page_faults draft)
tells_pages draft =
    let sized : Bool = list_all (λ size. has_size draft.geometries size) draft.choices.sizes in
    let turned : Bool = list_all (λ orientation. has_orientation draft.geometries orientation) draft.choices.orientations in
    tells_both (sized && turned) (has_every_pair draft.geometries) (Fault 0 NoGeometry)
    (choice_faults draft Size ++ choice_faults draft Orientation) (pair_faults draft.geometries)
    (tells_both sized turned (Fault 0 NoGeometry) (choice_faults draft Size) (choice_faults draft Orientation)
    (tells_flat (λ size. has_size draft.geometries size) (unheld draft Size) (Fault 0 NoGeometry)
    (λ size. tells_unless (has_size draft.geometries size) (NoPageOfSize size) (Fault 0 NoGeometry) refl) draft.choices.sizes)
    (tells_flat (λ orientation. has_orientation draft.geometries orientation) (unheld draft Orientation) (Fault 0 NoGeometry)
    (λ orientation. tells_unless (has_orientation draft.geometries orientation) (NoPageInOrientation orientation) (Fault 0 NoGeometry) refl)
    draft.choices.orientations))
    (tells_pairs draft.geometries)

tells_choices : (draft : Draft) →
    Tells (has_its_choices draft) (Fault 0 Range) (choice_faults draft Font ++ choice_faults draft Tray ++ choice_faults draft Sides)
tells_choices draft =
    let faced : Bool = list_all (λ font. has_face draft.faces font) draft.choices.fonts in
    let held : Bool = list_all (λ tray. list_any (λ held. held == tray) draft.device_trays) draft.choices.panel_trays in
    let sided : Bool = list_all (are_sides (is_duplex draft)) draft.choices.sides in
    tells_both (faced && held) sided (Fault 0 Range) (choice_faults draft Font ++ choice_faults draft Tray) (choice_faults draft Sides)
    (tells_both faced held (Fault 0 Range) (choice_faults draft Font) (choice_faults draft Tray)
    (tells_flat (λ font. has_face draft.faces font) (unheld draft Font) (Fault 0 Range)
    (λ font. tells_unless (has_face draft.faces font) (NoFace font) (Fault 0 Range) refl) draft.choices.fonts)
    (tells_flat (λ tray. list_any (λ held. held == tray) draft.device_trays) (unheld draft Tray) (Fault 0 Range)
    (λ tray. tells_unless (list_any (λ held. held == tray) draft.device_trays) (NoTray tray) (Fault 0 Range) refl)
    draft.choices.panel_trays))
    (tells_flat (are_sides (is_duplex draft)) (unheld draft Sides) (Fault 0 Range)
    (λ sides. tells_unless (are_sides (is_duplex draft) sides) (NoSides sides) (Fault 0 Range) refl) draft.choices.sides)

-- a draft with each key, without faulty lines
abbrev whole_faults : Draft → List TextFault
whole_faults draft =
    ungiven_faults draft [] ++ page_faults draft ++ choice_faults draft Font ++ choice_faults draft Tray ++ choice_faults draft Sides

settled : (draft : Draft) (key : Key) → is_given draft key ≡ true → where_settled draft [] key ≡ faults_in draft key
settled draft key is =
    ap (λ b. cond b (faults_in draft key) []) (and-true (is_given draft key) ∙ is)

-- a draft that is complete has these
pub record HasRows (draft : Draft) : Type 0 where
  pub page : is_given draft Page ≡ true
  pub face : is_given draft Face ≡ true
  pub trays : is_given draft Trays ≡ true
  pub duplex : is_given draft Duplex ≡ true

has_rows : (draft : Draft) → is_complete draft ≡ true → HasRows draft
has_rows draft complete =
    let given : AllPass (is_given draft) every_key = AllPass-from_list_all (is_given draft) every_key complete in
    record {
      page = given 13 Page (omega arith);
      face = given 14 Face (omega arith);
      trays = given 9 Trays (omega arith);
      duplex = given 10 Duplex (omega arith);
    }

whole_where_complete : (draft : Draft) → HasRows draft → faults_of_whole draft [] ≡ whole_faults draft
whole_where_complete draft has =
    let page = settled draft Page has.page in
    let face = settled draft Face has.face in
    let trays = settled draft Trays has.trays in
    let duplex = settled draft Duplex has.duplex in
    ap
    (λ (p : List TextFault).
    ungiven_faults draft [] ++ p ++ where_settled draft [] Face ++ where_settled draft [] Trays ++ where_settled draft [] Duplex)
    page
    ∙ ap
    (λ (f : List TextFault).
    ungiven_faults draft [] ++ page_faults draft ++ f ++ where_settled draft [] Trays ++ where_settled draft [] Duplex)
    face
    ∙ ap
    (λ (t : List TextFault). ungiven_faults draft [] ++ page_faults draft ++ choice_faults draft Font ++ t ++ where_settled draft [] Duplex)
    trays
    ∙ ap (λ (d : List TextFault). ungiven_faults draft [] ++ page_faults draft ++ choice_faults draft Font ++ choice_faults draft Tray ++ d)
    duplex

-- what is wrong with the whole, or a printer
abbrev printer_by : Bool → Bool → Bool → Printer → Result Printer ProfileFault
printer_by complete paged held printer =
    if not complete then Err (Fault 0 Missing)
    else (if not paged then Err (Fault 0 NoGeometry)
    else (if not held then Err (Fault 0 Range) else Ok printer))

told_where_complete : (paged held : Bool) (printer : Printer) (ungiven pages choices : List TextFault)
    → ungiven ≡ [] → Tells paged (Fault 0 NoGeometry) pages → Tells held (Fault 0 Range) choices
    → IsToldBy (printer_by true paged held printer) (ungiven ++ (pages ++ choices))
told_where_complete true true printer ungiven pages choices none no_pages no_choices =
    ap (λ (zs : List TextFault). zs ++ (pages ++ choices)) none ∙ ap (λ (zs : List TextFault). zs ++ choices) no_pages ∙ no_choices
told_where_complete true false printer ungiven pages choices none no_pages first =
    subst (λ zs. BeginsWith (zs ++ (pages ++ choices)) (Fault 0 Range)) (sym none)
    (subst (λ zs. BeginsWith (zs ++ choices) (Fault 0 Range)) (sym no_pages) first)
told_where_complete false held printer ungiven pages choices none first told =
    subst (λ zs. BeginsWith (zs ++ (pages ++ choices)) (Fault 0 NoGeometry)) (sym none)
    (begins_more (Fault 0 NoGeometry) pages choices first)

regroup : (u p f t s : List TextFault) → u ++ (p ++ (f ++ t ++ s)) ≡ u ++ p ++ f ++ t ++ s
regroup u p f t s = simp append_assoc

told_by_whole : (draft : Draft) (complete : Bool) → is_complete draft ≡ complete →
    Tells complete (Fault 0 Missing) (ungiven_faults draft [])
    → IsToldBy (printer_by complete (has_its_pages draft) (has_its_choices draft) (printer_of_draft draft)) (faults_of_whole draft [])
told_by_whole draft true is none =
    subst (λ faults. IsToldBy (printer_by true (has_its_pages draft) (has_its_choices draft) (printer_of_draft draft)) faults)
    (regroup (ungiven_faults draft []) (page_faults draft) (choice_faults draft Font) (choice_faults draft Tray) (choice_faults draft Sides)
    ∙ sym (whole_where_complete draft (has_rows draft is)))
    (told_where_complete (has_its_pages draft) (has_its_choices draft) (printer_of_draft draft)
    (ungiven_faults draft []) (page_faults draft)
    (choice_faults draft Font ++ choice_faults draft Tray ++ choice_faults draft Sides) none (tells_pages draft) (tells_choices draft))
told_by_whole draft false is first =
    begins_more (Fault 0 Missing)
    (ungiven_faults draft [] ++ where_settled draft [] Page ++ where_settled draft [] Face ++ where_settled draft [] Trays)
    (where_settled draft [] Duplex)
    (begins_more (Fault 0 Missing) (ungiven_faults draft [] ++ where_settled draft [] Page ++ where_settled draft [] Face)
    (where_settled draft [] Trays)
    (begins_more (Fault 0 Missing) (ungiven_faults draft [] ++ where_settled draft [] Page) (where_settled draft [] Face)
    (begins_more (Fault 0 Missing) (ungiven_faults draft []) (where_settled draft [] Page) first)))

told_whole : (draft : Draft) → IsToldBy (printer_of draft) (faults_of_whole draft [])
told_whole draft = told_by_whole draft (is_complete draft) refl (tells_ungiven draft)

-- ---- lines

-- where no line is faulty there is no fault, and all is given; else the first is that of the first faulty line
abbrev LinesTell : Result Draft ProfileFault → List TextFault → Draft → Type 0
LinesTell (Ok draft) faults past = (faults ≡ []) × (past ≡ draft)
LinesTell (Err fault) faults past = BeginsWith faults fault

lines_tell : (format : Format) (draft : Draft) (number : ℕ) (all : List (List ℕ))
    → LinesTell (draft_of_lines format draft number all) (faults_on_lines format draft number all) (draft_past_lines format draft all)
lines_tell format draft number [] = (refl, refl)
lines_tell format draft number (line ∷ more) =
    elim (draft_after format draft (words_of_line line)) as
    (λ given. LinesTell
    (elim given [ Ok next ↦ draft_of_lines format next (number + 1) more | Err cause ↦ Err (Fault number cause) ])
    ((elim given [ Ok next ↦ [] | Err cause ↦ OnLine number (key_on_line format (words_of_line line)) cause ∷ [] ])
    ++ faults_on_lines format (given_or draft given) (number + 1) more)
    (draft_past_lines format (given_or draft given) more)) [
      | Ok next ↦ lines_tell format next (number + 1) more
      | Err cause ↦ refl
    ]

told_behind : (given : Result Draft ProfileFault) (on_lines : List TextFault) (past : Draft) → LinesTell given on_lines past
    → IsToldBy (elim given [ Ok draft ↦ printer_of draft | Err fault ↦ Err fault ]) (on_lines ++ faults_of_whole past on_lines)
told_behind (Ok draft) on_lines past tell =
    subst (λ faults. IsToldBy (printer_of draft) (faults ++ faults_of_whole past faults)) (sym tell.0)
    (subst (λ d. IsToldBy (printer_of draft) (faults_of_whole d [])) (sym tell.1) (told_whole draft))
told_behind (Err fault) on_lines past tell = begins_more fault on_lines (faults_of_whole past on_lines) tell

told_by_lines : (all : List (List ℕ)) →
    IsToldBy (elim (draft_of all) [ Ok draft ↦ printer_of draft | Err fault ↦ Err fault ]) (faults_of_lines all)
told_by_lines [] = refl
told_by_lines (first ∷ more) =
    elim (format_of (words_of first)) as
    (λ format. IsToldBy
    (elim (option_map_or (λ f. draft_of_lines f (no_draft f) 2 more) format (Err (Fault 1 Version)))
    [ Ok draft ↦ printer_of draft | Err fault ↦ Err fault ])
    (option_map_or (λ f. faults_behind f more) format (NoVersion ∷ []))) [
      | Some format ↦
          told_behind (draft_of_lines format (no_draft format) 2 more) (faults_on_lines format (no_draft format) 2 more)
          (draft_past_lines format (no_draft format) more)
          (lines_tell format (no_draft format) 2 more)
      | None ↦ refl
    ]

pub tells_why_refused : (text : List ℕ) → TellsWhyRefused text
unfolding printer_of_text faults_of
tells_why_refused text =
    elim (nat_lt 65_536 (length text)) as
    (λ long. IsToldBy
    (cond long (Err (Fault 0 Range)) (elim (draft_of (lines text)) [ Ok draft ↦ printer_of draft | Err fault ↦ Err fault ]))
    (cond long (TooLong ∷ []) (faults_of_lines (lines text)))) [
      | true ↦ refl
      | false ↦ told_by_lines (lines text)
    ]
