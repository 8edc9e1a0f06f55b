-- Laws of accepted texts.
use Rattle.std.proofs.Common.{◌≡◌, ℕ, ◌==◌, ◌&&◌, Bool, true, false, not, List, [], ◌∷◌, length, IsTrue, Some, Result, Ok, Err, nat_lt}
use Rattle.std.proofs.Common.{if◌then◌else◌, refl, sym, subst, ap, ◌∙◌}
use Rattle.std.specs.List.{list_all, list_any}
use Rattle.std.specs.List.Sorted.{IsPermutation}
use Rattle.std.specs.Str.Lines.{lines}
use Rattle.std.proofs.lemmas.Bool.{and_parts, and_from}
use Rattle.std.proofs.lemmas.List.Sorted.{All-permutation, length_permutation, list_any-IsPermutation}
use Rattle.std.proofs.lemmas.List.Sums.{AllPass-from_list_all, list_all-from_AllPass}
use Rattle.device_profile.specs.declared.geometry.Geometry.{Geometry}
use Rattle.device_profile.specs.declared.key.Key.{Key}
use Rattle.device_profile.specs.declared.key.Key.TheVariants.{Page, Face as FaceRow}
use Rattle.device_profile.specs.declared.fault.Cause.{Cause}
use Rattle.device_profile.specs.declared.fault.Cause.TheVariants.{Range, Missing, NoGeometry}
use Rattle.device_profile.specs.declared.fault.ProfileFault.{ProfileFault}
use Rattle.device_profile.specs.declared.fault.ProfileFault.TheVariants.{Fault}
use Rattle.device_profile.specs.Faces.{Face, has_face}
use Rattle.device_profile.specs.Printer.{Printer, is_valid, has_size, has_orientation, has_row, has_every_pair, are_sides}
use Rattle.device_profile.specs.Words.{words_of}
use Rattle.device_profile.specs.Draft.{Draft, no_draft}
use Rattle.device_profile.specs.Key.{every_key}
use Rattle.device_profile.specs.declared.format.Format.{Format}
use Rattle.device_profile.specs.Text.{format_of, draft_of_lines, draft_of, is_given, is_complete, has_its_pages, is_duplex, has_its_choices}
use Rattle.device_profile.specs.Text.{printer_of_draft, printer_of, printer_of_text}
use Rattle.device_profile.specs.Laws.{IsSamePrinter, GivesValid, HasEachKeyOnce, OrderIsFree}
use Rattle.device_profile.proofs.Reading.{of_draft}
use Rattle.device_profile.proofs.Finished.{is_valid-given}
use Rattle.device_profile.proofs.Sound.{draft_behind, version_given}
use Rattle.device_profile.proofs.Singles.{all_once}
use Rattle.device_profile.proofs.Order.{IsSimilar, IsSimilar-refl, LeadsAlike-permutation}

-- what was given, of which nothing is wrong with the whole
record IsWhole (draft : Draft) (printer : Printer) : Type 0 where
  complete : IsTrue (is_complete draft)
  pages : IsTrue (has_its_pages draft)
  choices : IsTrue (has_its_choices draft)
  is : printer_of_draft draft ≡ printer

unless_fault : (test : Bool) (cause : Cause) (given : Result Printer ProfileFault) (printer : Printer) →
    (if not test then Err (Fault 0 cause) else given) ≡ Ok printer → IsTrue test × (given ≡ Ok printer)
unless_fault true cause given printer is = (refl, is)
unless_fault false cause given printer is = cc

whole_draft : (draft : Draft) (printer : Printer) → printer_of draft ≡ Ok printer → IsWhole draft printer
whole_draft draft printer is =
    let choices : Result Printer ProfileFault = if not (has_its_choices draft) then Err (Fault 0 Range) else Ok (printer_of_draft draft) in
    let pages : Result Printer ProfileFault = if not (has_its_pages draft) then Err (Fault 0 NoGeometry) else choices in
    let a = unless_fault (is_complete draft) Missing pages printer is in
    let b = unless_fault (has_its_pages draft) NoGeometry choices printer a.1 in
    let c = unless_fault (has_its_choices draft) Range (Ok (printer_of_draft draft)) printer b.1 in
    record { complete = a.0; pages = b.0; choices = c.0; is = cc }

printer_of_whole : (draft : Draft) → IsTrue (is_complete draft) → IsTrue (has_its_pages draft) → IsTrue (has_its_choices draft) →
    printer_of draft ≡ Ok (printer_of_draft draft)
printer_of_whole draft complete pages choices =
    ap
    (λ b. if not b then Err (Fault 0 Missing)
    else (if not (has_its_pages draft) then Err (Fault 0 NoGeometry)
    else (if not (has_its_choices draft) then Err (Fault 0 Range) else Ok (printer_of_draft draft))))
    complete
    ∙ (ap
    (λ b.
    if not b then Err (Fault 0 NoGeometry) else (if not (has_its_choices draft) then Err (Fault 0 Range) else Ok (printer_of_draft draft)))
    pages
    ∙ ap (λ b. if not b then Err (Fault 0 Range) else Ok (printer_of_draft draft)) choices)

abbrev whole_of : Result Draft ProfileFault → Result Printer ProfileFault
whole_of given = elim given [ Ok draft ↦ printer_of draft | Err fault ↦ Err fault ]

draft_given : (too_long : Bool) (given : Result Draft ProfileFault) (printer : Printer) →
    (if too_long then Err (Fault 0 Range) else whole_of given) ≡ Ok printer
    → (draft : Draft) × (given ≡ Ok draft) × (printer_of draft ≡ Ok printer)
draft_given true given printer is = cc
draft_given false (Ok draft) printer is = (draft, refl, is)
draft_given false (Err fault) printer is = cc

-- the draft of an accepted text
draft_of_text : (text : List ℕ) (printer : Printer) → printer_of_text text ≡ Ok printer →
    (draft : Draft) × (draft_of (lines text) ≡ Ok draft) × IsWhole draft printer
unfolding printer_of_text
draft_of_text text printer is =
    let given = draft_given (nat_lt 65_536 (length text)) (draft_of (lines text)) printer is in
    (given.0, given.1, whole_draft given.0 printer given.2)

pub gives_valid : (text : List ℕ) → GivesValid text
gives_valid text printer is =
    let given = draft_of_text text printer is in
    let whole = given.2 in
    subst (λ (p : Printer). IsTrue (is_valid p)) whole.is
    (is_valid-given given.0 (lines text, given.1) whole.complete whole.pages whole.choices)

pub has_each_key_once : (text : List ℕ) → HasEachKeyOnce text
has_each_key_once text printer format is version =
    let given = draft_of_text text printer is in
    all_once (lines text) given.0 format given.1 version given.2.complete

-- tests that agree pass the same lists
agree : {X : Type 0} (p q : X → Bool) (xs : List X) → ((x : X) → p x ≡ q x) → list_all p xs ≡ list_all q xs
agree p q [] same = refl
agree p q (x ∷ xs) same = ap (λ b. b && list_all p xs) (same x) ∙ ap (λ b. q x && b) (agree p q xs same)

-- a list and its permutation pass together
all_moved : {X : Type 0} (p : X → Bool) (xs ys : List X) → IsPermutation xs ys → IsTrue (list_all p xs) → IsTrue (list_all p ys)
all_moved p xs ys moved all = list_all-from_AllPass p ys (All-permutation (λ x. p x ≡ true) xs ys moved (AllPass-from_list_all p xs all))

all_implied : {X : Type 0} (p q : X → Bool) (xs : List X) → ((x : X) → IsTrue (p x) → IsTrue (q x)) → IsTrue (list_all p xs) →
    IsTrue (list_all q xs)
all_implied p q [] implied all = refl
all_implied p q (x ∷ xs) implied all =
    let parts = and_parts (p x) (list_all p xs) all in
    and_from (q x) (list_all q xs) (implied x parts.0) (all_implied p q xs implied parts.1)

row_moved : (a b : List Geometry) → IsPermutation a b → (size orientation : ℕ) → has_row a size orientation ≡ has_row b size orientation
row_moved a b moved size orientation =
    list_any-IsPermutation (λ (row : Geometry). (row.size == size) && (row.orientation == orientation)) a b moved

pairs_moved : (a b : List Geometry) → IsPermutation a b → IsTrue (has_every_pair a) → IsTrue (has_every_pair b)
pairs_moved a b moved pairs =
    all_moved (λ (sized : Geometry). list_all (λ (turned : Geometry). has_row b sized.size turned.orientation) b) a b moved
    (all_implied (λ (sized : Geometry). list_all (λ (turned : Geometry). has_row a sized.size turned.orientation) a)
    (λ (sized : Geometry). list_all (λ (turned : Geometry). has_row b sized.size turned.orientation) b) a
    (λ sized each. all_moved (λ (turned : Geometry). has_row b sized.size turned.orientation) a b moved
    (sym (agree (λ (turned : Geometry). has_row a sized.size turned.orientation)
    (λ (turned : Geometry). has_row b sized.size turned.orientation) a (λ turned. row_moved a b moved sized.size turned.orientation))
    ∙ each))
    pairs)

-- of similar drafts either is complete, has its pages and its choices
given_too : (a b : Draft) → IsSimilar a b → (key : Key) → is_given a key ≡ is_given b key
given_too a b s Page = ap (nat_lt 0) (sym (length_permutation a.geometries b.geometries s.geometries))
given_too a b s FaceRow = ap (nat_lt 0) (sym (length_permutation a.faces b.faces s.faces))
given_too a b s key = ap (λ d. is_given d key) s.others

complete_too : (a b : Draft) → IsSimilar a b → is_complete a ≡ is_complete b
complete_too a b s = agree (is_given a) (is_given b) every_key (given_too a b s)

pages_too : (a b : Draft) → IsSimilar a b → IsTrue (has_its_pages a) → IsTrue (has_its_pages b)
unfolding has_size has_orientation
pages_too a b s pages =
    let sized : Bool = list_all (λ size. has_size a.geometries size) a.choices.sizes in
    let turned : Bool = list_all (λ orientation. has_orientation a.geometries orientation) a.choices.orientations in
    let p = and_parts (sized && turned) (has_every_pair a.geometries) pages in
    let q = and_parts sized turned p.0 in
    let sizes : a.choices.sizes ≡ b.choices.sizes = ap (λ d. d.choices.sizes) s.others in
    let orientations : a.choices.orientations ≡ b.choices.orientations = ap (λ d. d.choices.orientations) s.others in
    let sized_too : IsTrue (list_all (λ size. has_size b.geometries size) b.choices.sizes) =
    subst (λ (l : List ℕ). IsTrue (list_all (λ size. has_size b.geometries size) l)) sizes
    (sym (agree (λ size. has_size a.geometries size) (λ size. has_size b.geometries size) a.choices.sizes (λ size.
    list_any-IsPermutation (λ (row : Geometry). row.size == size) a.geometries b.geometries s.geometries))
    ∙ q.0) in
    let turned_too : IsTrue (list_all (λ orientation. has_orientation b.geometries orientation) b.choices.orientations) =
    subst (λ (l : List ℕ). IsTrue (list_all (λ orientation. has_orientation b.geometries orientation) l)) orientations
    (sym (agree (λ orientation. has_orientation a.geometries orientation)
    (λ orientation. has_orientation b.geometries orientation) a.choices.orientations
    (λ orientation. list_any-IsPermutation (λ (row : Geometry). row.orientation == orientation) a.geometries b.geometries s.geometries))
    ∙ q.1) in
    and_from _ _ (and_from _ _ sized_too turned_too) (pairs_moved a.geometries b.geometries s.geometries p.1)

choices_too : (a b : Draft) → IsSimilar a b → IsTrue (has_its_choices a) → IsTrue (has_its_choices b)
unfolding has_face
choices_too a b s choices =
    let rest : Draft → Bool = λ d. list_all (λ tray. list_any (λ held. held == tray) d.device_trays) d.choices.panel_trays in
    let sided : Draft → Bool = λ d. list_all (are_sides (is_duplex d)) d.choices.sides in
    let faced : Bool = list_all (λ font. has_face a.faces font) a.choices.fonts in
    let p = and_parts (faced && rest a) (sided a) choices in
    let q = and_parts faced (rest a) p.0 in
    let fonts : a.choices.fonts ≡ b.choices.fonts = ap (λ d. d.choices.fonts) s.others in
    let faced_too : IsTrue (list_all (λ font. has_face b.faces font) b.choices.fonts) =
    subst (λ (l : List ℕ). IsTrue (list_all (λ font. has_face b.faces font) l)) fonts
    (sym (agree (λ font. has_face a.faces font) (λ font. has_face b.faces font) a.choices.fonts (λ font.
    list_any-IsPermutation (λ (face : Face). face.id == font) a.faces b.faces s.faces))
    ∙ q.0) in
    and_from _ _ (and_from _ _ faced_too (sym (ap rest s.others) ∙ q.1)) (sym (ap sided s.others) ∙ p.1)

-- similar drafts are the same printer
same_printer : (a b : Draft) → IsSimilar a b → IsSamePrinter (printer_of_draft a) (printer_of_draft b)
same_printer a b s = record { geometries = s.geometries; faces = s.faces; others = ap printer_of_draft s.others }

draft_of_version : (first : List ℕ) (later : List (List ℕ)) (draft : Draft) (format : Format) → format_of (words_of first) ≡ Some format
    → draft_of_lines format (no_draft format) 2 later ≡ Ok draft → draft_of (first ∷ later) ≡ Ok draft
draft_of_version first later draft format version is = ap (λ named. draft_behind named later) version ∙ is

pub order_is_free : (text other : List ℕ) → OrderIsFree text other
order_is_free text other printer first later moved is all all_moved_lines permuted short =
    let given = draft_of_text text printer is in
    let whole = given.2 in
    let parts = version_given (format_of (words_of first)) later given.0 (sym (ap draft_of all) ∙ given.1) in
    let none : Draft = no_draft parts.0 in
    let alike = LeadsAlike-permutation parts.0 later moved permuted none none 2 2 given.0 (IsSimilar-refl none) parts.2 in
    let draft : Draft = alike.0 in
    let drafted : draft_of (lines other) ≡ Ok draft =
    ap draft_of all_moved_lines ∙ draft_of_version first moved draft parts.0 parts.1 alike.1 in
    let accepted : printer_of draft ≡ Ok (printer_of_draft draft) =
    printer_of_whole draft (sym (complete_too given.0 draft alike.2) ∙ whole.complete) (pages_too given.0 draft alike.2 whole.pages)
    (choices_too given.0 draft alike.2 whole.choices) in (
      printer_of_draft draft,
      of_draft other draft short drafted ∙ accepted,
      subst (λ (p : Printer). IsSamePrinter p (printer_of_draft draft)) whole.is (same_printer given.0 draft alike.2),
    )
