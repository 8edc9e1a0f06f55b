-- What lines gave is as a valid printer has it.
use Rattle.std.proofs.Common.{◌≡◌, ℕ, ◌+◌, ◌==◌, ◌&&◌, Bool, false, not, List, [], ◌∷◌, ◌++◌, length, IsTrue, Option, None, Some, Result}
use Rattle.std.proofs.Common.{Ok, Err, nat_lt, nat_le, arith, refl, sym, subst, inl, inr}
use Rattle.std.specs.Prelude.{unwrap_or}
use Rattle.std.specs.List.{list_all, list_any}
use Rattle.std.specs.Option.{option_map_or}
use Rattle.std.proofs.lemmas.Bool.{and_parts, or_parts, or_from, not-true, not_from_false, false≢true}
use Rattle.std.proofs.lemmas.Bool.Decides.{nat_tests}
use Rattle.std.proofs.lemmas.List.{length-append}
use Rattle.std.proofs.lemmas.List.Folds.{list_all-append, list_any-append}
use Rattle.device_profile.specs.declared.field.Field.{Field}
use Rattle.device_profile.specs.declared.format.Format.{Format}
use Rattle.device_profile.specs.declared.format.Format.TheVariants.{One, Two}
use Rattle.device_profile.specs.declared.field.Field.TheVariants.{Tray, LineTerm}
use Rattle.device_profile.specs.declared.fault.Cause.{Cause}
use Rattle.device_profile.specs.declared.fault.Cause.TheVariants.{Version}
use Rattle.device_profile.specs.declared.fault.ProfileFault.{ProfileFault}
use Rattle.device_profile.specs.declared.fault.ProfileFault.TheVariants.{Fault}
use Rattle.device_profile.specs.Faces.{Face, has_face, has_request, is_face, is_same_request}
use Rattle.device_profile.specs.Printer.{has_row, is_page, is_same_page}
use Rattle.device_profile.specs.Rows.{has_alike}
use Rattle.device_profile.specs.Words.{words_of}
use Rattle.device_profile.specs.Values.{are_choices}
use Rattle.device_profile.specs.Choices.{Choices, values_in, with_values}
use Rattle.device_profile.specs.Draft.{Draft, no_draft, choice_of, with_choice, draft_after}
use Rattle.device_profile.specs.Text.{format_of, words_of_line, draft_of_lines, draft_of}
use Rattle.device_profile.proofs.ChoiceFacts.{same_or_apart}
use Rattle.device_profile.proofs.Additions.{Addition, nothing, new_name, new_choice, new_device_trays, new_duplex, new_depth, new_memory}
use Rattle.device_profile.proofs.Additions.{new_page, new_face, takes, added, adds}

-- one more row fits where there is room
one_more : {X : Type 0} (xs : List X) (x : X) → IsTrue (nat_lt (length xs) 64) → IsTrue (nat_le (length (xs ++ x ∷ [])) 64)
one_more xs x room_left =
    let longer : length (xs ++ x ∷ []) ≡ length xs + 1 = length-append xs (x ∷ []) in
    grind (arith, nat_tests)

all_more : {X : Type 0} (p : X → Bool) (xs : List X) (x : X) → IsTrue (list_all p xs) → IsTrue (p x) → IsTrue (list_all p (xs ++ x ∷ []))
all_more p xs x all here = rw (list_all-append p xs (x ∷ []), all, here)

alike_more : {X : Type 0} (is_like : X → X → Bool) (xs : List X) (x : X) → has_alike is_like xs ≡ false →
    list_any (λ y. is_like y x) xs ≡ false → has_alike is_like (xs ++ x ∷ []) ≡ false
alike_more is_like [] x none fresh = refl
alike_more is_like (y ∷ ys) x none fresh =
    let before = or_parts (list_any (is_like y) ys) (has_alike is_like ys) none in
    let here = or_parts (is_like y x) (list_any (λ z. is_like z x) ys) fresh in
    or_from (list_any (is_like y) (ys ++ x ∷ [])) (has_alike is_like (ys ++ x ∷ []))
    (rw (list_any-append (is_like y) ys (x ∷ []), before.0, here.0) refl)
    (alike_more is_like ys x before.1 here.1)

-- a row that is like none leaves none like another
differ_more : {X : Type 0} (is_like : X → X → Bool) (xs : List X) (x : X) → IsTrue (not (has_alike is_like xs)) →
    IsTrue (not (list_any (λ y. is_like y x) xs)) → IsTrue (not (has_alike is_like (xs ++ x ∷ [])))
differ_more is_like xs x differ fresh =
    not_from_false (has_alike is_like (xs ++ x ∷ []))
    (alike_more is_like xs x (not-true (has_alike is_like xs) differ) (not-true (list_any (λ y. is_like y x) xs) fresh))

-- the values of a field are allowed, where some were given
abbrev Fits : Field → List ℕ → Type 0
Fits field values = IsTrue (nat_lt 0 (length values)) → IsTrue (are_choices field values)

-- what was given is as its keys allow
pub record Sound (draft : Draft) : Type 0 where
  pub choices : (field : Field) → Fits field (choice_of draft field)
  pub device_trays : Fits Tray draft.device_trays
  pub depth : IsTrue (nat_le (unwrap_or draft.depth 0) 8)
  pub memory : IsTrue (nat_le (unwrap_or draft.memory 0) 1_048_576)
  pub few_pages : IsTrue (nat_le (length draft.geometries) 64)
  pub new_pages : IsTrue (not (has_alike is_same_page draft.geometries))
  pub pages : IsTrue (list_all is_page draft.geometries)
  pub few_faces : IsTrue (nat_le (length draft.faces) 64)
  pub new_ids : IsTrue (not (has_alike (λ a b. a.id == b.id) draft.faces))
  pub new_requests : IsTrue (not (has_alike (λ a b. is_same_request a.request b.request) draft.faces))
  pub faces : IsTrue (list_all is_face draft.faces)

Fits-before : (format : Format) (field : Field) → Fits field (choice_of (no_draft format) field)
Fits-before One LineTerm some = refl
Fits-before Two LineTerm some = absurd (false≢true some)
Fits-before format field some = absurd (false≢true some)

Sound-none : (format : Format) → Sound (no_draft format)
Sound-none format = record {
  choices = Fits-before format;
  device_trays = λ some. absurd (false≢true some);
  depth = refl;
  memory = refl;
  few_pages = refl;
  new_pages = refl;
  pages = refl;
  few_faces = refl;
  new_ids = refl;
  new_requests = refl;
  faces = refl;
}

-- where new values fit their field, and the others fitted theirs
Fits-with : (choices : Choices) (field : Field) (values : List ℕ) → Fits field values →
    ((other : Field) → Fits other (values_in choices other))
    → (other : Field) → Fits other (values_in (with_values choices field values) other)
Fits-with choices field values new before other =
    elim (same_or_apart field other) [
      | inl are ↦
          subst (λ (held : List ℕ). Fits other held) (sym (are.set choices values)) (subst (λ (f : Field). Fits f values) are.same new)
      | inr are ↦ subst (λ (held : List ℕ). Fits other held) (sym (are.second_kept choices values)) (before other)
    ]

with_list : (field : Field) (held values : List ℕ) → IsTrue ((length held == 0) && are_choices field values) → Fits field values
with_list field held values taken some = (and_parts (length held == 0) (are_choices field values) taken).1

-- a sound draft with an addition that it takes is sound
Sound-added : (draft : Draft) (addition : Addition) → IsTrue (takes draft addition) → Sound draft → Sound (added draft addition)
unfolding has_face has_request
Sound-added draft nothing taken s = s
Sound-added draft new_name taken s = assumption s
Sound-added draft (new_choice field values) taken s =
    let all : (other : Field) → Fits other (choice_of (with_choice draft field values) other) =
    Fits-with draft.choices field values (with_list field (choice_of draft field) values taken) s.choices in
    assumption all
Sound-added draft (new_device_trays values) taken s =
    let new : Fits Tray values = with_list Tray draft.device_trays values taken in assumption new
Sound-added draft (new_duplex n) taken s = assumption s
Sound-added draft (new_depth n) taken s = let new : IsTrue (nat_le n 8) = (and_parts _ (nat_le n 8) taken).1 in assumption new
Sound-added draft (new_memory n) taken s =
    let new : IsTrue (nat_le n 1_048_576) = (and_parts _ (nat_le n 1_048_576) taken).1 in assumption new
Sound-added draft (new_page row) taken s =
    let whole =
    and_parts (not (has_row draft.geometries row.size row.orientation) && nat_lt (length draft.geometries) 64) (is_page row) taken in
    let parts = and_parts (not (has_row draft.geometries row.size row.orientation)) (nat_lt (length draft.geometries) 64) whole.0 in
    let few : IsTrue (nat_le (length (draft.geometries ++ row ∷ [])) 64) = one_more draft.geometries row parts.1 in
    let differ : IsTrue (not (has_alike is_same_page (draft.geometries ++ row ∷ []))) =
    differ_more is_same_page draft.geometries row s.new_pages parts.0 in
    let all : IsTrue (list_all is_page (draft.geometries ++ row ∷ [])) = all_more is_page draft.geometries row s.pages whole.1 in
    assumption (few, differ, all)
Sound-added draft (new_face face) taken s =
    let no_id : Bool = not (has_face draft.faces face.id) in
    let no_request : Bool = not (has_request draft.faces face.request) in
    let a = and_parts (no_id && no_request && nat_lt (length draft.faces) 64) (is_face face) taken in
    let b = and_parts (no_id && no_request) (nat_lt (length draft.faces) 64) a.0 in
    let c = and_parts no_id no_request b.0 in
    let few : IsTrue (nat_le (length (draft.faces ++ face ∷ [])) 64) = one_more draft.faces face b.1 in
    let ids : IsTrue (not (has_alike (λ (a : Face) (b : Face). a.id == b.id) (draft.faces ++ face ∷ []))) =
    differ_more (λ (a : Face) (b : Face). a.id == b.id) draft.faces face s.new_ids c.0 in
    let requests : IsTrue (not (has_alike (λ (a : Face) (b : Face). is_same_request a.request b.request) (draft.faces ++ face ∷ []))) =
    differ_more (λ (a : Face) (b : Face). is_same_request a.request b.request) draft.faces face s.new_requests c.1 in
    let all : IsTrue (list_all is_face (draft.faces ++ face ∷ [])) = all_more is_face draft.faces face s.faces a.1 in
    assumption (few, ids, requests, all)

-- the lines behind a line, or the line's fault
abbrev pub or_fault : Result Draft Cause → (Draft → Result Draft ProfileFault) → ℕ → Result Draft ProfileFault
or_fault given more number = elim given [ Ok next ↦ more next | Err cause ↦ Err (Fault number cause) ]

-- a line that is right goes before the lines behind it
pub line_given : (given : Result Draft Cause) (more : Draft → Result Draft ProfileFault) (number : ℕ) (last : Draft)
    → or_fault given more number ≡ Ok last
    → (next : Draft) × (given ≡ Ok next) × (more next ≡ Ok last)
line_given (Ok next) more number last is = (next, refl, is)
line_given (Err cause) more number last is = cc

Sound-of_lines : (format : Format) (lines : List (List ℕ)) (draft : Draft) (number : ℕ) (last : Draft) →
    draft_of_lines format draft number lines ≡ Ok last → Sound draft → Sound last
Sound-of_lines format [] draft number last is s = let same : draft ≡ last = cc in subst Sound same s
Sound-of_lines format (line ∷ lines) draft number last is s =
    let given =
    line_given (draft_after format draft (words_of_line line)) (λ next. draft_of_lines format next (number + 1) lines) number last is in
    let step = adds format draft (words_of_line line) given.0 given.1 in
    Sound-of_lines format lines given.0 (number + 1) last given.2 (subst Sound step.is (Sound-added draft step.addition step.taken s))

-- the draft of the lines behind a first line that names this version, or names none
abbrev pub draft_behind : Option Format → List (List ℕ) → Result Draft ProfileFault
draft_behind named lines = option_map_or (λ format. draft_of_lines format (no_draft format) 2 lines) named (Err (Fault 1 Version))

-- the first line names a version, and the others give the draft
pub version_given : (named : Option Format) (lines : List (List ℕ)) (draft : Draft) → draft_behind named lines ≡ Ok draft
    → (format : Format) × (named ≡ Some format) × (draft_of_lines format (no_draft format) 2 lines ≡ Ok draft)
version_given (Some format) lines draft is = (format, refl, is)
version_given None lines draft is = cc

-- what some lines give is sound
pub Sound-of : (lines : List (List ℕ)) (draft : Draft) → draft_of lines ≡ Ok draft → Sound draft
Sound-of [] draft is = cc
Sound-of (first ∷ lines) draft is =
    let given = version_given (format_of (words_of first)) lines draft is in
    Sound-of_lines given.0 lines (no_draft given.0) 2 draft given.2 (Sound-none given.0)
