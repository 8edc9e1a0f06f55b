-- What a line adds to a draft, and when the draft takes it.
use Rattle.std.proofs.Common.{◌≡◌, ℕ, ◌==◌, ◌&&◌, Bool, true, false, not, List, [], ◌∷◌, ◌++◌, length, IsTrue, Option, None, Some, is_some}
use Rattle.std.proofs.Common.{Result, Ok, Err, nat_le, if◌then◌else◌, refl, sym, ap, ◌∙◌}
use Rattle.std.specs.Option.{option_map, option_map_or, option_and_then}
use Rattle.std.proofs.lemmas.Bool.{and_parts, and_from, not-true, not-false, not_from_true, not_from_false}
use Rattle.device_profile.specs.declared.field.Field.{Field}
use Rattle.device_profile.specs.declared.format.Format.{Format}
use Rattle.device_profile.specs.declared.field.Field.TheVariants.{Tray}
use Rattle.device_profile.specs.declared.geometry.Geometry.{Geometry}
use Rattle.device_profile.specs.declared.key.Key.{Key}
use Rattle.device_profile.specs.declared.key.Key.TheVariants.{Name, Choice, Trays, Duplex, Depth, Memory, Page, Face as FaceRow}
use Rattle.device_profile.specs.declared.fault.Cause.{Cause}
use Rattle.device_profile.specs.declared.fault.Cause.TheVariants.{Unknown, Range}
use Rattle.device_profile.specs.Faces.{Face}
use Rattle.device_profile.specs.Values.{are_choices, values_on_line, number_on_line, is_name}
use Rattle.device_profile.specs.GeometryLine.{row_of_words, geometry_on_line}
use Rattle.device_profile.specs.FaceLine.{face_of_words, face_on_line}
use Rattle.device_profile.specs.Draft.{Draft, choice_of, or_range, or_cause, once, draft_after_key, draft_after, with_choice, key_of}
use Rattle.device_profile.proofs.LineParts.{passed, unrepeated, of_mapped, are_choices-on_line, at_most-on_line, room_for_row, row_on_line}
use Rattle.device_profile.proofs.LineParts.{line_of_row, room_for_face, face_of_line, line_of_face}

-- what a line gives, whatever was given before it
pub data Addition : Type 0 where
  nothing new_name : Addition
  new_choice : Field → List ℕ → Addition
  new_device_trays : List ℕ → Addition
  new_duplex new_depth new_memory : ℕ → Addition
  new_page : Geometry → Addition
  new_face : Face → Addition

abbrev pub or_none : (List ℕ → Addition) → Result (List ℕ) Cause → Option Addition
or_none new (Ok values) = Some (new values)
or_none new (Err cause) = None

abbrev pub addition_of_key : Key → List (List ℕ) → Option Addition
addition_of_key Name words = if is_name words then Some new_name else None
addition_of_key (Choice field) words = or_none (new_choice field) (values_on_line field words)
addition_of_key Trays words = or_none new_device_trays (values_on_line Tray words)
addition_of_key Duplex words = option_map new_duplex (number_on_line 1 words)
addition_of_key Depth words = option_map new_depth (number_on_line 8 words)
addition_of_key Memory words = option_map new_memory (number_on_line 1_048_576 words)
addition_of_key Page words = option_map new_page (row_of_words words)
addition_of_key FaceRow words = option_map new_face (face_of_words words)

-- what a line of these words adds in a text of a version
abbrev pub addition_of : Format → List (List ℕ) → Option Addition
addition_of format [] = Some nothing
addition_of format (key ∷ words) = option_and_then (λ k. addition_of_key k words) (key_of format key)

abbrev pub takes_list : Field → List ℕ → List ℕ → Bool
takes_list field held values = (length held == 0) && are_choices field values

abbrev pub takes_number : ℕ → Option ℕ → ℕ → Bool
takes_number most held n = not (is_some held) && nat_le n most

-- whether a draft takes an addition
abbrev pub takes : Draft → Addition → Bool
takes draft nothing = true
takes draft new_name = not draft.is_named
takes draft (new_choice field values) = takes_list field (choice_of draft field) values
takes draft (new_device_trays values) = takes_list Tray draft.device_trays values
takes draft (new_duplex n) = takes_number 1 draft.duplex n
takes draft (new_depth n) = takes_number 8 draft.depth n
takes draft (new_memory n) = takes_number 1_048_576 draft.memory n
takes draft (new_page row) = room_for_row draft.geometries row
takes draft (new_face face) = room_for_face draft.faces face

-- a draft with an addition
abbrev pub added : Draft → Addition → Draft
added draft nothing = draft
added draft new_name = record draft { is_named = true }
added draft (new_choice field values) = with_choice draft field values
added draft (new_device_trays values) = record draft { device_trays = values }
added draft (new_duplex n) = record draft { duplex = Some n }
added draft (new_depth n) = record draft { depth = Some n }
added draft (new_memory n) = record draft { memory = Some n }
added draft (new_page row) = record draft { geometries = draft.geometries ++ row ∷ [] }
added draft (new_face face) = record draft { faces = draft.faces ++ face ∷ [] }

-- the next draft has one addition more, which the draft took
pub record Adds (draft : Draft) (given : Option Addition) (next : Draft) : Type 0 where
  pub addition : Addition
  pub told : given ≡ Some addition
  pub taken : IsTrue (takes draft addition)
  pub is : added draft addition ≡ next

of_cause : {X : Type 0} (f : X → Draft) (given : Result X Cause) (draft : Draft) → or_cause f given ≡ Ok draft →
    (x : X) × (given ≡ Ok x) × (f x ≡ draft)
of_cause f (Ok x) draft is = (x, refl, cc)
of_cause f (Err cause) draft is = cc

of_number : (f : ℕ → Draft) (value : Option ℕ) (draft : Draft) → or_range f value ≡ Ok draft → (n : ℕ) × (value ≡ Some n) × (f n ≡ draft)
of_number f (Some n) draft is = (n, refl, cc)
of_number f None draft is = cc

list_taken : (field : Field) (words : List (List ℕ)) (held : List ℕ) (new : List ℕ → Addition) (put : List ℕ → Draft) (next : Draft)
    → once (not (length held == 0)) (or_cause put (values_on_line field words)) ≡ Ok next
    → (values : List ℕ) × (or_none new (values_on_line field words) ≡ Some (new values)) × IsTrue (takes_list field held values)
    × (put values ≡ next)
list_taken field words held new put next is =
    let single = unrepeated (not (length held == 0)) (or_cause put (values_on_line field words)) next is in
    let given = of_cause put (values_on_line field words) next single.1 in
    let are : IsTrue (are_choices field given.0) = are_choices-on_line field words given.0 given.1 in (
      given.0,
      ap (or_none new) given.1,
      and_from (length held == 0) (are_choices field given.0) (not-false (length held == 0) single.0) are,
      given.2,
    )

number_taken : (most : ℕ) (words : List (List ℕ)) (held : Option ℕ) (new : ℕ → Addition) (put : ℕ → Draft) (next : Draft)
    → once (is_some held) (or_range put (number_on_line most words)) ≡ Ok next
    → (n : ℕ) × (option_map new (number_on_line most words) ≡ Some (new n)) × IsTrue (takes_number most held n) × (put n ≡ next)
number_taken most words held new put next is =
    let single = unrepeated (is_some held) (or_range put (number_on_line most words)) next is in
    let given = of_number put (number_on_line most words) next single.1 in
    let few : IsTrue (nat_le given.0 most) = at_most-on_line most words given.0 given.1 in (
      given.0,
      ap (option_map new) given.1,
      and_from (not (is_some held)) (nat_le given.0 most) (not_from_false (is_some held) single.0) few,
      given.2,
    )

adds_key : (draft : Draft) (key : Key) (words : List (List ℕ)) (next : Draft) → draft_after_key draft key words ≡ Ok next →
    Adds draft (addition_of_key key words) next
adds_key draft Name words next is =
    let named : Draft = record draft { is_named = true } in
    let single = unrepeated draft.is_named (if is_name words then Ok named else Err Range) next is in
    let kept = passed (is_name words) named next Range single.1 in
    record {
      addition = new_name;
      told = ap (λ b. if b then Some new_name else None) kept.0;
      taken = not_from_false draft.is_named single.0;
      is = kept.1;
    }
adds_key draft (Choice field) words next is =
    let l = list_taken field words (choice_of draft field) (new_choice field) (with_choice draft field) next is in
    record { addition = new_choice field l.0; told = l.1; taken = l.2; is = l.3 }
adds_key draft Trays words next is =
    let l = list_taken Tray words draft.device_trays new_device_trays (λ trays. record draft { device_trays = trays }) next is in
    record { addition = new_device_trays l.0; told = l.1; taken = l.2; is = l.3 }
adds_key draft Duplex words next is =
    let l = number_taken 1 words draft.duplex new_duplex (λ n. record draft { duplex = Some n }) next is in
    record { addition = new_duplex l.0; told = l.1; taken = l.2; is = l.3 }
adds_key draft Depth words next is =
    let l = number_taken 8 words draft.depth new_depth (λ n. record draft { depth = Some n }) next is in
    record { addition = new_depth l.0; told = l.1; taken = l.2; is = l.3 }
adds_key draft Memory words next is =
    let l = number_taken 1_048_576 words draft.memory new_memory (λ n. record draft { memory = Some n }) next is in
    record { addition = new_memory l.0; told = l.1; taken = l.2; is = l.3 }
adds_key draft Page words next is =
    let given =
    of_cause (λ row. record draft { geometries = draft.geometries ++ row ∷ [] }) (geometry_on_line draft.geometries words) next is in
    let row = row_on_line draft.geometries words given.0 given.1 in
    record { addition = new_page given.0; told = ap (option_map new_page) row.0; taken = row.1; is = given.2 }
adds_key draft FaceRow words next is =
    let given = of_cause (λ face. record draft { faces = draft.faces ++ face ∷ [] }) (face_on_line draft.faces words) next is in
    let face = face_of_line draft.faces words given.0 given.1 in
    record { addition = new_face given.0; told = ap (option_map new_face) face.0; taken = face.1; is = given.2 }

adds_some_key : (draft : Draft) (key : Option Key) (words : List (List ℕ)) (next : Draft) →
    option_map_or (λ k. draft_after_key draft k words) key (Err Unknown) ≡ Ok next
    → Adds draft (option_and_then (λ k. addition_of_key k words) key) next
adds_some_key draft None words next is = cc
adds_some_key draft (Some key) words next is = adds_key draft key words next is

-- a line that is right adds what its words give, which the draft takes
pub adds : (format : Format) (draft : Draft) (words : List (List ℕ)) (next : Draft) → draft_after format draft words ≡ Ok next →
    Adds draft (addition_of format words) next
adds format draft [] next is = record { addition = nothing; told = refl; taken = refl; is = cc }
adds format draft (key ∷ words) next is = adds_some_key draft (key_of format key) words next is

list_added : (draft : Draft) (field : Field) (held : List ℕ) (new : List ℕ → Addition) (put : List ℕ → Draft)
    (given : Result (List ℕ) Cause) (addition : Addition)
    → ((values : List ℕ) → takes draft (new values) ≡ takes_list field held values)
    → ((values : List ℕ) → added draft (new values) ≡ put values)
    → or_none new given ≡ Some addition → IsTrue (takes draft addition)
    → once (not (length held == 0)) (or_cause put given) ≡ Ok (added draft addition)
list_added draft field held new put (Ok values) addition test next told taken =
    let is : new values ≡ addition = cc in
    let fits : takes_list field held values ≡ true = sym (test values) ∙ (ap (takes draft) is ∙ taken) in
    let free : not (length held == 0) ≡ false =
    not_from_true (length held == 0) ((and_parts (length held == 0) (are_choices field values) fits).0) in
    ap (λ was. once was (Ok (put values))) free ∙ ap Ok (sym (next values) ∙ ap (added draft) is)
list_added draft field held new put (Err cause) addition test next told taken = cc

number_added : (draft : Draft) (most : ℕ) (held : Option ℕ) (new : ℕ → Addition) (put : ℕ → Draft) (value : Option ℕ) (addition : Addition)
    → ((n : ℕ) → takes draft (new n) ≡ takes_number most held n)
    → ((n : ℕ) → added draft (new n) ≡ put n)
    → option_map new value ≡ Some addition → IsTrue (takes draft addition)
    → once (is_some held) (or_range put value) ≡ Ok (added draft addition)
number_added draft most held new put (Some n) addition test next told taken =
    let is : new n ≡ addition = cc in
    let fits : takes_number most held n ≡ true = sym (test n) ∙ (ap (takes draft) is ∙ taken) in
    let free : is_some held ≡ false = not-true (is_some held) ((and_parts (not (is_some held)) (nat_le n most) fits).0) in
    ap (λ was. once was (Ok (put n))) free ∙ ap Ok (sym (next n) ∙ ap (added draft) is)
number_added draft most held new put None addition test next told taken = cc

name_added : (draft : Draft) (is_right : Bool) (addition : Addition) → (if is_right then Some new_name else None) ≡ Some addition →
    IsTrue (takes draft addition)
    → once draft.is_named (if is_right then Ok (record draft { is_named = true }) else Err Range) ≡ Ok (added draft addition)
name_added draft true addition told taken =
    let is : new_name ≡ addition = cc in
    let free : draft.is_named ≡ false = not-true draft.is_named (ap (takes draft) is ∙ taken) in
    ap (λ was. once was (Ok (record draft { is_named = true }))) free ∙ ap (λ a. Ok (added draft a)) is
name_added draft false addition told taken = cc

added_key : (draft : Draft) (key : Key) (words : List (List ℕ)) (addition : Addition) → addition_of_key key words ≡ Some addition →
    IsTrue (takes draft addition)
    → draft_after_key draft key words ≡ Ok (added draft addition)
added_key draft Name words addition told taken = name_added draft (is_name words) addition told taken
added_key draft (Choice field) words addition told taken =
    list_added draft field (choice_of draft field) (new_choice field) (with_choice draft field) (values_on_line field words) addition
    (λ v. refl) (λ v. refl) told taken
added_key draft Trays words addition told taken =
    list_added draft Tray draft.device_trays new_device_trays (λ trays. record draft { device_trays = trays })
    (values_on_line Tray words) addition (λ v. refl) (λ v. refl) told taken
added_key draft Duplex words addition told taken =
    number_added draft 1 draft.duplex new_duplex (λ n. record draft { duplex = Some n }) (number_on_line 1 words) addition
    (λ n. refl) (λ n. refl) told taken
added_key draft Depth words addition told taken =
    number_added draft 8 draft.depth new_depth (λ n. record draft { depth = Some n }) (number_on_line 8 words) addition
    (λ n. refl) (λ n. refl) told taken
added_key draft Memory words addition told taken =
    number_added draft 1_048_576 draft.memory new_memory (λ n. record draft { memory = Some n }) (number_on_line 1_048_576 words) addition
    (λ n. refl) (λ n. refl) told taken
added_key draft Page words addition told taken =
    let given = of_mapped new_page (row_of_words words) addition told in
    let fits : IsTrue (room_for_row draft.geometries given.0) = ap (takes draft) given.2 ∙ taken in
    let put : Geometry → Draft = λ row. record draft { geometries = draft.geometries ++ row ∷ [] } in
    ap (or_cause put) (line_of_row draft.geometries words given.0 given.1 fits) ∙ ap (λ a. Ok (added draft a)) given.2
added_key draft FaceRow words addition told taken =
    let given = of_mapped new_face (face_of_words words) addition told in
    let fits : IsTrue (room_for_face draft.faces given.0) = ap (takes draft) given.2 ∙ taken in
    let put : Face → Draft = λ face. record draft { faces = draft.faces ++ face ∷ [] } in
    ap (or_cause put) (line_of_face draft.faces words given.0 given.1 fits) ∙ ap (λ a. Ok (added draft a)) given.2

added_some_key : (draft : Draft) (key : Option Key) (words : List (List ℕ)) (addition : Addition) →
    option_and_then (λ k. addition_of_key k words) key ≡ Some addition → IsTrue (takes draft addition)
    → option_map_or (λ k. draft_after_key draft k words) key (Err Unknown) ≡ Ok (added draft addition)
added_some_key draft None words addition told taken = cc
added_some_key draft (Some key) words addition told taken = added_key draft key words addition told taken

-- a line whose addition the draft takes is right, and adds it
pub added_after : (format : Format) (draft : Draft) (words : List (List ℕ)) (addition : Addition) →
    addition_of format words ≡ Some addition → IsTrue (takes draft addition)
    → draft_after format draft words ≡ Ok (added draft addition)
added_after format draft [] addition told taken =
    let is : nothing ≡ addition = cc in
    ap (λ a. Ok (added draft a)) is
added_after format draft (key ∷ words) addition told taken = added_some_key draft (key_of format key) words addition told taken
