-- What was given is a valid printer where nothing is wrong with the whole.
use Rattle.std.proofs.Common.{Bool, ◌&&◌, ◌==◌, IsTrue}
use Rattle.std.specs.List.{list_all, list_any}
use Rattle.std.proofs.lemmas.Bool.{and_parts}
use Rattle.device_profile.specs.declared.field.Field.{Field}
use Rattle.device_profile.specs.declared.field.Field.TheVariants.{Size, Orientation, Vmi, Font, Copies, Sides, Tray, LineTerm}
use Rattle.device_profile.specs.declared.key.Key.{Key}
use Rattle.device_profile.specs.declared.key.Key.TheVariants.{Choice, Trays}
use Rattle.device_profile.specs.Printer.{is_valid, has_size, has_orientation, has_every_pair, are_sides}
use Rattle.device_profile.specs.Faces.{has_face}
use Rattle.device_profile.specs.Values.{are_choices}
use Rattle.device_profile.specs.Draft.{Draft, choice_of}
use Rattle.device_profile.specs.Text.{is_given, is_complete, is_duplex, has_its_pages, has_its_choices, printer_of_draft}
use Rattle.device_profile.specs.Given.{IsGiven}
use Rattle.device_profile.proofs.GivenKeys.{each_given}
use Rattle.device_profile.proofs.Sound.{Sound, Sound-of}

is_valid-sound : (draft : Draft) → Sound draft → IsTrue (is_complete draft) → IsTrue (has_its_pages draft) → IsTrue (has_its_choices draft)
    → IsTrue (is_valid (printer_of_draft draft))
is_valid-sound draft s complete pages choices =
    let given : (key : Key) → IsTrue (is_given draft key) = each_given draft complete in
    let chosen : (field : Field) → IsTrue (are_choices field (choice_of draft field)) = λ field. s.choices field (given (Choice field)) in
    let sized : Bool = list_all (λ size. has_size draft.geometries size) draft.choices.sizes in
    let turned : Bool = list_all (λ orientation. has_orientation draft.geometries orientation) draft.choices.orientations in
    let faced : Bool = list_all (λ font. has_face draft.faces font) draft.choices.fonts in
    let held : Bool = list_all (λ tray. list_any (λ held. held == tray) draft.device_trays) draft.choices.panel_trays in
    let sided : Bool = list_all (are_sides (is_duplex draft)) draft.choices.sides in
    let p2 = and_parts (sized && turned) (has_every_pair draft.geometries) pages in
    let p1 = and_parts sized turned p2.0 in
    let o2 = and_parts (faced && held) sided choices in
    let o1 = and_parts faced held o2.0 in
    rw (
      chosen Size,
      chosen Orientation,
      chosen Vmi,
      chosen Font,
      chosen Copies,
      chosen Sides,
      chosen Tray,
      chosen LineTerm,
      s.device_trays (given Trays),
      p1.0,
      p1.1,
      o1.0,
      o1.1,
      o2.1,
      s.depth,
      s.memory,
      s.few_pages,
      s.new_pages,
      p2.1,
      s.pages,
      s.few_faces,
      s.new_ids,
      s.new_requests,
      s.faces,
    )

-- a draft that some lines gave is a valid printer where nothing is wrong with the whole
pub is_valid-given : (draft : Draft) → IsGiven draft → IsTrue (is_complete draft) → IsTrue (has_its_pages draft) →
    IsTrue (has_its_choices draft)
    → IsTrue (is_valid (printer_of_draft draft))
is_valid-given draft given = is_valid-sound draft (Sound-of given.0 draft given.1)
