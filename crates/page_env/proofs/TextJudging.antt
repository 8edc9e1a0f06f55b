-- How text is judged.
use Rattle.std.proofs.Common.{◌≡◌, ℕ, ℤ, pos, Bool, true, false, not, cond, Option, Some, None, is_some, List, [], ◌∷◌, ◌++◌, Result, Ok}
use Rattle.std.proofs.Common.{Err, refl, ap, sym, ◌∙◌}
use Rattle.std.specs.Prelude.{◌+ℤ◌, unwrap_or}
use Rattle.std.specs.Option.{option_map_or}
use Rattle.std.specs.Result.{IsErrAnd}
use Rattle.device_profile.specs.declared.field.Field.{Field}
use Rattle.device_profile.specs.declared.font.FontRequest.{FontRequest}
use Rattle.device_profile.specs.declared.geometry.Geometry.{Geometry}
use Rattle.device_profile.specs.declared.panel.Panel.{Panel}
use Rattle.device_profile.specs.Faces.{Face, face_for}
use Rattle.device_profile.specs.Printer.{Printer}
use Rattle.page_env.specs.declared.page.Env.{Env}
use Rattle.page_env.specs.declared.places.Origin.{Origin}
use Rattle.page_env.specs.Settings.{Settings, State, settings_at}
use Rattle.page_env.specs.FontInForce.{request_of, face_of, font_reads}
use Rattle.page_env.specs.Places.{geometry_of, origin_of, vertical_place, column_with, column_from}
use Rattle.page_env.specs.Effect.{check, is_unset, first_finding, first_unset, effect_of, Step, Goes, Fails, ReadsFields}
use Rattle.page_env.specs.Text.{behind_of, text_reads, edge_checks, transparent_space, character_checks, character_box, character}
use Rattle.page_env.specs.declared.finding.Finding.{Finding}
use Rattle.page_env.specs.declared.finding.Finding.TheVariants.{NoFont}
use Rattle.page_env.proofs.Lines.{late_line}

-- what is found at the edge of the text is found, whatever else is checked behind it
pub found_at_edge : (has off past : Bool) (e f g finding : Finding) (rest : Option Finding) → has ≡ true →
    cond off (Some f) (cond past (Some g) None) ≡ Some finding →
    cond (not has) (Some e) (cond off (Some f) (cond past (Some g) rest)) ≡ Some finding
found_at_edge true true past e f g finding rest is h = h
found_at_edge true false true e f g finding rest is h = h
found_at_edge true false false e f g finding rest is h = absurd cc
found_at_edge false off past e f g finding rest is h = absurd cc

-- what is taken is what was judged
pub taken_is : {X : Type 0} (b : Bool) (x y : X) → Some y ≡ cond b (Some x) None → y ≡ x
taken_is true x y e = cc
taken_is false x y e = absurd cc

-- so is what is made of it
pub taken_as : {X Y : Type 0} (b : Bool) (x y : X) (u v : Y) → Some y ≡ cond b (Some x) None → u ≡ v → Some u ≡ cond b (Some v) None
taken_as true x y u v e same = ap Some same
taken_as false x y u v e same = absurd cc

pub left_as : {X Y : Type 0} (b : Bool) (x : X) (v : Y) → None ≡ cond b (Some x) None → None ≡ cond b (Some v) None
left_as true x v e = absurd cc
left_as false x v e = refl

-- what is read first, and what behind it
pub unset_in_first : (settings : Settings) (field : Field) (xs ys : List Field) → first_unset settings xs ≡ Some field →
    first_unset settings (xs ++ ys) ≡ Some field
unset_in_first settings field [] ys e = absurd cc
unset_in_first settings field (x ∷ xs) ys e =
    by (is_unset settings x) (first_unset settings xs) (first_unset settings (xs ++ ys)) (unset_in_first settings field xs ys) e
  where
    by : (b : Bool) (u v : Option Field) → (u ≡ Some field → v ≡ Some field) → cond b (Some x) u ≡ Some field →
        cond b (Some x) v ≡ Some field
    by true u v h e = e
    by false u v h e = h e

-- where nothing of what is read first is unset, what is read behind it tells
pub unset_in_second : (settings : Settings) (xs ys : List Field) (found : Option Field) → first_unset settings xs ≡ None →
    first_unset settings ys ≡ found → first_unset settings (xs ++ ys) ≡ found
unset_in_second settings [] ys found set e = e
unset_in_second settings (x ∷ xs) ys found set e =
    by (is_unset settings x) (first_unset settings xs) (first_unset settings (xs ++ ys))
    (λ none. unset_in_second settings xs ys found none e) set
  where
    by : (b : Bool) (u v : Option Field) → (u ≡ None → v ≡ found) → cond b (Some x) u ≡ None → cond b (Some x) v ≡ found
    by true u v h e = absurd cc
    by false u v h e = h e

-- an answer of `?` that names the field
pub reads_fail : {T : Type 0} (env : Env) (fields : List Field) (f : Panel → T) (field : Field) (r : Result T Field) →
    IsErrAnd r (λ e. e ≡ field) → ((panel : Panel) → first_unset (settings_at panel env) fields ≡ Some field) → ReadsFields env fields f r
reads_fail env fields f field (Ok value) is h = absurd is
reads_fail env fields f field (Err found) is h = λ panel. h panel ∙ ap Some (sym is)

-- the column of a face that answers
pub column_of_face : (hmi : Option ℕ) (face : Face) → column_from hmi (Some face) ≡ Some (column_with hmi face)
column_of_face None face = refl
column_of_face (Some hmi) face = refl

-- a character of the face that answers, of which its checks find something
pub character_fails : (printer : Printer) (s : State) (code : ℕ) (face : Face) (g : Geometry) (origin : Origin) (y : ℤ)
    (request : FontRequest) (place_x place_y : ℤ) (finding : Finding) →
    first_unset s.settings (text_reads s.cursor.y (font_reads s.settings.job.font)) ≡ None →
    ◌≡◌ {A = Geometry × Origin × ℤ × FontRequest}
    (geometry_of printer s, origin_of printer s, vertical_place s, request_of printer s) (g, origin, y, request) →
    place_x ≡ origin.x +ℤ s.cursor.x → place_y ≡ origin.y +ℤ y → Some face ≡ face_for printer.faces request →
    first_finding (character_checks g face code (unwrap_or s.settings.job.right_margin g.logical_width) s.cursor.x
    (s.cursor.x +ℤ pos (column_with s.settings.job.hmi face)) (character_box face place_x place_y))
    ≡ Some finding →
    effect_of s.settings (Step (character printer s code)) ≡ Fails finding
character_fails printer s code face g origin y request place_x place_y finding set read at_x at_y answers judged =
    let x = s.cursor.x in
    let right = s.settings.job.right_margin in
    let hmi = s.settings.job.hmi in
    let at : face_of printer s ≡ Some face = ap (λ r. face_for printer.faces r.3) read ∙ sym answers in
    let behind : behind_of printer s ≡ x +ℤ pos (column_with hmi face) =
    ap (λ o. x +ℤ pos (unwrap_or (column_from hmi o) 0)) at ∙ ap (λ o. x +ℤ pos (unwrap_or o 0)) (column_of_face hmi face) in
    let late : first_finding (character printer s code).checks_after ≡ Some finding =
    (λ i. first_finding (option_map_or
    (λ face. character_checks (read i).0 face code (unwrap_or right (read i).0.logical_width) x (behind i)
    (character_box face ((read i).1.x +ℤ x) ((read i).1.y +ℤ (read i).2)))
    (at i) (check true NoFont ∷ [])))
    ∙ (λ i. first_finding (character_checks g face code (unwrap_or right g.logical_width) x (x +ℤ pos (column_with hmi face))
    (character_box face (sym at_x i) (sym at_y i))))
    ∙ judged in
    late_line s.settings (character printer s code)
    (Goes (character printer s code).state (character printer s code).marks) finding refl set late

-- what is checked of a space of transparent print data, where a face answers
pub space_judged : (printer : Printer) (s : State) (face : Face) (g : Geometry) (origin : Origin) (y : ℤ) (request : FontRequest) →
    ◌≡◌ {A = Geometry × Origin × ℤ × FontRequest}
    (geometry_of printer s, origin_of printer s, vertical_place s, request_of printer s) (g, origin, y, request) →
    Some face ≡ face_for printer.faces request →
    first_finding (transparent_space printer s).checks_after
    ≡ first_finding (edge_checks (unwrap_or s.settings.job.right_margin g.logical_width) g.logical_width s.cursor.x
    (s.cursor.x +ℤ pos (column_with s.settings.job.hmi face)))
space_judged printer s face g origin y request read answers =
    let x = s.cursor.x in
    let right = s.settings.job.right_margin in
    let hmi = s.settings.job.hmi in
    let at : face_of printer s ≡ Some face = ap (λ r. face_for printer.faces r.3) read ∙ sym answers in
    let behind : behind_of printer s ≡ x +ℤ pos (column_with hmi face) =
    ap (λ o. x +ℤ pos (unwrap_or (column_from hmi o) 0)) at ∙ ap (λ o. x +ℤ pos (unwrap_or o 0)) (column_of_face hmi face) in
    λ i. first_finding
    (check (not (is_some (at i))) NoFont ∷ edge_checks (unwrap_or right (read i).0.logical_width) (read i).0.logical_width x (behind i))
