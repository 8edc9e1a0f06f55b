-- Facts of text.
use Rattle.std.proofs.Common.{◌≡◌, ◌==◌, ℕ, Bool, true, false, not, [], ◌∷◌, None, Some, Option, refl}
use Rattle.std.specs.Prelude.{◌&&◌, int_lt}
use Rattle.std.specs.Option.{option_map_or}
use Rattle.device_profile.specs.declared.geometry.Geometry.{Geometry}
use Rattle.device_profile.specs.Faces.{Face, has_code}
use Rattle.device_profile.specs.Printer.{Printer}
use Rattle.page_env.specs.declared.finding.Finding.{Finding}
use Rattle.page_env.specs.declared.finding.Finding.TheVariants.{NoFont, NoGlyph, OffPage, PastRightMargin, NotPrintable}
use Rattle.page_env.specs.Settings.{State}
use Rattle.page_env.specs.FontInForce.{face_of}
use Rattle.page_env.specs.Mark.{Character, is_inside}
use Rattle.page_env.specs.Places.{geometry_of, right_of}
use Rattle.page_env.specs.Effect.{check, first_finding, moving}
use Rattle.page_env.specs.Order.{is_in_order}
use Rattle.page_env.specs.Text.{behind_of, glyph_of, checks_of, character, space, transparent_space, print_byte, print_transparent}
use Rattle.page_env.specs.Sound.{plain_state, AreInside, IsSound, IsSoundByte}
use Rattle.page_env.proofs.Sound.{quiet, either_line, characters_rise, spaces_rise}

-- where four checks find nothing, the last of them does not apply
last_of_four : (a b c d : Bool) (e f g h : Finding) → first_finding (check a e ∷ check b f ∷ check c g ∷ check (not d) h ∷ []) ≡ None →
    d ≡ true
last_of_four true b c d e f g h none = absurd cc
last_of_four false true c d e f g h none = absurd cc
last_of_four false false true d e f g h none = absurd cc
last_of_four false false false true e f g h none = refl
last_of_four false false false false e f g h none = absurd cc

module _ (printer : Printer) (s : State) where
  space_is_sound : IsSound printer s (space printer s) (space printer (plain_state s))
  space_is_sound = quiet (spaces_rise s.cursor.y s.settings.job) refl refl refl refl refl refl refl

  transparent_space_is_sound : IsSound printer s (transparent_space printer s) (transparent_space printer (plain_state s))
  transparent_space_is_sound = quiet (characters_rise s.cursor.y s.settings.job.font) refl refl refl refl refl refl refl

  character_is_sound : (code : ℕ) → IsSound printer s (character printer s code) (character printer (plain_state s) code)
  character_is_sound code = record {
    same = refl;
    ordered = by_face (face_of printer s) (λ face. refl) refl;
    reads_ordered = characters_rise s.cursor.y s.settings.job.font;
    unmarked = λ e. absurd cc;
    inside = λ none. insides (face_of printer s) none;
    size = refl;
    orientation = refl;
    room = λ none h. h;
  }
    where
      g : Geometry
      g = geometry_of printer s

      by_face : (face : Option Face) → ((face : Face) → is_in_order
          (record (moving s) { checks_after = checks_of printer s code face }) ≡ true) →
          is_in_order (record (moving s) { checks_after = check true NoFont ∷ [] }) ≡ true →
          is_in_order (record (moving s) { checks_after = option_map_or (checks_of printer s code) face (check true NoFont ∷ []) }) ≡ true
      by_face None some none = none
      by_face (Some face) some none = some face

      insides : (face : Option Face) → first_finding (option_map_or (checks_of printer s code) face (check true NoFont ∷ [])) ≡ None →
          AreInside g (option_map_or (λ face. Character (glyph_of printer s code face) ∷ []) face [])
      insides None none = tt
      insides (Some face) none =
          let left = int_lt s.cursor.x (right_of printer s) in
          let off = int_lt g.logical_width (behind_of printer s) in
          let past = int_lt (right_of printer s) (behind_of printer s) in (
            last_of_four (not (has_code face.codes code)) (not left && off) (left && past)
                (is_inside g (glyph_of printer s code face).bounds) (NoGlyph code) OffPage PastRightMargin NotPrintable none,
            tt,
          )

  pub byte_is_sound : (code : ℕ) → IsSound printer s (print_byte printer s code) (print_byte printer (plain_state s) code)
  byte_is_sound code = either_line (code == 32) s _ _ _ _ space_is_sound (character_is_sound code)

  pub transparent_is_sound : (code : ℕ) →
      IsSound printer s (print_transparent printer s code) (print_transparent printer (plain_state s) code)
  transparent_is_sound code = either_line (code == 32) s _ _ _ _ transparent_space_is_sound (character_is_sound code)

pub each_byte_is_sound : (printer : Printer) (code : ℕ) → IsSoundByte printer code
each_byte_is_sound printer code = λ s. transparent_is_sound printer s code
