-- Text: the bytes of a job that print, and those of transparent print data (`&p#X`).
use Rattle.std.specs.Prelude.{ℕ, ℤ, pos, ◌==◌, ◌&&◌, not, cond, true, Bool, ◌+ℤ◌, ◌-ℤ◌, int_lt, Option, Some, List, []}
use Rattle.std.specs.Prelude.{◌∷◌, ◌++◌}
use Rattle.std.specs.Option.{option_map_or}
use Rattle.device_profile.specs.declared.field.Field.{Field}
use Rattle.device_profile.specs.declared.field.Field.TheVariants.{Size, Orientation}
use Rattle.device_profile.specs.declared.geometry.Geometry.{Geometry}
use Rattle.device_profile.specs.Faces.{Face, has_code}
use Rattle.device_profile.specs.Printer.{Printer}
use Rattle.page_env.specs.declared.finding.Finding.TheVariants.{NoFont, OffPage, NotPrintable, NoGlyph, PastRightMargin}
use Rattle.page_env.specs.declared.mark.Bounds.{Bounds}
use Rattle.page_env.specs.declared.mark.Glyph.{Glyph}
use Rattle.page_env.specs.Settings.{State}
use Rattle.page_env.specs.FontInForce.{request_of, face_of, font_reads}
use Rattle.page_env.specs.Fonts.{no_font, no_column}
use Rattle.page_env.specs.Places.{geometry_of, x_on_sheet, y_on_sheet, column_width, column_reads, right_of}
use Rattle.page_env.specs.Places.{vertical_place, vertical_reads}
use Rattle.page_env.specs.Mark.{Character, is_inside}
use Rattle.page_env.specs.Effect.{Check, check, TableLine}

-- A character that begins left of the right margin may not lead past it, and another one not past the logical page.
abbrev pub edge_checks : (right width x behind : ℤ) → List Check
edge_checks right width x behind =
    let is_left : Bool = int_lt x right in
    check (not is_left && int_lt width behind) OffPage ∷ check (is_left && int_lt right behind) PastRightMargin ∷ []

-- where the cursor stands behind a character
abbrev pub behind_of : Printer → State → ℤ
behind_of printer s = s.cursor.x +ℤ pos (column_width printer s)

abbrev pub moves_within : Printer → State → List Check
moves_within printer s =
    edge_checks (right_of printer s) (geometry_of printer s).logical_width s.cursor.x (behind_of printer s)

-- the cursor behind a character; a home becomes a number
abbrev pub advanced : Printer → State → State
advanced printer s = record s { cursor = record { x = behind_of printer s; y = Some (vertical_place s) } }

-- what text reads: the page, the VMI at a home, and these
unfoldable pub text_reads : Option ℤ → List Field → List Field
text_reads y others = Size ∷ Orientation ∷ vertical_reads y ++ others

-- a space, which makes no mark: a column
abbrev pub space : Printer → State → TableLine
space printer s = record {
  checks_before = [];
  reads = text_reads s.cursor.y (column_reads s.settings.job);
  checks_after = no_column printer s ∷ moves_within printer s;
  state = advanced printer s;
  marks = [];
}

-- a space of transparent print data, for which there has to be a font
abbrev pub transparent_space : Printer → State → TableLine
transparent_space printer s = record (space printer s) {
  reads = text_reads s.cursor.y (font_reads s.settings.job.font);
  checks_after = no_font printer s ∷ moves_within printer s;
}

-- the box of a character with its reference point at a place of the sheet
abbrev pub character_box : Face → (x y : ℤ) → Bounds
character_box face x y =
    record { left = x; top = y -ℤ face.ascent; right = x +ℤ face.advance; bottom = y +ℤ face.descent }

-- what may be wrong with a character:
-- it has no such code, it leads too far, or its box does not lie in the printable area
abbrev pub character_checks : Geometry → Face → ℕ → (right x behind : ℤ) → Bounds → List Check
character_checks g face code right x behind box =
    check (not (has_code face.codes code)) (NoGlyph code) ∷ edge_checks right g.logical_width x behind
    ++ check (not (is_inside g box)) NotPrintable ∷ []

-- the mark of a character of a face, with its reference point at the cursor
abbrev pub glyph_of : Printer → State → ℕ → Face → Glyph
glyph_of printer s code face =
    record {
      code = code;
      request = request_of printer s;
      y = y_on_sheet printer s;
      bounds = character_box face (x_on_sheet printer s) (y_on_sheet printer s);
    }

-- what may be wrong with it
abbrev pub checks_of : Printer → State → ℕ → Face → List Check
checks_of printer s code face =
    character_checks (geometry_of printer s) face code (right_of printer s) s.cursor.x (behind_of printer s)
    (glyph_of printer s code face).bounds

-- a character that prints, where a face answers the request
abbrev pub character : Printer → State → ℕ → TableLine
character printer s code = record {
  checks_before = [];
  reads = text_reads s.cursor.y (font_reads s.settings.job.font);
  checks_after = option_map_or (checks_of printer s code) (face_of printer s) (check true NoFont ∷ []);
  state = record (advanced printer s) { marked = true };
  marks = option_map_or (λ face. Character (glyph_of printer s code face) ∷ []) (face_of printer s) [];
}

-- a byte of text
abbrev pub print_byte : Printer → State → ℕ → TableLine
print_byte printer s code = cond (code == 32) (space printer s) (character printer s code)

-- a byte of transparent print data, whatever its code
abbrev pub print_transparent : Printer → State → ℕ → TableLine
print_transparent printer s code = cond (code == 32) (transparent_space printer s) (character printer s code)
