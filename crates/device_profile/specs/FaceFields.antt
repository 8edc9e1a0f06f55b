-- A row's fields, as a face.
use Rattle.std.specs.Prelude.{◌≡◌, ◌<◌, ℕ, get_or, false, IsTrue}
use Rattle.device_profile.specs.Faces.{Face, has_metrics, has_code, is_text_of}
use Rattle.device_profile.specs.declared.font.FontRow.TheInside.{Inside}

abbrev pub face_of : {A : Type 0} → Inside A → Face
face_of row = record {
  id = row.id;
  request = row.request;
  advance = row.advance;
  ascent = row.ascent;
  descent = row.descent;
  codes = row.codes.items;
}

-- the face has its metrics, and the tables of its codes are those of its ranges
abbrev pub IsFace : {A : Type 0} → Inside A → Type 0
IsFace row =
    IsTrue (has_metrics (face_of row))
    × ((code : ℕ) → code < 256 → get_or row.prints code false ≡ has_code row.codes.items code)
    × ((code : ℕ) → code < 256 → get_or row.text code false ≡ is_text_of row.codes.items code)
