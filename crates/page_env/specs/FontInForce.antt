-- The font in force: what the job set of the request, and else what the panel's font answers.
use Rattle.std.specs.Prelude.{ℕ, pos, ◌&&◌, cond, Bool, Option, is_some, unwrap_or, List, [], ◌∷◌}
use Rattle.std.specs.Option.{option_map_or}
use Rattle.device_profile.specs.declared.field.Field.{Field}
use Rattle.device_profile.specs.declared.field.Field.TheVariants.{Font}
use Rattle.device_profile.specs.declared.font.FontRequest.{FontRequest}
use Rattle.device_profile.specs.Faces.{Face, face_at, face_for}
use Rattle.device_profile.specs.Printer.{Printer}
use Rattle.page_env.specs.declared.page.FontParts.{FontParts}
use Rattle.page_env.specs.Settings.{State}

-- the job has set every part
abbrev pub are_set : FontParts → Bool
are_set parts =
    is_some parts.symbol_set && is_some parts.spacing && is_some parts.pitch && is_some parts.height
    && is_some parts.style && is_some parts.weight && is_some parts.typeface

-- a request that no face answers: of the spacing 1
abbrev pub no_request : FontRequest
no_request = record {
  symbol_set = record { number = 0; letter = 0 };
  spacing = 1;
  pitch = 0;
  height = 0;
  style = 0;
  weight = pos 0;
  typeface = 0;
}

-- what the face with this id answers
abbrev pub request_at : List Face → ℕ → FontRequest
request_at faces id = option_map_or (λ face. face.request) (face_at faces id) no_request

-- a request with the parts that are set in place of its own
abbrev pub with_parts : FontParts → FontRequest → FontRequest
with_parts parts request = record {
  symbol_set = unwrap_or parts.symbol_set request.symbol_set;
  spacing = unwrap_or parts.spacing request.spacing;
  pitch = unwrap_or parts.pitch request.pitch;
  height = unwrap_or parts.height request.height;
  style = unwrap_or parts.style request.style;
  weight = unwrap_or parts.weight request.weight;
  typeface = unwrap_or parts.typeface request.typeface;
}

-- the request in force: what the job set, and else what the panel's font answers
abbrev pub request_of : Printer → State → FontRequest
request_of printer s = with_parts s.settings.job.font (request_at printer.faces s.settings.fields.font)

-- the face in force, where one answers the request in all parts
abbrev pub face_of : Printer → State → Option Face
face_of printer s = face_for printer.faces (request_of printer s)

-- the font reads the panel's while a part is not set
abbrev pub font_reads : FontParts → List Field
font_reads parts = cond (are_set parts) [] (Font ∷ [])
