-- A printer for examples and tests.
use Rattle.std.specs.Prelude.{ℕ, pos, true, List, [], ◌∷◌, None}
use Rattle.device_profile.specs.Faces.{Face}
use Rattle.device_profile.specs.Printer.{Printer}
use Rattle.device_profile.specs.Rows.{of_7200ths, row_of}
use Rattle.device_profile.specs.declared.font.CodeRange.{CodeRange}
use Rattle.device_profile.specs.declared.font.FontRequest.{FontRequest}
use Rattle.device_profile.specs.declared.geometry.Geometry.{Geometry}

-- letter and A4, in portrait and in landscape
abbrev pub pages_a : List Geometry
pages_a =
    row_of (2 ∷ 0 ∷ 61200 ∷ 79200 ∷ 1800 ∷ 0 ∷ 57600 ∷ 79200 ∷ 1200 ∷ 1200 ∷ 60000 ∷ 78000 ∷ [])
    ∷ row_of (2 ∷ 1 ∷ 79200 ∷ 61200 ∷ 1440 ∷ 0 ∷ 76320 ∷ 61200 ∷ 1200 ∷ 1200 ∷ 78000 ∷ 60000 ∷ [])
    ∷ row_of (26 ∷ 0 ∷ 59520 ∷ 84168 ∷ 1704 ∷ 0 ∷ 56112 ∷ 84168 ∷ 1200 ∷ 1200 ∷ 58320 ∷ 82968 ∷ [])
    ∷ row_of (26 ∷ 1 ∷ 84168 ∷ 59520 ∷ 1416 ∷ 0 ∷ 81336 ∷ 59520 ∷ 1200 ∷ 1200 ∷ 82968 ∷ 58320 ∷ [])
    ∷ []

-- printable ASCII
abbrev pub ascii_codes : List CodeRange
ascii_codes = record { first = 33; last = 126 } ∷ []

-- a request for the symbol set 10U and the typeface 3, upright and of medium weight, of this pitch and height
abbrev pub request_3 : ℕ → ℕ → FontRequest
request_3 pitch height = record {
  symbol_set = record { number = 100_000; letter = 85 };
  spacing = 0;
  pitch = pitch;
  height = height;
  style = 0;
  weight = pos 0;
  typeface = 30_000;
}

-- 10 characters an inch, 12 points high; and 12 characters an inch, 10 points high
abbrev pub faces_a : List Face
faces_a =
    record {
      id = 1;
      request = request_3 100_000 120_000;
      advance = of_7200ths 720;
      ascent = of_7200ths 900;
      descent = of_7200ths 300;
      codes = ascii_codes;
    }
    ∷ record {
      id = 2;
      request = request_3 120_000 100_000;
      advance = of_7200ths 600;
      ascent = of_7200ths 750;
      descent = of_7200ths 250;
      codes = ascii_codes;
    }
    ∷ []

-- a printer with these pages and faces, duplex and two trays
abbrev pub printer_a : Printer
printer_a = record {
  sizes = 2 ∷ 26 ∷ [];
  orientations = 0 ∷ 1 ∷ [];
  vmis = 80000 ∷ [];
  fonts = 1 ∷ [];
  copies = 1 ∷ [];
  sides = 0 ∷ [];
  panel_trays = 1 ∷ [];
  line_terminations = 0 ∷ [];
  device_trays = 1 ∷ 2 ∷ [];
  has_duplex = true;
  depth = 2;
  memory = 100;
  most_items = None;
  geometries = pages_a;
  faces = faces_a;
}
