-- The texts of the samples, and the printers that they describe.
use Rattle.std.specs.Prelude.{ℕ, List, [], ◌∷◌, ◌++◌, codes}
use Rattle.device_profile.specs.declared.sample.Sample.{Sample}
use Rattle.device_profile.specs.declared.sample.Sample.TheVariants.{A, B, C, D}
use Rattle.device_profile.specs.Faces.{Face}
use Rattle.device_profile.specs.Printer.{Printer}
use Rattle.device_profile.specs.Rows.{of_7200ths}
use Rattle.device_profile.specs.Samples.{ascii_codes, request_3, printer_a}

-- the text with this name, with these values that the panel may have, and with this advance of face 1
abbrev pub text_with : List ℕ → List ℕ → List ℕ → List ℕ → List ℕ → List ℕ → List ℕ
text_with name size orientation vmi font advance =
    codes "pclprofile 1\nname " ++ name
    ++ codes "\nsize " ++ size
    ++ codes "\norientation " ++ orientation
    ++ codes "\nvmi " ++ vmi
    ++ codes "\nfont " ++ font
    ++ codes "\ncopies 1\nsides 0\ntray 1\ntrays 1 2\nduplex 1\ndepth 2\nmemory 100\n"
    ++ codes "geometry 2 0 61200 79200 1800 0 57600 79200 1200 1200 60000 78000\n"
    ++ codes "geometry 2 1 79200 61200 1440 0 76320 61200 1200 1200 78000 60000\n"
    ++ codes "geometry 26 0 59520 84168 1704 0 56112 84168 1200 1200 58320 82968\n"
    ++ codes "geometry 26 1 84168 59520 1416 0 81336 59520 1200 1200 82968 58320\n"
    ++ codes "face 1 10U 10 12 0 0 3 " ++ advance ++ codes " 900 300 33-126\n"
    ++ codes "face 2 10U 12 10 0 0 3 600 750 250 33-126\n"

-- the text of a sample
abbrev pub sample_text : Sample → List ℕ
sample_text A = text_with (codes "A") (codes "2 26") (codes "0 1") (codes "8") (codes "1") (codes "720")
sample_text B = text_with (codes "B") (codes "2") (codes "0") (codes "8") (codes "1") (codes "720")
sample_text C = text_with (codes "C") (codes "2") (codes "0") (codes "6 8") (codes "1 2") (codes "720")
sample_text D = text_with (codes "D") (codes "2") (codes "0") (codes "8") (codes "1") (codes "700")

-- letter paper in portrait alone
abbrev pub printer_b : Printer
printer_b = record printer_a { sizes = 2 ∷ []; orientations = 0 ∷ [] }

-- the faces with a narrower face 1
abbrev pub faces_d : List Face
faces_d =
    record {
      id = 1;
      request = request_3 100_000 120_000;
      advance = of_7200ths 700;
      ascent = of_7200ths 900;
      descent = of_7200ths 300;
      codes = ascii_codes;
    }
    ∷ record {
      id = 2;
      request = request_3 120_000 100_000;
      advance = of_7200ths 600;
      ascent = of_7200ths 750;
      descent = of_7200ths 250;
      codes = ascii_codes;
    }
    ∷ []

-- the printer of a sample
abbrev pub sample_printer : Sample → Printer
sample_printer A = printer_a
sample_printer B = printer_b
sample_printer C = record printer_b { vmis = 60_000 ∷ 80_000 ∷ []; fonts = 1 ∷ 2 ∷ [] }
sample_printer D = record printer_b { faces = faces_d }
