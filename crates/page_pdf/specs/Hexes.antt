-- Sentences and names as codes of letters.
use Rattle.std.specs.Prelude.{ℕ, nat_le, ◌&&◌, if◌then◌else◌, List, flat_map}
use Rattle.page_pdf.specs.Figures.{code_digits}

-- a byte that shows, and a question mark for any other
abbrev pub plain_byte : ℕ → ℕ
plain_byte byte = if nat_le 32 byte && nat_le byte 126 then byte else 63

unfoldable pub letter_code : ℕ → List ℕ
letter_code byte = code_digits (plain_byte byte)

abbrev pub letter_codes : List ℕ → List ℕ
letter_codes bytes = flat_map letter_code bytes
