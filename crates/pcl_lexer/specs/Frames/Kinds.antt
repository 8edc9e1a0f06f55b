-- The alphabet of a frame.
use Rattle.std.specs.Prelude.{ℕ, ◌==◌, Bool, ◌||◌, if◌then◌else◌}
use Rattle.std.specs.Int.{is_in_range}
use Rattle.pcl_lexer.specs.declared.frame.Kind.{Kind}
use Rattle.pcl_lexer.specs.declared.frame.Kind.TheVariants.{White, Comma, Semicolon, Letter, Escape, Sign, Figure}
use Rattle.pcl_lexer.specs.declared.frame.Kind.TheVariants.{Other}

abbrev pub is_white : ℕ → Bool
is_white b = (b == 9) || (b == 10) || (b == 13) || (b == 32)

abbrev pub is_letter : ℕ → Bool
is_letter b = is_in_range 65 90 b || is_in_range 97 122 b

-- what a byte is
unfoldable pub kind_of : ℕ → Kind
kind_of b =
    if is_white b then White
    else if b == 44 then Comma
    else if b == 59 then Semicolon
    else if is_letter b then Letter
    else if b == 27 then Escape
    else if (b == 43) || (b == 45) then Sign else if is_in_range 48 57 b || (b == 46) then Figure else Other
