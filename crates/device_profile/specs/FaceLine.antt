-- What a line with a face gives.
use Rattle.std.specs.Prelude.{ℕ, ℤ, pos, neg_ℤ, ◌-◌, ◌*◌, List, [], ◌∷◌, Bool, false, ◌&&◌, ◌||◌, ◌==◌, nat_lt, length}
use Rattle.std.specs.Prelude.{take, drop, get_or, Option, None, Some, option_map, option_and_then, filter_map}
use Rattle.std.specs.Prelude.{if◌then◌else◌, Result, Ok, Err}
use Rattle.std.specs.List.{slice_split}
use Rattle.std.specs.Option.{option_map_or}
use Rattle.device_profile.specs.declared.font.CodeRange.{CodeRange}
use Rattle.device_profile.specs.declared.font.FontRequest.{FontRequest}
use Rattle.device_profile.specs.declared.font.SymbolSet.{SymbolSet}
use Rattle.device_profile.specs.declared.fault.Cause.{Cause}
use Rattle.device_profile.specs.declared.fault.Cause.TheVariants.{Repeated, Range}
use Rattle.device_profile.specs.Words.{number_of, amount_of}
use Rattle.device_profile.specs.Values.{is_between}
use Rattle.device_profile.specs.Rows.{of_7200ths}
use Rattle.device_profile.specs.Faces.{Face, has_face, has_request, is_set_letter, are_ranges_from}

-- a value, where it is from the first to the second
abbrev pub between : ℕ → ℕ → Option ℕ → Option ℕ
between least most value = option_and_then (λ n. if is_between least most n then Some n else None) value

-- the ten-thousandths of a whole number up to the most
abbrev pub whole_of : ℕ → List ℕ → Option ℕ
whole_of most word = option_map (λ n. n * 10_000) (between 0 most (number_of word))

-- the ten-thousandths of an amount up to 65535
abbrev pub measure_of : List ℕ → Option ℕ
measure_of word = between 0 655_350_000 (amount_of word)

-- a number up to 65535, and behind it the letter of the set
unfoldable pub symbol_set_of : List ℕ → Option SymbolSet
symbol_set_of word =
    let letter : ℕ = get_or word (length word - 1) 0 in
    option_and_then (λ n. if is_set_letter letter then Some (record { number = n; letter = letter }) else None)
    (whole_of 65_535 (take (length word - 1) word))

-- a number up to 7, perhaps with a minus before it
unfoldable pub weight_of : List ℕ → Option ℤ
weight_of word =
    if get_or word 0 0 == 45
    then option_map (λ n. neg_ℤ (pos n)) (whole_of 7 (drop 1 word))
    else option_map (λ n. pos n) (whole_of 7 word)

-- the request that symbol set, pitch, height, style, weight and typeface are; spacing is fixed
unfoldable pub request_of : List (List ℕ) → Option FontRequest
request_of words =
    option_and_then (λ symbol_set.
    option_and_then
    (λ pitch. option_and_then (λ height. option_and_then (λ style. option_and_then (λ weight. option_map (λ typeface.
    record {
      symbol_set = symbol_set;
      spacing = 0;
      pitch = pitch;
      height = height;
      style = style;
      weight = weight;
      typeface = typeface;
    })
    (whole_of 65_535 (get_or words 5 [])))
    (weight_of (get_or words 4 [])))
    (whole_of 65_535 (get_or words 3 [])))
    (measure_of (get_or words 2 [])))
    (measure_of (get_or words 1 [])))
    (symbol_set_of (get_or words 0 []))

-- two numbers with a hyphen between
abbrev pub range_of_parts : List (List ℕ) → Option CodeRange
range_of_parts [] = None
range_of_parts (first ∷ []) = None
range_of_parts (first ∷ last ∷ []) =
    option_and_then (λ f. option_map (λ l. record { first = f; last = l }) (number_of last)) (number_of first)
range_of_parts (first ∷ last ∷ more ∷ parts) = None

-- the range that a word gives: its two ends with a hyphen between
abbrev pub range_of : List ℕ → Option CodeRange
range_of word = range_of_parts (slice_split (λ byte. byte == 45) word)

-- the ranges that stand between commas, from 33 on and each behind the one before
unfoldable pub codes_of : List ℕ → Option (List CodeRange)
codes_of word =
    let parts : List (List ℕ) = slice_split (λ byte. byte == 44) word in
    let ranges : List CodeRange = filter_map range_of parts in
    if (length ranges == length parts) && are_ranges_from 33 ranges then Some ranges else None

-- the length of so many 7200ths of an inch, from the first to the second
abbrev pub length_between : ℕ → ℕ → List ℕ → Option ℤ
length_between least most word = option_map of_7200ths (between least most (number_of word))

-- the face of these codes that eleven words give:
-- its id, six words of the request, advance, ascent and descent, and the codes
unfoldable pub face_with_codes : List (List ℕ) → List CodeRange → Option Face
face_with_codes words codes =
    option_and_then
    (λ id. option_and_then (λ request. option_and_then (λ advance. option_and_then (λ ascent. option_map (λ descent.
    record { id = id; request = request; advance = advance; ascent = ascent; descent = descent; codes = codes })
    (length_between 0 720_000 (get_or words 9 [])))
    (length_between 0 720_000 (get_or words 8 [])))
    (length_between 1 50_400 (get_or words 7 [])))
    (request_of (drop 1 words)))
    (between 1 255 (number_of (get_or words 0 [])))

-- the face that eleven words give
unfoldable pub face_of_words : List (List ℕ) → Option Face
face_of_words words =
    if length words == 11 then option_and_then (face_with_codes words) (codes_of (get_or words 10 [])) else None

-- whether these words begin with the id of a face
abbrev pub repeats_id : List Face → List (List ℕ) → Bool
repeats_id faces words = option_map_or (λ id. has_face faces id) (number_of (get_or words 0 [])) false

-- whether these words have the request of a face behind the first
abbrev pub repeats_request : List Face → List (List ℕ) → Bool
repeats_request faces words = option_map_or (λ request. has_request faces request) (request_of (drop 1 words)) false

-- whether these words give the id or the request of a face once more
abbrev pub repeats_face : List Face → List (List ℕ) → Bool
repeats_face faces words = repeats_id faces words || repeats_request faces words

-- The face that the words behind `face` give.
-- An id or a request that was given before comes before all else that is wrong; there is room for 64 rows.
unfoldable pub face_on_line : List Face → List (List ℕ) → Result Face Cause
face_on_line faces words =
    if repeats_face faces words then Err Repeated
    else option_map_or (λ face. if nat_lt (length faces) 64 then Ok face else Err Range)
    (face_of_words words) (Err Range)
