-- What stands on a line that is right.
use Rattle.std.proofs.Common.{◌≡◌, ℕ, zero, suc, ℤ, pos, ◌*◌, ◌<◌, ◌≤◌, ◌==◌, ◌&&◌, ◌||◌, Bool, true, false, not, List, [], ◌∷◌, length}
use Rattle.std.proofs.Common.{get_or, drop, IsTrue, Option, None, Some, Result, Ok, Err, nat_lt, nat_le, if◌then◌else◌, arith, refl, sym}
use Rattle.std.proofs.Common.{subst, ap, ◌∙◌}
use Rattle.std.specs.Prelude.{slice_index, int_lt, int_le, neg_ℤ, unsigned_abs, take, ◌-◌, ◌%◌}
use Rattle.std.specs.Option.{option_map, option_map_or, option_and_then}
use Rattle.std.specs.List.{list_all, filter_map, cons_option, slice_split}
use Rattle.std.proofs.lemmas.Bool.{and_parts, and_from, cond_both, or_parts, or_from, not-true, false≢true, eqb-true, leb-true}
use Rattle.std.proofs.lemmas.Bool.Decides.{nat_tests}
use Rattle.std.proofs.lemmas.Int.{ints}
use Rattle.std.proofs.Math.Nat.{mul-mod_left}
use Rattle.device_profile.specs.declared.field.Field.{Field}
use Rattle.device_profile.specs.declared.field.Field.TheVariants.{Font}
use Rattle.device_profile.specs.declared.font.CodeRange.{CodeRange}
use Rattle.device_profile.specs.declared.font.FontRequest.{FontRequest}
use Rattle.device_profile.specs.declared.font.SymbolSet.{SymbolSet}
use Rattle.device_profile.specs.declared.geometry.Geometry.{Geometry}
use Rattle.device_profile.specs.declared.fault.Cause.{Cause}
use Rattle.device_profile.specs.declared.fault.Cause.TheVariants.{Repeated, Range}
use Rattle.device_profile.specs.Faces.{Face, has_face, has_request, has_metrics, is_whole_up_to, is_set_letter, is_request, is_face}
use Rattle.device_profile.specs.Faces.{are_ranges_from}
use Rattle.device_profile.specs.Printer.{has_row, is_page}
use Rattle.device_profile.specs.Rows.{of_7200ths, row_of}
use Rattle.device_profile.specs.Words.{number_of, amount_of}
use Rattle.device_profile.specs.Values.{value_of, is_between, is_value, has_repeat, are_values, are_choices, values_on_line, number_on_line}
use Rattle.device_profile.specs.GeometryLine.{is_row_number, repeats_pair, row_numbers_of, row_of_numbers, row_of_words, geometry_on_line}
use Rattle.device_profile.specs.FaceLine.{between, whole_of, measure_of, symbol_set_of, weight_of, length_between, request_of, range_of}
use Rattle.device_profile.specs.FaceLine.{codes_of, face_with_codes, repeats_face, face_of_words, face_on_line}
use Rattle.device_profile.proofs.RowNumbers.{length-filter_map-le}

-- a test let a value pass
pub passed : {X : Type 0} (test : Bool) (x y : X) (cause : Cause) → (if test then Ok x else Err cause) ≡ Ok y → IsTrue test × (x ≡ y)
passed true x y cause is = (refl, cc)
passed false x y cause is = cc

passed_some : {X : Type 0} (test : Bool) (x y : X) → (if test then Some x else None) ≡ Some y → IsTrue test × (x ≡ y)
passed_some true x y is = (refl, cc)
passed_some false x y is = cc

passed_through : {X : Type 0} (test : Bool) (value : Option X) (x : X) → (if test then value else None) ≡ Some x → value ≡ Some x
passed_through true value x is = is
passed_through false value x is = cc

-- what was given was not given before
pub unrepeated : {X : Type 0} (test : Bool) (given : Result X Cause) (x : X) → (if test then Err Repeated else given) ≡ Ok x →
    (test ≡ false) × (given ≡ Ok x)
unrepeated true given x is = cc
unrepeated false given x is = (refl, is)

-- what a function made of a value
pub of_value : {X Y : Type 0} (f : X → Option Y) (value : Option X) (y : Y) → option_and_then f value ≡ Some y →
    (x : X) × (value ≡ Some x) × (f x ≡ Some y)
of_value f None y is = cc
of_value f (Some x) y is = (x, refl, is)

pub of_mapped : {X Y : Type 0} (f : X → Y) (value : Option X) (y : Y) → option_map f value ≡ Some y → (x : X) × (value ≡ Some x) × (f x ≡ y)
of_mapped f None y is = cc
of_mapped f (Some x) y is = (x, refl, cc)

-- a list on a line has values of its field, none of them twice
pub are_choices-on_line : (field : Field) (words : List (List ℕ)) (values : List ℕ) → values_on_line field words ≡ Ok values →
    IsTrue (are_choices field values)
unfolding values_on_line
are_choices-on_line field words values is =
    let numbers : List ℕ = filter_map (value_of field) words in
    let test : Bool = (length numbers == length words) && are_values field numbers in
    let single = unrepeated (has_repeat numbers) (if test then Ok numbers else Err Range) values is in
    let kept = passed test numbers values Range single.1 in
    let are : IsTrue (are_values field numbers) = (and_parts (length numbers == length words) (are_values field numbers) kept.0).1 in
    subst (λ (ns : List ℕ). IsTrue (are_choices field ns)) kept.1 (rw (are, single.0) refl)

at_most : (most : ℕ) (value : Option ℕ) (n : ℕ) → option_and_then (λ m. if nat_le m most then Some m else None) value ≡ Some n →
    IsTrue (nat_le n most)
at_most most None n is = cc
at_most most (Some m) n is =
    let kept = passed_some (nat_le m most) m n is in
    subst (λ k. IsTrue (nat_le k most)) kept.1 kept.0

-- a number on a line is at most the most
pub at_most-on_line : (most : ℕ) (words : List (List ℕ)) (n : ℕ) → number_on_line most words ≡ Some n → IsTrue (nat_le n most)
unfolding number_on_line
at_most-on_line most [] n is = cc
at_most-on_line most (word ∷ []) n is = at_most most (number_of word) n is
at_most-on_line most (word ∷ more ∷ words) n is = cc

-- the first two of the numbers of a line are those of its first two words
two_first : (rows : List Geometry) (x y : Option ℕ) (tail numbers : List ℕ) → length tail < 11 →
    length (cons_option x (cons_option y tail)) ≡ 12 → cons_option x (cons_option y tail) ≡ numbers
    → option_map_or (λ size. option_map_or (λ orientation. has_row rows size orientation) y false) x false
    ≡ has_row rows (slice_index numbers 0) (slice_index numbers 1)
two_first rows None None tail numbers few twelve are = absurd (omega arith)
two_first rows None (Some o) tail numbers few twelve are = absurd (omega arith)
two_first rows (Some s) None tail numbers few twelve are = absurd (omega arith)
two_first rows (Some s) (Some o) tail numbers few twelve are = ap (λ (ns : List ℕ). has_row rows (slice_index ns 0) (slice_index ns 1)) are

abbrev are_twelve : List (List ℕ) → List ℕ → Bool
are_twelve words numbers = (length words == 12) && (length numbers == 12) && list_all is_row_number numbers

-- the size and the orientation that a row's line begins with are the row's
first_pair : (rows : List Geometry) (words : List (List ℕ)) (numbers : List ℕ) → row_numbers_of words ≡ Some numbers →
    repeats_pair rows words ≡ has_row rows (slice_index numbers 0) (slice_index numbers 1)
unfolding row_numbers_of
first_pair rows [] numbers is = absurd (false≢true ((passed_some (are_twelve [] []) [] numbers is).0))
first_pair rows (size ∷ []) numbers is =
    let kept = passed_some (are_twelve (size ∷ []) (filter_map number_of (size ∷ []))) (filter_map number_of (size ∷ [])) numbers is in
    absurd (false≢true kept.0)
first_pair rows (size ∷ orientation ∷ words) numbers is =
    let all : List (List ℕ) = size ∷ orientation ∷ words in
    let kept = passed_some (are_twelve all (filter_map number_of all)) (filter_map number_of all) numbers is in
    let counted =
    and_parts ((length all == 12) && (length (filter_map number_of all) == 12))
    (list_all is_row_number (filter_map number_of all)) kept.0 in
    let counts = and_parts (length all == 12) (length (filter_map number_of all) == 12) counted.0 in
    let twelve_words : length all ≡ 12 = eqb-true _ _ counts.0 in
    let twelve_numbers : length (filter_map number_of all) ≡ 12 = eqb-true _ _ counts.1 in
    let few : length (filter_map number_of words) ≤ length words = length-filter_map-le number_of words in
    two_first rows (number_of size) (number_of orientation) (filter_map number_of words) numbers (omega arith) twelve_numbers kept.1

-- a row's line gives the pair once more where the row's pair is there, and the row is a page
pub row_facts : (rows : List Geometry) (words : List (List ℕ)) (row : Geometry) → row_of_words words ≡ Some row →
    (repeats_pair rows words ≡ has_row rows row.size row.orientation) × IsTrue (is_page row)
row_facts rows words row is =
    let given = of_value row_of_numbers (row_numbers_of words) row is in
    let numbers : List ℕ = given.0 in
    let kept = passed_some (is_page (row_of numbers)) (row_of numbers) row given.2 in (
      first_pair rows words numbers given.1 ∙ ap (λ (r : Geometry). has_row rows r.size r.orientation) kept.1,
      subst (λ (r : Geometry). IsTrue (is_page r)) kept.1 kept.0,
    )

-- a row that is given has room
room : {X : Type 0} (test : Bool) (value : Option X) (x : X) →
    option_map_or (λ y. if test then Ok y else Err Range) value (Err Range) ≡ Ok x → IsTrue test × (value ≡ Some x)
room test None x is = cc
room test (Some y) x is =
    let kept = passed test y x Range is in
    (kept.0, ap Some kept.1)

abbrev pub room_for_row : List Geometry → Geometry → Bool
room_for_row rows row = not (has_row rows row.size row.orientation) && nat_lt (length rows) 64 && is_page row

-- a row on a line is new, has room and is a page
pub row_on_line : (rows : List Geometry) (words : List (List ℕ)) (row : Geometry) → geometry_on_line rows words ≡ Ok row →
    (row_of_words words ≡ Some row) × IsTrue (room_for_row rows row)
unfolding geometry_on_line
row_on_line rows words row is =
    let is_room : Bool = nat_lt (length rows) 64 in
    let single =
    unrepeated (repeats_pair rows words)
    (option_map_or (λ y. if is_room then Ok y else Err Range) (row_of_words words) (Err Range)) row is in
    let given = room is_room (row_of_words words) row single.1 in
    let facts = row_facts rows words row given.1 in
    let fresh : has_row rows row.size row.orientation ≡ false = sym facts.0 ∙ single.0 in
    (given.1, rw (fresh, given.0, facts.1) refl)

-- and a row that is so stands on its line
pub line_of_row : (rows : List Geometry) (words : List (List ℕ)) (row : Geometry) → row_of_words words ≡ Some row →
    IsTrue (room_for_row rows row) → geometry_on_line rows words ≡ Ok row
unfolding geometry_on_line
line_of_row rows words row is taken =
    let whole = and_parts (not (has_row rows row.size row.orientation) && nat_lt (length rows) 64) (is_page row) taken in
    let parts = and_parts (not (has_row rows row.size row.orientation)) (nat_lt (length rows) 64) whole.0 in
    let fresh : repeats_pair rows words ≡ false = (row_facts rows words row is).0 ∙ not-true _ parts.0 in
    rw (fresh, is, parts.1) refl

length_is : (least most : ℕ) (word : List ℕ) (length : ℤ) → length_between least most word ≡ Some length →
    (n : ℕ) × IsTrue (nat_le least n) × (of_7200ths n ≡ length)
length_is least most word length is =
    let given = of_mapped of_7200ths (between least most (number_of word)) length is in
    let inner = of_value (λ n. if is_between least most n then Some n else None) (number_of word) given.0 given.1 in
    let kept = passed_some (is_between least most inner.0) inner.0 given.0 inner.2 in (
      given.0,
      subst (λ (n : ℕ). IsTrue (nat_le least n)) kept.1 ((and_parts (nat_le least inner.0) (nat_le inner.0 most) kept.0).0),
      given.2,
    )

-- lengths from 1 on are positive
pub positive_length : (most : ℕ) (word : List ℕ) (length : ℤ) → length_between 1 most word ≡ Some length → IsTrue (int_lt (pos 0) length)
positive_length most word length is =
    let given = length_is 1 most word length is in
    let some : 1 ≤ given.0 = leb-true 1 given.0 given.1 in
    subst (λ (z : ℤ). IsTrue (int_lt (pos 0) z)) given.2 (grind (arith, ints, nat_tests))

-- no length on a line is negative
pub length_not_negative : (least most : ℕ) (word : List ℕ) (length : ℤ) → length_between least most word ≡ Some length →
    IsTrue (int_le (pos 0) length)
length_not_negative least most word length is =
    let given = length_is least most word length is in
    subst (λ (z : ℤ). IsTrue (int_le (pos 0) z)) given.2 (grind (arith, ints, nat_tests))

-- ---- a request that a job can send

is_whole-times : (most n : ℕ) → IsTrue (nat_le n most) → IsTrue (is_whole_up_to most (n * 10_000))
is_whole-times most n few =
    let whole : n * 10_000 % 10_000 ≡ 0 = mul-mod_left n 10_000 in
    let up_to : IsTrue (nat_le (n * 10_000) (most * 10_000)) = grind (arith, nat_tests) in
    rw (whole, up_to) refl

abs-neg : (n : ℕ) → unsigned_abs (neg_ℤ (pos n)) ≡ n
abs-neg zero = refl
abs-neg (suc n) = refl

is_whole-given : (most : ℕ) (word : List ℕ) (n : ℕ) → whole_of most word ≡ Some n → IsTrue (is_whole_up_to most n)
is_whole-given most word n is =
    let given = of_mapped (λ m. m * 10_000) (between 0 most (number_of word)) n is in
    let inner = of_value (λ m. if is_between 0 most m then Some m else None) (number_of word) given.0 given.1 in
    let kept = passed_some (is_between 0 most inner.0) inner.0 given.0 inner.2 in
    let few : IsTrue (nat_le given.0 most) =
    subst (λ (m : ℕ). IsTrue (nat_le m most)) kept.1 ((and_parts (nat_le 0 inner.0) (nat_le inner.0 most) kept.0).1) in
    subst (λ (m : ℕ). IsTrue (is_whole_up_to most m)) given.2 (is_whole-times most given.0 few)

is_measure-given : (word : List ℕ) (n : ℕ) → measure_of word ≡ Some n → IsTrue (nat_le n 655_350_000)
is_measure-given word n is =
    let inner = of_value (λ m. if is_between 0 655_350_000 m then Some m else None) (amount_of word) n is in
    let kept = passed_some (is_between 0 655_350_000 inner.0) inner.0 n inner.2 in
    subst (λ (m : ℕ). IsTrue (nat_le m 655_350_000)) kept.1 ((and_parts (nat_le 0 inner.0) (nat_le inner.0 655_350_000) kept.0).1)

abbrev IsSet : SymbolSet → Type 0
IsSet symbols = IsTrue (is_whole_up_to 65_535 symbols.number) × IsTrue (is_set_letter symbols.letter)

is_set-given : (word : List ℕ) (symbols : SymbolSet) → symbol_set_of word ≡ Some symbols → IsSet symbols
unfolding symbol_set_of
is_set-given word symbols is =
    let letter : ℕ = get_or word (length word - 1) 0 in
    let number = of_value _ (whole_of 65_535 (take (length word - 1) word)) symbols is in
    let named : SymbolSet = record { number = number.0; letter = letter } in
    let kept = passed_some (is_set_letter letter) named symbols number.2 in
    subst IsSet kept.1 (is_whole-given 65_535 (take (length word - 1) word) number.0 number.1, kept.0)

is_weight-given : (word : List ℕ) (weight : ℤ) → weight_of word ≡ Some weight → IsTrue (is_whole_up_to 7 (unsigned_abs weight))
unfolding weight_of
is_weight-given word weight is =
    cond_both (get_or word 0 0 == 45) (option_map (λ n. neg_ℤ (pos n)) (whole_of 7 (drop 1 word)))
    (option_map (λ n. pos n) (whole_of 7 word))
    (λ found. found ≡ Some weight → IsTrue (is_whole_up_to 7 (unsigned_abs weight)))
    (λ yes got.
    let given = of_mapped (λ n. neg_ℤ (pos n)) (whole_of 7 (drop 1 word)) weight got in
    subst (λ (z : ℤ). IsTrue (is_whole_up_to 7 (unsigned_abs z))) given.2
    (rw (abs-neg given.0) (is_whole-given 7 (drop 1 word) given.0 given.1)))
    (λ no got.
    let given = of_mapped (λ n. pos n) (whole_of 7 word) weight got in
    subst (λ (z : ℤ). IsTrue (is_whole_up_to 7 (unsigned_abs z))) given.2 (is_whole-given 7 word given.0 given.1))
    is

is_request-given : (words : List (List ℕ)) (request : FontRequest) → request_of words ≡ Some request → IsTrue (is_request request)
unfolding request_of
is_request-given words request is =
    let a = of_value _ (symbol_set_of (get_or words 0 [])) request is in
    let b = of_value _ (measure_of (get_or words 1 [])) request a.2 in
    let c = of_value _ (measure_of (get_or words 2 [])) request b.2 in
    let d = of_value _ (whole_of 65_535 (get_or words 3 [])) request c.2 in
    let e = of_value _ (weight_of (get_or words 4 [])) request d.2 in
    let f = of_mapped _ (whole_of 65_535 (get_or words 5 [])) request e.2 in
    let symbols = is_set-given (get_or words 0 []) a.0 a.1 in
    let pitch = is_measure-given (get_or words 1 []) b.0 b.1 in
    let height = is_measure-given (get_or words 2 []) c.0 c.1 in
    let style = is_whole-given 65_535 (get_or words 3 []) d.0 d.1 in
    let weight = is_weight-given (get_or words 4 []) e.0 e.1 in
    let typeface = is_whole-given 65_535 (get_or words 5 []) f.0 f.1 in
    subst (λ (r : FontRequest). IsTrue (is_request r)) f.2 (rw (symbols.0, symbols.1, pitch, height, style, weight, typeface) refl)

-- what a line of eleven words says of its face
record FaceFacts (words : List (List ℕ)) (ranges : List CodeRange) (face : Face) : Type 0 where
  id : number_of (get_or words 0 []) ≡ Some face.id
  id_fits : IsTrue (is_value Font face.id)
  request : request_of (drop 1 words) ≡ Some face.request
  metrics : IsTrue (has_metrics face)
  codes : face.codes ≡ ranges

facts_of_parts : (words : List (List ℕ)) (codes : List CodeRange) (face : Face) → face_with_codes words codes ≡ Some face →
    FaceFacts words codes face
unfolding face_with_codes
facts_of_parts words codes face is =
    let a = of_value _ (between 1 255 (number_of (get_or words 0 []))) face is in
    let b = of_value _ (request_of (drop 1 words)) face a.2 in
    let c = of_value _ (length_between 1 50_400 (get_or words 7 [])) face b.2 in
    let d = of_value _ (length_between 0 720_000 (get_or words 8 [])) face c.2 in
    let e = of_mapped _ (length_between 0 720_000 (get_or words 9 [])) face d.2 in
    let advance = positive_length 50_400 (get_or words 7 []) c.0 c.1 in
    let ascent = length_not_negative 0 720_000 (get_or words 8 []) d.0 d.1 in
    let descent = length_not_negative 0 720_000 (get_or words 9 []) e.0 e.1 in
    let id = of_value (λ n. if is_between 1 255 n then Some n else None) (number_of (get_or words 0 [])) a.0 a.1 in
    let kept = passed_some (is_between 1 255 id.0) id.0 a.0 id.2 in
    let fits : IsTrue (is_value Font a.0) = subst (λ (n : ℕ). IsTrue (is_value Font n)) kept.1 kept.0 in
    subst (FaceFacts words codes) e.2
    (record { id = id.1 ∙ ap Some kept.1; id_fits = fits; request = b.1; metrics = rw (advance, ascent, descent) refl; codes = refl })

in_order : (word : List ℕ) (codes : List CodeRange) → codes_of word ≡ Some codes → IsTrue (are_ranges_from 33 codes)
unfolding codes_of
in_order word codes is =
    let parts : List (List ℕ) = slice_split (λ byte. byte == 44) word in
    let ranges : List CodeRange = filter_map range_of parts in
    let kept = passed_some ((length ranges == length parts) && are_ranges_from 33 ranges) ranges codes is in
    subst (λ (r : List CodeRange). IsTrue (are_ranges_from 33 r)) kept.1
    ((and_parts (length ranges == length parts) (are_ranges_from 33 ranges) kept.0).1)

-- a face's line gives an id or a request once more where the face's are there, and the face is one
pub face_facts : (faces : List Face) (words : List (List ℕ)) (face : Face) → face_of_words words ≡ Some face
    → (repeats_face faces words ≡ (has_face faces face.id || has_request faces face.request)) × IsTrue (is_face face)
unfolding face_of_words
face_facts faces words face is =
    let word : List ℕ = get_or words 10 [] in
    let all = passed_through (length words == 11) (option_and_then (face_with_codes words) (codes_of word)) face is in
    let given = of_value (face_with_codes words) (codes_of word) face all in
    let facts = facts_of_parts words given.0 face given.2 in
    let codes : IsTrue (are_ranges_from 33 face.codes) =
    subst (λ (r : List CodeRange). IsTrue (are_ranges_from 33 r)) (sym facts.codes) (in_order word given.0 given.1) in
    let sent : IsTrue (is_request face.request) = is_request-given (drop 1 words) face.request facts.request in
    (rw (facts.id, facts.request) refl, and_from _ _ (and_from _ _ (and_from _ _ facts.id_fits sent) facts.metrics) codes)

abbrev pub room_for_face : List Face → Face → Bool
room_for_face faces face = not (has_face faces face.id) && not (has_request faces face.request) && nat_lt (length faces) 64 && is_face face

-- a face on a line is new, has room and is a face
pub face_of_line : (faces : List Face) (words : List (List ℕ)) (face : Face) → face_on_line faces words ≡ Ok face →
    (face_of_words words ≡ Some face) × IsTrue (room_for_face faces face)
unfolding face_on_line
face_of_line faces words face is =
    let is_room : Bool = nat_lt (length faces) 64 in
    let single =
    unrepeated (repeats_face faces words)
    (option_map_or (λ y. if is_room then Ok y else Err Range) (face_of_words words) (Err Range)) face is in
    let given = room is_room (face_of_words words) face single.1 in
    let facts = face_facts faces words face given.1 in
    let fresh = or_parts (has_face faces face.id) (has_request faces face.request) (sym facts.0 ∙ single.0) in
    (given.1, rw (fresh.0, fresh.1, given.0, facts.1) refl)

-- and a face that is so stands on its line
pub line_of_face : (faces : List Face) (words : List (List ℕ)) (face : Face) → face_of_words words ≡ Some face →
    IsTrue (room_for_face faces face) → face_on_line faces words ≡ Ok face
unfolding face_on_line
line_of_face faces words face is taken =
    let no_id : Bool = not (has_face faces face.id) in
    let no_request : Bool = not (has_request faces face.request) in
    let a = and_parts (no_id && no_request && nat_lt (length faces) 64) (is_face face) taken in
    let b = and_parts (no_id && no_request) (nat_lt (length faces) 64) a.0 in
    let c = and_parts no_id no_request b.0 in
    let fresh : repeats_face faces words ≡ false = (face_facts faces words face is).0 ∙ or_from _ _ (not-true _ c.0) (not-true _ c.1) in
    rw (fresh, is, b.1) refl
