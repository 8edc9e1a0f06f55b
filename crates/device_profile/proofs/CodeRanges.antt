-- The ranges of codes of a face, read one after another.
use Rattle.std.proofs.Common.{◌≡◌, ℕ, suc, ◌+◌, ◌<◌, ◌≤◌, ◌==◌, ◌&&◌, Bool, true, false, List, [], ◌∷◌, ◌++◌, length, Option, None, Some}
use Rattle.std.proofs.Common.{is_some, Bor, if◌then◌else◌, append_assoc, arith, refl, sym, ap, ◌∙◌}
use Rattle.std.specs.List.{filter_map, cons_option, slice_split}
use Rattle.std.specs.Option.{option_and_then, option_map_or}
use Rattle.std.proofs.lemmas.Bool.{and_left, and_right, cond-false, cond_both, false≢true}
use Rattle.std.proofs.lemmas.Bool.Decides.{nat_tests}
use Rattle.std.proofs.lemmas.List.{append-nil}
use Rattle.std.proofs.lemmas.List.Splits.{length-slice_split}
use Rattle.device_profile.specs.declared.font.CodeRange.{CodeRange}
use Rattle.device_profile.specs.FaceLine.{codes_of, range_of, range_of_parts}
use Rattle.device_profile.specs.Faces.{is_range_from, are_ranges_from}
use Rattle.device_profile.proofs.RowNumbers.{length-filter_map-le}

-- a range, where it begins at this code or behind it
abbrev pub from : ℕ → Option CodeRange → Option CodeRange
from least range = option_and_then (λ r. if is_range_from least r then Some r else None) range

-- the ranges that were read and these, where they are as many as the parts
abbrev ranges_of : List CodeRange → ℕ → ℕ → List CodeRange → Option (List CodeRange)
ranges_of read least parts ranges = if (length ranges == parts) && are_ranges_from least ranges then Some (read ++ ranges) else None

-- the ranges of which the first were read and the others are these parts
unfoldable pub ranges_with : List CodeRange → ℕ → List (List ℕ) → Option (List CodeRange)
ranges_with read least parts = ranges_of read least (length parts) (filter_map range_of parts)

pub ranges-start : (word : List ℕ) → codes_of word ≡ ranges_with [] 33 (slice_split (λ byte. byte == 44) word)
unfolding codes_of ranges_with
ranges-start word = refl

pub ranges-end : (read : List CodeRange) (least : ℕ) → ranges_with read least [] ≡ Some read
unfolding ranges_with
ranges-end read least = ap (λ l. Some l) (append-nil read)

value-step : (read : List CodeRange) (least : ℕ) (value : Option CodeRange) (tail : List CodeRange) (parts : ℕ) (range : CodeRange) →
    from least value ≡ Some range
    → ranges_of read least (suc parts) (cons_option value tail) ≡ ranges_of (read ++ range ∷ []) (range.last + 1) parts tail
value-step read least None tail parts range is = cc
value-step read least (Some r) tail parts range is =
    cond_both (is_range_from least r) (Some r) None
    (λ got. got ≡ Some range → ranges_of read least (suc parts) (r ∷ tail) ≡ ranges_of (read ++ range ∷ []) (range.last + 1) parts tail)
    (λ fits got.
    let same : r ≡ range = cc in
    let count : (suc (length tail) == suc parts) ≡ (length tail == parts) = grind (arith, nat_tests) in
    let rest : Bool = are_ranges_from (r.last + 1) tail in
    ap (λ b. if b && (is_range_from least r && rest) then Some (read ++ r ∷ tail) else None) count
    ∙ (ap (λ b. if (length tail == parts) && (b && rest) then Some (read ++ r ∷ tail) else None) fits
    ∙ (ap (λ l. if (length tail == parts) && rest then Some l else None) (sym (append_assoc read (r ∷ []) tail))
    ∙ ap (λ (k : CodeRange). ranges_of (read ++ k ∷ []) (k.last + 1) parts tail) same)))
    (λ no got. cc)
    is

value-stop : (read : List CodeRange) (least : ℕ) (value : Option CodeRange) (tail : List CodeRange) (parts : ℕ) → length tail ≤ parts →
    from least value ≡ None
    → ranges_of read least (suc parts) (cons_option value tail) ≡ None
value-stop read least None tail parts few is =
    let fewer : (length tail == suc parts) ≡ false = grind (arith, nat_tests) in
    cond-false ((length tail == suc parts) && are_ranges_from least tail) (Some (read ++ tail)) None (and_left _ _ fewer)
value-stop read least (Some r) tail parts few is =
    cond_both (is_range_from least r) (Some r) None
    (λ got. got ≡ None → ranges_of read least (suc parts) (r ∷ tail) ≡ None)
    (λ fits got. cc)
    (λ no got.
    let rest : Bool = are_ranges_from (r.last + 1) tail in
    cond-false ((suc (length tail) == suc parts) && (is_range_from least r && rest)) (Some (read ++ r ∷ tail)) None
    (and_right (suc (length tail) == suc parts) (is_range_from least r && rest) (and_left (is_range_from least r) rest no)))
    is

-- one more part gives a range
pub ranges-step : (read : List CodeRange) (least : ℕ) (parts : List (List ℕ)) (part : List ℕ) (rest : List (List ℕ)) (range : CodeRange)
    → parts ≡ part ∷ rest → Some range ≡ from least (range_of part)
    → ranges_with read least parts ≡ ranges_with (read ++ range ∷ []) (range.last + 1) rest
unfolding ranges_with
ranges-step read least parts part rest range are is =
    ap (λ p. ranges_with read least p) are ∙ value-step read least (range_of part) (filter_map range_of rest) (length rest) range (sym is)

-- one more part gives none
pub ranges-stop : (read : List CodeRange) (least : ℕ) (parts : List (List ℕ)) (part : List ℕ) (rest : List (List ℕ))
    → parts ≡ part ∷ rest → None ≡ from least (range_of part)
    → ranges_with read least parts ≡ None
unfolding ranges_with
ranges-stop read least parts part rest are is =
    ap (λ p. ranges_with read least p) are
    ∙ value-stop read least (range_of part) (filter_map range_of rest) (length rest) (length-filter_map-le range_of rest) (sym is)

three-none : (first last : List ℕ) (parts : List (List ℕ)) → 0 < length parts → range_of_parts (first ∷ last ∷ parts) ≡ None
three-none first last [] some = absurd (omega arith)
three-none first last (more ∷ parts) some = refl

-- more than two parts give no range
pub no_third : (least : ℕ) (word first last : List ℕ) (more : Option (Bor (List ℕ)))
    → slice_split (λ b. b == 45) word ≡ first ∷ last ∷ option_map_or (λ rest. slice_split (λ b. b == 45) rest.now) more []
    → is_some more ≡ true
    → None ≡ from least (range_of word)
no_third least word first last None parts some = absurd (false≢true some)
no_third least word first last (Some rest) parts some =
    let others : List (List ℕ) = slice_split (λ b. b == 45) rest.now in
    let none : range_of word ≡ None =
    ap range_of_parts parts ∙ three-none first last others (omega (arith, length-slice_split (λ b. b == 45) rest.now)) in
    ap (λ r. from least r) (sym none)
