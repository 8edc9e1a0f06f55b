-- Words of a profile's text by hand, and what they are.
use Rattle.std.specs.Prelude.{◌≡◌, [], ◌∷◌, None, Some, true, false, Ok, Err, codes, refl}
use Rattle.device_profile.specs.declared.field.Field.TheVariants.{Size, Orientation, Vmi, Copies, Tray}
use Rattle.device_profile.specs.declared.fault.Cause.TheVariants.{Repeated, Range}
use Rattle.device_profile.specs.Words.{words_of, number_of, amount_of}
use Rattle.device_profile.specs.Values.{values_on_line, number_on_line, is_name}

-- only spaces part words
spaces_part_words : words_of (codes "  size 2\t26 ") ≡ codes "size" ∷ codes "2\t26" ∷ []
spaces_part_words = refl

-- leading zeros are allowed, up to 16 digits in all
zeros_lead : number_of (codes "0000000000000080") ≡ Some 80
unfolding number_of
zeros_lead = refl

seventeen_digits : number_of (codes "00000000000000080") ≡ None
unfolding number_of
seventeen_digits = refl

no_sign : number_of (codes "-1") ≡ None
unfolding number_of
no_sign = refl

-- the 16 digits are those before the point
digits_before_the_point : amount_of (codes "0000000000000008.0000") ≡ Some 80000
unfolding amount_of number_of
digits_before_the_point = refl

one_decimal : amount_of (codes "8.5") ≡ Some 85000
unfolding amount_of number_of
one_decimal = refl

-- a point stands between digits, and there is one
no_decimal : amount_of (codes "8.") ≡ None
unfolding amount_of number_of
no_decimal = refl

no_whole : amount_of (codes ".5") ≡ None
unfolding amount_of number_of
no_whole = refl

five_decimals : amount_of (codes "8.00000") ≡ None
unfolding amount_of number_of
five_decimals = refl

two_points : amount_of (codes "8.1.1") ≡ None
unfolding amount_of number_of
two_points = refl

-- `copies 1 32767`
most_copies : values_on_line Copies (words_of (codes " 1 32767")) ≡ Ok (1 ∷ 32767 ∷ [])
unfolding values_on_line number_of
most_copies = refl

-- `copies 1 01 x`: numbers are compared, and what is repeated comes first
same_number : values_on_line Copies (words_of (codes " 1 01 x")) ≡ Err Repeated
unfolding values_on_line number_of
same_number = refl

-- `orientation 9 9`
repeated_out_of_range : values_on_line Orientation (words_of (codes " 9 9")) ≡ Err Repeated
unfolding values_on_line number_of
repeated_out_of_range = refl

-- `vmi 8 8.0`
same_amount : values_on_line Vmi (words_of (codes " 8 8.0")) ≡ Err Repeated
unfolding values_on_line number_of amount_of
same_amount = refl

-- `copies x x`: words that are no numbers are not compared
no_numbers : values_on_line Copies (words_of (codes " x x")) ≡ Err Range
unfolding values_on_line number_of
no_numbers = refl

-- `size 0`
size_zero : values_on_line Size (words_of (codes " 0")) ≡ Err Range
unfolding values_on_line number_of
size_zero = refl

-- `copies` with nothing behind it
no_values : values_on_line Copies (words_of []) ≡ Err Range
unfolding values_on_line number_of
no_values = refl

-- `trays` with 17 values, the last of which is given twice
seventeen_trays : values_on_line Tray (words_of (codes " 1 2 3 4 5 6 7 8 9 10 11 12 13 14 15 16 16")) ≡ Err Repeated
unfolding values_on_line number_of
seventeen_trays = refl

seventeen_other_trays : values_on_line Tray (words_of (codes " 1 2 3 4 5 6 7 8 9 10 11 12 13 14 15 16 17")) ≡ Err Range
unfolding values_on_line number_of
seventeen_other_trays = refl

-- `depth 8`, `depth 9`, `depth 1 1`
most_depth : number_on_line 8 (words_of (codes " 8")) ≡ Some 8
unfolding number_on_line number_of
most_depth = refl

too_deep : number_on_line 8 (words_of (codes " 9")) ≡ None
unfolding number_on_line number_of
too_deep = refl

two_depths : number_on_line 8 (words_of (codes " 1 1")) ≡ None
unfolding number_on_line
two_depths = refl

-- `name B`, `name B C`, and a carriage return that no line feed follows
one_word : is_name (words_of (codes " B")) ≡ true
unfolding is_name
one_word = refl

two_words : is_name (words_of (codes " B C")) ≡ false
unfolding is_name
two_words = refl

return_in_name : is_name (words_of (codes " B\r")) ≡ false
unfolding is_name
return_in_name = refl
