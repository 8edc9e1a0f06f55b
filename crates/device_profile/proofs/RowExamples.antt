-- Lines with pages and faces by hand, and what they give.
use Rattle.std.specs.Prelude.{◌≡◌, negsuc, [], ◌∷◌, None, Some, Ok, Err, codes, refl}
use Rattle.device_profile.specs.declared.fault.Cause.TheVariants.{Repeated, Range}
use Rattle.device_profile.specs.Faces.{face_at, face_for, has_face, has_request}
use Rattle.device_profile.specs.FaceLine.{codes_of, face_of_words, face_on_line, face_with_codes, request_of, symbol_set_of, weight_of}
use Rattle.device_profile.specs.GeometryLine.{geometry_on_line, row_numbers_of}
use Rattle.device_profile.specs.Rows.{row_of}
use Rattle.device_profile.specs.Samples.{faces_a, pages_a, request_3}
use Rattle.device_profile.specs.Words.{amount_of, number_of, words_of}

-- a page of a size that no row has
new_page : geometry_on_line pages_a (words_of (codes " 3 0 61200 79200 1800 0 57600 79200 1200 1200 60000 78000"))
    ≡ Ok (row_of (3 ∷ 0 ∷ 61200 ∷ 79200 ∷ 1800 ∷ 0 ∷ 57600 ∷ 79200 ∷ 1200 ∷ 1200 ∷ 60000 ∷ 78000 ∷ []))
unfolding geometry_on_line row_numbers_of number_of
new_page = refl

-- a pair that stands already comes before all else that is wrong
page_again : geometry_on_line pages_a (words_of (codes " 26 01 x")) ≡ Err Repeated
unfolding geometry_on_line row_numbers_of number_of
page_again = refl

-- the logical page may have no width
no_width : geometry_on_line [] (words_of (codes "2 0 61200 79200 1800 0 0 79200 1200 1200 60000 78000"))
    ≡ Ok (row_of (2 ∷ 0 ∷ 61200 ∷ 79200 ∷ 1800 ∷ 0 ∷ 0 ∷ 79200 ∷ 1200 ∷ 1200 ∷ 60000 ∷ 78000 ∷ []))
unfolding geometry_on_line row_numbers_of number_of
no_width = refl

-- it ends in the page
past_the_page : geometry_on_line [] (words_of (codes "2 0 61200 79200 1800 0 59401 79200 1200 1200 60000 78000")) ≡ Err Range
unfolding geometry_on_line row_numbers_of number_of
past_the_page = refl

-- it is an inch high
less_than_an_inch : geometry_on_line [] (words_of (codes "2 0 61200 79200 1800 0 57600 7199 1200 1200 60000 78000")) ≡ Err Range
unfolding geometry_on_line row_numbers_of number_of
less_than_an_inch = refl

-- the printable area is not empty
no_printable_area : geometry_on_line [] (words_of (codes "2 0 61200 79200 1800 0 57600 79200 1200 1200 1200 78000")) ≡ Err Range
unfolding geometry_on_line row_numbers_of number_of
no_printable_area = refl

-- the first face of the sample, from its line
first_face : face_of_words (words_of (codes "1 10U 10 12 0 0 3 720 900 300 33-126")) ≡ face_at faces_a 1
unfolding face_of_words face_with_codes codes_of request_of symbol_set_of weight_of amount_of number_of face_at
first_face = refl

-- the second, by what selects it
second_face : face_for faces_a (request_3 120_000 100_000) ≡ face_at faces_a 2
unfolding face_for face_at
second_face = refl

-- an id that stands already
face_again : face_on_line faces_a (words_of (codes " 01 x")) ≡ Err Repeated
unfolding face_on_line request_of symbol_set_of number_of has_face has_request
face_again = refl

-- the same seven parts comes before a wrong advance
request_again : face_on_line faces_a (words_of (codes "3 10U 10.0 12 0 -0 3 0 900 300 33-126")) ≡ Err Repeated
unfolding face_on_line request_of symbol_set_of weight_of amount_of number_of has_face has_request
request_again = refl

-- an advance is not 0
no_advance : face_on_line faces_a (words_of (codes "3 10U 10 12 0 0 4 0 900 300 33-126")) ≡ Err Range
unfolding face_on_line face_of_words face_with_codes codes_of request_of symbol_set_of weight_of amount_of number_of has_face has_request
no_advance = refl

light : weight_of (codes "-3") ≡ Some (negsuc 29_999)
unfolding weight_of number_of
light = refl

set_8m : symbol_set_of (codes "08M") ≡ Some (record { number = 80_000; letter = 77 })
unfolding symbol_set_of number_of
set_8m = refl

set_x : symbol_set_of (codes "8X") ≡ None
unfolding symbol_set_of number_of
set_x = refl

-- ranges may touch
ranges_that_touch : codes_of (codes "33-40,041-50") ≡ Some (record { first = 33; last = 40 } ∷ record { first = 41; last = 50 } ∷ [])
unfolding codes_of number_of
ranges_that_touch = refl

ranges_that_meet : codes_of (codes "33-40,40-50") ≡ None
unfolding codes_of number_of
ranges_that_meet = refl

-- a single code is no range
single_code : codes_of (codes "65") ≡ None
unfolding codes_of number_of
single_code = refl

control_code : codes_of (codes "32-126") ≡ None
unfolding codes_of number_of
control_code = refl

comma_at_the_end : codes_of (codes "33-126,") ≡ None
unfolding codes_of number_of
comma_at_the_end = refl
