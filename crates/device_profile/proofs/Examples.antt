-- Texts whose printer or fault is computed from the definitions alone.
use Rattle.std.proofs.Common.{◌≡◌, ℕ, List, [], ◌∷◌, ◌++◌, map, refl, Ok, Err}
use Rattle.std.specs.Prelude.{codes}
use Rattle.device_profile.specs.declared.sample.Sample.{Sample}
use Rattle.device_profile.specs.declared.sample.Sample.TheVariants.{A, B, C, D}
use Rattle.device_profile.specs.declared.fault.Cause.TheVariants.{Version, Unknown, Repeated, Range, Missing, NoGeometry}
use Rattle.device_profile.specs.declared.fault.ProfileFault.{ProfileFault}
use Rattle.device_profile.specs.declared.fault.ProfileFault.TheVariants.{Fault}
use Rattle.device_profile.specs.Faces.{has_face, has_request}
use Rattle.device_profile.specs.Printer.{has_size, has_orientation}
use Rattle.device_profile.specs.SampleTexts.{text_with, sample_text, sample_printer}
use Rattle.device_profile.specs.Words.{number_of, amount_of}
use Rattle.device_profile.specs.Values.{values_on_line, number_on_line, is_name}
use Rattle.device_profile.specs.GeometryLine.{row_numbers_of, geometry_on_line}
use Rattle.device_profile.specs.FaceLine.{symbol_set_of, weight_of, request_of, codes_of, face_with_codes, face_of_words, face_on_line}
use Rattle.device_profile.specs.Draft.{key_of}
use Rattle.device_profile.specs.Text.{printer_of_text}

-- each sample's text describes its printer
pub sample_is_read : (sample : Sample) → printer_of_text (sample_text sample) ≡ Ok (sample_printer sample)
unfolding printer_of_text key_of values_on_line number_on_line is_name row_numbers_of geometry_on_line symbol_set_of weight_of request_of
    codes_of face_with_codes face_of_words face_on_line number_of amount_of has_size has_orientation has_face has_request
sample_is_read A = refl
sample_is_read B = refl
sample_is_read C = refl
sample_is_read D = refl

-- sample B with these values, of which one differs
abbrev text_b : List ℕ → List ℕ → List ℕ → List ℕ → List ℕ → List ℕ
text_b name size orientation vmi font = text_with name size orientation vmi font (codes "720")

-- texts, and what is wrong with each
abbrev wrong_texts : List (List ℕ × ProfileFault)
wrong_texts =
    ([], Fault 1 Version)
    ∷ (codes "pclprofile 3\n", Fault 1 Version)
    ∷ (codes "pclprofile 2\n", Fault 0 Missing)
    ∷ (sample_text B ++ codes "lineterm 0", Fault 20 Unknown)
    ∷ (codes "# x\n" ++ sample_text B, Fault 1 Version)
    ∷ (text_b (codes "B C") (codes "2") (codes "0") (codes "8") (codes "1"), Fault 2 Range)
    ∷ (text_b (codes "B") (codes "0") (codes "0") (codes "8") (codes "1"), Fault 3 Range)
    ∷ (text_b (codes "B") (codes "2") (codes "9 9") (codes "8") (codes "1"), Fault 4 Repeated)
    ∷ (text_b (codes "B") (codes "2") (codes "0") (codes "8 8.0") (codes "1"), Fault 5 Repeated)
    ∷ (text_b (codes "B") (codes "2") (codes "0") (codes "8.") (codes "1"), Fault 5 Range)
    ∷ (text_b (codes "B") (codes "3") (codes "0") (codes "8") (codes "1"), Fault 0 NoGeometry)
    ∷ (text_b (codes "B") (codes "2") (codes "0") (codes "8") (codes "9"), Fault 0 Range)
    ∷ (sample_text B ++ codes " # x", Fault 20 Unknown)
    ∷ (sample_text B ++ codes "geometry 2 0", Fault 20 Repeated)
    ∷ (sample_text B ++ codes "face 1", Fault 20 Repeated)
    ∷ (sample_text B ++ codes "face 3 10U 10 12 0 0 3 0 900 300 33-126", Fault 20 Repeated)
    ∷ (sample_text B ++ codes "face 3 10U 10 12 0 0 4 0 900 300 33-126", Fault 20 Range)
    ∷ []

each_fault : map (λ row. printer_of_text row.0) wrong_texts ≡ map (λ row. Err row.1) wrong_texts
unfolding printer_of_text key_of values_on_line number_on_line is_name row_numbers_of geometry_on_line symbol_set_of weight_of request_of
    codes_of face_with_codes face_of_words face_on_line number_of amount_of has_size has_orientation has_face has_request
each_fault = refl

-- a comment changes nothing
a_comment : printer_of_text (sample_text B ++ codes "# x") ≡ Ok (sample_printer B)
unfolding printer_of_text key_of values_on_line number_on_line is_name row_numbers_of geometry_on_line symbol_set_of weight_of request_of
    codes_of face_with_codes face_of_words face_on_line number_of amount_of has_size has_orientation has_face has_request
a_comment = refl
