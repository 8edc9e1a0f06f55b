-- The sample is valid.
use Rattle.std.proofs.Common.{IsTrue, refl}
use Rattle.device_profile.specs.Faces.{has_face}
use Rattle.device_profile.specs.Printer.{is_valid, has_size, has_orientation}
use Rattle.device_profile.specs.Samples.{printer_a}

pub printer_a-valid : IsTrue (is_valid printer_a)
unfolding has_size has_orientation has_face
printer_a-valid = refl
