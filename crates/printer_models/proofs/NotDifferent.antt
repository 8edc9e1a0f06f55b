-- What a test by `!=` that failed has told.
use Rattle.std.proofs.Common.{◌≡◌, Bool, true, false, not, refl}

pub not_different : (same differ : Bool) → differ ≡ not same → differ ≡ false → true ≡ same
not_different true differ is h = refl
not_different false differ is h = cc
