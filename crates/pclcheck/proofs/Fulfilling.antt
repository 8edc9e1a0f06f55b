-- What a subcommand leaves is what its request comes to.
use Rattle.std.proofs.Common.{◌≡◌, ℕ, List, refl, subst, sym}
use Rattle.streams.specs.Outlet.{OutletState}
use Rattle.streams.specs.Used.{FileUse}
use Rattle.requests.specs.declared.status.Status.{Status}
use Rattle.requests.specs.declared.request.Request.{Request}
use Rattle.requests.specs.declared.request.Request.TheVariants as requests
use Rattle.pclcheck.specs.Requests.{AsksForPdf, AsksForPicture, AsksForPin, Fulfils}

-- of the request that it is
pub asked : (texts : List (List ℕ)) (request is : Request) (status : Status) (used used' : List FileUse) (out out' err err' : OutletState)
    → request ≡ is → Fulfils texts is status used used' out out' err err' → Fulfils texts request status used used' out out' err err'
asked texts request is status used used' out out' err err' e h = subst (λ r. Fulfils texts r status used used' out out' err err') (sym e) h

-- ---- a request that is asked for is no other

pub other_than_picture : (request : Request) → AsksForPicture request →
    ((job : _) (profile : _) (choices : _) (selection : _) → request ≡ requests.Picture job profile choices selection → ⊥) → ⊥
other_than_picture (requests.Picture job profile choices selection) is other = other job profile choices selection refl
other_than_picture _ is other = absurd is

pub other_than_pdf : (request : Request) → AsksForPdf request →
    ((job : _) (profile : _) (choices : _) (selection : _) (is_proof : _) (out : _)
    → request ≡ requests.Pdf job profile choices selection is_proof out → ⊥)
    → ⊥
other_than_pdf (requests.Pdf job profile choices selection is_proof out) is other =
    other job profile choices selection is_proof out refl
other_than_pdf _ is other = absurd is

pub other_than_pin : (request : Request) → AsksForPin request →
    ((job : _) (profile : _) (choices : _) (out : _) → request ≡ requests.Pin job profile choices out → ⊥) → ⊥
other_than_pin (requests.Pin job profile choices out) is other = other job profile choices out refl
other_than_pin _ is other = absurd is
