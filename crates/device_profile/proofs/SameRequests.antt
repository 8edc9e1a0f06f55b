-- The test of requests is true exactly where they are equal.
use Rattle.std.proofs.Common.{◌≡◌, ◌==◌, ◌&&◌, ap}
use Rattle.std.specs.Bool.{Decides}
use Rattle.std.proofs.lemmas.Bool.Decides.{Decides-eqb, Decides-int_eq, Decides-like, Decides-and}
use Rattle.device_profile.specs.declared.font.FontRequest.{FontRequest}
use Rattle.device_profile.specs.declared.font.SymbolSet.{SymbolSet}
use Rattle.device_profile.specs.Faces.{is_same_request}

set_decides : (a b : SymbolSet) → Decides ((a.number == b.number) && (a.letter == b.letter)) (a ≡ b)
set_decides a b =
    Decides-like _ (λ h. λ i. record { number = h.0 i; letter = h.1 i })
    (λ e. (ap (λ (x : SymbolSet). x.number) e, ap (λ (x : SymbolSet). x.letter) e))
    (Decides-and _ _ (Decides-eqb a.number b.number) (Decides-eqb a.letter b.letter))

pub request_decides : (a b : FontRequest) → Decides (is_same_request a b) (a ≡ b)
request_decides a b =
    Decides-like _
    (λ h. λ i. record {
      symbol_set = h.0.0.0.0.0.0 i;
      spacing = h.0.0.0.0.0.1 i;
      pitch = h.0.0.0.0.1 i;
      height = h.0.0.0.1 i;
      style = h.0.0.1 i;
      weight = h.0.1 i;
      typeface = h.1 i;
    })
    (λ e. (
      (
        (
          (
            (
              (ap (λ (x : FontRequest). x.symbol_set) e, ap (λ (x : FontRequest). x.spacing) e),
              ap (λ (x : FontRequest). x.pitch) e,
            ),
            ap (λ (x : FontRequest). x.height) e,
          ),
          ap (λ (x : FontRequest). x.style) e,
        ),
        ap (λ (x : FontRequest). x.weight) e,
      ),
      ap (λ (x : FontRequest). x.typeface) e,
    ))
    (Decides-and _ _
    (Decides-and _ _
    (Decides-and _ _
    (Decides-and _ _
    (Decides-and _ _ (Decides-and _ _ (set_decides a.symbol_set b.symbol_set) (Decides-eqb a.spacing b.spacing))
    (Decides-eqb a.pitch b.pitch))
    (Decides-eqb a.height b.height))
    (Decides-eqb a.style b.style))
    (Decides-int_eq a.weight b.weight))
    (Decides-eqb a.typeface b.typeface))
