-- Printers with the same panels, pages and faces are alike.
use Rattle.std.proofs.Common.{◌≡◌}
use Rattle.device_profile.specs.Choices.{Choices}
use Rattle.device_profile.specs.Likeness.{IsLike}
use Rattle.device_profile.specs.Printer.{Printer}

abbrev pub choices_of : Printer → Choices
choices_of p = record {
  sizes = p.sizes;
  orientations = p.orientations;
  vmis = p.vmis;
  fonts = p.fonts;
  copies = p.copies;
  sides = p.sides;
  panel_trays = p.panel_trays;
  line_terminations = p.line_terminations;
}

pub like_printers : (p q : Printer) → choices_of q ≡ choices_of p → q.most_items ≡ p.most_items → q.geometries ≡ p.geometries →
    q.faces ≡ p.faces → IsLike p q
like_printers p q choices limit pages faces = λ i. record q {
  sizes = (choices i).sizes;
  orientations = (choices i).orientations;
  vmis = (choices i).vmis;
  fonts = (choices i).fonts;
  copies = (choices i).copies;
  sides = (choices i).sides;
  panel_trays = (choices i).panel_trays;
  line_terminations = (choices i).line_terminations;
  most_items = limit i;
  geometries = pages i;
  faces = faces i;
}
