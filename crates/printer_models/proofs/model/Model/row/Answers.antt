use Rattle.std.proofs.Common.{ap}
use Rattle.printer_models.specs.Model.{Facts}
use Rattle.printer_models.proofs.model.Model.row.Goals as goal

pub returns : goal.returns
returns c =
    let is = c.table_row.ensures in
    record {
      word = ap (λ (known : Facts). known.word) is;
      title = ap (λ (known : Facts). known.title) is;
      generation = ap (λ (known : Facts). known.generation) is;
      papers = ap (λ (known : Facts). known.papers) is;
      trays = ap (λ (known : Facts). known.device_trays) is;
      panel_trays = ap (λ (known : Facts). known.panel_trays) is;
      duplex = ap (λ (known : Facts). known.has_duplex) is;
      memory = ap (λ (known : Facts). known.memory) is;
    }
