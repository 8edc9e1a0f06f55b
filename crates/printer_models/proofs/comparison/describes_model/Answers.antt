use Rattle.std.proofs.Common.{◌≡◌, List, ℕ, Bool, Result, Ok, Err, IfOk, IsTrue, sym, ◌∙◌}
use Rattle.std.specs.Cmp.Lexicographic.{same_text}
use Rattle.device_profile.specs.Name.{printer_name}
use Rattle.device_profile.specs.Printer.{Printer}
use Rattle.device_profile.specs.Text.{printer_of_text}
use Rattle.printer_models.specs.declared.model.Model.{Model}
use Rattle.printer_models.specs.declared.panel_lists.PanelLists.{PanelLists}
use Rattle.printer_models.specs.declared.paper.Paper.{Paper}
use Rattle.printer_models.specs.Describes.{IsPrinterOf, DescribesModel}
use Rattle.printer_models.specs.Model.{facts_of}
use Rattle.printer_models.proofs.NotDifferent.{not_different}
use Rattle.printer_models.proofs.comparison.describes_model.Goals as goal

-- a text with this name and printer describes the model where the printer is that of the model
describes : {E : Type 0} (model : Model) (papers : List Paper) (lists : PanelLists) (text : List ℕ) (printer : Printer)
    (result : Result Bool E) →
    printer_of_text text ≡ Ok printer → printer_name text ≡ (facts_of model).word →
    IfOk result (λ is. IsTrue is → IsPrinterOf model papers lists printer) →
    IfOk result (λ is. IsTrue is → DescribesModel model papers lists text)
describes model papers lists text printer (Ok is) is_read name is_that =
    λ h. record { printer = printer; is_read = is_read; is_that = is_that h; name = name }
describes model papers lists text printer (Err error) is_read name is_that = is_that

pub returns : goal.returns
returns g c =
    describes c.args.model c.args.papers.now c.args.lists c.args.text.now c.in-Ok.profile c.is_printer_of.result c.in-Ok.ensures
    (sym c.printer_name.ensures
    ∙ same_text c.printer_name.result.now c.as_bytes.result.now (not_different _ _ c.ne.ensures c.if-ne.false)
    ∙ c.as_bytes.ensures.value
    ∙ c.row.ensures.word)
    c.is_printer_of.ensures
