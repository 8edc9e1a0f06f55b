-- What the text of a model's profile has to say.
use Rattle.std.specs.Prelude.{◌≡◌, ◌==◌, ℕ, ◌<◌, List, Ok}
use Rattle.std.specs.List.{list_any}
use Rattle.device_profile.specs.declared.field.Field.{Field}
use Rattle.device_profile.specs.Faces.{face_at}
use Rattle.device_profile.specs.Name.{printer_name}
use Rattle.device_profile.specs.Printer.{Printer, values_of, has_tray, row_at}
use Rattle.device_profile.specs.Text.{printer_of_text}
use Rattle.printer_models.specs.declared.model.Model.{Model}
use Rattle.printer_models.specs.declared.panel_lists.PanelLists.{PanelLists}
use Rattle.printer_models.specs.declared.paper.Paper.{Paper}
use Rattle.printer_models.specs.Face.{faces_of, face_numbered}
use Rattle.printer_models.specs.Model.{facts_of}
use Rattle.printer_models.specs.Page.{page_at}
use Rattle.printer_models.specs.Panel.{panel_values}

-- The printer is that of the tables: the panel has these values, and whatever tray, page or face is looked up in it, by
-- numbers that a profile can have, the tables answer the same.
pub record IsPrinterOf (model : Model) (papers : List Paper) (lists : PanelLists) (printer : Printer) : Type 0 where
  pub values : (field : Field) → values_of printer field ≡ panel_values model papers lists field
  pub trays : (tray : ℕ) → tray < 256 →
      has_tray printer tray ≡ list_any (λ held. held == tray) (facts_of model).device_trays
  pub pages : (size orientation : ℕ) → size < 1_000 → orientation < 4 →
      row_at printer.geometries size orientation ≡ page_at papers size orientation
  pub faces : (id : ℕ) → id < 256 → face_at printer.faces id ≡ face_numbered (faces_of (facts_of model).generation) id
  pub duplex : printer.has_duplex ≡ (facts_of model).has_duplex
  pub depth : printer.depth ≡ 2
  pub memory : printer.memory ≡ (facts_of model).memory

-- the text is one of a profile, it describes that printer, and names it by the model's word
pub record DescribesModel (model : Model) (papers : List Paper) (lists : PanelLists) (text : List ℕ) : Type 0 where
  pub printer : Printer
  pub is_read : printer_of_text text ≡ Ok printer
  pub is_that : IsPrinterOf model papers lists printer
  pub name : printer_name text ≡ (facts_of model).word
