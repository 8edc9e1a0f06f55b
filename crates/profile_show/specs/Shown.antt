-- What is shown of a profile.
use Rattle.std.specs.Prelude.{ℕ, Bool, if◌then◌else◌, List, ◌++◌, flat_map, decimal, codes}
use Rattle.device_profile.specs.Printer.{Printer}
use Rattle.profile_show.specs.Figures.{counted}
use Rattle.profile_show.specs.Faces.{faces_lines}
use Rattle.profile_show.specs.Pages.{pages_lines}
use Rattle.profile_show.specs.Panel.{panel_lines}

-- the trays, each behind a space
abbrev pub tray_words : List ℕ → List ℕ
tray_words trays = flat_map (λ tray. codes " " ++ decimal tray) trays

abbrev pub sides_held : Bool → List ℕ
sides_held has_duplex = if has_duplex then codes "both" else codes "one"

unfoldable pub trays_line : List ℕ → List ℕ
trays_line trays = codes "  trays:" ++ tray_words trays ++ codes "\n"

unfoldable pub sides_line : Bool → List ℕ
sides_line has_duplex = codes "  sides: " ++ sides_held has_duplex ++ codes "\n"

-- how many levels of macros may run, and how much memory they may take
unfoldable pub macros_line : ℕ → ℕ → List ℕ
macros_line depth memory =
    codes "  macros: " ++ counted depth (codes "level") ++ codes ", " ++ counted memory (codes "byte") ++ codes "\n"

-- what the device has
unfoldable pub device_lines : Printer → List ℕ
device_lines printer =
    codes "device:\n" ++ trays_line printer.device_trays ++ sides_line printer.has_duplex
    ++ macros_line printer.depth printer.memory

unfoldable pub name_line : List ℕ → List ℕ
name_line name = codes "name: " ++ name ++ codes "\n"

-- the name, the panel, the device, the pages and the faces
unfoldable pub shown_profile : List ℕ → Printer → List ℕ
shown_profile name printer =
    name_line name ++ panel_lines printer ++ device_lines printer
    ++ pages_lines printer.geometries ++ faces_lines printer.faces
