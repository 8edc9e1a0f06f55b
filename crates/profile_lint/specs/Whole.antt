-- What is wrong with the whole of what the good lines of a text give, beside what its faulty lines may have caused.
use Rattle.std.specs.Prelude.{ℕ, List, [], ◌∷◌, ◌++◌, flat_map, Bool, not, ◌&&◌, ◌==◌, if◌then◌else◌}
use Rattle.std.specs.List.{fold, list_any}
use Rattle.device_profile.specs.declared.field.Field.{Field}
use Rattle.device_profile.specs.declared.field.Field.TheVariants.{Size, Orientation, Vmi, Font, Copies, Sides, Tray}
use Rattle.device_profile.specs.declared.field.Field.TheVariants.{LineTerm}
use Rattle.device_profile.specs.declared.geometry.Geometry.{Geometry}
use Rattle.device_profile.specs.declared.key.Key.{Key}
use Rattle.device_profile.specs.declared.key.Key.TheVariants.{Name, Choice, Trays, Duplex, Depth, Memory, Page, Face}
use Rattle.device_profile.specs.Draft.{Draft, choice_of}
use Rattle.device_profile.specs.Faces.{has_face}
use Rattle.device_profile.specs.Key.{every_key}
use Rattle.device_profile.specs.Printer.{has_size, has_orientation, has_row, are_sides}
use Rattle.device_profile.specs.Text.{is_given, is_duplex}
use Rattle.profile_lint.specs.declared.fault.TextFault.{TextFault}
use Rattle.profile_lint.specs.declared.fault.TextFault.TheVariants.{Ungiven, NoPageOfSize, NoPageInOrientation, NoPair}
use Rattle.profile_lint.specs.declared.fault.TextFault.TheVariants.{NoFace, NoTray, NoSides}
use Rattle.profile_lint.specs.Faults.{has_faulty_line}

-- no line has this key, not even a faulty one
abbrev pub is_ungiven : Draft → List TextFault → Key → Bool
is_ungiven draft on_lines key = not (is_given draft key) && not (has_faulty_line on_lines key)

-- the lines of this key give all that they were to give
abbrev pub is_settled : Draft → List TextFault → Key → Bool
is_settled draft on_lines key = is_given draft key && not (has_faulty_line on_lines key)

-- the keys that no line has
abbrev pub ungiven_fault : Draft → List TextFault → Key → List TextFault
ungiven_fault draft on_lines key = if is_ungiven draft on_lines key then Ungiven key ∷ [] else []

abbrev pub ungiven_faults : Draft → List TextFault → List TextFault
ungiven_faults draft on_lines = flat_map (ungiven_fault draft on_lines) every_key

-- a fault, unless this holds
abbrev pub unless : Bool → TextFault → List TextFault
unless holds fault = if holds then [] else fault ∷ []

-- a number behind others, unless it is among them
abbrev pub with_new : List ℕ → ℕ → List ℕ
with_new numbers n = if list_any (λ m. m == n) numbers then numbers else numbers ++ n ∷ []

-- the sizes and the orientations of rows, each once
abbrev pub sizes_of : List Geometry → List ℕ
sizes_of rows = fold (λ sizes row. with_new sizes row.size) [] rows

abbrev pub orientations_of : List Geometry → List ℕ
orientations_of rows = fold (λ orientations row. with_new orientations row.orientation) [] rows

-- a value of a field, where the device has it not:
-- a size or an orientation that no page has, a font that is no face, a tray, sides
abbrev pub unheld : Draft → Field → ℕ → List TextFault
unheld draft Size size = unless (has_size draft.geometries size) (NoPageOfSize size)
unheld draft Orientation turned = unless (has_orientation draft.geometries turned) (NoPageInOrientation turned)
unheld draft Vmi vmi = []
unheld draft Font font = unless (has_face draft.faces font) (NoFace font)
unheld draft Copies copies = []
unheld draft Sides sides = unless (are_sides (is_duplex draft) sides) (NoSides sides)
unheld draft Tray tray = unless (list_any (λ held. held == tray) draft.device_trays) (NoTray tray)
unheld draft LineTerm termination = []

-- what the panel may have in a field and the device has not
abbrev pub choice_faults : Draft → Field → List TextFault
choice_faults draft field = flat_map (unheld draft field) (choice_of draft field)

-- a size and an orientation, where no page has both
abbrev pub unpaired : List Geometry → ℕ → ℕ → List TextFault
unpaired rows size turned = unless (has_row rows size turned) (NoPair size turned)

-- those of these orientations in which a size has no page
abbrev pub faults_of_size : List Geometry → List ℕ → ℕ → List TextFault
faults_of_size rows orientations size = flat_map (unpaired rows size) orientations

-- the pairs of a size and an orientation of pages that no page has
abbrev pub pair_faults : List Geometry → List TextFault
pair_faults rows = flat_map (faults_of_size rows (orientations_of rows)) (sizes_of rows)

abbrev pub page_faults : Draft → List TextFault
page_faults draft = choice_faults draft Size ++ choice_faults draft Orientation ++ pair_faults draft.geometries

-- what is wrong with the whole in what the lines of a key tell
abbrev pub faults_in : Draft → Key → List TextFault
faults_in draft Name = []
faults_in draft (Choice field) = []
faults_in draft Trays = choice_faults draft Tray
faults_in draft Duplex = choice_faults draft Sides
faults_in draft Depth = []
faults_in draft Memory = []
faults_in draft Page = page_faults draft
faults_in draft Face = choice_faults draft Font

-- it is told where these lines give all
abbrev pub where_settled : Draft → List TextFault → Key → List TextFault
where_settled draft on_lines key = if is_settled draft on_lines key then faults_in draft key else []

-- first the keys that are not given, then the pages, then the faces, the trays and the sides
abbrev pub faults_of_whole : Draft → List TextFault → List TextFault
faults_of_whole draft on_lines =
    ungiven_faults draft on_lines ++ where_settled draft on_lines Page ++ where_settled draft on_lines Face
    ++ where_settled draft on_lines Trays ++ where_settled draft on_lines Duplex
