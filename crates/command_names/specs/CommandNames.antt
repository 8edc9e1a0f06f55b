-- What is told of HP's commands: texts, of which each begins with a line of a key, a name and a state.
use Rattle.std.specs.Prelude.{ℕ, ◌==◌, ◌+◌, ◌≤◌, ◌&&◌, ◌||◌, nat_eq, List, [], ◌∷◌, length, map, codes, Bool}
use Rattle.std.specs.Prelude.{Option, Some, None, if◌then◌else◌}
use Rattle.std.specs.List.{AllByRecursion, after_first, before_first, flat_map, starts_with}
use Rattle.std.specs.Str.{bytes_eq, str_eq_ignore_ascii_case}
use Rattle.command_names.specs.declared.chapters.Chapter.{Chapter}
use Rattle.command_names.specs.declared.chapters.Chapter.TheVariants as chapters
use Rattle.command_names.specs.declared.chapters.TheConstants.{CHAPTERS}
use Rattle.command_names.specs.declared.controls.TheConstants as controls
use Rattle.command_names.specs.declared.places.TheConstants as places
use Rattle.command_names.specs.declared.pages.TheConstants as pages
use Rattle.command_names.specs.declared.jobs.TheConstants as jobs
use Rattle.command_names.specs.declared.fonts.TheConstants as fonts
use Rattle.command_names.specs.declared.raster_rows.TheConstants as raster_rows
use Rattle.command_names.specs.declared.rectangles.TheConstants as rectangles
use Rattle.command_names.specs.declared.devices.TheConstants as devices
use Rattle.command_names.specs.declared.rasters.TheConstants as rasters
use Rattle.command_names.specs.declared.colours.TheConstants as colours
use Rattle.command_names.specs.declared.frames_to_d.TheConstants as frames_to_d
use Rattle.command_names.specs.declared.frames_to_l.TheConstants as frames_to_l
use Rattle.command_names.specs.declared.frames_to_p.TheConstants as frames_to_p
use Rattle.command_names.specs.declared.frames_to_w.TheConstants as frames_to_w
use Rattle.command_names.specs.declared.job_lines.TheConstants as job_lines

-- the texts of a chapter, one a command
unfoldable pub texts_of : Chapter → List (List ℕ)
texts_of chapters.Controls = map (λ text. text.now) controls.TEXTS
texts_of chapters.Places = map (λ text. text.now) places.TEXTS
texts_of chapters.Pages = map (λ text. text.now) pages.TEXTS
texts_of chapters.Jobs = map (λ text. text.now) jobs.TEXTS
texts_of chapters.Fonts = map (λ text. text.now) fonts.TEXTS
texts_of chapters.RasterRows = map (λ text. text.now) raster_rows.TEXTS
texts_of chapters.Rectangles = map (λ text. text.now) rectangles.TEXTS
texts_of chapters.Devices = map (λ text. text.now) devices.TEXTS
texts_of chapters.Rasters = map (λ text. text.now) rasters.TEXTS
texts_of chapters.Colours = map (λ text. text.now) colours.TEXTS
texts_of chapters.FramesToD = map (λ text. text.now) frames_to_d.TEXTS
texts_of chapters.FramesToL = map (λ text. text.now) frames_to_l.TEXTS
texts_of chapters.FramesToP = map (λ text. text.now) frames_to_p.TEXTS
texts_of chapters.FramesToW = map (λ text. text.now) frames_to_w.TEXTS
texts_of chapters.JobLines = map (λ text. text.now) job_lines.TEXTS

abbrev pub texts_in : List Chapter → List (List ℕ)
texts_in chapters = flat_map texts_of chapters

-- the table, those of all
unfoldable pub table : List (List ℕ)
table = texts_in CHAPTERS

-- ---- the parts of a text

-- the key, by which a fault names the command, stands before the first space
abbrev pub key_of : List ℕ → List ℕ
key_of text = before_first (λ byte. byte == 32) text

-- then the name, with its spelling in brackets, before a colon
abbrev pub name_of : List ℕ → List ℕ
name_of text = before_first (λ byte. byte == 58) (after_first (λ byte. byte == 32) text)

abbrev pub head_of : List ℕ → List ℕ
head_of text = before_first (λ byte. byte == 10) text

-- the spelling, and the bracket behind it
abbrev pub spelling_of : List ℕ → List ℕ
spelling_of text = after_first (λ byte. byte == 40) (name_of text)

-- the first line ends by whether the command is taken
abbrev pub is_taken : List ℕ → Bool
is_taken text = bytes_eq (after_first (λ byte. byte == 58) (head_of text)) (codes " taken")

-- ---- the name of a command

-- the first of these texts that has a key
abbrev pub text_by : List ℕ → List (List ℕ) → Option (List ℕ)
text_by key [] = None
text_by key (text ∷ texts) = if bytes_eq (key_of text) key then Some text else text_by key texts

-- the name of the first of these that has a key, nothing where none has it
abbrev pub named_by : List ℕ → List (List ℕ) → List ℕ
named_by key [] = []
named_by key (text ∷ texts) = if bytes_eq (key_of text) key then name_of text else named_by key texts

abbrev pub command_name : List ℕ → List ℕ
command_name key = named_by key table

-- ---- whether a text is asked for

-- the code is the spelling without that bracket
abbrev pub begins_before_bracket : List ℕ → List ℕ → Bool
begins_before_bracket spelling code = (length spelling == length code + 1) && starts_with nat_eq spelling code

-- the code is the key, the spelling, or the name in any letter case
abbrev pub is_of_command : List ℕ → List ℕ → Bool
is_of_command code text =
    bytes_eq (key_of text) code || begins_before_bracket (spelling_of text) code
    || str_eq_ignore_ascii_case (name_of text) code

-- ---- how long a name is

-- at most so many bytes, and no control code
pub record IsName (name : List ℕ) : Type 0 where
  pub short : length name ≤ 60
  pub shown : AllByRecursion (λ byte. 32 ≤ byte) name
