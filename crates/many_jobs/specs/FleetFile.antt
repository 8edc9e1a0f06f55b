-- The words of the text of a fleet, and what standard error is told of fleets.
use Rattle.std.specs.Prelude.{◌≡◌, ◌≢◌, ◌≤◌, ◌==◌, ◌||◌, ℕ, Bool, List, [], ◌∷◌, ◌++◌, codes, flat_map, length, map}
use Rattle.std.specs.Prelude.{slice_index, take, if◌then◌else◌, Option, IfSome}
use Rattle.std.specs.List.{AllByRecursion}
use Rattle.std.specs.Path.{path_with_file_name}
use Rattle.std.specs.Str.{trim}
use Rattle.std.specs.Str.Lines.{lines}
use Rattle.streams.specs.Outlet.{OutletState}
use Rattle.many_jobs.specs.declared.fleet_file.FleetFault.{FleetFault}
use Rattle.many_jobs.specs.declared.fleet_file.FleetFault.TheVariants.{Unreadable, TooLong, NoText, NoPrinter}
use Rattle.requests.specs.declared.status.Status.{Status}
use Rattle.requests.specs.declared.status.Trouble.TheVariants.{Refused}
use Rattle.job_reports.specs.Refusals.{TellsLine, unread}
use Rattle.shown_bytes.specs.Shown.{shown}

-- ---- the words

-- the line is empty, or begins with `#`
abbrev pub is_passed_over : List ℕ → Bool
is_passed_over line = (length line == 0) || (slice_index line 0 == 35)

-- the word begins with `@`
abbrev pub is_sample : List ℕ → Bool
is_sample word = slice_index word 0 == 64

-- the word of a line: a sample as it stands, and a path as seen from the folder of the text, which stands at this path
abbrev pub word_of : (path line : List ℕ) → List ℕ
word_of path line = if is_sample line then line else path_with_file_name path line

-- the word of a line without white space around it, unless it is passed over
abbrev pub line_words : (path line : List ℕ) → List (List ℕ)
line_words path line = if is_passed_over line then [] else word_of path line ∷ []

-- so of any line
abbrev pub words_at : (path line : List ℕ) → List (List ℕ)
words_at path line = line_words path (trim line)

-- what a text at this path names, line by line
abbrev pub fleet_words : (path text : List ℕ) → List (List ℕ)
fleet_words path text = flat_map (words_at path) (lines text)

-- a fleet: its path, and the text that was read there
pub record FleetText : Type 0 where
  pub path : List ℕ
  pub text : List ℕ

abbrev pub fleet_at : (path text : List ℕ) → FleetText
fleet_at path text = record { path = path; text = text }

-- what it names
abbrev pub words_named : FleetText → List (List ℕ)
words_named fleet = fleet_words fleet.path fleet.text

-- It was read to its end and names a printer at least; where the text at its path is known, that is it.
pub record IsFleet (text_of : List ℕ → Option (List ℕ)) (fleet : FleetText) : Type 0 where
  pub whole : length fleet.text ≤ 65_536
  pub some : words_named fleet ≢ []
  pub front : IfSome (text_of fleet.path) (λ known. fleet.text ≡ take 65_537 known)

-- these are the fleets at these paths, in their order
pub record AreFleets (text_of : List ℕ → Option (List ℕ)) (paths : List (List ℕ))
    (fleets : List FleetText) : Type 0 where
  pub paths_are : map (λ fleet. fleet.path) fleets ≡ paths
  pub each : AllByRecursion (IsFleet text_of) fleets

-- ---- what is appended

-- behind those that stood there more stand, whose bytes these are
pub record AddsBytes {S : Type 0} (bytes : S → List ℕ) (old new : List S) (added : List (List ℕ)) : Type 0 where
  pub more : List S
  pub behind : new ≡ old ++ more
  pub bytes_are : map bytes more ≡ added

-- the text at a path was read, and behind the words that stood there stand those that it names
pub record AddsFleet {S : Type 0} (bytes : S → List ℕ) (text_of : List ℕ → Option (List ℕ)) (path : List ℕ)
    (given given' : List (List ℕ)) (old new : List S) : Type 0 where
  pub text : List ℕ
  pub read : given' ≡ given ++ text ∷ []
  pub is_fleet : IsFleet text_of (fleet_at path text)
  pub adds : AddsBytes bytes old new (fleet_words path text)

-- ---- what is told

-- a fleet by its path, and what is wrong with its text
abbrev pub refused_text : List ℕ → List ℕ → List ℕ
refused_text path words = codes "ERROR fleet " ++ (shown path ++ words)

-- of one that cannot be read what the system says of that
abbrev pub refused_fleet : List ℕ → FleetFault → Option (List ℕ) → List ℕ
refused_fleet path Unreadable cause = unread (codes "ERROR read fleet ") path cause
refused_fleet path TooLong cause = refused_text path (codes ": more than 65536 bytes\n")
refused_fleet path NoText cause = refused_text path (codes ": not UTF-8 text\n")
refused_fleet path NoPrinter cause = refused_text path (codes ": names no printer\n")

-- standard error is told why a fleet is refused, or there was no memory for that
abbrev pub TellsOfFleet : List ℕ → Status → OutletState → OutletState → Type 0
TellsOfFleet path status err err' =
    (fault : FleetFault) × (cause : Option (List ℕ))
    × TellsLine status Refused (refused_fleet path fault cause) err err'
