-- The items that are read are within the limits, so their spelling is read as the same items.
use Rattle.std.proofs.Common.{◌≡◌, ◌≤◌, ◌==◌, ℕ, zero, suc, Bool, true, false, cond, List, [], ◌∷◌, ◌++◌, Option, None, Some, refl, ap, sym}
use Rattle.std.proofs.Common.{◌∙◌, subst, ℤ, arith}
use Rattle.std.specs.Prelude.{unsigned_abs}
use Rattle.std.specs.List.{AllByRecursion, flat_map}
use Rattle.pcl_items.specs.declared.pcl.command.Group.{Group}
use Rattle.pcl_items.specs.declared.frame.Mnemonic.{Mnemonic}
use Rattle.pcl_items.specs.declared.frame.Mnemonic.TheVariants as mnemonics
use Rattle.pcl_items.specs.declared.frame.Setting.TheVariants as settings
use Rattle.pcl_items.specs.declared.item.Mode.{Mode}
use Rattle.pcl_items.specs.declared.item.Mode.TheVariants as modes
use Rattle.pcl_items.specs.declared.number.Sign.{Sign}
use Rattle.pcl_items.specs.declared.number.Sign.TheVariants.{Absent, Plus, Minus}
use Rattle.pcl_items.specs.Spellings.Canon.{canon, IsItem}
use Rattle.pcl_items.specs.Escapes.Codes.{control_at, sequence_at}
use Rattle.pcl_lexer.specs.Frames.CommandParts.{Numbers, Single, Odd, Even}
use Rattle.pcl_lexer.specs.Faults as rules
use Rattle.pcl_lexer.specs.Frames.Faults as frames
use Rattle.pcl_lexer.specs.Frames.Grammar.{Start, Part, Word, Number, IsBegun, letters, letters_space, setting, coordinate, behind_pair}
use Rattle.pcl_lexer.specs.Frames.Grammar.{further_coordinate, space, comma, IsWhole, without_number, with_number, EndsPair}
use Rattle.pcl_lexer.specs.Frames.Grammar.{second_coordinate, IsCommand, without_pairs, pair, behind_pairs, IsFrameUnit, separator, command}
use Rattle.pcl_lexer.specs.Frames.Grammar.{ended_command, LeavesFrame, reset, leave_frame}
use Rattle.pcl_lexer.specs.Grammar.{Commands, last, with_data, more, IsUngrouped, symbol_set, default_font, leave_frame as leaves_ungrouped}
use Rattle.pcl_lexer.specs.Grammar.{enter_frame, IsUnit, text_byte, control_code, two_characters, ungrouped, combined, in_frame}
use Rattle.pcl_lexer.specs.Grammar.{out_of_frame, exit, line, otherwise, SpellsTo, here, next}
use Rattle.pcl_items.specs.Modes.{follows, mode_after, mode_behind}
use Rattle.pcl_items.specs.Items.{Entry, Placed, bare, entries}
use Rattle.pcl_lexer.specs.Frames.NumberText.{IsCoordinate}
use Rattle.pcl_lexer.specs.Reading.{Reading, Whole, Stopped, IsReading, items_of, reading_of}
use Rattle.pcl_spelling.specs.Spellings.Spelled.{AreAdmitted, none, some, items_in, spelled}
use Rattle.pcl_items.specs.Escapes.Value.{most, most_units, signed}
use Rattle.pcl_items.specs.Escapes.ValueField.{IsField}
use Rattle.pcl_lexer.proofs.PjlLines.Canonical.{spelled_line}
use Rattle.pcl_spelling.proofs.Spellings.ReadAgain.{items_in-spelled, reads_mode}
use Rattle.pcl_lexer.proofs.Reading.Stopping.{read_by_rules}
use Rattle.promises.specs.Laws.{HaveOnePlainText, IsReadAgain}
use Rattle.page_machine.specs.Pinning.{placed_from, place_behind}
use Rattle.renderings.specs.Texts.{plain_text}
use Rattle.promises.proofs.SpelledReading.{spelled_is_read}

-- each item is within the limits
abbrev AreItems : List Placed → Type 0
AreItems items = AllByRecursion (λ (x : Placed). IsItem x.item) items

both_items : (xs ys : List Placed) → AreItems xs → AreItems ys → AreItems (xs ++ ys)
both_items [] ys h k = k
both_items (x ∷ xs) ys h k = (h.0, both_items xs ys h.1 k)

-- ---- mode PCL

-- what a table has
in_table : (b : Bool) (v item : Entry) (rest : Option Entry) → IsItem v → (rest ≡ Some item → IsItem item) →
    cond b (Some v) rest ≡ Some item → IsItem item
in_table true v item rest h later e = let same : v ≡ item = cc in subst IsItem same h
in_table false v item rest h later e = later e

in_none : (item : Entry) → None ≡ Some item → IsItem item
in_none item e = absurd cc

control_known : (code : ℕ) (item : Entry) → control_at code ≡ Some item → IsItem item
control_known code item e =
    in_table (code == 10) _ item _ tt (in_table (code == 12) _ item _ tt (in_table (code == 13) _ item _ tt (in_none item))) e

sequence_known : (code : ℕ) (item : Entry) → sequence_at code ≡ Some item → IsItem item
sequence_known code item e =
    in_table (code == 57) _ item _ tt (in_table (code == 61) _ item _ tt (in_table (code == 69) _ item _ tt (in_none item))) e

commands_known : {group : Group} {place : ℕ} {text : List ℕ} {items : List Placed} → Commands group place text items → AreItems items
commands_known (last c field) = (field.limited, tt)
commands_known (with_data c field counts) = (counts.limited, tt)
commands_known (more c field others) = (field.limited, commands_known others)

ungrouped_known : {introducer letter : ℕ} {text : List ℕ} {item : Entry} {mode : Mode} (amount : _) → IsField text amount →
    IsUngrouped introducer amount letter item mode → IsItem item
ungrouped_known amount field (symbol_set known) = (field.limited, known)
ungrouped_known amount field (default_font three sign) = tt
ungrouped_known amount field (leaves_ungrouped hands) = tt
ungrouped_known amount field (enter_frame hands) = tt

-- ---- frames

signed_limit : (sign : Sign) (units : ℕ) → units ≤ most_units → unsigned_abs (signed sign units) ≤ most_units
signed_limit Absent units h = h
signed_limit Plus units h = h
signed_limit Minus zero h = h
signed_limit Minus (suc units) h = h

coordinate_limit : (text : List ℕ) (x : ℤ) → IsCoordinate text x → unsigned_abs x ≤ most_units
coordinate_limit text x h = subst (λ y. unsigned_abs y ≤ most_units) (sym h.value) (signed_limit h.sign h.units h.limited)

-- what is written of a command is within the limits
abbrev AreNumbers : Numbers → Type 0
AreNumbers (Single s amount) = amount ≤ most
AreNumbers (Odd motion x) = unsigned_abs x ≤ most_units
AreNumbers (Even motion) = Unit {0}

abbrev IsPart : Part → Type 0
IsPart (Word mnemonic) = Unit {0}
IsPart (Number numbers gap) = AreNumbers numbers

begun_known : {start : Start} {part : Part} {from : ℕ} {text rest : List ℕ} → IsBegun start part from text rest → IsPart part
begun_known (letters a b known) = tt
begun_known (letters_space h white) = tt
begun_known (setting h number ends) = number.field.limited
begun_known (coordinate {x = x} {number = number} h at_x ends) = coordinate_limit number x at_x
begun_known behind_pair = tt
begun_known (further_coordinate {x = x} {number = number} h begins at_x ends) = coordinate_limit number x at_x
begun_known (space h white) = begun_known h
begun_known (comma h is_comma gap) = begun_known h

bare_known : (mnemonic : Mnemonic) → IsItem (bare mnemonic)
bare_known mnemonics.Initialize = tt
bare_known (mnemonics.Sets settings.Pen) = omega arith
bare_known (mnemonics.Sets settings.Width) = omega arith
bare_known (mnemonics.Moves motion) = tt

whole_known : {part : Part} {item : Entry} → IsPart part → IsWhole part item → IsItem item
whole_known h (without_number {mnemonic = mnemonic}) = bare_known mnemonic
whole_known h (with_number gap) = h

pair_known : {start : Start} {motion : _} {to : ℤ × ℤ} {from : ℕ} {text rest : List ℕ} → EndsPair start motion to from text rest →
    (unsigned_abs to.0 ≤ most_units) × (unsigned_abs to.1 ≤ most_units)
pair_known (second_coordinate {y = y} {number = number} h begins at_y ends) = (begun_known h, coordinate_limit number y at_y)

command_known : {start : Start} {place : ℕ} {text rest : List ℕ} {items : List Placed} → IsCommand start place text rest items →
    AreItems items
command_known (without_pairs h whole ends) = (whole_known (begun_known h) whole, tt)
command_known (pair ends others) = (pair_known ends, command_known others)
command_known (behind_pairs h gap ends) = tt

frame_known : {place : ℕ} {text rest : List ℕ} {items : List Placed} → IsFrameUnit place text rest items → AreItems items
frame_known (separator white) = tt
frame_known (command h) = command_known h
frame_known (ended_command h) = command_known h

leaving_known : {place : ℕ} {text : List ℕ} {items : List Placed} → LeavesFrame place text items → AreItems items
leaving_known reset = (tt, tt)
leaving_known (leave_frame field hands) = (tt, tt)

-- ---- units

unit_known : {mode mode1 : Mode} {place : ℕ} {text rest : List ℕ} {items : List Placed} → IsUnit mode place text rest items mode1 →
    AreItems items
unit_known (text_byte printing) = (printing, tt)
unit_known (control_code {code = code} {item = item} e) = (control_known code item e, tt)
unit_known (two_characters {character = character} {item = item} e) = (sequence_known character item e, tt)
unit_known (ungrouped {amount = amount} field is) = (ungrouped_known amount field is, tt)
unit_known (combined h) = let all = commands_known h in (all.0, all.1)
unit_known (in_frame h) = frame_known h
unit_known (out_of_frame h) = leaving_known h
unit_known exit = (tt, tt)
unit_known (line h) = (spelled_line h, tt)
unit_known (otherwise other h) = unit_known h

units_known : {mode mode2 : Mode} {place place2 : ℕ} {bytes rest : List ℕ} {items : List Placed} →
    SpellsTo mode place bytes items mode2 place2 rest → AreItems items
units_known here = tt
units_known (next {items = items} {others = others} unit behind) = both_items items others (unit_known unit) (units_known behind)

commands_stop : {group : Group} {place place1 : ℕ} {bytes : List ℕ} {items : List Placed} {cause : _} →
    rules.CommandsStop group place bytes items place1 cause → AreItems items
commands_stop (rules.fault h) = tt
commands_stop (rules.behind c field h) = (field.limited, commands_stop h)

frame_stops : {start : Start} {place place1 : ℕ} {bytes : List ℕ} {items : List Placed} {cause : _} →
    frames.FrameStops start place bytes items place1 cause → AreItems items
frame_stops (frames.at_fault h) = tt
frame_stops (frames.behind_pair ends h) = (pair_known ends, frame_stops h)

unit_stops : {mode : Mode} {place place1 : ℕ} {bytes : List ℕ} {items : List Placed} {cause : _} →
    rules.UnitStops mode place bytes items place1 cause → AreItems items
unit_stops (rules.whole_unit h) = tt
unit_stops (rules.later_command h) = let all = commands_stop h in (all.0, all.1)
unit_stops (rules.stops_in_frame h) = frame_stops h
unit_stops (rules.stops_otherwise other h) = unit_stops h

stops_known : {mode : Mode} {place place1 : ℕ} {bytes : List ℕ} {items : List Placed} {cause : _} →
    rules.Stops mode place bytes items place1 cause → AreItems items
stops_known (rules.behind_units {items = items} {others = others} units h) = both_items items others (units_known units) (unit_stops h)

reading_known : (job : List ℕ) (reading : Reading) → IsReading job reading → AreItems (items_of reading)
reading_known job (Whole items place) is = units_known is.2.1
reading_known job (Stopped items place cause) is = stops_known is

-- ---- read again

are_admitted : (mode final : Mode) (items : List Placed) → AreItems items → mode_behind mode (entries items) ≡ Some final →
    AreAdmitted mode (entries items)
are_admitted mode final [] h e = none
are_admitted mode final (x ∷ items) h e = by_next (follows mode x.item) refl (λ mode2. are_admitted mode2 final items h.1) e
  where
    by_next : (o : Option Mode) → follows mode x.item ≡ o →
        ((mode2 : Mode) → mode_behind mode2 (entries items) ≡ Some final → AreAdmitted mode2 (entries items)) →
        mode_after o (entries items) ≡ Some final → AreAdmitted mode (x.item ∷ entries items)
    by_next None is later behind = absurd cc
    by_next (Some mode2) is later behind = some h.0 is (later mode2 behind)

pub items_admitted : (job : List ℕ) (reading : Reading) → IsReading job reading → AreAdmitted modes.Pcl (entries (items_of reading))
items_admitted job (Whole items place) is =
    are_admitted modes.Pcl _ items (reading_known job (Whole items place) is)
    (reads_mode ((read_by_rules job (Whole items place)).complete is).2)
items_admitted job (Stopped items place cause) is =
    are_admitted modes.Pcl _ items (reading_known job (Stopped items place cause) is)
    (reads_mode ((read_by_rules job (Stopped items place cause)).complete is).reads)

plain_spelled : (items : List Placed) → flat_map (λ (x : Placed). canon x.item) items ≡ spelled (entries items)
plain_spelled [] = refl
plain_spelled (x ∷ items) = ap (λ l. canon x.item ++ l) (plain_spelled items)

all_items : (bytes : List ℕ) → items_in modes.Pcl bytes ≡ entries (items_of (reading_of bytes))
unfolding items_in reading_of
all_items bytes = refl

pub is_read_again : (job : List ℕ) (reading : Reading) → IsReading job reading → IsReadAgain reading
is_read_again job reading is =
    let text = plain_spelled (items_of reading) in
    let same =
    sym (all_items (plain_text reading))
    ∙ (ap (items_in modes.Pcl) text ∙ items_in-spelled modes.Pcl (entries (items_of reading)) (items_admitted job reading is)) in
    record {
      same = same;
      whole = λ items place e.
          let spells : plain_text reading ≡ spelled (entries items) = ap plain_text e ∙ plain_spelled items in
          subst (λ bytes. IsReading bytes (Whole (placed_from 0 (entries items)) (place_behind 0 (entries items)))) (sym spells)
          (spelled_is_read job items place (subst (IsReading job) e is)
          (items_admitted job (Whole items place) (subst (IsReading job) e is)));
      again = plain_spelled (items_of (reading_of (plain_text reading))) ∙ (ap spelled same ∙ sym text);
    }

pub one_plain_text : (a b : Reading) → HaveOnePlainText a b
one_plain_text a b same = plain_spelled (items_of a) ∙ (ap spelled same ∙ sym (plain_spelled (items_of b)))
