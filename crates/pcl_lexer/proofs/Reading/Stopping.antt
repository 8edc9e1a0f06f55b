-- Where the reader stops is where the rules stop, and what it reads of all bytes is their reading.
use Rattle.std.proofs.Common.{◌≡◌, ◌≢◌, ℕ, ◌+◌, List, [], ◌∷◌, ◌++◌, length, drop, refl, sym, ap, subst, ◌∙◌, arith}
use Rattle.std.specs.Prelude.{ℤ, Some, true}
use Rattle.std.proofs.lemmas.List.{append_assoc, length-append}
use Rattle.std.proofs.Math.Seq.{drop-append_seam}
use Rattle.pcl_items.specs.declared.pcl.command.Group.{Group}
use Rattle.pcl_items.specs.declared.pcl.command.Command.{Command}
use Rattle.pcl_items.specs.declared.fault.LexCause.{LexCause}
use Rattle.pcl_items.specs.declared.frame.Motion.{Motion}
use Rattle.pcl_lexer.specs.declared.frame.Gap.{Gap}
use Rattle.pcl_lexer.specs.Lexing.Contexts.{Context, Pcl, Sequence, Frame, Letters, Numbered, Pjl, Numbers, Single, Odd, Even, MayEndAt}
use Rattle.pcl_items.specs.declared.item.Mode.{Mode}
use Rattle.pcl_items.specs.declared.item.Mode.TheVariants as modes
use Rattle.pcl_items.specs.Escapes.Commands.{introducer_of, character_of, group_of, letter_of, data_group_of, data_letter_of}
use Rattle.pcl_items.specs.Escapes.Value.{Amount}
use Rattle.pcl_items.specs.Escapes.ValueField.{IsField}
use Rattle.pcl_items.specs.Items.{Entry, Parameterized, WithData, Move, PjlLine, Placed, at}
use Rattle.pcl_lexer.specs.Grammar as grammar
use Rattle.pcl_lexer.specs.Grammar.{Commands, last, with_data, more, IsUnit, text_byte, control_code, two_characters, ungrouped, combined}
use Rattle.pcl_lexer.specs.Grammar.{in_frame, out_of_frame, exit, line, otherwise, small}
use Rattle.pcl_items.specs.Escapes.Codes.{escape}
use Rattle.pcl_items.specs.Modes.{behind_pjl}
use Rattle.pcl_lexer.specs.Frames.Grammar as frames
use Rattle.pcl_lexer.specs.Frames.Grammar.{Start, AtLetters, BehindPair, EndsPair, IsCommand, separator}
use Rattle.pcl_lexer.specs.Frames.Faults.{FrameFault, in_command, FrameStops, at_fault, behind_pair}
use Rattle.pcl_lexer.specs.Reader.{First, item_place, first_of}
use Rattle.pcl_lexer.specs.Fault.{IsFault}
use Rattle.pcl_lexer.specs.Faults.{UnitFault, CommandsStop, fault, behind, UnitStops, whole_unit, later_command, stops_in_frame}
use Rattle.pcl_lexer.specs.Faults.{stops_otherwise, wrong_line, Stops, behind_units}
use Rattle.pcl_lexer.specs.Reading.{ReadsTo, here, passes, begins, Reading, Whole, Stopped}
use Rattle.pcl_lexer.specs.Modes.{between}
use Rattle.pcl_lexer.specs.Laws.{IsReadByRules}
use Rattle.pcl_items.specs.PjlLines.Text.{at_sign}
use Rattle.pcl_lexer.proofs.Lexing.Spans.{no_passing, no_passing_in, no_passing_line}
use Rattle.pcl_lexer.proofs.PjlLines.Heads.{HeadPjl, head_line, head_other, pjl_spelled, otherwise_read}
use Rattle.pcl_lexer.proofs.Reading.ReadsTo.{ReadsTo-at, ReadsTo-append, ReadsTo-place}
use Rattle.pcl_lexer.proofs.Escapes.Heads as heads
use Rattle.pcl_lexer.proofs.Escapes.Heads.{HeadCommand, HeadUnit, more_read, drop_behind, ungrouped_behind, command_spelled, unit_spelled}
use Rattle.pcl_lexer.proofs.Reading.Agreement as agreement
use Rattle.pcl_lexer.proofs.Reading.Agreement.{spelled_read, unit_otherwise, otherwise_begun, drop_three, combined_read}
use Rattle.pcl_lexer.proofs.Frames.Heads.{InPcl, InPjl, In, Motive, Closed, Counts, Landing, passed, begun_item, frame_told, letters_tell}
use Rattle.pcl_lexer.proofs.Frames.Heads.{numbers_tell}
use Rattle.pcl_lexer.proofs.Frames.Reads.{context_before, pair_read, fault_read}
use Rattle.pcl_lexer.proofs.Reading.FaultPlaces.{FaultInPjl, in_line, in_pcl, HasRule, fault_has_rule, unit_rule_read, command_rule_read}
use Rattle.pcl_lexer.proofs.Reading.FaultPlaces.{line_rule_read, by_pcl}

-- ---- units before a fault

at_once : {mode : Mode} {place : ℕ} {bytes : List ℕ} {cause : LexCause} → UnitFault mode bytes cause → Stops mode place bytes [] place cause
at_once h = behind_units grammar.here (whole_unit h)

in_sequence : {place stop : ℕ} {group : Group} {bytes : List ℕ} {first : Placed} {others : List Placed} {cause : LexCause} →
    CommandsStop group (place + 3) bytes (first ∷ others) stop cause →
    Stops modes.Pcl place (escape ∷ introducer_of group ∷ character_of group ∷ bytes) (at place first.item ∷ others) stop cause
in_sequence h = behind_units grammar.here (later_command h)

later : {mode mode1 : Mode} {place stop : ℕ} {text bytes : List ℕ} {items others : List Placed} {cause : LexCause} →
    IsUnit mode place text bytes items mode1 → Stops mode1 (place + length text) bytes others stop cause →
    Stops mode place (text ++ bytes) (items ++ others) stop cause
later {mode = mode} {place = place} {text = text} {items = items} u
    (behind_units {place2 = stop} {bytes = bytes} {items = xs} {others = ys} {cause = cause} spells stops) =
    subst (λ (zs : List Placed). Stops mode place (text ++ bytes) zs stop cause) (append_assoc items xs ys)
    (behind_units (grammar.next u spells) stops)

Stops-at : {mode : Mode} {p q : ℕ} {bytes : List ℕ} {items : List Placed} {stop : ℕ} {cause : LexCause} → p ≡ q →
    Stops mode p bytes items stop cause → Stops mode q bytes items stop cause
Stops-at {mode = mode} {bytes = bytes} {items = items} {stop = stop} {cause = cause} e h =
    subst (λ (n : ℕ). Stops mode n bytes items stop cause) e h

-- ---- where the reader stops in a frame, the rules stop

-- in a command behind a pair, or behind that command
data StopsInCommand : Motion → ℕ → List ℕ → List Placed → ℕ → LexCause → Type 0 where
  in_it : {motion : Motion} {place stop : ℕ} {bytes : List ℕ} {items : List Placed} {cause : LexCause} →
      FrameStops (BehindPair motion) place bytes items stop cause → StopsInCommand motion place bytes items stop cause
  behind_it : {motion : Motion} {place stop : ℕ} {text bytes : List ℕ} {items others : List Placed} {cause : LexCause} →
      IsCommand (BehindPair motion) place text bytes items →
      Stops modes.Frame (place + length text) bytes others stop cause →
      StopsInCommand motion place (text ++ bytes) (items ++ others) stop cause

abbrev StopsFrom : ℕ → LexCause → Motive
StopsFrom stop cause InPcl place bytes items = Stops modes.Pcl place bytes items stop cause
StopsFrom stop cause InPjl place bytes items = Stops modes.Pjl place bytes items stop cause
StopsFrom stop cause (In AtLetters) place bytes items = Stops modes.Frame place bytes items stop cause
StopsFrom stop cause (In (BehindPair motion)) place bytes items = StopsInCommand motion place bytes items stop cause

one_frame_command : (start : Start) (place : ℕ) {stop : ℕ} {text bytes : List ℕ} {items others : List Placed} {cause : LexCause} →
    IsCommand start place text bytes items →
    Stops modes.Frame (place + length text) bytes others stop cause →
    StopsFrom stop cause (In start) place (text ++ bytes) (items ++ others)
one_frame_command AtLetters place c h = later (in_frame (frames.command c)) h
one_frame_command (BehindPair motion) place c h = behind_it c h

one_fault : (start : Start) (place : ℕ) {stop : ℕ} {bytes : List ℕ} {items : List Placed} {cause : LexCause} →
    FrameStops start place bytes items stop cause → StopsFrom stop cause (In start) place bytes items
one_fault AtLetters place h = behind_units grammar.here (stops_in_frame h)
one_fault (BehindPair motion) place h = in_it h

one_pair : (start : Start) (place : ℕ) {motion : Motion} {to : ℤ × ℤ} {from stop : ℕ} {text bytes : List ℕ} {items : List Placed}
    {cause : LexCause} → EndsPair start motion to from text bytes →
    StopsInCommand motion (place + length text) bytes items stop cause →
    StopsFrom stop cause (In start) place (text ++ bytes) (at (place + from) (Move motion (Some to)) ∷ items)
one_pair start place p (in_it h) = one_fault start place (behind_pair p h)
one_pair start place {motion = motion} {to = to} {from = from} {text = text} p
    (behind_it {stop = stop} {text = further} {bytes = rest} {items = items} {others = others} {cause = cause} c h) =
    let size : place + length text + length further ≡ place + length (text ++ further) = omega (arith, length-append text further) in
    subst (λ (l : List ℕ). StopsFrom stop cause (In start) place l (at (place + from) (Move motion (Some to)) ∷ (items ++ others)))
    (append_assoc text further rest)
    (one_frame_command start place (frames.pair p c) (Stops-at size h))

closed : (stop : ℕ) (cause : LexCause) → Closed (StopsFrom stop cause)
closed stop cause = record {
  separator = λ place b bytes items e h. later (in_frame (separator e)) h;
  command = λ start place items begun whole ends h. one_frame_command start place (frames.without_pairs begun whole ends) h;
  pair = λ start place items p h. one_pair start place p h;
  pairs = λ start place items begun none ends h. one_frame_command start place (frames.behind_pairs begun none ends) h;
  exits = λ place bytes items h. later exit h;
  leaves = λ place text bytes item items l h. later (out_of_frame l) h;
}

-- at the fault itself, in a command or between commands
fault_at : (start : Start) (from begin stop : ℕ) (bytes : List ℕ) (cause : LexCause) → FrameFault start from bytes cause →
    stop ≡ begin + from → StopsFrom stop cause (In start) begin bytes []
fault_at start from begin stop bytes cause h e =
    subst (λ (n : ℕ). StopsFrom n cause (In start) begin bytes []) (sym e) (one_fault start begin (at_fault h))

numbered_place : (x : Numbers) (gap : Gap) (n from begin place : ℕ) (text : List ℕ) → Counts x n from text → begin + length text ≡ place →
    item_place (Numbered x gap n) place ≡ begin + from
numbered_place (Single s a) gap n from begin place text count e = omega (arith, count, e)
numbered_place (Odd motion x) gap n from begin place text count e = omega (arith, count, e)
numbered_place (Even motion) gap n from begin place text count e = omega (arith, count, e)

-- ---- where the reader stops, the rules stop

-- in a sequence of commands, or behind it
data StopsIn : Group → ℕ → List ℕ → Placed → List Placed → ℕ → LexCause → Type 0 where
  within : {group : Group} {place stop : ℕ} {bytes : List ℕ} {first : Placed} {items : List Placed} {cause : LexCause} →
      CommandsStop group place bytes (first ∷ items) stop cause → StopsIn group place bytes first items stop cause
  past : {group : Group} {place stop : ℕ} {text bytes : List ℕ} {first : Placed} {others items : List Placed} {cause : LexCause} →
      Commands group place text (first ∷ others) →
      Stops modes.Pcl (place + length text) bytes items stop cause →
      StopsIn group place (text ++ bytes) first (others ++ items) stop cause

abbrev StoppedIn : Context → ℕ → List ℕ → List Placed → ℕ → LexCause → Type 0
StoppedIn Pcl place bytes items stop cause = Stops modes.Pcl place bytes items stop cause
StoppedIn (Sequence group) place bytes [] stop cause = CommandsStop group place bytes [] stop cause
StoppedIn (Sequence group) place bytes (x ∷ items) stop cause = StopsIn group place bytes x items stop cause
StoppedIn Frame place bytes items stop cause = Stops modes.Frame place bytes items stop cause
StoppedIn Pjl place bytes items stop cause = Stops modes.Pjl place bytes items stop cause
StoppedIn (Letters m n) place bytes items stop cause = Landing (StopsFrom stop cause) (Letters m n) place bytes items
StoppedIn (Numbered x gap n) place bytes items stop cause = Landing (StopsFrom stop cause) (Numbered x gap n) place bytes items

landing : (c : Context) (place : ℕ) (bytes : List ℕ) (items : List Placed) (stop : ℕ) (cause : LexCause) →
    StoppedIn c place bytes items stop cause → Landing (StopsFrom stop cause) c place bytes items
landing Pcl place bytes items stop cause h = h
landing (Sequence g) place bytes items stop cause h = tt
landing Frame place bytes items stop cause h = h
landing Pjl place bytes items stop cause h = h
landing (Letters m n) place bytes items stop cause h = h
landing (Numbered x gap n) place bytes items stop cause h = h

stopped_between : (mode : Mode) (place : ℕ) (bytes : List ℕ) (items : List Placed) (stop : ℕ) (cause : LexCause) →
    StoppedIn (between mode) place bytes items stop cause → Stops mode place bytes items stop cause
stopped_between modes.Pcl place bytes items stop cause h = h
stopped_between modes.Frame place bytes items stop cause h = h
stopped_between modes.Pjl place bytes items stop cause h = h

behind_in : {group : Group} {bytes field : List ℕ} {items : List Placed} {amount : Amount} {stop : ℕ} {cause : LexCause} (command : Command)
    (start place : ℕ) →
    IsField field amount → group_of command ≡ group → start + (length field + 1) ≡ place → CommandsStop group place bytes items stop cause →
    CommandsStop group start (field ++ small (letter_of command) ∷ bytes) (at start (Parameterized command amount) ∷ items) stop cause
behind_in {group = group} {bytes = bytes} {field = field} {items = items} {amount = amount} {stop = stop}
    {cause = cause} command start place f g p h =
    let here_is : place ≡ start + length field + 1 = omega (arith, p) in
    let moved : CommandsStop (group_of command) (start + length field + 1) bytes items stop cause =
    subst (λ (n : ℕ). CommandsStop (group_of command) n bytes items stop cause) here_is
    (subst (λ (d : Group). CommandsStop d place bytes items stop cause) (sym g) h) in
    subst
    (λ (d : Group).
    CommandsStop d start (field ++ small (letter_of command) ∷ bytes) (at start (Parameterized command amount) ∷ items) stop cause)
    g (behind command f moved)

more_in : {group : Group} {place : ℕ} {bytes : List ℕ} {second : Placed} {items : List Placed} {text : List ℕ} {amount : Amount} {stop : ℕ}
    {cause : LexCause} (command : Command) (start : ℕ) →
    IsField text amount → group_of command ≡ group → start + (length text + 1) ≡ place → StopsIn group place bytes second items stop cause →
    StopsIn group start (text ++ small (letter_of command) ∷ bytes) (at start (Parameterized command amount)) (second ∷ items) stop cause
more_in command start f g p (within {place = place} h) = within (behind_in command start place f g p h)
more_in {text = field} {amount = amount} command start f g p
    (past {group = group} {place = place} {stop = stop} {text = text} {bytes = bytes} {first = second} {others = others} {items = items}
    {cause = cause} commands stops) =
    let here_is : place ≡ start + length field + 1 = omega (arith, p) in
    let moved : Commands (group_of command) (start + length field + 1) text (second ∷ others) =
    subst (λ (n : ℕ). Commands (group_of command) n text (second ∷ others)) here_is
    (subst (λ (h : Group). Commands h place text (second ∷ others)) (sym g) commands) in
    let longer :
    Commands group start (field ++ small (letter_of command) ∷ text) (at start (Parameterized command amount) ∷ (second ∷ others)) =
    subst
    (λ (h : Group).
    Commands h start (field ++ small (letter_of command) ∷ text) (at start (Parameterized command amount) ∷ (second ∷ others)))
    g (more command f moved) in
    let place_behind : place + length text ≡ start + length (field ++ small (letter_of command) ∷ text) =
    omega (arith, length-append field (small (letter_of command) ∷ text), p) in
    subst (λ (l : List ℕ). StopsIn group start l (at start (Parameterized command amount)) (second ∷ (others ++ items)) stop cause)
    (append_assoc field (small (letter_of command) ∷ text) bytes)
    (past longer (Stops-at place_behind stops))

one_command : {group : Group} {bytes rest : List ℕ} {item : Entry} {len : ℕ} {next : Context} {stop : ℕ} {cause : LexCause} (start : ℕ)
    (items : List Placed) →
    HeadCommand group bytes item len next rest → StoppedIn next (start + len) rest items stop cause →
    StopsIn group start bytes (at start item) items stop cause
one_command {stop = stop} {cause = cause} start items (heads.ends {text = text} {rest = rest} {amount = amount} command f) h =
    let place_behind : start + (length text + 1) ≡ start + length (text ++ letter_of command ∷ []) =
    omega (arith, length-append text (letter_of command ∷ [])) in
    subst (λ (l : List ℕ). StopsIn (group_of command) start l (at start (Parameterized command amount)) items stop cause)
    (append_assoc text (letter_of command ∷ []) rest)
    (past (last command f) (Stops-at place_behind h))
one_command {stop = stop} {cause = cause} start items (heads.ends_with_data {text = text} {bytes = bytes} {rest = rest} command f k) h =
    let c = data_letter_of command in
    let place_behind : start + (length text + 1 + length bytes) ≡ start + length (text ++ c ∷ bytes) =
    omega (arith, length-append text (c ∷ bytes)) in
    subst (λ (l : List ℕ). StopsIn (data_group_of command) start l (at start (WithData command bytes)) items stop cause)
    (append_assoc text (c ∷ bytes) rest)
    (past (with_data command f k) (Stops-at place_behind h))
one_command start [] (heads.goes_on {text = text} command f) h = within (behind_in command start (start + (length text + 1)) f refl refl h)
one_command start (x ∷ items) (heads.goes_on command f) h = more_in command start f refl refl h

one_combined : {group : Group} {place : ℕ} {bytes : List ℕ} {first : Placed} {items : List Placed} {stop : ℕ} {cause : LexCause}
    (start : ℕ) → start + 3 ≡ place → StopsIn group place bytes first items stop cause →
    Stops modes.Pcl start (escape ∷ introducer_of group ∷ character_of group ∷ bytes) (at start first.item ∷ items) stop cause
one_combined start e
    (within {group = group} {place = place} {stop = stop} {bytes = bytes} {first = first} {items = items} {cause = cause} h) =
    in_sequence (subst (λ (n : ℕ). CommandsStop group n bytes (first ∷ items) stop cause) (sym e) h)
one_combined start e (past {group = group} {place = place} {text = text} {bytes = bytes} {first = first} {others = others} commands stops) =
    let moved : Commands group (start + 3) text (first ∷ others) =
    subst (λ (n : ℕ). Commands group n text (first ∷ others)) (sym e) commands in
    let place_behind : place + length text ≡ start + length (escape ∷ introducer_of group ∷ character_of group ∷ text) = omega (arith, e) in
    later (combined moved) (Stops-at place_behind stops)

one_unit : {bytes : List ℕ} {item : Entry} {len : ℕ} {next : Context} {stop : ℕ} {cause : LexCause} (place : ℕ) (items : List Placed) →
    HeadUnit bytes item len next → StoppedIn next (place + len) (drop len bytes) items stop cause →
    Stops modes.Pcl place bytes (at place item ∷ items) stop cause
one_unit place items (heads.control_code e) h = later (control_code e) h
one_unit place items (heads.two_characters e) h = later (two_characters e) h
one_unit place items (heads.text_byte e) h = later (text_byte e) h
one_unit place items (heads.exits rest) h = later exit h
one_unit {stop = stop} {cause = cause} place items
    (heads.ungrouped_item {introducer = i} {letter = c} {text = text} {item = item} {mode = mode} rest f k) h =
    let size : place + (length text + 3) ≡ place + length (escape ∷ i ∷ (text ++ c ∷ [])) = omega (arith, length-append text (c ∷ [])) in
    let left : Stops mode (place + (length text + 3)) rest items stop cause =
    stopped_between mode (place + (length text + 3)) rest items stop cause
    (subst (λ (l : List ℕ). StoppedIn (between mode) (place + (length text + 3)) l items stop cause)
    (ungrouped_behind escape i text c rest) h) in
    subst (λ (l : List ℕ). Stops modes.Pcl place (escape ∷ i ∷ l) (at place item ∷ items) stop cause) (append_assoc text (c ∷ []) rest)
    (later (ungrouped f k) (Stops-at size left))
one_unit {stop = stop} {cause = cause} place items
    (heads.combined {group = group} {rest = rest} {item = item} {len = len} {next = next} head) h =
    let behind_three : drop (3 + len) (escape ∷ introducer_of group ∷ character_of group ∷ rest) ≡ drop len rest =
    drop_three escape (introducer_of group) (character_of group) len rest in
    let moved : StoppedIn next (place + 3 + len) (drop len rest) items stop cause =
    subst (λ (n : ℕ). StoppedIn next n (drop len rest) items stop cause) (omega arith)
    (subst (λ (l : List ℕ). StoppedIn next (place + (3 + len)) l items stop cause) behind_three h) in
    one_combined place refl (one_command (place + 3) items head moved)

-- ---- in mode PJL

pjl_stops : (place : ℕ) (bytes : List ℕ) (cause : LexCause) → FaultInPjl bytes cause → Stops modes.Pjl place bytes [] place cause
pjl_stops place _ cause (in_line h) = at_once (wrong_line h)
pjl_stops place _ cause (in_pcl k h) = behind_units grammar.here (stops_otherwise k (whole_unit h))

otherwise_stops : {mode : Mode} {place stop b : ℕ} {l bytes : List ℕ} {items : List Placed} {cause : LexCause} → b ≢ at_sign →
    mode ≡ modes.Pcl → l ≡ b ∷ bytes → Stops mode place l items stop cause → Stops modes.Pjl place l items stop cause
otherwise_stops {b = b} {bytes = bytes} h m e
    (behind_units {place2 = stop} {others = others} {cause = cause} (grammar.here {mode = mode} {place = place} {bytes = l}) stops) =
    let there : UnitStops modes.Pcl place (b ∷ bytes) others stop cause =
    subst (λ (t : List ℕ). UnitStops modes.Pcl place t others stop cause) e
    (subst (λ (n : Mode). UnitStops n place l others stop cause) m stops) in
    subst (λ (t : List ℕ). Stops modes.Pjl place t others stop cause) (sym e) (behind_units grammar.here (stops_otherwise h there))
otherwise_stops h m e
    (behind_units (grammar.next {mode1 = mode1} {place = place} {text = text} {bytes = further} {items = items} u spells) stops) =
    behind_units
    (grammar.next (unit_otherwise text further h e (subst (λ (n : Mode). IsUnit n place text further items mode1) m u)) spells) stops

one_in_pjl : {bytes : List ℕ} {item : Entry} {len : ℕ} {next : Context} {stop : ℕ} {cause : LexCause} (place : ℕ) (items : List Placed) →
    HeadPjl bytes item len next → StoppedIn next (place + len) (drop len bytes) items stop cause →
    Stops modes.Pjl place bytes (at place item ∷ items) stop cause
one_in_pjl {stop = stop} {cause = cause} place items (head_line {line = l} {len = len} b) h =
    let size : place + len ≡ place + length b.text = ap (λ n. place + n) b.size in
    let left : drop len (b.text ++ b.rest) ≡ b.rest = ap (λ n. drop n (b.text ++ b.rest)) b.size ∙ drop-append_seam b.text b.rest in
    let after : StoppedIn (between (behind_pjl l)) (place + len) b.rest items stop cause =
    subst (λ (t : List ℕ). StoppedIn (between (behind_pjl l)) (place + len) t items stop cause) (ap (drop len) b.all ∙ left) h in
    subst (λ (t : List ℕ). Stops modes.Pjl place t (at place (PjlLine l) ∷ items) stop cause) (sym b.all)
    (later (line b.unit) (Stops-at size (stopped_between (behind_pjl l) (place + len) b.rest items stop cause after)))
one_in_pjl place items (head_other {b = b} {bytes = bytes} {item = item} {len = len} {next = next} k f) h =
    otherwise_stops k refl refl (one_unit place items (unit_spelled (b ∷ bytes) item len next f) h)

at_rule : (c : Context) (place : ℕ) (bytes : List ℕ) (stop : ℕ) (cause : LexCause) → HasRule c bytes cause → stop ≡ item_place c place →
    StoppedIn c place bytes [] stop cause
at_rule Pcl place bytes stop cause h e = subst (λ (n : ℕ). Stops modes.Pcl place bytes [] n cause) (sym e) (at_once h)
at_rule (Sequence g) place bytes stop cause h e = subst (λ (n : ℕ). CommandsStop g place bytes [] n cause) (sym e) (fault h)
at_rule Pjl place bytes stop cause h e = subst (λ (n : ℕ). Stops modes.Pjl place bytes [] n cause) (sym e) (pjl_stops place bytes cause h)
at_rule Frame place bytes stop cause h e = fault_at AtLetters 0 place stop bytes cause h (omega (arith, e))
at_rule (Letters m n) place bytes stop cause h e = λ start begin from text begun count p.
    fault_at start from begin stop (text ++ bytes) cause (in_command begun h) (omega (arith, e, count, p))
at_rule (Numbered x gap n) place bytes stop cause h e = λ start begin from text begun count p.
    fault_at start from begin stop (text ++ bytes) cause (in_command begun h) (e ∙ numbered_place x gap n from begin place text count p)

sound : (c : Context) (place : ℕ) (bytes : List ℕ) (items : List Placed) (context : Context) (end : ℕ) (rest : List ℕ) (stop : ℕ)
    (cause : LexCause) →
    ReadsTo true c place bytes items context end rest → HasRule context rest cause → stop ≡ item_place context end →
    StoppedIn c place bytes items stop cause
unfolding first_of
sound c place bytes _ _ _ _ stop cause here k e = at_rule c place bytes stop cause k e
sound Pcl place bytes _ _ _ _ stop cause (passes len next f h) k e = absurd (no_passing true bytes len next f)
sound Pjl place bytes _ _ _ _ stop cause (passes len next f h) k e = absurd (no_passing_line true bytes len next f)
sound (Sequence g) place bytes _ _ _ _ stop cause (passes len next f h) k e = absurd (no_passing_in true g bytes len next f)
sound Frame place bytes _ context end rest stop cause (passes {items = items} len next f h) k e =
    passed (StopsFrom stop cause) Frame place bytes len next f (frame_told (StopsFrom stop cause) (closed stop cause) place bytes) items
    (landing next (place + len) (drop len bytes) items stop cause
    (sound next (place + len) (drop len bytes) items context end rest stop cause h k e))
sound (Letters m n) place bytes _ context end rest stop cause (passes {items = items} len next f h) k e =
    passed (StopsFrom stop cause) (Letters m n) place bytes len next f
    (letters_tell (StopsFrom stop cause) (closed stop cause) m n place bytes) items
    (landing next (place + len) (drop len bytes) items stop cause
    (sound next (place + len) (drop len bytes) items context end rest stop cause h k e))
sound (Numbered x gap n) place bytes _ context end rest stop cause (passes {items = items} len next f h) k e =
    passed (StopsFrom stop cause) (Numbered x gap n) place bytes len next f
    (numbers_tell (StopsFrom stop cause) (closed stop cause) x gap n place bytes) items
    (landing next (place + len) (drop len bytes) items stop cause
    (sound next (place + len) (drop len bytes) items context end rest stop cause h k e))
sound Pcl place bytes _ context end rest stop cause (begins {items = items} entry len next f h) k e =
    one_unit place items (unit_spelled bytes entry len next f)
    (sound next (place + len) (drop len bytes) items context end rest stop cause h k e)
sound Pjl place bytes _ context end rest stop cause (begins {items = items} entry len next f h) k e =
    one_in_pjl place items (pjl_spelled bytes entry len next f)
    (sound next (place + len) (drop len bytes) items context end rest stop cause h k e)
sound (Sequence g) place bytes _ context end rest stop cause (begins {items = items} entry len next f h) k e =
    one_command place items (command_spelled g bytes entry len next f)
    (sound next (place + len) (drop len bytes) items context end rest stop cause h k e)
sound Frame place bytes _ context end rest stop cause (begins {items = items} entry len next f h) k e =
    begun_item (StopsFrom stop cause) Frame place bytes entry len next f (frame_told (StopsFrom stop cause) (closed stop cause) place bytes)
    items
    (landing next (place + len) (drop len bytes) items stop cause
    (sound next (place + len) (drop len bytes) items context end rest stop cause h k e))
sound (Letters m n) place bytes _ context end rest stop cause (begins {items = items} entry len next f h) k e =
    begun_item (StopsFrom stop cause) (Letters m n) place bytes entry len next f
    (letters_tell (StopsFrom stop cause) (closed stop cause) m n place bytes) items
    (landing next (place + len) (drop len bytes) items stop cause
    (sound next (place + len) (drop len bytes) items context end rest stop cause h k e))
sound (Numbered x gap n) place bytes _ context end rest stop cause (begins {items = items} entry len next f h) k e =
    begun_item (StopsFrom stop cause) (Numbered x gap n) place bytes entry len next f
    (numbers_tell (StopsFrom stop cause) (closed stop cause) x gap n place bytes) items
    (landing next (place + len) (drop len bytes) items stop cause
    (sound next (place + len) (drop len bytes) items context end rest stop cause h k e))

-- ---- where the rules stop, the reader stops

record Reached (c : Context) (place : ℕ) (bytes : List ℕ) (items : List Placed) (stop : ℕ) (cause : LexCause) : Type 0 where
  context : Context
  end : ℕ
  rest : List ℕ
  reads : ReadsTo true c place bytes items context end rest
  stands : stop ≡ item_place context end
  fault : IsFault true (first_of true context rest) context rest cause

commands_reach : {group : Group} {place : ℕ} {bytes : List ℕ} {items : List Placed} {stop : ℕ} {cause : LexCause} →
    CommandsStop group place bytes items stop cause → Reached (Sequence group) place bytes items stop cause
unfolding first_of
commands_reach (fault {group = group} {place = place} {bytes = bytes} {cause = cause} h) =
    record {
      context = Sequence group;
      end = place;
      rest = bytes;
      reads = here;
      stands = refl;
      fault = command_rule_read group bytes cause h;
    }
commands_reach (behind {place = place} {field = field} {bytes = bytes} {amount = amount} command f h) =
    let r = commands_reach h in
    let start : place + length field + 1 ≡ place + (length field + 1) = omega arith in
    record {
      context = r.context;
      end = r.end;
      rest = r.rest;
      stands = r.stands;
      fault = r.fault;
      reads =
          begins (Parameterized command amount) (length field + 1) (Sequence (group_of command)) (more_read command field amount bytes f)
          (ReadsTo-at start (sym (drop_behind field (small (letter_of command)) bytes)) refl r.reads);
    }

frame_reach : {start : Start} {place : ℕ} {bytes : List ℕ} {items : List Placed} {stop : ℕ} {cause : LexCause} →
    FrameStops start place bytes items stop cause → Reached (context_before start) place bytes items stop cause
frame_reach (at_fault {place = place} h) =
    let r = fault_read place h in
    record { context = r.context; end = r.end; rest = r.rest; reads = r.reads; stands = r.stands; fault = r.fault }
frame_reach (behind_pair {place = place} p h) =
    let r = frame_reach h in
    record {
      context = r.context;
      end = r.end;
      rest = r.rest;
      stands = r.stands;
      fault = r.fault;
      reads = ReadsTo-append (pair_read true place tt p) r.reads;
    }

fault_reach : {mode : Mode} {place : ℕ} (bytes : List ℕ) (cause : LexCause) → UnitFault mode bytes cause →
    Reached (between mode) place bytes [] place cause
fault_reach {mode = modes.Pcl} {place = place} bytes cause h =
    record { context = Pcl; end = place; rest = bytes; reads = here; stands = refl; fault = unit_rule_read bytes cause h }
fault_reach {mode = modes.Frame} bytes cause h = elim h [ ]
fault_reach {mode = modes.Pjl} {place = place} _ cause (wrong_line {bytes = bytes} h) =
    record { context = Pjl; end = place; rest = at_sign ∷ bytes; reads = here; stands = refl; fault = line_rule_read bytes cause h }

-- where mode PCL has it
reach_otherwise : {place stop : ℕ} {items : List Placed} {cause : LexCause} (b : ℕ) (bytes : List ℕ) → b ≢ at_sign →
    Reached Pcl place (b ∷ bytes) items stop cause → Reached Pjl place (b ∷ bytes) items stop cause
reach_otherwise {cause = cause} b bytes k r = go r.reads refl refl r.stands r.fault
  where
    go : {c d : Context} {p q stop : ℕ} {l rest : List ℕ} {items : List Placed} {cause : LexCause} → ReadsTo true c p l items d q rest →
        c ≡ Pcl → l ≡ b ∷ bytes → stop ≡ item_place d q → IsFault true (first_of true d rest) d rest cause →
        Reached Pjl p l items stop cause
    go {p = p} {l = l} {cause = cause} here e f s h = record {
      context = Pjl;
      end = p;
      rest = l;
      reads = here;
      stands = s ∙ ap (λ (x : Context). item_place x p) e;
      fault = subst (λ (t : List ℕ). IsFault true (first_of true Pjl t) Pjl t cause) (sym f)
          (subst (λ (x : First). IsFault true x Pjl (b ∷ bytes) cause) (sym (otherwise_read true b bytes k))
          (by_pcl b bytes (first_of true Pcl (b ∷ bytes)) cause
          (subst (λ (t : List ℕ). IsFault true (first_of true Pcl t) Pcl t cause) f
          (subst (λ (x : Context). IsFault true (first_of true x l) x l cause) e h))));
    }
    go {d = d} {q = q} {rest = rest} (passes len next g r) e f s h =
        record { context = d; end = q; rest = rest; reads = otherwise_begun b bytes k (passes len next g r) e f tt; stands = s; fault = h }
    go {d = d} {q = q} {rest = rest} (begins entry len next g r) e f s h = record {
      context = d;
      end = q;
      rest = rest;
      reads = otherwise_begun b bytes k (begins entry len next g r) e f tt;
      stands = s;
      fault = h;
    }

unit_reach : {mode : Mode} {place : ℕ} {bytes : List ℕ} {items : List Placed} {stop : ℕ} {cause : LexCause} →
    UnitStops mode place bytes items stop cause → Reached (between mode) place bytes items stop cause
unit_reach (whole_unit {bytes = bytes} {cause = cause} h) = fault_reach bytes cause h
unit_reach (later_command h) =
    let r = commands_reach h in
    record {
      context = r.context;
      end = r.end;
      rest = r.rest;
      stands = r.stands;
      fault = r.fault;
      reads = combined_read r.reads refl refl refl;
    }
unit_reach (stops_in_frame h) = frame_reach h
unit_reach (stops_otherwise {b = b} {bytes = bytes} k h) = reach_otherwise b bytes k (unit_reach h)

reach : {mode : Mode} {place : ℕ} {bytes : List ℕ} {items : List Placed} {stop : ℕ} {cause : LexCause} →
    Stops mode place bytes items stop cause → Reached (between mode) place bytes items stop cause
reach (behind_units spells stops) =
    let r = unit_reach stops in
    record {
      context = r.context;
      end = r.end;
      rest = r.rest;
      stands = r.stands;
      fault = r.fault;
      reads = ReadsTo-append (spelled_read spells) r.reads;
    }

-- ---- all bytes

-- the reader stands so where a job may end
ended_in : (mode : Mode) → grammar.MayEnd mode → MayEndAt (between mode)
ended_in modes.Pcl h = tt
ended_in modes.Frame h = absurd h
ended_in modes.Pjl h = tt

pub read_by_rules : (bytes : List ℕ) (reading : Reading) → IsReadByRules bytes reading
read_by_rules bytes (Whole items place) = record {
  sound = λ h. let s = agreement.sound Pcl 0 bytes items h.0 place [] h.2 h.1 refl in (s.0, s.1, s.2, omega (arith, ReadsTo-place h.2));
  complete = λ h.
      let reads : ReadsTo true Pcl 0 bytes items (between h.0) h.2.0 [] = spelled_read h.2.1 in
      (between h.0, ended_in h.0 h.1, ReadsTo-at refl refl (omega (arith, ReadsTo-place reads, h.3)) reads);
}
read_by_rules bytes (Stopped items place cause) = record {
  sound = λ h. sound Pcl 0 bytes items h.last h.end h.rest place cause h.reads (fault_has_rule h.last h.rest cause h.fault) h.at_end;
  complete =
      λ h. let r = reach h in record { last = r.context; end = r.end; rest = r.rest; reads = r.reads; at_end = r.stands; fault = r.fault };
}
