-- What is read is what is spelled.
use Rattle.std.proofs.Common.{◌≡◌, ◌≢◌, ℕ, suc, ◌+◌, ◌<◌, ◌≤◌, Option, None, Some, List, [], ◌∷◌, ◌++◌, length, drop, refl, sym, ap, subst}
use Rattle.std.proofs.Common.{◌∙◌, arith}
use Rattle.std.proofs.lemmas.List.{append_assoc, length-append}
use Rattle.std.proofs.Math.Seq.{drop-append_seam}
use Rattle.pcl_items.specs.declared.pcl.command.Group.{Group}
use Rattle.pcl_items.specs.declared.pcl.command.Command.{Command}
use Rattle.pcl_items.specs.declared.frame.Motion.{Motion}
use Rattle.pcl_lexer.specs.Lexing.Contexts.{Context, Pcl, Sequence, Frame, Letters, Numbered, Pjl, MayEndAt, item_place}
use Rattle.pcl_items.specs.Escapes.Commands.{introducer_of, character_of, group_of, letter_of, data_group_of, data_letter_of}
use Rattle.pcl_items.specs.Escapes.Value.{Amount}
use Rattle.pcl_items.specs.Escapes.ValueField.{IsField, sign_text, fraction_text}
use Rattle.std.specs.Prelude.{ℤ, Bool, true, nat_le}
use Rattle.std.specs.Str.Parse.{AllDigits}
use Rattle.std.proofs.lemmas.Bool.{cond-true, cond-false, le-leb, lt-leb}
use Rattle.std.proofs.lemmas.Str.Parse.{digit_from_value}
use Rattle.pcl_items.specs.declared.number.Sign.{Sign}
use Rattle.pcl_items.specs.declared.number.Sign.TheVariants.{Absent, Plus, Minus}
use Rattle.pcl_items.specs.declared.item.Mode.{Mode}
use Rattle.pcl_items.specs.declared.item.Mode.TheVariants as modes
use Rattle.pcl_items.specs.Items.{Entry, Text, Parameterized, WithData, Move, ExitLanguage, PjlLine, Placed, at}
use Rattle.pcl_lexer.specs.Grammar as grammar
use Rattle.pcl_lexer.specs.Grammar.{Commands, last, with_data, more, IsUngrouped, symbol_set, default_font, leave_frame, enter_frame}
use Rattle.pcl_lexer.specs.Grammar.{IsUnit, text_byte, control_code, two_characters, ungrouped, combined, in_frame, out_of_frame, exit}
use Rattle.pcl_lexer.specs.Grammar.{line, otherwise, Spells, small}
use Rattle.pcl_items.specs.Escapes.Codes.{escape}
use Rattle.pcl_items.specs.Modes.{behind_pjl}
use Rattle.pcl_lexer.specs.Frames.Grammar as frames
use Rattle.pcl_lexer.specs.Frames.Grammar.{Start, AtLetters, BehindPair, EndsPair, IsCommand, separator}
use Rattle.pcl_lexer.specs.Reader.{Begins, behind, command_in, without_group, by_character, after_escape, by_code, by_pjl, first_of}
use Rattle.pcl_lexer.specs.Reading.{ReadsTo, here, passes, begins}
use Rattle.pcl_lexer.specs.Modes.{between}
use Rattle.pcl_lexer.specs.Faults.{BeginsSmall}
use Rattle.pcl_items.specs.PjlLines.Text.{at_sign}
use Rattle.pcl_items.specs.PjlLines.Exit.{exit_text}
use Rattle.pcl_lexer.proofs.Lexing.Spans.{no_passing, no_passing_in, no_passing_line}
use Rattle.pcl_lexer.proofs.PjlLines.Exits.{no_exit_field}
use Rattle.pcl_lexer.proofs.PjlLines.Heads.{HeadPjl, head_line, head_other, pjl_spelled, otherwise_read}
use Rattle.pcl_lexer.proofs.PjlLines.Units as lines
use Rattle.pcl_items.specs.PjlLines.Text.{PjlCommand}
use Rattle.pcl_lexer.specs.PjlLines.Syntax as syntax
use Rattle.pcl_lexer.specs.PjlLines.Syntax.{IsPjlCommand}
use Rattle.pcl_items.specs.PjlLines.First.{at_pjl}
use Rattle.pcl_lexer.specs.PjlLines.Units.{IsPjlUnit, whole_line}
use Rattle.pcl_lexer.proofs.Escapes.Tables.{control_is_low}
use Rattle.pcl_lexer.proofs.Escapes.Ungrouped.{ungrouped_letter}
use Rattle.pcl_lexer.proofs.Reading.FaultRules.{font_read, language_read}
use Rattle.pcl_lexer.proofs.Reading.ReadsTo.{same_between, ReadsTo-at, ReadsTo-append}
use Rattle.pcl_lexer.proofs.Frames.Numerals.{IsDecided}
use Rattle.pcl_lexer.proofs.Frames.Heads.{InPcl, InPjl, In, Motive, Closed, Landing, passed, begun_item, frame_told, letters_tell}
use Rattle.pcl_lexer.proofs.Frames.Heads.{numbers_tell}
use Rattle.pcl_lexer.proofs.Frames.Reads.{frame_unit_reads, leaves_reads, exit_reads}
use Rattle.pcl_lexer.proofs.Escapes.Heads as heads
use Rattle.pcl_lexer.proofs.Escapes.Heads.{HeadCommand, HeadUnit, last_read, more_read, data_read, ungrouped_read, group_read, drop_behind}
use Rattle.pcl_lexer.proofs.Escapes.Heads.{data_behind, ungrouped_behind, command_spelled, unit_spelled}

-- all of the bytes spell the items, in a mode in which a job may end
abbrev pub SpellsAll : Mode → ℕ → List ℕ → List Placed → Type 0
SpellsAll mode place bytes items = (last : Mode) × grammar.MayEnd last × Spells mode place bytes items last

-- a unit before others
nothing : {mode : Mode} {place : ℕ} → grammar.MayEnd mode → SpellsAll mode place [] []
nothing {mode = mode} {place = place} e = (mode, e, (place, grammar.here))

unit : {mode mode1 : Mode} {place : ℕ} {text bytes : List ℕ} {items others : List Placed} →
    IsUnit mode place text bytes items mode1 → SpellsAll mode1 (place + length text) bytes others →
    SpellsAll mode place (text ++ bytes) (items ++ others)
unit u h = (h.0, h.1, (h.2.0, grammar.next u h.2.1))

-- at an equal place
Spells-at : {mode : Mode} {p q : ℕ} {bytes : List ℕ} {items : List Placed} → p ≡ q → SpellsAll mode p bytes items →
    SpellsAll mode q bytes items
Spells-at {mode = mode} {bytes = bytes} {items = items} e h = subst (λ (n : ℕ). SpellsAll mode n bytes items) e h

-- ---- what is read of a frame is spelled

-- the rest of a command, and the items behind it
pub data InCommand : Motion → ℕ → List ℕ → List Placed → Type 0 where
  in_command : {motion : Motion} {place : ℕ} {text bytes : List ℕ} {items others : List Placed} →
      IsCommand (BehindPair motion) place text bytes items →
      SpellsAll modes.Frame (place + length text) bytes others →
      InCommand motion place (text ++ bytes) (items ++ others)

abbrev pub SpelledFrom : Motive
SpelledFrom InPcl place bytes items = SpellsAll modes.Pcl place bytes items
SpelledFrom InPjl place bytes items = SpellsAll modes.Pjl place bytes items
SpelledFrom (In AtLetters) place bytes items = SpellsAll modes.Frame place bytes items
SpelledFrom (In (BehindPair motion)) place bytes items = InCommand motion place bytes items

one_frame_command : (start : Start) (place : ℕ) {text bytes : List ℕ} {items others : List Placed} →
    IsCommand start place text bytes items →
    SpellsAll modes.Frame (place + length text) bytes others → SpelledFrom (In start) place (text ++ bytes) (items ++ others)
one_frame_command AtLetters place c h = unit (in_frame (frames.command c)) h
one_frame_command (BehindPair motion) place c h = in_command c h

one_pair : (start : Start) (place : ℕ) {motion : Motion} {to : ℤ × ℤ} {from : ℕ} {text bytes : List ℕ} {items : List Placed} →
    EndsPair start motion to from text bytes →
    InCommand motion (place + length text) bytes items →
    SpelledFrom (In start) place (text ++ bytes) (at (place + from) (Move motion (Some to)) ∷ items)
one_pair start place {motion = motion} {to = to} {from = from} {text = text} p
    (in_command {text = further} {bytes = rest} {items = items} {others = others} c h) =
    let size : place + length text + length further ≡ place + length (text ++ further) = omega (arith, length-append text further) in
    subst (λ (l : List ℕ). SpelledFrom (In start) place l (at (place + from) (Move motion (Some to)) ∷ (items ++ others)))
    (append_assoc text further rest)
    (one_frame_command start place (frames.pair p c) (Spells-at size h))

closed : Closed SpelledFrom
closed = record {
  separator = λ place b bytes items e h. unit (in_frame (separator e)) h;
  command = λ start place items begun whole ends h. one_frame_command start place (frames.without_pairs begun whole ends) h;
  pair = λ start place items p h. one_pair start place p h;
  pairs = λ start place items begun none ends h. one_frame_command start place (frames.behind_pairs begun none ends) h;
  exits = λ place bytes items h. unit exit h;
  leaves = λ place text bytes item items l h. unit (out_of_frame l) h;
}

-- ---- what is read is spelled

-- the rest of a sequence of commands, and the items behind it
pub data InSequence : Group → ℕ → List ℕ → Placed → List Placed → Type 0 where
  in_sequence : {group : Group} {place : ℕ} {text bytes : List ℕ} {first : Placed} {others items : List Placed} →
      Commands group place text (first ∷ others) →
      SpellsAll modes.Pcl (place + length text) bytes items →
      InSequence group place (text ++ bytes) first (others ++ items)

abbrev pub Spelled : Context → ℕ → List ℕ → List Placed → Type 0
Spelled Pcl place bytes items = SpellsAll modes.Pcl place bytes items
Spelled Pjl place bytes items = SpellsAll modes.Pjl place bytes items
Spelled (Sequence group) place bytes [] = ⊥
Spelled (Sequence group) place bytes (x ∷ items) = InSequence group place bytes x items
Spelled Frame place bytes items = SpellsAll modes.Frame place bytes items
Spelled (Letters m n) place bytes items = Landing SpelledFrom (Letters m n) place bytes items
Spelled (Numbered x gap n) place bytes items = Landing SpelledFrom (Numbered x gap n) place bytes items

landing : (c : Context) (place : ℕ) (bytes : List ℕ) (items : List Placed) → Spelled c place bytes items →
    Landing SpelledFrom c place bytes items
landing Pcl place bytes items h = h
landing Pjl place bytes items h = h
landing (Sequence g) place bytes items h = tt
landing Frame place bytes items h = h
landing (Letters m n) place bytes items h = h
landing (Numbered x gap n) place bytes items h = h

spelled_between : (mode : Mode) (place : ℕ) (bytes : List ℕ) (items : List Placed) → Spelled (between mode) place bytes items →
    SpellsAll mode place bytes items
spelled_between modes.Pcl place bytes items h = h
spelled_between modes.Frame place bytes items h = h
spelled_between modes.Pjl place bytes items h = h

more_in : {group : Group} {place : ℕ} {bytes : List ℕ} {second : Placed} {items : List Placed} {text : List ℕ} {amount : Amount}
    (command : Command) (start : ℕ) →
    IsField text amount → group_of command ≡ group → start + (length text + 1) ≡ place → InSequence group place bytes second items →
    InSequence group start (text ++ small (letter_of command) ∷ bytes) (at start (Parameterized command amount)) (second ∷ items)
more_in {text = field} {amount = amount} command start f g p
    (in_sequence {group = group} {place = place} {text = text} {bytes = bytes} {first = second} {others = others}
    {items = items} commands spells) =
    let here : place ≡ start + length field + 1 = omega (arith, p) in
    let moved : Commands (group_of command) (start + length field + 1) text (second ∷ others) =
    subst (λ (n : ℕ). Commands (group_of command) n text (second ∷ others)) here
    (subst (λ (h : Group). Commands h place text (second ∷ others)) (sym g) commands) in
    let longer :
    Commands group start (field ++ small (letter_of command) ∷ text) (at start (Parameterized command amount) ∷ (second ∷ others)) =
    subst
    (λ (h : Group).
    Commands h start (field ++ small (letter_of command) ∷ text) (at start (Parameterized command amount) ∷ (second ∷ others)))
    g (more command f moved) in
    let place_behind : place + length text ≡ start + length (field ++ small (letter_of command) ∷ text) =
    omega (arith, length-append field (small (letter_of command) ∷ text), p) in
    subst (λ (l : List ℕ). InSequence group start l (at start (Parameterized command amount)) (second ∷ (others ++ items)))
    (append_assoc field (small (letter_of command) ∷ text) bytes)
    (in_sequence longer (Spells-at place_behind spells))

one_command : {group : Group} {bytes rest : List ℕ} {item : Entry} {len : ℕ} {next : Context} (start : ℕ) (items : List Placed) →
    HeadCommand group bytes item len next rest → Spelled next (start + len) rest items → InSequence group start bytes (at start item) items
one_command start items (heads.ends {text = text} {rest = rest} {amount = amount} command f) h =
    let place_behind : start + (length text + 1) ≡ start + length (text ++ letter_of command ∷ []) =
    omega (arith, length-append text (letter_of command ∷ [])) in
    subst (λ (l : List ℕ). InSequence (group_of command) start l (at start (Parameterized command amount)) items)
    (append_assoc text (letter_of command ∷ []) rest)
    (in_sequence (last command f) (Spells-at place_behind h))
one_command start items (heads.ends_with_data {text = text} {bytes = bytes} {rest = rest} command f k) h =
    let c = data_letter_of command in
    let place_behind : start + (length text + 1 + length bytes) ≡ start + length (text ++ c ∷ bytes) =
    omega (arith, length-append text (c ∷ bytes)) in
    subst (λ (l : List ℕ). InSequence (data_group_of command) start l (at start (WithData command bytes)) items)
    (append_assoc text (c ∷ bytes) rest)
    (in_sequence (with_data command f k) (Spells-at place_behind h))
one_command start [] (heads.goes_on command f) h = absurd h
one_command start (x ∷ items) (heads.goes_on command f) h = more_in command start f refl refl h

one_combined : {group : Group} {place : ℕ} {bytes : List ℕ} {first : Placed} {items : List Placed} (start : ℕ) → start + 3 ≡ place →
    InSequence group place bytes first items →
    SpellsAll modes.Pcl start (escape ∷ introducer_of group ∷ character_of group ∷ bytes) (at start first.item ∷ items)
one_combined start e
    (in_sequence {group = group} {place = place} {text = text} {bytes = bytes} {first = first} {others = others} commands spells) =
    let here : Commands group (start + 3) text (first ∷ others) =
    subst (λ (n : ℕ). Commands group n text (first ∷ others)) (sym e) commands in
    let place_behind : place + length text ≡ start + length (escape ∷ introducer_of group ∷ character_of group ∷ text) = omega (arith, e) in
    unit (combined here) (Spells-at place_behind spells)

pub drop_three : (a b c len : ℕ) (l : List ℕ) → drop (3 + len) (a ∷ b ∷ c ∷ l) ≡ drop len l
drop_three a b c len l = let e : 3 + len ≡ suc (suc (suc len)) = omega arith in ap (λ n. drop n (a ∷ b ∷ c ∷ l)) e

one_unit : {bytes : List ℕ} {item : Entry} {len : ℕ} {next : Context} (place : ℕ) (items : List Placed) →
    HeadUnit bytes item len next → Spelled next (place + len) (drop len bytes) items →
    SpellsAll modes.Pcl place bytes (at place item ∷ items)
one_unit place items (heads.control_code e) h = unit (control_code e) h
one_unit place items (heads.two_characters e) h = unit (two_characters e) h
one_unit place items (heads.text_byte e) h = unit (text_byte e) h
one_unit place items (heads.exits rest) h = unit exit h
one_unit place items (heads.ungrouped_item {introducer = i} {letter = c} {text = text} {item = item} {mode = mode} rest f k) h =
    let size : place + (length text + 3) ≡ place + length (escape ∷ i ∷ (text ++ c ∷ [])) = omega (arith, length-append text (c ∷ [])) in
    let left : SpellsAll mode (place + (length text + 3)) rest items =
    spelled_between mode (place + (length text + 3)) rest items
    (subst (λ (l : List ℕ). Spelled (between mode) (place + (length text + 3)) l items) (ungrouped_behind escape i text c rest) h) in
    subst (λ (l : List ℕ). SpellsAll modes.Pcl place (escape ∷ i ∷ l) (at place item ∷ items)) (append_assoc text (c ∷ []) rest)
    (unit (ungrouped f k) (Spells-at size left))
one_unit place items (heads.combined {group = group} {rest = rest} {item = item} {len = len} {next = next} head) h =
    let behind_three : drop (3 + len) (escape ∷ introducer_of group ∷ character_of group ∷ rest) ≡ drop len rest =
    drop_three escape (introducer_of group) (character_of group) len rest in
    let moved : Spelled next (place + 3 + len) (drop len rest) items =
    subst (λ (n : ℕ). Spelled next n (drop len rest) items) (omega arith)
    (subst (λ (l : List ℕ). Spelled next (place + (3 + len)) l items) behind_three h) in
    one_combined place refl (one_command (place + 3) items head moved)

-- ---- in mode PJL

-- a unit of mode PCL has a byte
unit_some : {mode : Mode} {place : ℕ} {text rest : List ℕ} {items : List Placed} {mode1 : Mode} → IsUnit mode place text rest items mode1 →
    mode ≡ modes.Pcl → 0 < length text
unit_some (text_byte h) e = omega arith
unit_some (control_code h) e = omega arith
unit_some (two_characters h) e = omega arith
unit_some (ungrouped f k) e = omega arith
unit_some (combined commands) e = omega arith
unit_some (in_frame u) e = absurd cc
unit_some (out_of_frame l) e = absurd cc
unit_some exit e = omega arith
unit_some (line u) e = absurd cc
unit_some (otherwise h u) e = absurd cc

-- a unit of mode PCL whose first byte begins no line
pub unit_otherwise : {place b : ℕ} {bytes : List ℕ} (text rest : List ℕ) {items : List Placed} {mode : Mode} → b ≢ at_sign →
    text ++ rest ≡ b ∷ bytes → IsUnit modes.Pcl place text rest items mode → IsUnit modes.Pjl place text rest items mode
unit_otherwise [] rest h e u = absurd (omega (arith, unit_some u refl))
unit_otherwise {b = b} (c ∷ text) rest h e u =
    let same : c ≡ b = cc in
    otherwise (λ k. h (sym same ∙ k)) u

spelled_otherwise : {mode last : Mode} {place end b : ℕ} {bytes l rest : List ℕ} {items : List Placed} → b ≢ at_sign → mode ≡ modes.Pcl →
    l ≡ b ∷ bytes → grammar.SpellsTo mode place l items last end rest → rest ≡ [] → grammar.SpellsTo modes.Pjl place l items last end rest
spelled_otherwise h m e grammar.here k = absurd cc
spelled_otherwise h m e (grammar.next {mode1 = mode1} {place = place} {text = text} {bytes = behind} {items = items} u spells) k =
    grammar.next (unit_otherwise text behind h e (subst (λ (n : Mode). IsUnit n place text behind items mode1) m u)) spells

otherwise_all : {place b : ℕ} {bytes : List ℕ} {items : List Placed} → b ≢ at_sign → SpellsAll modes.Pcl place (b ∷ bytes) items →
    SpellsAll modes.Pjl place (b ∷ bytes) items
otherwise_all h s = (s.0, s.1, (s.2.0, spelled_otherwise h refl refl s.2.1 refl))

one_in_pjl : {bytes : List ℕ} {item : Entry} {len : ℕ} {next : Context} (place : ℕ) (items : List Placed) →
    HeadPjl bytes item len next → Spelled next (place + len) (drop len bytes) items →
    SpellsAll modes.Pjl place bytes (at place item ∷ items)
one_in_pjl place items (head_line {line = l} {len = len} b) h =
    let size : place + len ≡ place + length b.text = ap (λ n. place + n) b.size in
    let left : drop len (b.text ++ b.rest) ≡ b.rest = ap (λ n. drop n (b.text ++ b.rest)) b.size ∙ drop-append_seam b.text b.rest in
    let behind : Spelled (between (behind_pjl l)) (place + len) b.rest items =
    subst (λ (t : List ℕ). Spelled (between (behind_pjl l)) (place + len) t items) (ap (drop len) b.all ∙ left) h in
    subst (λ (t : List ℕ). SpellsAll modes.Pjl place t (at place (PjlLine l) ∷ items)) (sym b.all)
    (unit (line b.unit) (Spells-at size (spelled_between (behind_pjl l) (place + len) b.rest items behind)))
one_in_pjl place items (head_other {b = b} {bytes = bytes} {item = item} {len = len} {next = next} k f) h =
    otherwise_all k (one_unit place items (unit_spelled (b ∷ bytes) item len next f) h)

pub sound : (c : Context) (place : ℕ) (bytes : List ℕ) (items : List Placed) (context : Context) (end : ℕ) (rest : List ℕ) →
    ReadsTo true c place bytes items context end rest → MayEndAt context → rest ≡ [] → Spelled c place bytes items
unfolding first_of
sound Pcl place bytes _ _ _ _ here e k = subst (λ (l : List ℕ). SpellsAll modes.Pcl place l []) (sym k) (nothing e)
sound Pjl place bytes _ _ _ _ here e k = subst (λ (l : List ℕ). SpellsAll modes.Pjl place l []) (sym k) (nothing e)
sound (Sequence g) place bytes _ _ _ _ here e k = absurd e
sound Frame place bytes _ _ _ _ here e k = absurd e
sound (Letters m n) place bytes _ _ _ _ here e k = absurd e
sound (Numbered x gap n) place bytes _ _ _ _ here e k = absurd e
sound Pcl place bytes _ _ _ _ (passes len next f h) e k = absurd (no_passing true bytes len next f)
sound Pjl place bytes _ _ _ _ (passes len next f h) e k = absurd (no_passing_line true bytes len next f)
sound (Sequence g) place bytes _ _ _ _ (passes len next f h) e k = absurd (no_passing_in true g bytes len next f)
sound Frame place bytes _ context end rest (passes {items = items} len next f h) e k =
    passed SpelledFrom Frame place bytes len next f (frame_told SpelledFrom closed place bytes) items
    (landing next (place + len) (drop len bytes) items (sound next (place + len) (drop len bytes) items context end rest h e k))
sound (Letters m n) place bytes _ context end rest (passes {items = items} len next f h) e k =
    passed SpelledFrom (Letters m n) place bytes len next f (letters_tell SpelledFrom closed m n place bytes) items
    (landing next (place + len) (drop len bytes) items (sound next (place + len) (drop len bytes) items context end rest h e k))
sound (Numbered x gap n) place bytes _ context end rest (passes {items = items} len next f h) e k =
    passed SpelledFrom (Numbered x gap n) place bytes len next f (numbers_tell SpelledFrom closed x gap n place bytes) items
    (landing next (place + len) (drop len bytes) items (sound next (place + len) (drop len bytes) items context end rest h e k))
sound Pcl place bytes _ context end rest (begins {items = items} entry len next f h) e k =
    one_unit place items (unit_spelled bytes entry len next f) (sound next (place + len) (drop len bytes) items context end rest h e k)
sound Pjl place bytes _ context end rest (begins {items = items} entry len next f h) e k =
    one_in_pjl place items (pjl_spelled bytes entry len next f) (sound next (place + len) (drop len bytes) items context end rest h e k)
sound (Sequence g) place bytes _ context end rest (begins {items = items} entry len next f h) e k =
    one_command place items (command_spelled g bytes entry len next f)
    (sound next (place + len) (drop len bytes) items context end rest h e k)
sound Frame place bytes _ context end rest (begins {items = items} entry len next f h) e k =
    begun_item SpelledFrom Frame place bytes entry len next f (frame_told SpelledFrom closed place bytes) items
    (landing next (place + len) (drop len bytes) items (sound next (place + len) (drop len bytes) items context end rest h e k))
sound (Letters m n) place bytes _ context end rest (begins {items = items} entry len next f h) e k =
    begun_item SpelledFrom (Letters m n) place bytes entry len next f (letters_tell SpelledFrom closed m n place bytes) items
    (landing next (place + len) (drop len bytes) items (sound next (place + len) (drop len bytes) items context end rest h e k))
sound (Numbered x gap n) place bytes _ context end rest (begins {items = items} entry len next f h) e k =
    begun_item SpelledFrom (Numbered x gap n) place bytes entry len next f (numbers_tell SpelledFrom closed x gap n place bytes) items
    (landing next (place + len) (drop len bytes) items (sound next (place + len) (drop len bytes) items context end rest h e k))

-- ---- what is spelled is read

commands_read : {group : Group} {place : ℕ} {text : List ℕ} {items : List Placed} (whole : Bool) (rest : List ℕ) →
    Commands group place text items → ReadsTo whole (Sequence group) place (text ++ rest) items Pcl (place + length text) rest
unfolding first_of
commands_read whole rest (last {place = place} {field = field} {amount = amount} command f) =
    let same : (field ++ letter_of command ∷ []) ++ rest ≡ field ++ letter_of command ∷ rest =
    append_assoc field (letter_of command ∷ []) rest in
    let size : place + (length field + 1) ≡ place + length (field ++ letter_of command ∷ []) =
    omega (arith, length-append field (letter_of command ∷ [])) in
    let left : drop (length field + 1) ((field ++ letter_of command ∷ []) ++ rest) ≡ rest =
    ap (drop (length field + 1)) same ∙ drop_behind field (letter_of command) rest in
    begins (Parameterized command amount) (length field + 1) Pcl
    (ap (command_in (group_of command)) same ∙ last_read command field amount rest f)
    (ReadsTo-at refl (sym left) size here)
commands_read whole rest (with_data {place = place} {field = field} {bytes = bytes} {amount = amount} command f k) =
    let c = data_letter_of command in
    let same : (field ++ c ∷ bytes) ++ rest ≡ field ++ c ∷ (bytes ++ rest) = append_assoc field (c ∷ bytes) rest in
    let size : place + (length field + 1 + length bytes) ≡ place + length (field ++ c ∷ bytes) =
    omega (arith, length-append field (c ∷ bytes)) in
    let left : drop (length field + 1 + length bytes) ((field ++ c ∷ bytes) ++ rest) ≡ rest =
    ap (drop (length field + 1 + length bytes)) same ∙ data_behind field c bytes rest in
    begins (WithData command bytes) (length field + 1 + length bytes) Pcl
    (ap (command_in (data_group_of command)) same ∙ data_read command field amount bytes rest f k)
    (ReadsTo-at refl (sym left) size here)
commands_read whole rest (more {place = place} {field = field} {text = text} {amount = amount} {others = others} command f commands) =
    let same : (field ++ small (letter_of command) ∷ text) ++ rest ≡ field ++ small (letter_of command) ∷ (text ++ rest) =
    append_assoc field (small (letter_of command) ∷ text) rest in
    let begin : place + length field + 1 ≡ place + (length field + 1) = omega arith in
    let end : place + length field + 1 + length text ≡ place + length (field ++ small (letter_of command) ∷ text) =
    omega (arith, length-append field (small (letter_of command) ∷ text)) in
    let left : drop (length field + 1) ((field ++ small (letter_of command) ∷ text) ++ rest) ≡ text ++ rest =
    ap (drop (length field + 1)) same ∙ drop_behind field (small (letter_of command)) (text ++ rest) in
    begins (Parameterized command amount) (length field + 1) (Sequence (group_of command))
    (ap (command_in (group_of command)) same ∙ more_read command field amount (text ++ rest) f)
    (ReadsTo-at begin (sym left) end (commands_read whole rest commands))

pub combined_read : {whole : Bool} {group : Group} {place : ℕ} {bytes : List ℕ} {items : List Placed} {first : Placed}
    {others : List Placed} {c c2 : Context} {begin end : ℕ} {rest : List ℕ} →
    ReadsTo whole c begin bytes items c2 end rest → c ≡ Sequence group → begin ≡ place + 3 → items ≡ first ∷ others →
    ReadsTo whole Pcl place (escape ∷ introducer_of group ∷ character_of group ∷ bytes) (at place first.item ∷ others) c2 end rest
unfolding first_of
combined_read here s b k = absurd cc
combined_read {whole = whole} {group = group} {bytes = bytes} (passes len next e h) s b k =
    absurd (no_passing_in whole group bytes len next (ap (λ (d : Context). first_of whole d bytes) (sym s) ∙ e))
combined_read {whole = whole} {group = group} {place = place} {bytes = bytes} {first = first} {others = others} {c2 = c2} {begin = begin}
    {end = end} {rest = rest} (begins {items = items} entry len next e h) s b k =
    let read : command_in group bytes ≡ first_of whole (Sequence group) bytes = refl in
    let same : first_of whole (Sequence group) bytes ≡ Begins entry len next = ap (λ (d : Context). first_of whole d bytes) (sym s) ∙ e in
    let entry_is : entry ≡ first.item = cc in
    let others_are : items ≡ others = cc in
    let start : begin + len ≡ place + (3 + len) = omega (arith, b) in
    subst
    (λ (x : Entry). ReadsTo whole Pcl place (escape ∷ introducer_of group ∷ character_of group ∷ bytes) (at place x ∷ others) c2 end rest)
    entry_is
    (subst
    (λ (xs : List Placed).
    ReadsTo whole Pcl place (escape ∷ introducer_of group ∷ character_of group ∷ bytes) (at place entry ∷ xs) c2 end rest)
    others_are
    (begins entry (3 + len) next
    (same_between whole (escape ∷ introducer_of group ∷ character_of group ∷ bytes) ∙ group_read group bytes
    ∙ ap (behind 3) (read ∙ same))
    (ReadsTo-at start (sym (drop_three escape (introducer_of group) (character_of group) len bytes)) refl h)))

-- what a field and a letter begin with is no group character
begins_low : (s : Sign) (w : List ℕ) (o : Option (List ℕ)) (c : ℕ) (rest : List ℕ) → AllDigits 10 w → c ≤ 94 →
    BeginsSmall ((sign_text s ++ (w ++ fraction_text o)) ++ c ∷ rest) → ⊥
begins_low Plus w o c rest h k b = absurd (omega (arith, b.0))
begins_low Minus w o c rest h k b = absurd (omega (arith, b.0))
begins_low Absent (d ∷ w) o c rest h k b = let r = digit_from_value d h.0 in absurd (omega (arith, b.0))
begins_low Absent [] (Some ds) c rest h k b = absurd (omega (arith, b.0))
begins_low Absent [] None c rest h k b = absurd (omega (arith, b.0))

field_low : (text : List ℕ) (a : Amount) (c : ℕ) (rest : List ℕ) → IsField text a → c ≤ 94 → BeginsSmall (text ++ c ∷ rest) → ⊥
field_low text a c rest f k b =
    begins_low a.sign f.whole f.fraction c rest f.shape.digits.0 k (subst (λ (t : List ℕ). BeginsSmall (t ++ c ∷ rest)) f.shape.spelled b)

-- behind each introducer of a sequence without a group
ungrouped_begins : {i c : ℕ} {a : Amount} {item : Entry} {mode : Mode} (text rest : List ℕ) → IsField text a → IsUngrouped i a c item mode →
    first_of true Pcl (escape ∷ i ∷ (text ++ c ∷ rest)) ≡ without_group i (text ++ c ∷ rest)
ungrouped_begins {c = c} {a = a} text rest f (symbol_set h) =
    font_read (text ++ c ∷ rest) (field_low text a c rest f (ungrouped_letter (symbol_set {amount = a} h)).1)
ungrouped_begins {a = a} text rest f (default_font three sign) = font_read (text ++ 64 ∷ rest) (field_low text a 64 rest f (omega arith))
ungrouped_begins {a = a} text rest f (leave_frame h) =
    language_read (text ++ 65 ∷ rest) (no_exit_field text a 65 rest f (omega arith) (λ e. absurd (omega (arith, e))))
ungrouped_begins {a = a} text rest f (enter_frame h) =
    language_read (text ++ 66 ∷ rest) (no_exit_field text a 66 rest f (omega arith) (λ e. absurd (omega (arith, e))))

pub ungrouped_first : {i c : ℕ} {a : Amount} {item : Entry} {mode : Mode} (whole : Bool) (text rest : List ℕ) → IsField text a →
    IsUngrouped i a c item mode → first_of whole Pcl (escape ∷ i ∷ (text ++ c ∷ rest)) ≡ Begins item (length text + 3) (between mode)
ungrouped_first {i = i} {c = c} whole text rest f k =
    same_between whole (escape ∷ i ∷ (text ++ c ∷ rest)) ∙ ungrouped_begins text rest f k ∙ ungrouped_read text rest f k

-- the bytes behind a unit, where more may come or not, decide it: outside frames any do
abbrev pub IsDecidedIn : Mode → Bool → List ℕ → Type 0
IsDecidedIn modes.Pcl whole rest = Unit {0}
IsDecidedIn modes.Frame whole rest = IsDecided whole rest
IsDecidedIn modes.Pjl whole rest = Unit {0}

-- the universal exit
exit_begins : (whole : Bool) (rest : List ℕ) → first_of whole Pcl (exit_text ++ rest) ≡ Begins ExitLanguage 9 Pjl
unfolding first_of after_escape
exit_begins whole rest = refl

pub exit_read : {place : ℕ} (mode : Mode) (whole : Bool) (rest : List ℕ) →
    ReadsTo whole (between mode) place (exit_text ++ rest) (at place ExitLanguage ∷ []) Pjl (place + length exit_text) rest
exit_read modes.Pcl whole rest = begins ExitLanguage 9 Pjl (exit_begins whole rest) here
exit_read modes.Frame whole rest = exit_reads whole rest
exit_read modes.Pjl whole rest =
    begins ExitLanguage 9 Pjl
    (otherwise_read whole 27 (37 ∷ 45 ∷ 49 ∷ 50 ∷ 51 ∷ 52 ∷ 53 ∷ 88 ∷ rest) (λ e. absurd (omega (arith, e))) ∙ exit_begins whole rest) here

-- a line begins with `@`
line_words : (whole : Bool) (words others : List ℕ) (l : PjlCommand) → IsPjlCommand words l →
    first_of whole Pjl (words ++ others) ≡ by_pjl (at_pjl (words ++ others))
unfolding first_of
line_words whole _ others l (syntax.bare blanks h) = refl
line_words whole _ others l (syntax.worded b before after h hb hw he ha) = refl

line_first : (whole : Bool) (text rest : List ℕ) (l : PjlCommand) → IsPjlUnit text l →
    first_of whole Pjl (text ++ rest) ≡ by_pjl (at_pjl (text ++ rest))
line_first whole _ rest l (whole_line words h e short) =
    let same : (words ++ 10 ∷ []) ++ rest ≡ words ++ 10 ∷ rest = append_assoc words (10 ∷ []) rest in
    ap (first_of whole Pjl) same ∙ line_words whole words (10 ∷ rest) l h ∙ sym (ap (λ t. by_pjl (at_pjl t)) same)

line_reads : (whole : Bool) (place : ℕ) (text rest : List ℕ) (l : PjlCommand) → IsPjlUnit text l →
    ReadsTo whole Pjl place (text ++ rest) (at place (PjlLine l) ∷ []) (between (behind_pjl l)) (place + length text) rest
line_reads whole place text rest l u =
    begins (PjlLine l) (length text) (between (behind_pjl l)) (line_first whole text rest l u ∙ ap by_pjl (lines.unit_read text rest l u))
    (ReadsTo-at refl (sym (drop-append_seam text rest)) refl here)

-- at least a step was read
abbrev pub HasStep : {w : Bool} {c d : Context} {p q : ℕ} {l rest : List ℕ} {items : List Placed} → ReadsTo w c p l items d q rest → Type 0
HasStep here = ⊥
HasStep (passes len next g r) = Unit {0}
HasStep (begins entry len next g r) = Unit {0}

-- what is read of mode PCL, in mode PJL
pub otherwise_begun : {w : Bool} {c d : Context} {p q : ℕ} {l rest : List ℕ} {items : List Placed} (b : ℕ) (bytes : List ℕ) → b ≢ at_sign →
    (r : ReadsTo w c p l items d q rest) → c ≡ Pcl → l ≡ b ∷ bytes → HasStep r → ReadsTo w Pjl p l items d q rest
otherwise_begun b bytes h here e f k = absurd k
otherwise_begun b bytes h (passes {whole = w} {bytes = l} len next g r) e f k =
    absurd (no_passing w l len next (ap (λ (x : Context). first_of w x l) (sym e) ∙ g))
otherwise_begun b bytes h
    (begins {whole = w} {context = c} {context2 = d} {place = p} {place2 = q} {bytes = l} {rest = rest} {items = items} entry len next g r)
    e f k =
    let first : first_of w Pjl l ≡ Begins entry len next =
    ap (first_of w Pjl) f ∙ otherwise_read w b bytes h ∙ sym (ap (first_of w Pcl) f) ∙ ap (λ (x : Context). first_of w x l) (sym e) ∙ g in
    subst (λ (n : ℕ). ReadsTo w Pjl p l (at n entry ∷ items) d q rest) (sym (ap (λ (x : Context). item_place x p) e))
    (begins entry len next first r)

has_step : {w : Bool} {c d : Context} {p q : ℕ} {l rest : List ℕ} {items : List Placed} (r : ReadsTo w c p l items d q rest) → p < q →
    HasStep r
has_step here h = absurd (omega (arith, h))
has_step (passes len next g r) h = tt
has_step (begins entry len next g r) h = tt

otherwise_reads : {w : Bool} {d : Context} {p q : ℕ} {rest : List ℕ} {items : List Placed} (b : ℕ) (bytes : List ℕ) → b ≢ at_sign →
    ReadsTo w Pcl p (b ∷ bytes) items d q rest → p < q → ReadsTo w Pjl p (b ∷ bytes) items d q rest
otherwise_reads b bytes h r k = otherwise_begun b bytes h r refl refl (has_step r k)

pub unit_read : {mode mode1 : Mode} {place : ℕ} {text rest : List ℕ} {items : List Placed} (whole : Bool) → IsDecidedIn mode whole rest →
    IsUnit mode place text rest items mode1 →
    ReadsTo whole (between mode) place (text ++ rest) items (between mode1) (place + length text) rest
unfolding first_of after_escape
unit_read whole d (text_byte {code = code} h) = begins (Text code) 1 Pcl (cond-true (nat_le 32 code) _ _ (le-leb 32 code h)) here
unit_read whole d (control_code {code = code} {item = item} {rest = rest} e) =
    begins item 1 Pcl (cond-false (nat_le 32 code) _ _ (lt-leb 32 code (control_is_low code item e)) ∙ ap (λ o. by_code o code rest) e) here
unit_read whole d (two_characters {character = character} {item = item} {rest = rest} e) =
    begins item 2 Pcl (ap (λ o. by_character o character rest) e) here
unit_read whole d (ungrouped {place = place} {introducer = i} {letter = c} {field = field} {rest = rest} {item = item} {mode = mode} f k) =
    let same : (field ++ c ∷ []) ++ rest ≡ field ++ c ∷ rest = append_assoc field (c ∷ []) rest in
    let size : place + (length field + 3) ≡ place + length (escape ∷ i ∷ (field ++ c ∷ [])) = omega (arith, length-append field (c ∷ [])) in
    let left : drop (length field + 3) (escape ∷ i ∷ ((field ++ c ∷ []) ++ rest)) ≡ rest =
    ap (λ l. drop (length field + 3) (escape ∷ i ∷ l)) same ∙ ungrouped_behind escape i field c rest in
    begins item (length field + 3) (between mode)
    (ap (λ l. first_of whole Pcl (escape ∷ i ∷ l)) same ∙ ungrouped_first whole field rest f k) (ReadsTo-at refl (sym left) size here)
unit_read whole d (combined {place = place} {group = group} {text = text} {rest = rest} {first = first} {others = others} commands) =
    let e : place + 3 + length text ≡ place + length (escape ∷ introducer_of group ∷ character_of group ∷ text) = omega arith in
    ReadsTo-at refl refl e (combined_read (commands_read whole rest commands) refl refl refl)
unit_read whole d (in_frame u) = frame_unit_reads whole d u
unit_read whole d (out_of_frame {rest = rest} l) = leaves_reads whole rest l
unit_read whole d (exit {mode = mode} {rest = rest}) = exit_read mode whole rest
unit_read whole d (line {place = place} {text = text} {rest = rest} {line = l} u) = line_reads whole place text rest l u
unit_read whole d (otherwise {b = b} {text = text} {rest = rest} h u) =
    otherwise_reads b (text ++ rest) h (unit_read whole tt u) (omega arith)

pub all_decided : (mode : Mode) (rest : List ℕ) → IsDecidedIn mode true rest
all_decided modes.Pcl rest = tt
all_decided modes.Frame rest = tt
all_decided modes.Pjl rest = tt

-- whatever bytes follow
pub spelled_read : {mode mode2 : Mode} {place place2 : ℕ} {bytes rest : List ℕ} {items : List Placed} →
    grammar.SpellsTo mode place bytes items mode2 place2 rest → ReadsTo true (between mode) place bytes items (between mode2) place2 rest
spelled_read grammar.here = here
spelled_read (grammar.next {mode = mode} {bytes = bytes} u h) = ReadsTo-append (unit_read true (all_decided mode bytes) u) (spelled_read h)
