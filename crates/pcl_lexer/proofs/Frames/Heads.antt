-- What is read of a frame is spelled by its rules, or has a fault of them.
use Rattle.std.proofs.Common.{◌≡◌, ℕ, ◌+◌, ◌-◌, List, [], ◌∷◌, ◌++◌, length, drop, true, Option, None, Some, refl, sym, ap, subst, ◌∙◌}
use Rattle.std.proofs.Common.{arith, inl, inr}
use Rattle.std.specs.Prelude.{ℤ, ◌⊎◌, ◌==◌, ◌||◌}
use Rattle.std.specs.Int.{is_in_range}
use Rattle.std.proofs.lemmas.Bool.{eqb-true, eqb-false, cond_both}
use Rattle.std.proofs.lemmas.List.{append_assoc, length-append}
use Rattle.std.proofs.Math.Seq.{drop-append_seam}
use Rattle.pcl_lexer.specs.declared.frame.Kind.{Kind}
use Rattle.pcl_lexer.specs.declared.frame.Kind.TheVariants as kinds
use Rattle.pcl_items.specs.declared.frame.Motion.{Motion}
use Rattle.pcl_items.specs.declared.frame.Motion.TheVariants.{Up}
use Rattle.pcl_items.specs.declared.frame.Setting.{Setting}
use Rattle.pcl_items.specs.declared.frame.Mnemonic.{Mnemonic}
use Rattle.pcl_items.specs.declared.frame.Mnemonic.TheVariants as mnemonics
use Rattle.pcl_lexer.specs.declared.frame.Gap.{Gap}
use Rattle.pcl_lexer.specs.declared.frame.Gap.TheVariants as gaps
use Rattle.pcl_items.specs.declared.fault.LexCause.{LexCause}
use Rattle.pcl_items.specs.declared.fault.LexCause.TheVariants as causes
use Rattle.pcl_items.specs.declared.fault.LexCause.TheVariants.{Syntax, Truncated, BadNumber}
use Rattle.pcl_lexer.specs.Frames.Kinds.{is_white, is_letter, kind_of}
use Rattle.pcl_items.specs.Frames.Mnemonics.{capital, mnemonic_at}
use Rattle.pcl_lexer.specs.Frames.NumberText.{IsCoordinate, IsSetting}
use Rattle.pcl_items.specs.Items.{Entry, Placed, Reset, LeaveFrame, Set, Move, ExitLanguage, bare, at}
use Rattle.pcl_lexer.specs.Lexing.Contexts.{Context, Pcl, Sequence, Frame, Letters, Numbered, Pjl, Numbers, Single, Odd, Even, item_place}
use Rattle.pcl_lexer.specs.Lexing.Firsts.{First, Open, Passes, Begins, Faulty, exit_or}
use Rattle.pcl_items.specs.PjlLines.Exit.{exit_field, exit_text, BeginsExit, begins_with}
use Rattle.pcl_lexer.proofs.PjlLines.Exits.{exit_there, not_exit}
use Rattle.pcl_lexer.specs.Frames.Number.{coordinate_of, setting_of, Numeral, Cut, Wrong, Read, numeral_at}
use Rattle.pcl_lexer.specs.Frames.Reader.{language_in, in_command, second_letter, after_letter, after_frame_escape, by_kind, at_frame}
use Rattle.pcl_lexer.specs.Frames.Reader.{single, first_of_pair, second_of_pair, first_number, letters_by, after_letters, further, ended_by}
use Rattle.pcl_lexer.specs.Frames.Reader.{ended, with_comma, by_figure, numbers_by, after_numbers}
use Rattle.pcl_lexer.specs.Reader.{first_of}
use Rattle.pcl_lexer.specs.Fault.{end_cause}
use Rattle.pcl_lexer.specs.Frames.Grammar.{Start, AtLetters, BehindPair, Part, Word, Number, HasNoComma, BeginsBehind, moved, IsBegun}
use Rattle.pcl_lexer.specs.Frames.Grammar.{letters, letters_space, setting, coordinate, behind_pair, further_coordinate, space, comma}
use Rattle.pcl_lexer.specs.Frames.Grammar.{IsEnd, EndsCommand, IsWhole, without_number, with_number, EndsPair, second_coordinate}
use Rattle.pcl_lexer.specs.Frames.Grammar.{LeavesFrame, reset, leave_frame}
use Rattle.pcl_items.specs.Escapes.Codes.{escape}
use Rattle.pcl_lexer.specs.Frames.NumeralFaults.{NumeralFault, IsSomeCoordinate, IsSomeSetting}
use Rattle.pcl_lexer.specs.Frames.Faults as faults
use Rattle.pcl_lexer.specs.Frames.Faults.{IsWrong, BeginsNumber, TakesCoordinate, PartFault, wrong_byte, too_many, odd, cut_part}
use Rattle.pcl_lexer.specs.Frames.Faults.{no_setting, no_coordinate, LeaveFault, BeginsNone, FrameFault, no_command, cut_letter, one_letter}
use Rattle.pcl_lexer.specs.Frames.Faults.{unknown_letters, cut_frame_escape, other_sequence, in_language, frame_ends}
use Rattle.pcl_lexer.proofs.Frames.Numerals.{TellsNumeral, numeral_told, coordinates, settings}
use Rattle.pcl_lexer.proofs.Frames.NumberStarts.{IsLed, led, coordinate_led}
use Rattle.pcl_lexer.proofs.Frames.Leaving.{HeadLeave, head, TellsLeave, leave_told}

-- ---- a property of what is read

-- Where the bytes of a property stand: in mode PCL, in mode PJL, between the commands of a frame, or behind a pair of a command.
pub data Stand : Type 0 where
  InPcl : Stand
  InPjl : Stand
  In : (start : Start) → Stand

abbrev pub Motive : Type 1
Motive = Stand → ℕ → List ℕ → List Placed → Type 0

-- a property that what is written in a frame leads back to
pub record Closed (Q : Motive) : Type 0 where
  pub separator : (place b : ℕ) (bytes : List ℕ) (items : List Placed) → (kind_of b ≡ kinds.White) ⊎ (kind_of b ≡ kinds.Semicolon) →
      Q (In AtLetters) (place + 1) bytes items → Q (In AtLetters) place (b ∷ bytes) items
  pub command : (start : Start) (place : ℕ) {part : Part} {from : ℕ} {text bytes : List ℕ} {item : Entry} (items : List Placed) →
      IsBegun start part from text bytes → IsWhole part item → EndsCommand bytes →
      Q (In AtLetters) (place + length text) bytes items → Q (In start) place (text ++ bytes) (at (place + from) item ∷ items)
  pub pair : (start : Start) (place : ℕ) {motion : Motion} {to : ℤ × ℤ} {from : ℕ} {text bytes : List ℕ} (items : List Placed) →
      EndsPair start motion to from text bytes →
      Q (In (BehindPair motion)) (place + length text) bytes items →
      Q (In start) place (text ++ bytes) (at (place + from) (Move motion (Some to)) ∷ items)
  pub pairs : (start : Start) (place : ℕ) {motion : Motion} {gap : Gap} {from : ℕ} {text bytes : List ℕ} (items : List Placed) →
      IsBegun start (Number (Even motion) gap) from text bytes → HasNoComma gap → EndsCommand bytes →
      Q (In AtLetters) (place + length text) bytes items → Q (In start) place (text ++ bytes) items
  pub exits : (place : ℕ) (bytes : List ℕ) (items : List Placed) → Q InPjl (place + 9) bytes items →
      Q (In AtLetters) place (exit_text ++ bytes) (at place ExitLanguage ∷ items)
  pub leaves : (place : ℕ) (text bytes : List ℕ) (item : Entry) (items : List Placed) →
      LeavesFrame place text (at place item ∷ []) → Q InPcl (place + length text) bytes items →
      Q (In AtLetters) place (text ++ bytes) (at place item ∷ items)

-- n bytes of the item are counted behind `from` others; behind whole pairs none has begun
abbrev pub Counts : Numbers → ℕ → ℕ → List ℕ → Type 0
Counts (Single s a) n from text = n + from ≡ length text
Counts (Odd motion x) n from text = n + from ≡ length text
Counts (Even motion) n from text = from ≡ length text

-- The property where the reader stands: within a command it holds from the unit's begin on, whatever was written of it.
abbrev pub Landing : Motive → Context → ℕ → List ℕ → List Placed → Type 0
Landing Q Pcl place bytes items = Q InPcl place bytes items
Landing Q (Sequence g) place bytes items = Unit {0}
Landing Q Pjl place bytes items = Q InPjl place bytes items
Landing Q Frame place bytes items = Q (In AtLetters) place bytes items
Landing Q (Letters m n) place bytes items =
    (start : Start) (begin from : ℕ) (text : List ℕ) → IsBegun start (Word m) from text bytes → n + from ≡ length text →
    begin + length text ≡ place → Q (In start) begin (text ++ bytes) items
Landing Q (Numbered x gap n) place bytes items =
    (start : Start) (begin from : ℕ) (text : List ℕ) → IsBegun start (Number x gap) from text bytes → Counts x n from text →
    begin + length text ≡ place → Q (In start) begin (text ++ bytes) items

-- the fault that stands where the reader stands
abbrev pub FaultIn : Context → List ℕ → LexCause → Type 0
FaultIn Pcl bytes cause = Unit {0}
FaultIn (Sequence g) bytes cause = Unit {0}
FaultIn Pjl bytes cause = Unit {0}
FaultIn Frame bytes cause = FrameFault AtLetters 0 bytes cause
FaultIn (Letters m n) bytes cause = PartFault (Word m) bytes cause
FaultIn (Numbered x gap n) bytes cause = PartFault (Number x gap) bytes cause

abbrev pub Tells : Motive → Context → ℕ → List ℕ → First → Type 0
Tells Q c place bytes Open = (cause : LexCause) → end_cause c bytes ≡ Some cause → FaultIn c bytes cause
Tells Q c place bytes (Passes len next) =
    (items : List Placed) → Landing Q next (place + len) (drop len bytes) items → Landing Q c place bytes items
Tells Q c place bytes (Begins entry len next) =
    (items : List Placed) → Landing Q next (place + len) (drop len bytes) items →
    Landing Q c place bytes (at (item_place c place) entry ∷ items)
Tells Q c place bytes (Faulty cause) = FaultIn c bytes cause

-- what is told of a step
pub passed : (Q : Motive) (c : Context) (place : ℕ) (bytes : List ℕ) (len : ℕ) (next : Context) → first_of true c bytes ≡ Passes len next →
    Tells Q c place bytes (first_of true c bytes) →
    (items : List Placed) → Landing Q next (place + len) (drop len bytes) items → Landing Q c place bytes items
passed Q c place bytes len next e h = subst (Tells Q c place bytes) e h

pub begun_item : (Q : Motive) (c : Context) (place : ℕ) (bytes : List ℕ) (entry : Entry) (len : ℕ) (next : Context) →
    first_of true c bytes ≡ Begins entry len next → Tells Q c place bytes (first_of true c bytes) →
    (items : List Placed) → Landing Q next (place + len) (drop len bytes) items →
    Landing Q c place bytes (at (item_place c place) entry ∷ items)
begun_item Q c place bytes entry len next e h = subst (Tells Q c place bytes) e h

-- ---- small steps

at_place : (Q : Motive) (stand : Stand) (p q : ℕ) (bytes : List ℕ) (items : List Placed) → p ≡ q → Q stand p bytes items →
    Q stand q bytes items
at_place Q stand p q bytes items e h = subst (λ (n : ℕ). Q stand n bytes items) e h

-- one byte more
one_more : (Q : Motive) (start : Start) (begin b : ℕ) (text rest : List ℕ) (items : List Placed) →
    Q (In start) begin ((text ++ b ∷ []) ++ rest) items → Q (In start) begin (text ++ b ∷ rest) items
one_more Q start begin b text rest items h = subst (λ (l : List ℕ). Q (In start) begin l items) (append_assoc text (b ∷ []) rest) h

-- a number more
number_more : (Q : Motive) (start : Start) (begin : ℕ) (text number rest bytes : List ℕ) (items : List Placed) → bytes ≡ number ++ rest →
    Q (In start) begin ((text ++ number) ++ rest) items → Q (In start) begin (text ++ bytes) items
number_more Q start begin text number rest bytes items e h =
    subst (λ (l : List ℕ). Q (In start) begin l items) (append_assoc text number rest ∙ ap (λ l. text ++ l) (sym e)) h

behind_byte : (begin b place : ℕ) (text : List ℕ) → begin + length text ≡ place → begin + length (text ++ b ∷ []) ≡ place + 1
behind_byte begin b place text e = omega (arith, length-append text (b ∷ []), e)

pub counts_byte : (n from b : ℕ) (text : List ℕ) → n + from ≡ length text → n + 1 + from ≡ length (text ++ b ∷ [])
counts_byte n from b text e = omega (arith, length-append text (b ∷ []), e)

behind_number : (begin place len : ℕ) (text number : List ℕ) → len ≡ length number → begin + length text ≡ place →
    begin + length (text ++ number) ≡ place + len
behind_number begin place len text number e f = omega (arith, length-append text number, e, f)

counts_number : (n from len : ℕ) (text number : List ℕ) → len ≡ length number → n + from ≡ length text →
    n + len + from ≡ length (text ++ number)
counts_number n from len text number e f = omega (arith, length-append text number, e, f)

pub counts_more : (x : Numbers) (n from b : ℕ) (text : List ℕ) → Counts x n from text → Counts x (n + 1) (moved x from) (text ++ b ∷ [])
counts_more (Single s a) n from b text e = counts_byte n from b text e
counts_more (Odd motion x) n from b text e = counts_byte n from b text e
counts_more (Even motion) n from b text e = omega (arith, length-append text (b ∷ []), e)

-- ---- the end of a command

ends_at : (b : ℕ) (rest : List ℕ) (k : Kind) → kind_of b ≡ k → IsEnd k → EndsCommand (b ∷ rest)
ends_at b rest k e h = subst IsEnd (sym e) h

finish : (Q : Motive) → Closed Q → (part : Part) (item : Entry) (n place : ℕ) (bytes : List ℕ) (items : List Placed) → IsWhole part item →
    EndsCommand bytes → Q (In AtLetters) (place + 0) bytes items →
    (start : Start) (begin from : ℕ) (text : List ℕ) → IsBegun start part from text bytes → n + from ≡ length text →
    begin + length text ≡ place → Q (In start) begin (text ++ bytes) (at (place - n) item ∷ items)
finish Q closed part item n place bytes items whole ends h start begin from text begun count e =
    let stands : begin + from ≡ place - n = omega (arith, count, e) in
    let behind : place + 0 ≡ begin + length text = omega (arith, e) in
    subst (λ (p : ℕ). Q (In start) begin (text ++ bytes) (at p item ∷ items)) stands
    (closed.command start begin items begun whole ends (at_place Q (In AtLetters) (place + 0) (begin + length text) bytes items behind h))

finish_pairs : (Q : Motive) → Closed Q → (motion : Motion) (gap : Gap) (place : ℕ) (bytes : List ℕ) (items : List Placed) → HasNoComma gap →
    EndsCommand bytes → Q (In AtLetters) (place + 0) bytes items →
    (start : Start) (begin from : ℕ) (text : List ℕ) → IsBegun start (Number (Even motion) gap) from text bytes → from ≡ length text →
    begin + length text ≡ place → Q (In start) begin (text ++ bytes) items
finish_pairs Q closed motion gap place bytes items none ends h start begin from text begun count e =
    let behind : place + 0 ≡ begin + length text = omega (arith, e) in
    closed.pairs start begin items begun none ends (at_place Q (In AtLetters) (place + 0) (begin + length text) bytes items behind h)

-- ---- numbers

single_told : (Q : Motive) (s : Setting) (n place b : ℕ) (rest : List ℕ) (r : Numeral ℕ) →
    BeginsNumber (Word (mnemonics.Sets s)) (kind_of b) → TellsNumeral IsSetting (b ∷ rest) r →
    Tells Q (Letters (mnemonics.Sets s) n) place (b ∷ rest) (single n (λ a. Single s a) r)
single_told Q s n place b rest Cut k h = λ cause e. no_setting k (subst (NumeralFault IsSomeSetting (b ∷ rest)) (cause_is cause e) h)
  where
    cause_is : (cause : LexCause) → Some Truncated ≡ Some cause → Truncated ≡ cause
    cause_is cause e = cc
single_told Q s n place b rest (Wrong cause) k h = no_setting k h
single_told Q s n place b rest (Read a len) k h = λ items q start begin from text begun count e.
    let began : IsBegun start (Word (mnemonics.Sets s)) from text (h.text ++ drop len (b ∷ rest)) =
    subst (IsBegun start (Word (mnemonics.Sets s)) from text) h.whole begun in
    number_more Q start begin text h.text (drop len (b ∷ rest)) (b ∷ rest) items h.whole
    (q start begin from (text ++ h.text) (setting began h.is h.ends) (counts_number n from len text h.text h.len_is count)
    (behind_number begin place len text h.text h.len_is e))

-- the first byte of a number that is read
begins_behind : (gap : Gap) (number rest l : List ℕ) (b : ℕ) → b ∷ l ≡ number ++ rest → IsLed number →
    BeginsNumber (Number (Even Up) gap) (kind_of b) → BeginsBehind gap number
begins_behind gaps.Spaced number rest l b e h k = tt
begins_behind gaps.Comma number rest l b e h k = tt
begins_behind gaps.Straight _ rest l b e (led {b = d} number h) k =
    let same : b ≡ d = cc in
    ap kind_of (sym same) ∙ only_sign (kind_of b) k
  where
    only_sign : (k : Kind) → BeginsNumber (Number (Even Up) gaps.Straight) k → k ≡ kinds.Sign
    only_sign kinds.Sign h = refl
    only_sign kinds.White h = absurd h
    only_sign kinds.Comma h = absurd h
    only_sign kinds.Semicolon h = absurd h
    only_sign kinds.Letter h = absurd h
    only_sign kinds.Escape h = absurd h
    only_sign kinds.Figure h = absurd h
    only_sign kinds.Other h = absurd h

pub cut_cause : (cause : LexCause) → Some Truncated ≡ Some cause → Truncated ≡ cause
cut_cause cause e = cc

first_told : (Q : Motive) (motion : Motion) (n place b : ℕ) (rest : List ℕ) (r : Numeral ℤ) →
    BeginsNumber (Word (mnemonics.Moves motion)) (kind_of b) → TellsNumeral IsCoordinate (b ∷ rest) r →
    Tells Q (Letters (mnemonics.Moves motion) n) place (b ∷ rest) (first_of_pair n motion r)
first_told Q motion n place b rest Cut k h =
    λ cause e. no_coordinate k tt (subst (NumeralFault IsSomeCoordinate (b ∷ rest)) (cut_cause cause e) h)
first_told Q motion n place b rest (Wrong cause) k h = no_coordinate k tt h
first_told Q motion n place b rest (Read x len) k h = λ items q start begin from text begun count e.
    let began : IsBegun start (Word (mnemonics.Moves motion)) from text (h.text ++ drop len (b ∷ rest)) =
    subst (IsBegun start (Word (mnemonics.Moves motion)) from text) h.whole begun in
    number_more Q start begin text h.text (drop len (b ∷ rest)) (b ∷ rest) items h.whole
    (q start begin from (text ++ h.text) (coordinate began h.is h.ends) (counts_number n from len text h.text h.len_is count)
    (behind_number begin place len text h.text h.len_is e))

-- the first coordinate of a further pair
further_told : (Q : Motive) (motion : Motion) (gap : Gap) (n place b : ℕ) (rest : List ℕ) (r : Numeral ℤ) →
    BeginsNumber (Number (Even motion) gap) (kind_of b) →
    ((number behind : List ℕ) → b ∷ rest ≡ number ++ behind → IsLed number → BeginsBehind gap number) →
    TellsNumeral IsCoordinate (b ∷ rest) r → Tells Q (Numbered (Even motion) gap n) place (b ∷ rest) (first_of_pair 0 motion r)
further_told Q motion gap n place b rest Cut k f h =
    λ cause e. no_coordinate k tt (subst (NumeralFault IsSomeCoordinate (b ∷ rest)) (cut_cause cause e) h)
further_told Q motion gap n place b rest (Wrong cause) k f h = no_coordinate k tt h
further_told Q motion gap n place b rest (Read x len) k f h = λ items q start begin from text begun count e.
    let began : IsBegun start (Number (Even motion) gap) from text (h.text ++ drop len (b ∷ rest)) =
    subst (IsBegun start (Number (Even motion) gap) from text) h.whole begun in
    number_more Q start begin text h.text (drop len (b ∷ rest)) (b ∷ rest) items h.whole
    (q start begin from (text ++ h.text)
    (further_coordinate began (f h.text (drop len (b ∷ rest)) h.whole (coordinate_led h.text x h.is)) h.is h.ends)
    (omega (arith, length-append text h.text, h.len_is, count)) (behind_number begin place len text h.text h.len_is e))

-- the second one
second_told : (Q : Motive) → Closed Q → (motion : Motion) (x : ℤ) (gap : Gap) (n place b : ℕ) (rest : List ℕ) (r : Numeral ℤ) →
    BeginsNumber (Number (Odd motion x) gap) (kind_of b) →
    ((number behind : List ℕ) → b ∷ rest ≡ number ++ behind → IsLed number → BeginsBehind gap number) →
    TellsNumeral IsCoordinate (b ∷ rest) r → Tells Q (Numbered (Odd motion x) gap n) place (b ∷ rest) (second_of_pair motion x r)
second_told Q closed motion x gap n place b rest Cut k f h =
    λ cause e. no_coordinate k tt (subst (NumeralFault IsSomeCoordinate (b ∷ rest)) (cut_cause cause e) h)
second_told Q closed motion x gap n place b rest (Wrong cause) k f h = no_coordinate k tt h
second_told Q closed motion x gap n place b rest (Read y len) k f h = λ items q start begin from text begun count e.
    let began : IsBegun start (Number (Odd motion x) gap) from text (h.text ++ drop len (b ∷ rest)) =
    subst (IsBegun start (Number (Odd motion x) gap) from text) h.whole begun in
    let behind : place + len ≡ begin + length (text ++ h.text) = sym (behind_number begin place len text h.text h.len_is e) in
    let stands : begin + from ≡ place - n = omega (arith, count, e) in
    let next : Q (In (BehindPair motion)) (place + len) (drop len (b ∷ rest)) items =
    q (BehindPair motion) (place + len) 0 [] behind_pair refl (omega arith) in
    number_more Q start begin text h.text (drop len (b ∷ rest)) (b ∷ rest) (at (place - n) (Move motion (Some (x, y))) ∷ items) h.whole
    (subst (λ (p : ℕ). Q (In start) begin ((text ++ h.text) ++ drop len (b ∷ rest)) (at p (Move motion (Some (x, y))) ∷ items)) stands
    (closed.pair start begin items
    (second_coordinate began (f h.text (drop len (b ∷ rest)) h.whole (coordinate_led h.text y h.is)) h.is h.ends)
    (at_place Q (In (BehindPair motion)) (place + len) (begin + length (text ++ h.text)) (drop len (b ∷ rest)) items behind next)))

-- ---- behind the letters

number_told : (Q : Motive) (m : Mnemonic) (n place b : ℕ) (rest : List ℕ) → BeginsNumber (Word m) (kind_of b) →
    Tells Q (Letters m n) place (b ∷ rest) (first_number true m n (b ∷ rest))
number_told Q mnemonics.Initialize n place b rest k = too_many k tt
number_told Q (mnemonics.Sets s) n place b rest k =
    single_told Q s n place b rest (numeral_at setting_of true (b ∷ rest)) k (numeral_told setting_of IsSetting settings (b ∷ rest))
number_told Q (mnemonics.Moves motion) n place b rest k =
    first_told Q motion n place b rest (numeral_at coordinate_of true (b ∷ rest)) k
    (numeral_told coordinate_of IsCoordinate coordinates (b ∷ rest))

letters_told : (Q : Motive) → Closed Q → (k : Kind) (m : Mnemonic) (n place b : ℕ) (rest : List ℕ) → kind_of b ≡ k →
    Tells Q (Letters m n) place (b ∷ rest) (letters_by k true m n (b ∷ rest))
letters_told Q closed kinds.White m n place b rest e = λ items q start begin from text begun count p.
    one_more Q start begin b text rest items
    (q start begin from (text ++ b ∷ []) (letters_space begun e) (counts_byte n from b text count) (behind_byte begin b place text p))
letters_told Q closed kinds.Semicolon m n place b rest e =
    λ items q. finish Q closed (Word m) (bare m) n place (b ∷ rest) items without_number (ends_at b rest kinds.Semicolon e tt) q
letters_told Q closed kinds.Letter m n place b rest e =
    λ items q. finish Q closed (Word m) (bare m) n place (b ∷ rest) items without_number (ends_at b rest kinds.Letter e tt) q
letters_told Q closed kinds.Escape m n place b rest e =
    λ items q. finish Q closed (Word m) (bare m) n place (b ∷ rest) items without_number (ends_at b rest kinds.Escape e tt) q
letters_told Q closed kinds.Sign m n place b rest e = number_told Q m n place b rest (subst (BeginsNumber (Word m)) (sym e) tt)
letters_told Q closed kinds.Figure m n place b rest e = number_told Q m n place b rest (subst (BeginsNumber (Word m)) (sym e) tt)
letters_told Q closed kinds.Comma m n place b rest e = wrong_byte (subst (IsWrong (Word m)) (sym e) tt)
letters_told Q closed kinds.Other m n place b rest e = wrong_byte (subst (IsWrong (Word m)) (sym e) tt)

-- ---- behind numbers

more_told : (Q : Motive) → Closed Q → (x : Numbers) (gap : Gap) (n place b : ℕ) (rest : List ℕ) → BeginsNumber (Number x gap) (kind_of b) →
    ((number behind : List ℕ) → b ∷ rest ≡ number ++ behind → IsLed number → BeginsBehind gap number) →
    Tells Q (Numbered x gap n) place (b ∷ rest) (further true x (b ∷ rest))
more_told Q closed (Single s a) gap n place b rest k f = too_many k tt
more_told Q closed (Odd motion x) gap n place b rest k f =
    second_told Q closed motion x gap n place b rest (numeral_at coordinate_of true (b ∷ rest)) k f
    (numeral_told coordinate_of IsCoordinate coordinates (b ∷ rest))
more_told Q closed (Even motion) gap n place b rest k f =
    further_told Q motion gap n place b rest (numeral_at coordinate_of true (b ∷ rest)) k f
    (numeral_told coordinate_of IsCoordinate coordinates (b ∷ rest))

wrong_at : (x : Numbers) (gap : Gap) (b : ℕ) (rest : List ℕ) (k : Kind) → kind_of b ≡ k → IsWrong (Number x gap) k →
    PartFault (Number x gap) (b ∷ rest) Syntax
wrong_at x gap b rest k e h = wrong_byte (subst (IsWrong (Number x gap)) (sym e) h)

-- a byte that ends the command
ended_told : (Q : Motive) → Closed Q → (x : Numbers) (gap : Gap) (n place b : ℕ) (rest : List ℕ) → IsEnd (kind_of b) →
    (gap ≡ gaps.Comma → IsWrong (Number x gap) (kind_of b)) → Tells Q (Numbered x gap n) place (b ∷ rest) (ended_by x gap)
ended_told Q closed x gaps.Comma n place b rest ends wrong = wrong_byte (wrong refl)
ended_told Q closed (Single s a) gaps.Straight n place b rest ends wrong =
    λ items q. finish Q closed (Number (Single s a) gaps.Straight) (Set s a) n place (b ∷ rest) items (with_number tt) ends q
ended_told Q closed (Single s a) gaps.Spaced n place b rest ends wrong =
    λ items q. finish Q closed (Number (Single s a) gaps.Spaced) (Set s a) n place (b ∷ rest) items (with_number tt) ends q
ended_told Q closed (Odd motion x) gaps.Straight n place b rest ends wrong = odd tt ends
ended_told Q closed (Odd motion x) gaps.Spaced n place b rest ends wrong = odd tt ends
ended_told Q closed (Even motion) gaps.Straight n place b rest ends wrong =
    λ items q. finish_pairs Q closed motion gaps.Straight place (b ∷ rest) items tt ends q
ended_told Q closed (Even motion) gaps.Spaced n place b rest ends wrong =
    λ items q. finish_pairs Q closed motion gaps.Spaced place (b ∷ rest) items tt ends q

end_told : (Q : Motive) → Closed Q → (x : Numbers) (gap : Gap) (n place b : ℕ) (rest : List ℕ) (k : Kind) → kind_of b ≡ k → IsEnd k →
    IsWrong (Number x gaps.Comma) k → Tells Q (Numbered x gap n) place (b ∷ rest) (ended_by x gap)
end_told Q closed x gap n place b rest k e ends wrong =
    ended_told Q closed x gap n place b rest (subst IsEnd (sym e) ends)
    (λ g. subst (λ (h : Gap). IsWrong (Number x h) (kind_of b)) (sym g) (subst (IsWrong (Number x gaps.Comma)) (sym e) wrong))

comma_told : (Q : Motive) (x : Numbers) (gap : Gap) (n place b : ℕ) (rest : List ℕ) → kind_of b ≡ kinds.Comma →
    Tells Q (Numbered x gap n) place (b ∷ rest) (with_comma x gap n)
comma_told Q x gaps.Comma n place b rest e = wrong_at x gaps.Comma b rest kinds.Comma e tt
comma_told Q x gaps.Straight n place b rest e = λ items q start begin from text begun count p.
    one_more Q start begin b text rest items
    (q start begin (moved x from) (text ++ b ∷ []) (comma begun e tt) (counts_more x n from b text count)
    (behind_byte begin b place text p))
comma_told Q x gaps.Spaced n place b rest e = λ items q start begin from text begun count p.
    one_more Q start begin b text rest items
    (q start begin (moved x from) (text ++ b ∷ []) (comma begun e tt) (counts_more x n from b text count)
    (behind_byte begin b place text p))

sign_behind : (gap : Gap) (number behind rest : List ℕ) (b : ℕ) → kind_of b ≡ kinds.Sign → b ∷ rest ≡ number ++ behind → IsLed number →
    BeginsBehind gap number
sign_behind gap number behind rest b k e h =
    begins_behind gap number behind rest b e h (subst (BeginsNumber (Number (Even Up) gap)) (sym k) tt)

figure_told : (Q : Motive) → Closed Q → (x : Numbers) (gap : Gap) (n place b : ℕ) (rest : List ℕ) → kind_of b ≡ kinds.Figure →
    Tells Q (Numbered x gap n) place (b ∷ rest) (by_figure true x gap (b ∷ rest))
figure_told Q closed x gaps.Straight n place b rest e = wrong_at x gaps.Straight b rest kinds.Figure e tt
figure_told Q closed x gaps.Spaced n place b rest e =
    more_told Q closed x gaps.Spaced n place b rest (subst (BeginsNumber (Number x gaps.Spaced)) (sym e) tt) (λ _ _ _ _. tt)
figure_told Q closed x gaps.Comma n place b rest e =
    more_told Q closed x gaps.Comma n place b rest (subst (BeginsNumber (Number x gaps.Comma)) (sym e) tt) (λ _ _ _ _. tt)

other_told : (x : Numbers) (gap : Gap) (b : ℕ) (rest : List ℕ) → kind_of b ≡ kinds.Other → PartFault (Number x gap) (b ∷ rest) Syntax
other_told x gaps.Straight b rest e = wrong_at x gaps.Straight b rest kinds.Other e tt
other_told x gaps.Spaced b rest e = wrong_at x gaps.Spaced b rest kinds.Other e tt
other_told x gaps.Comma b rest e = wrong_at x gaps.Comma b rest kinds.Other e tt

numbers_told : (Q : Motive) → Closed Q → (k : Kind) (x : Numbers) (gap : Gap) (n place b : ℕ) (rest : List ℕ) → kind_of b ≡ k →
    Tells Q (Numbered x gap n) place (b ∷ rest) (numbers_by k true x gap n (b ∷ rest))
numbers_told Q closed kinds.White x gap n place b rest e = λ items q start begin from text begun count p.
    one_more Q start begin b text rest items
    (q start begin (moved x from) (text ++ b ∷ []) (space begun e) (counts_more x n from b text count) (behind_byte begin b place text p))
numbers_told Q closed kinds.Comma x gap n place b rest e = comma_told Q x gap n place b rest e
numbers_told Q closed kinds.Semicolon x gap n place b rest e = end_told Q closed x gap n place b rest kinds.Semicolon e tt tt
numbers_told Q closed kinds.Letter x gap n place b rest e = end_told Q closed x gap n place b rest kinds.Letter e tt tt
numbers_told Q closed kinds.Escape x gap n place b rest e = end_told Q closed x gap n place b rest kinds.Escape e tt tt
numbers_told Q closed kinds.Sign x gap n place b rest e =
    more_told Q closed x gap n place b rest (subst (BeginsNumber (Number x gap)) (sym e) tt)
    (λ number behind w h. sign_behind gap number behind rest b e w h)
numbers_told Q closed kinds.Figure x gap n place b rest e = figure_told Q closed x gap n place b rest e
numbers_told Q closed kinds.Other x gap n place b rest e = other_told x gap b rest e

-- ---- between commands

abbrev EscapeOnly : ℕ → Kind → Type 0
EscapeOnly b k = k ≡ kinds.Escape → b ≡ 27

escape_kind : (b : ℕ) → kind_of b ≡ kinds.Escape → b ≡ 27
unfolding kind_of
escape_kind b =
    cond_both (is_white b) _ _ (EscapeOnly b) (λ _ e. absurd cc) (λ _.
    cond_both (b == 44) _ _ (EscapeOnly b) (λ _ e. absurd cc) (λ _.
    cond_both (b == 59) _ _ (EscapeOnly b) (λ _ e. absurd cc) (λ _.
    cond_both (is_letter b) _ _ (EscapeOnly b) (λ _ e. absurd cc) (λ _.
    cond_both (b == 27) _ _ (EscapeOnly b) (λ t _. eqb-true b 27 t) (λ _.
    cond_both ((b == 43) || (b == 45)) _ _ (EscapeOnly b) (λ _ e. absurd cc) (λ _.
    cond_both (is_in_range 48 57 b || (b == 46)) _ _ (EscapeOnly b) (λ _ e. absurd cc) (λ _ e. absurd cc)))))))

command_told : (Q : Motive) (o : Option Mnemonic) (place a b : ℕ) (rest : List ℕ) → kind_of a ≡ kinds.Letter → kind_of b ≡ kinds.Letter →
    mnemonic_at (capital a) (capital b) ≡ o → Tells Q Frame place (a ∷ b ∷ rest) (in_command o (capital a) (capital b))
command_told Q None place a b rest e f h = unknown_letters e f h
command_told Q (Some m) place a b rest e f h = λ items q. q AtLetters place 0 (a ∷ b ∷ []) (letters e f h) refl refl

not_letter : (k : Kind) (b : ℕ) → kind_of b ≡ k → (k ≡ kinds.Letter → ⊥) → kind_of b ≡ kinds.Letter → ⊥
not_letter k b e h f = h (sym e ∙ f)

second_told_letter : (Q : Motive) (k : Kind) (place a b : ℕ) (rest : List ℕ) → kind_of a ≡ kinds.Letter → kind_of b ≡ k →
    Tells Q Frame place (a ∷ b ∷ rest) (second_letter k a b)
second_told_letter Q kinds.Letter place a b rest e f = command_told Q (mnemonic_at (capital a) (capital b)) place a b rest e f refl
second_told_letter Q kinds.White place a b rest e f = one_letter e (not_letter kinds.White b f (λ h. absurd cc))
second_told_letter Q kinds.Comma place a b rest e f = one_letter e (not_letter kinds.Comma b f (λ h. absurd cc))
second_told_letter Q kinds.Semicolon place a b rest e f = one_letter e (not_letter kinds.Semicolon b f (λ h. absurd cc))
second_told_letter Q kinds.Escape place a b rest e f = one_letter e (not_letter kinds.Escape b f (λ h. absurd cc))
second_told_letter Q kinds.Sign place a b rest e f = one_letter e (not_letter kinds.Sign b f (λ h. absurd cc))
second_told_letter Q kinds.Figure place a b rest e f = one_letter e (not_letter kinds.Figure b f (λ h. absurd cc))
second_told_letter Q kinds.Other place a b rest e f = one_letter e (not_letter kinds.Other b f (λ h. absurd cc))

letter_told : (Q : Motive) (place a : ℕ) (rest : List ℕ) → kind_of a ≡ kinds.Letter → Tells Q Frame place (a ∷ rest) (after_letter a rest)
letter_told Q place a [] e = λ cause f. subst (FrameFault AtLetters 0 (a ∷ [])) (cut_cause cause f) (cut_letter e)
letter_told Q place a (b ∷ rest) e = second_told_letter Q (kind_of b) place a b rest e refl

-- enter PCL mode
pub drop_field : (field : List ℕ) (c : ℕ) (rest : List ℕ) → drop (length field + 3) (escape ∷ 37 ∷ (field ++ c ∷ rest)) ≡ rest
drop_field field c rest =
    let longer : length field + 3 ≡ length (escape ∷ 37 ∷ (field ++ c ∷ [])) = omega (arith, length-append field (c ∷ [])) in
    ap (λ n. drop n (escape ∷ 37 ∷ (field ++ c ∷ rest))) longer
    ∙ ap (λ l. drop (length (escape ∷ 37 ∷ (field ++ c ∷ []))) (escape ∷ 37 ∷ l)) (sym (append_assoc field (c ∷ []) rest))
    ∙ drop-append_seam (escape ∷ 37 ∷ (field ++ c ∷ [])) rest

left_frame : (Q : Motive) → Closed Q → (place : ℕ) (bytes : List ℕ) (item : Entry) (len : ℕ) (next : Context) (items : List Placed) →
    HeadLeave bytes item len next →
    Landing Q next (place + len) (drop len (escape ∷ 37 ∷ bytes)) items →
    Q (In AtLetters) place (escape ∷ 37 ∷ bytes) (at place item ∷ items)
left_frame Q closed place _ _ _ _ items (head {field = field} {handover = handover} rest f k) h =
    let behind : place + (length field + 3) ≡ place + length (escape ∷ 37 ∷ (field ++ 65 ∷ [])) =
    omega (arith, length-append field (65 ∷ [])) in
    let left : Q InPcl (place + (length field + 3)) rest items =
    subst (λ (l : List ℕ). Q InPcl (place + (length field + 3)) l items) (drop_field field 65 rest) h in
    subst (λ (l : List ℕ). Q (In AtLetters) place (escape ∷ 37 ∷ l) (at place (LeaveFrame handover) ∷ items))
    (append_assoc field (65 ∷ []) rest)
    (closed.leaves place (escape ∷ 37 ∷ (field ++ 65 ∷ [])) rest (LeaveFrame handover) items (leave_frame f k)
    (at_place Q InPcl (place + (length field + 3)) (place + length (escape ∷ 37 ∷ (field ++ 65 ∷ []))) rest items behind left))

leave_in_frame : (Q : Motive) → Closed Q → (place : ℕ) (bytes : List ℕ) (f : First) → (BeginsExit bytes → ⊥) → TellsLeave bytes f →
    Tells Q Frame place (escape ∷ 37 ∷ bytes) f
leave_in_frame Q closed place bytes Open k h = λ cause e. in_language k (subst (LeaveFault bytes) (cut_cause cause e) h)
leave_in_frame Q closed place bytes (Passes len next) k h = absurd h
leave_in_frame Q closed place bytes (Begins item len next) k h = λ items q. left_frame Q closed place bytes item len next items h q
leave_in_frame Q closed place bytes (Faulty cause) k h = in_language k h

exit_in_frame : (Q : Motive) → Closed Q → (place : ℕ) (bytes : List ℕ) → BeginsExit bytes →
    Tells Q Frame place (escape ∷ 37 ∷ bytes) (Begins ExitLanguage 9 Pjl)
exit_in_frame Q closed place bytes h =
    subst (λ (l : List ℕ). Tells Q Frame place (escape ∷ 37 ∷ l) (Begins ExitLanguage 9 Pjl)) (sym h.1)
    (λ items q. closed.exits place h.0 items q)

percent_told : (Q : Motive) → Closed Q → (place : ℕ) (bytes : List ℕ) →
    Tells Q Frame place (escape ∷ 37 ∷ bytes) (exit_or (language_in bytes) bytes)
percent_told Q closed place bytes =
    cond_both (begins_with exit_field bytes) _ _ (Tells Q Frame place (escape ∷ 37 ∷ bytes))
    (λ e. exit_in_frame Q closed place bytes (exit_there bytes e))
    (λ e. leave_in_frame Q closed place bytes (language_in bytes) (not_exit bytes e) (leave_told bytes))

escape_told : (Q : Motive) → Closed Q → (place : ℕ) (rest : List ℕ) → Tells Q Frame place (escape ∷ rest) (after_frame_escape rest)
escape_told Q closed place [] = λ cause e. subst (FrameFault AtLetters 0 (escape ∷ [])) (cut_cause cause e) cut_frame_escape
escape_told Q closed place (b ∷ rest) =
    cond_both (b == 69) _ _ (Tells Q Frame place (escape ∷ b ∷ rest))
    (λ t. subst (λ (c : ℕ). Tells Q Frame place (escape ∷ c ∷ rest) (Begins Reset 2 Pcl)) (sym (eqb-true b 69 t))
    (λ items q. closed.leaves place (escape ∷ 69 ∷ []) rest Reset items reset q))
    (λ no_reset.
    cond_both (b == 37) _ _ (Tells Q Frame place (escape ∷ b ∷ rest))
    (λ t. subst (λ (c : ℕ). Tells Q Frame place (escape ∷ c ∷ rest) (exit_or (language_in rest) rest)) (sym (eqb-true b 37 t))
    (percent_told Q closed place rest))
    (λ no_percent. other_sequence (eqb-false b 69 no_reset) (eqb-false b 37 no_percent)))

kind_told : (Q : Motive) → Closed Q → (k : Kind) (place b : ℕ) (rest : List ℕ) → kind_of b ≡ k →
    Tells Q Frame place (b ∷ rest) (by_kind k b rest)
kind_told Q closed kinds.White place b rest e = λ items q. closed.separator place b rest items (inl e) q
kind_told Q closed kinds.Semicolon place b rest e = λ items q. closed.separator place b rest items (inr e) q
kind_told Q closed kinds.Letter place b rest e = letter_told Q place b rest e
kind_told Q closed kinds.Escape place b rest e =
    subst (λ (c : ℕ). Tells Q Frame place (c ∷ rest) (after_frame_escape rest)) (sym (escape_kind b e)) (escape_told Q closed place rest)
kind_told Q closed kinds.Comma place b rest e = no_command (subst BeginsNone (sym e) tt)
kind_told Q closed kinds.Sign place b rest e = no_command (subst BeginsNone (sym e) tt)
kind_told Q closed kinds.Figure place b rest e = no_command (subst BeginsNone (sym e) tt)
kind_told Q closed kinds.Other place b rest e = no_command (subst BeginsNone (sym e) tt)

-- ---- the end of all bytes

end_cause_frame : (cause : LexCause) → end_cause Frame [] ≡ Some cause → FrameFault AtLetters 0 [] cause
end_cause_frame cause e = subst (FrameFault AtLetters 0 []) (same cause e) frame_ends
  where
    same : (cause : LexCause) → end_cause Frame [] ≡ Some cause → causes.EndInFrame ≡ cause
    same cause e = cc

cut_at : (x : Numbers) (gap : Gap) (cause : LexCause) → faults.IsUnfinished (Number x gap) → Some Truncated ≡ Some cause →
    PartFault (Number x gap) [] cause
cut_at x gap cause h e = subst (PartFault (Number x gap) []) (cut_cause cause e) (cut_part h)

ended_end : (Q : Motive) → Closed Q → (x : Numbers) (gap : Gap) (n place : ℕ) → Tells Q (Numbered x gap n) place [] (ended x gap)
ended_end Q closed x gaps.Comma n place = λ cause e. cut_at x gaps.Comma cause tt e
ended_end Q closed (Single s a) gaps.Straight n place =
    λ items q. finish Q closed (Number (Single s a) gaps.Straight) (Set s a) n place [] items (with_number tt) tt q
ended_end Q closed (Single s a) gaps.Spaced n place =
    λ items q. finish Q closed (Number (Single s a) gaps.Spaced) (Set s a) n place [] items (with_number tt) tt q
ended_end Q closed (Odd motion x) gaps.Straight n place = λ cause e. cut_at (Odd motion x) gaps.Straight cause tt e
ended_end Q closed (Odd motion x) gaps.Spaced n place = λ cause e. cut_at (Odd motion x) gaps.Spaced cause tt e
ended_end Q closed (Even motion) gaps.Straight n place = λ items q. finish_pairs Q closed motion gaps.Straight place [] items tt tt q
ended_end Q closed (Even motion) gaps.Spaced n place = λ items q. finish_pairs Q closed motion gaps.Spaced place [] items tt tt q

-- ---- where the reader stands in a frame

pub frame_told : (Q : Motive) → Closed Q → (place : ℕ) (bytes : List ℕ) → Tells Q Frame place bytes (first_of true Frame bytes)
unfolding first_of at_frame
frame_told Q closed place [] = end_cause_frame
frame_told Q closed place (b ∷ bytes) = kind_told Q closed (kind_of b) place b bytes refl

pub letters_tell : (Q : Motive) → Closed Q → (m : Mnemonic) (n place : ℕ) (bytes : List ℕ) →
    Tells Q (Letters m n) place bytes (first_of true (Letters m n) bytes)
unfolding first_of after_letters
letters_tell Q closed m n place [] = λ items q. finish Q closed (Word m) (bare m) n place [] items without_number tt q
letters_tell Q closed m n place (b ∷ bytes) = letters_told Q closed (kind_of b) m n place b bytes refl

pub numbers_tell : (Q : Motive) → Closed Q → (x : Numbers) (gap : Gap) (n place : ℕ) (bytes : List ℕ) →
    Tells Q (Numbered x gap n) place bytes (first_of true (Numbered x gap n) bytes)
unfolding first_of after_numbers
numbers_tell Q closed x gap n place [] = ended_end Q closed x gap n place
numbers_tell Q closed x gap n place (b ∷ bytes) = numbers_told Q closed (kind_of b) x gap n place b bytes refl
