-- What the rules of a frame spell is read, and what has a fault of them is read as that fault.
use Rattle.std.proofs.Common.{◌≡◌, ℕ, ◌+◌, List, [], ◌∷◌, ◌++◌, length, Bool, true, false, Some, refl, sym, ap, subst, ◌∙◌, arith, inl, inr}
use Rattle.std.specs.Prelude.{ℤ, ◌⊎◌, ◌==◌}
use Rattle.std.proofs.lemmas.Bool.{eqb-true, cond-false}
use Rattle.std.proofs.lemmas.List.{append-nil, append_assoc, length-append}
use Rattle.std.proofs.Math.Seq.{drop-append_seam}
use Rattle.pcl_lexer.specs.declared.frame.Kind.{Kind}
use Rattle.pcl_lexer.specs.declared.frame.Kind.TheVariants as kinds
use Rattle.pcl_items.specs.declared.frame.Motion.{Motion}
use Rattle.pcl_items.specs.declared.frame.Setting.{Setting}
use Rattle.pcl_items.specs.declared.frame.Mnemonic.{Mnemonic}
use Rattle.pcl_items.specs.declared.frame.Mnemonic.TheVariants as mnemonics
use Rattle.pcl_lexer.specs.declared.frame.Gap.{Gap}
use Rattle.pcl_lexer.specs.declared.frame.Gap.TheVariants as gaps
use Rattle.pcl_items.specs.declared.fault.Name.TheVariants as names
use Rattle.pcl_items.specs.declared.fault.LexCause.{LexCause}
use Rattle.pcl_items.specs.declared.fault.LexCause.TheVariants.{Syntax, Truncated, NotInProfile, BadNumber}
use Rattle.pcl_lexer.specs.Frames.Kinds.{kind_of}
use Rattle.pcl_items.specs.Frames.Mnemonics.{capital, mnemonic_at}
use Rattle.pcl_lexer.specs.Frames.NumberText.{EndsBefore, IsCoordinate, IsSetting}
use Rattle.pcl_items.specs.Items.{Entry, Placed, Reset, LeaveFrame, Set, Move, ExitLanguage, bare, at}
use Rattle.pcl_lexer.specs.Lexing.Contexts.{Context, Pcl, Pjl, Frame, Letters, Numbered, Numbers, Single, Odd, Even, item_place, spaced}
use Rattle.pcl_lexer.specs.Lexing.Firsts.{First, Open, Passes, Begins, Faulty, exit_or}
use Rattle.pcl_lexer.specs.Frames.Number.{coordinate_of, setting_of, Numeral, Cut, Wrong, Read, numeral_at}
use Rattle.pcl_lexer.specs.Frames.Reader as reader
use Rattle.pcl_lexer.specs.Frames.Reader.{language_in, second_letter, by_kind, at_frame, single, first_of_pair, second_of_pair}
use Rattle.pcl_lexer.specs.Frames.Reader.{first_number, letters_by, after_letters, further, ended_by, ended, with_comma, by_figure}
use Rattle.pcl_lexer.specs.Frames.Reader.{numbers_by, after_numbers}
use Rattle.pcl_lexer.specs.Reader.{first_of}
use Rattle.pcl_lexer.specs.Fault.{IsFault}
use Rattle.pcl_lexer.specs.Frames.Grammar.{Start, AtLetters, BehindPair, Part, Word, Number, HasNoComma, BeginsBehind, IsBegun, letters}
use Rattle.pcl_lexer.specs.Frames.Grammar.{letters_space, setting, coordinate, behind_pair, further_coordinate, space, comma, IsEnd}
use Rattle.pcl_lexer.specs.Frames.Grammar.{EndsCommand, IsWhole, without_number, with_number, EndsPair, second_coordinate, IsCommand}
use Rattle.pcl_lexer.specs.Frames.Grammar.{without_pairs, pair, behind_pairs, IsFrameUnit, separator, command, ended_command, LeavesFrame}
use Rattle.pcl_lexer.specs.Frames.Grammar.{reset, leave_frame}
use Rattle.pcl_items.specs.Escapes.Codes.{escape}
use Rattle.pcl_lexer.specs.Frames.Faults as faults
use Rattle.pcl_lexer.specs.Frames.Faults.{IsWrong, BeginsNumber, IsFull, TakesCoordinate, IsUnfinished, PartFault, wrong_byte, too_many}
use Rattle.pcl_lexer.specs.Frames.Faults.{odd, cut_part, no_setting, no_coordinate, BeginsNone, FrameFault, no_command, cut_letter}
use Rattle.pcl_lexer.specs.Frames.Faults.{one_letter, unknown_letters, cut_frame_escape, other_sequence, in_language, frame_ends}
use Rattle.pcl_lexer.specs.Reading.{ReadsTo, here, passes, begins}
use Rattle.pcl_lexer.proofs.Escapes.Tables.{by_test}
use Rattle.pcl_lexer.proofs.Reading.ReadsTo.{ReadsTo-at, ReadsTo-append}
use Rattle.pcl_lexer.proofs.Frames.Numerals.{IsDecided, numeral_read, CausesNumeral, numeral_faulty, coordinates, settings}
use Rattle.pcl_lexer.proofs.Frames.NumberStarts.{IsStart, IsLed, led, setting_led, coordinate_led}
use Rattle.pcl_lexer.proofs.Reading.Causes.{Causes}
use Rattle.pcl_lexer.proofs.Frames.Leaving.{leave_read, leave_causes}
use Rattle.pcl_lexer.proofs.PjlLines.Exits.{no_exit, no_exit_field}
use Rattle.pcl_items.specs.PjlLines.Exit.{exit_field, exit_text, BeginsExit, begins_with}
use Rattle.pcl_lexer.proofs.Frames.Heads.{Counts, counts_byte, counts_more, drop_field}

-- what stands before what is written of a command, and where the reader stands within it
abbrev pub context_before : Start → Context
context_before AtLetters = Frame
context_before (BehindPair motion) = Numbered (Even motion) gaps.Straight 0

abbrev pub context_of : Part → ℕ → Context
context_of (Word m) n = Letters m n
context_of (Number x gap) n = Numbered x gap n

abbrev Counted : Part → ℕ → ℕ → List ℕ → Type 0
Counted (Word m) n from text = n + from ≡ length text
Counted (Number x gap) n from text = Counts x n from text

-- ---- a number that is due

pub letters_number : (whole : Bool) (k : Kind) (m : Mnemonic) (n : ℕ) (l : List ℕ) → IsStart k →
    letters_by k whole m n l ≡ first_number whole m n l
letters_number whole kinds.Sign m n l h = refl
letters_number whole kinds.Figure m n l h = refl
letters_number whole kinds.White m n l h = absurd h
letters_number whole kinds.Comma m n l h = absurd h
letters_number whole kinds.Semicolon m n l h = absurd h
letters_number whole kinds.Letter m n l h = absurd h
letters_number whole kinds.Escape m n l h = absurd h
letters_number whole kinds.Other m n l h = absurd h

figure_number : (whole : Bool) (x : Numbers) (gap : Gap) (l : List ℕ) → (gap ≡ gaps.Straight → ⊥) →
    by_figure whole x gap l ≡ further whole x l
figure_number whole x gaps.Straight l h = absurd (h refl)
figure_number whole x gaps.Spaced l h = refl
figure_number whole x gaps.Comma l h = refl

pub numbers_number : (whole : Bool) (k : Kind) (x : Numbers) (gap : Gap) (n : ℕ) (l : List ℕ) → IsStart k →
    (gap ≡ gaps.Straight → k ≡ kinds.Sign) → numbers_by k whole x gap n l ≡ further whole x l
numbers_number whole kinds.Sign x gap n l h f = refl
numbers_number whole kinds.Figure x gap n l h f = figure_number whole x gap l (λ e. let no = f e in absurd cc)
numbers_number whole kinds.White x gap n l h f = absurd h
numbers_number whole kinds.Comma x gap n l h f = absurd h
numbers_number whole kinds.Semicolon x gap n l h f = absurd h
numbers_number whole kinds.Letter x gap n l h f = absurd h
numbers_number whole kinds.Escape x gap n l h f = absurd h
numbers_number whole kinds.Other x gap n l h f = absurd h

-- .. where it stands
number_first : (whole : Bool) (m : Mnemonic) (n : ℕ) (number rest : List ℕ) → IsLed number →
    first_of whole (Letters m n) (number ++ rest) ≡ first_number whole m n (number ++ rest)
unfolding first_of after_letters
number_first whole m n _ rest (led {b = b} text h) = letters_number whole (kind_of b) m n (b ∷ (text ++ rest)) h

number_further : (whole : Bool) (x : Numbers) (gap : Gap) (n : ℕ) (number rest : List ℕ) → IsLed number → BeginsBehind gap number →
    first_of whole (Numbered x gap n) (number ++ rest) ≡ further whole x (number ++ rest)
unfolding first_of after_numbers
number_further whole x gaps.Straight n _ rest (led {b = b} text h) f =
    numbers_number whole (kind_of b) x gaps.Straight n (b ∷ (text ++ rest)) h (λ _. f)
number_further whole x gaps.Spaced n _ rest (led {b = b} text h) f =
    numbers_number whole (kind_of b) x gaps.Spaced n (b ∷ (text ++ rest)) h (λ e. absurd cc)
number_further whole x gaps.Comma n _ rest (led {b = b} text h) f =
    numbers_number whole (kind_of b) x gaps.Comma n (b ∷ (text ++ rest)) h (λ e. absurd cc)

-- ---- what is written of a command is passed over

-- one text more
step_on : {whole : Bool} {c d e : Context} {start : ℕ} (text more rest : List ℕ) →
    ReadsTo whole c start (text ++ (more ++ rest)) [] d (start + length text) (more ++ rest) →
    first_of whole d (more ++ rest) ≡ Passes (length more) e →
    ReadsTo whole c start ((text ++ more) ++ rest) [] e (start + length (text ++ more)) rest
step_on {e = e} {start = start} text more rest h f =
    let size : start + length text + length more ≡ start + length (text ++ more) = omega (arith, length-append text more) in
    ReadsTo-append (ReadsTo-at refl (sym (append_assoc text more rest)) refl h)
    (passes (length more) e f (ReadsTo-at refl (sym (drop-append_seam more rest)) size here))

record BegunRead (whole : Bool) (from_start : Start) (part : Part) (from : ℕ) (text rest : List ℕ) (start : ℕ) : Type 0 where
  n : ℕ
  reads : ReadsTo whole (context_before from_start) start (text ++ rest) [] (context_of part n) (start + length text) rest
  counts : Counted part n from text

pub decided_behind : (whole : Bool) (b : ℕ) (rest : List ℕ) → IsDecided whole (b ∷ rest)
decided_behind true b rest = tt
decided_behind false b rest = tt

number_decided : (whole : Bool) (number rest : List ℕ) → IsLed number → IsDecided whole (number ++ rest)
number_decided whole _ rest (led {b = b} text h) = decided_behind whole b (text ++ rest)

pub letters_read : (whole : Bool) (a b : ℕ) (rest : List ℕ) (m : Mnemonic) → kind_of a ≡ kinds.Letter → kind_of b ≡ kinds.Letter →
    mnemonic_at (capital a) (capital b) ≡ Some m → first_of whole Frame (a ∷ b ∷ rest) ≡ Passes 2 (Letters m 2)
unfolding first_of at_frame
letters_read whole a b rest m e f h =
    ap (λ k. by_kind k a (b ∷ rest)) e ∙ ap (λ k. second_letter k a b) f ∙ ap (λ o. reader.in_command o (capital a) (capital b)) h

letter_space : (whole : Bool) (m : Mnemonic) (n b : ℕ) (rest : List ℕ) → kind_of b ≡ kinds.White →
    first_of whole (Letters m n) (b ∷ rest) ≡ Passes 1 (Letters m (n + 1))
unfolding first_of after_letters
letter_space whole m n b rest e = ap (λ k. letters_by k whole m n (b ∷ rest)) e

number_space : (whole : Bool) (x : Numbers) (gap : Gap) (n b : ℕ) (rest : List ℕ) → kind_of b ≡ kinds.White →
    first_of whole (Numbered x gap n) (b ∷ rest) ≡ Passes 1 (Numbered x (spaced gap) (n + 1))
unfolding first_of after_numbers
number_space whole x gap n b rest e = ap (λ k. numbers_by k whole x gap n (b ∷ rest)) e

comma_read : (x : Numbers) (gap : Gap) (n : ℕ) → HasNoComma gap → with_comma x gap n ≡ Passes 1 (Numbered x gaps.Comma (n + 1))
comma_read x gaps.Straight n h = refl
comma_read x gaps.Spaced n h = refl
comma_read x gaps.Comma n h = absurd h

pub number_comma : (whole : Bool) (x : Numbers) (gap : Gap) (n b : ℕ) (rest : List ℕ) → kind_of b ≡ kinds.Comma → HasNoComma gap →
    first_of whole (Numbered x gap n) (b ∷ rest) ≡ Passes 1 (Numbered x gaps.Comma (n + 1))
unfolding first_of after_numbers
number_comma whole x gap n b rest e h = ap (λ k. numbers_by k whole x gap n (b ∷ rest)) e ∙ comma_read x gap n h

setting_first : (whole : Bool) (s : Setting) (a n : ℕ) (number rest : List ℕ) → IsDecided whole rest → IsSetting number a →
    EndsBefore number rest →
    first_of whole (Letters (mnemonics.Sets s) n) (number ++ rest)
    ≡ Passes (length number) (Numbered (Single s a) gaps.Straight (n + length number))
setting_first whole s a n number rest d h ends =
    number_first whole (mnemonics.Sets s) n number rest (setting_led number a h)
    ∙ ap (single n (λ b. Single s b)) (numeral_read whole setting_of IsSetting settings number a rest d h ends)

coordinate_first : (whole : Bool) (motion : Motion) (x : ℤ) (n : ℕ) (number rest : List ℕ) → IsDecided whole rest → IsCoordinate number x →
    EndsBefore number rest →
    first_of whole (Letters (mnemonics.Moves motion) n) (number ++ rest)
    ≡ Passes (length number) (Numbered (Odd motion x) gaps.Straight (n + length number))
coordinate_first whole motion x n number rest d h ends =
    number_first whole (mnemonics.Moves motion) n number rest (coordinate_led number x h)
    ∙ ap (first_of_pair n motion) (numeral_read whole coordinate_of IsCoordinate coordinates number x rest d h ends)

coordinate_further : (whole : Bool) (motion : Motion) (gap : Gap) (x : ℤ) (n : ℕ) (number rest : List ℕ) → IsDecided whole rest →
    BeginsBehind gap number → IsCoordinate number x → EndsBefore number rest →
    first_of whole (Numbered (Even motion) gap n) (number ++ rest)
    ≡ Passes (length number) (Numbered (Odd motion x) gaps.Straight (0 + length number))
coordinate_further whole motion gap x n number rest d f h ends =
    number_further whole (Even motion) gap n number rest (coordinate_led number x h) f
    ∙ ap (first_of_pair 0 motion) (numeral_read whole coordinate_of IsCoordinate coordinates number x rest d h ends)

coordinate_second : (whole : Bool) (motion : Motion) (gap : Gap) (x y : ℤ) (n : ℕ) (number rest : List ℕ) → IsDecided whole rest →
    BeginsBehind gap number → IsCoordinate number y → EndsBefore number rest →
    first_of whole (Numbered (Odd motion x) gap n) (number ++ rest)
    ≡ Begins (Move motion (Some (x, y))) (length number) (Numbered (Even motion) gaps.Straight 0)
coordinate_second whole motion gap x y n number rest d f h ends =
    number_further whole (Odd motion x) gap n number rest (coordinate_led number y h) f
    ∙ ap (second_of_pair motion x) (numeral_read whole coordinate_of IsCoordinate coordinates number y rest d h ends)

begun_read : {s : Start} {part : Part} {from : ℕ} {text rest : List ℕ} (whole : Bool) (start : ℕ) → IsDecided whole rest →
    IsBegun s part from text rest → BegunRead whole s part from text rest start
begun_read whole start d (letters {a = a} {b = b} {rest = rest} {mnemonic = m} e f h) =
    record { n = 2; reads = passes 2 (Letters m 2) (letters_read whole a b rest m e f h) here; counts = refl }
begun_read whole start d (letters_space {mnemonic = m} {from = from} {b = b} {text = text} {rest = rest} begun e) =
    let r = begun_read whole start (decided_behind whole b rest) begun in
    record {
      n = r.n + 1;
      reads = step_on text (b ∷ []) rest r.reads (letter_space whole m r.n b rest e);
      counts = counts_byte r.n from b text r.counts;
    }
begun_read whole start d (setting {setting = s} {amount = a} {from = from} {text = text} {number = number} {rest = rest} begun h ends) =
    let r = begun_read whole start (number_decided whole number rest (setting_led number a h)) begun in
    record {
      n = r.n + length number;
      reads = step_on text number rest r.reads (setting_first whole s a r.n number rest d h ends);
      counts = omega (arith, length-append text number, r.counts);
    }
begun_read whole start d (coordinate {motion = motion} {x = x} {from = from} {text = text} {number = number} {rest = rest} begun h ends) =
    let r = begun_read whole start (number_decided whole number rest (coordinate_led number x h)) begun in
    record {
      n = r.n + length number;
      reads = step_on text number rest r.reads (coordinate_first whole motion x r.n number rest d h ends);
      counts = omega (arith, length-append text number, r.counts);
    }
begun_read whole start d behind_pair = record { n = 0; reads = ReadsTo-at refl refl (omega arith) here; counts = refl }
begun_read whole start d
    (further_coordinate {motion = motion} {gap = gap} {x = x} {from = from} {text = text} {number = number} {rest = rest} begun f h ends) =
    let r = begun_read whole start (number_decided whole number rest (coordinate_led number x h)) begun in
    record {
      n = 0 + length number;
      reads = step_on text number rest r.reads (coordinate_further whole motion gap x r.n number rest d f h ends);
      counts = omega (arith, length-append text number, r.counts);
    }
begun_read whole start d (space {numbers = x} {gap = gap} {from = from} {b = b} {text = text} {rest = rest} begun e) =
    let r = begun_read whole start (decided_behind whole b rest) begun in
    record {
      n = r.n + 1;
      reads = step_on text (b ∷ []) rest r.reads (number_space whole x gap r.n b rest e);
      counts = counts_more x r.n from b text r.counts;
    }
begun_read whole start d (comma {numbers = x} {gap = gap} {from = from} {b = b} {text = text} {rest = rest} begun e h) =
    let r = begun_read whole start (decided_behind whole b rest) begun in
    record {
      n = r.n + 1;
      reads = step_on text (b ∷ []) rest r.reads (number_comma whole x gap r.n b rest e h);
      counts = counts_more x r.n from b text r.counts;
    }

-- ---- units

letters_end : (whole : Bool) (k : Kind) (m : Mnemonic) (n : ℕ) (l : List ℕ) → IsEnd k → letters_by k whole m n l ≡ Begins (bare m) 0 Frame
letters_end whole kinds.Semicolon m n l h = refl
letters_end whole kinds.Letter m n l h = refl
letters_end whole kinds.Escape m n l h = refl
letters_end whole kinds.White m n l h = absurd h
letters_end whole kinds.Comma m n l h = absurd h
letters_end whole kinds.Sign m n l h = absurd h
letters_end whole kinds.Figure m n l h = absurd h
letters_end whole kinds.Other m n l h = absurd h

numbers_end : (whole : Bool) (k : Kind) (x : Numbers) (gap : Gap) (n : ℕ) (l : List ℕ) → IsEnd k →
    numbers_by k whole x gap n l ≡ ended_by x gap
numbers_end whole kinds.Semicolon x gap n l h = refl
numbers_end whole kinds.Letter x gap n l h = refl
numbers_end whole kinds.Escape x gap n l h = refl
numbers_end whole kinds.White x gap n l h = absurd h
numbers_end whole kinds.Comma x gap n l h = absurd h
numbers_end whole kinds.Sign x gap n l h = absurd h
numbers_end whole kinds.Figure x gap n l h = absurd h
numbers_end whole kinds.Other x gap n l h = absurd h

single_ended : (s : Setting) (a : ℕ) (gap : Gap) → HasNoComma gap →
    (ended_by (Single s a) gap ≡ Begins (Set s a) 0 Frame) × (ended (Single s a) gap ≡ Begins (Set s a) 0 Frame)
single_ended s a gaps.Straight h = (refl, refl)
single_ended s a gaps.Spaced h = (refl, refl)
single_ended s a gaps.Comma h = absurd h

even_ended : (motion : Motion) (gap : Gap) → HasNoComma gap →
    (ended_by (Even motion) gap ≡ Passes 0 Frame) × (ended (Even motion) gap ≡ Passes 0 Frame)
even_ended motion gaps.Straight h = (refl, refl)
even_ended motion gaps.Spaced h = (refl, refl)
even_ended motion gaps.Comma h = absurd h

whole_read : (whole : Bool) (part : Part) (item : Entry) (n : ℕ) (rest : List ℕ) → IsDecided whole rest → IsWhole part item →
    EndsCommand rest → first_of whole (context_of part n) rest ≡ Begins item 0 Frame
unfolding first_of after_letters after_numbers
whole_read true _ _ n [] d without_number ends = refl
whole_read true _ _ n [] d (with_number {setting = s} {amount = a} {gap = gap} h) ends = (single_ended s a gap h).1
whole_read false _ _ n [] d w ends = absurd d
whole_read whole _ _ n (b ∷ rest) d (without_number {mnemonic = m}) ends = letters_end whole (kind_of b) m n (b ∷ rest) ends
whole_read whole _ _ n (b ∷ rest) d (with_number {setting = s} {amount = a} {gap = gap} h) ends =
    numbers_end whole (kind_of b) (Single s a) gap n (b ∷ rest) ends ∙ (single_ended s a gap h).0

pub pairs_end : (whole : Bool) (motion : Motion) (gap : Gap) (n : ℕ) (rest : List ℕ) → IsDecided whole rest → HasNoComma gap →
    EndsCommand rest → first_of whole (Numbered (Even motion) gap n) rest ≡ Passes 0 Frame
unfolding first_of after_numbers
pairs_end true motion gap n [] d h ends = (even_ended motion gap h).1
pairs_end false motion gap n [] d h ends = absurd d
pairs_end whole motion gap n (b ∷ rest) d h ends =
    numbers_end whole (kind_of b) (Even motion) gap n (b ∷ rest) ends ∙ (even_ended motion gap h).0

-- the item of a whole command stands where it begins
whole_place : (part : Part) (item : Entry) (n from start : ℕ) (text : List ℕ) → IsWhole part item → Counted part n from text →
    item_place (context_of part n) (start + length text) ≡ start + from
whole_place _ _ n from start text without_number count = omega (arith, count)
whole_place _ _ n from start text (with_number h) count = omega (arith, count)

-- a pair
pub pair_read : {s : Start} {motion : Motion} {to : ℤ × ℤ} {from : ℕ} {text rest : List ℕ} (whole : Bool) (place : ℕ) →
    IsDecided whole rest → EndsPair s motion to from text rest →
    ReadsTo whole (context_before s) place (text ++ rest) (at (place + from) (Move motion (Some to)) ∷ [])
    (context_before (BehindPair motion))
    (place + length text) rest
pair_read {s = s} whole place d
    (second_coordinate {motion = motion} {gap = gap} {x = x} {y = y} {from = from} {text = text} {number = number}
    {rest = rest} begun f h ends) =
    let r = begun_read whole place (number_decided whole number rest (coordinate_led number y h)) begun in
    let c = Numbered (Odd motion x) gap r.n in
    let item = Move motion (Some (x, y)) in
    let size : place + length text + length number ≡ place + length (text ++ number) = omega (arith, length-append text number) in
    let stands : item_place c (place + length text) ≡ place + from = omega (arith, r.counts) in
    let last : ReadsTo whole c (place + length text) (number ++ rest) (at (item_place c (place + length text)) item ∷ [])
    (Numbered (Even motion) gaps.Straight 0) (place + length (text ++ number)) rest =
    begins item (length number) (Numbered (Even motion) gaps.Straight 0) (coordinate_second whole motion gap x y r.n number rest d f h ends)
    (ReadsTo-at refl (sym (drop-append_seam number rest)) size here) in
    subst
    (λ (p : ℕ). ReadsTo whole (context_before s) place ((text ++ number) ++ rest) (at p item ∷ []) (Numbered (Even motion) gaps.Straight 0)
    (place + length (text ++ number)) rest)
    stands
    (ReadsTo-at refl (sym (append_assoc text number rest)) refl (ReadsTo-append r.reads last))

decided_before : {s : Start} {place : ℕ} {text rest : List ℕ} {items : List Placed} (whole : Bool) → IsDecided whole rest →
    IsCommand s place text rest items → IsDecided whole (text ++ rest)
decided_before {text = []} whole d h = d
decided_before {text = b ∷ text} {rest = rest} whole d h = decided_behind whole b (text ++ rest)

pub command_reads : {s : Start} {place : ℕ} {text rest : List ℕ} {items : List Placed} (whole : Bool) → IsDecided whole rest →
    IsCommand s place text rest items →
    ReadsTo whole (context_before s) place (text ++ rest) items Frame (place + length text) rest
command_reads {s = s} whole d
    (without_pairs {part = part} {place = place} {from = from} {text = text} {rest = rest} {item = item} begun w ends) =
    let r = begun_read whole place d begun in
    let last : ReadsTo whole (context_of part r.n) (place + length text) rest
    (at (item_place (context_of part r.n) (place + length text)) item ∷ []) Frame (place + length text) rest =
    begins item 0 Frame (whole_read whole part item r.n rest d w ends) (ReadsTo-at (omega arith) refl refl here) in
    subst (λ (p : ℕ). ReadsTo whole (context_before s) place (text ++ rest) (at p item ∷ []) Frame (place + length text) rest)
    (whole_place part item r.n from place text w r.counts) (ReadsTo-append r.reads last)
command_reads whole d (pair {place = place} {text = text} {more = more} {rest = rest} p c) =
    let size : place + length text + length more ≡ place + length (text ++ more) = omega (arith, length-append text more) in
    ReadsTo-at refl (sym (append_assoc text more rest)) size
    (ReadsTo-append (pair_read whole place (decided_before whole d c) p) (command_reads whole d c))
command_reads whole d (behind_pairs {motion = motion} {gap = gap} {place = place} {text = text} {rest = rest} begun h ends) =
    let r = begun_read whole place d begun in
    ReadsTo-append r.reads (passes 0 Frame (pairs_end whole motion gap r.n rest d h ends) (ReadsTo-at (omega arith) refl refl here))

pub separator_read : (whole : Bool) (b : ℕ) (rest : List ℕ) → (kind_of b ≡ kinds.White) ⊎ (kind_of b ≡ kinds.Semicolon) →
    first_of whole Frame (b ∷ rest) ≡ Passes 1 Frame
unfolding first_of at_frame
separator_read whole b rest (inl e) = ap (λ k. by_kind k b rest) e
separator_read whole b rest (inr e) = ap (λ k. by_kind k b rest) e

semicolon_read : (whole : Bool) (rest : List ℕ) → first_of whole Frame (59 ∷ rest) ≡ Passes 1 Frame
unfolding kind_of
semicolon_read whole rest = separator_read whole 59 rest (inr refl)

-- a command that its own semicolon ends
pub ended_reads : {place : ℕ} {text rest : List ℕ} {items : List Placed} (whole : Bool) → IsCommand AtLetters place text (59 ∷ rest) items →
    ReadsTo whole Frame place ((text ++ 59 ∷ []) ++ rest) items Frame (place + length (text ++ 59 ∷ [])) rest
ended_reads {place = place} {text = text} {rest = rest} {items = items} whole h =
    let size : place + length text + 1 ≡ place + length (text ++ 59 ∷ []) = omega (arith, length-append text (59 ∷ [])) in
    let all : ReadsTo whole Frame place (text ++ 59 ∷ rest) (items ++ []) Frame (place + length text + 1) rest =
    ReadsTo-append (command_reads whole (decided_behind whole 59 rest) h) (passes 1 Frame (semicolon_read whole rest) here) in
    ReadsTo-at refl (sym (append_assoc text (59 ∷ []) rest)) size
    (subst
    (λ (xs : List Placed). ReadsTo whole Frame place (text ++ 59 ∷ rest) xs Frame (place + length text + 1) rest) (append-nil items) all)

pub frame_unit_reads : {place : ℕ} {text rest : List ℕ} {items : List Placed} (whole : Bool) → IsDecided whole rest →
    IsFrameUnit place text rest items →
    ReadsTo whole Frame place (text ++ rest) items Frame (place + length text) rest
frame_unit_reads whole d (separator {b = b} {rest = rest} e) = passes 1 Frame (separator_read whole b rest e) here
frame_unit_reads whole d (command h) = command_reads whole d h
frame_unit_reads whole d (ended_command h) = ended_reads whole h

reset_read : (whole : Bool) (rest : List ℕ) → first_of whole Frame (escape ∷ 69 ∷ rest) ≡ Begins Reset 2 Pcl
unfolding first_of at_frame kind_of
reset_read whole rest = refl

percent_read : (whole : Bool) (bytes : List ℕ) → first_of whole Frame (escape ∷ 37 ∷ bytes) ≡ exit_or (language_in bytes) bytes
unfolding first_of at_frame kind_of
percent_read whole bytes = refl

language_read : (whole : Bool) (bytes : List ℕ) → (BeginsExit bytes → ⊥) → first_of whole Frame (escape ∷ 37 ∷ bytes) ≡ language_in bytes
language_read whole bytes h = percent_read whole bytes ∙ cond-false (begins_with exit_field bytes) _ _ (no_exit bytes h)

exit_read : (whole : Bool) (rest : List ℕ) → first_of whole Frame (exit_text ++ rest) ≡ Begins ExitLanguage 9 Pjl
unfolding first_of at_frame kind_of
exit_read whole rest = refl

pub exit_reads : {place : ℕ} (whole : Bool) (rest : List ℕ) →
    ReadsTo whole Frame place (exit_text ++ rest) (at place ExitLanguage ∷ []) Pjl (place + length exit_text) rest
exit_reads whole rest = begins ExitLanguage 9 Pjl (exit_read whole rest) here

pub leaves_reads : {place : ℕ} {text : List ℕ} {items : List Placed} (whole : Bool) (rest : List ℕ) → LeavesFrame place text items →
    ReadsTo whole Frame place (text ++ rest) items Pcl (place + length text) rest
leaves_reads whole rest reset = begins Reset 2 Pcl (reset_read whole rest) here
leaves_reads whole rest (leave_frame {place = place} {field = field} {amount = amount} {handover = handover} f h) =
    let size : place + (length field + 3) ≡ place + length (escape ∷ 37 ∷ (field ++ 65 ∷ [])) =
    omega (arith, length-append field (65 ∷ [])) in
    ReadsTo-at refl (sym (ap (λ l. escape ∷ 37 ∷ l) (append_assoc field (65 ∷ []) rest))) refl
    (begins (LeaveFrame handover) (length field + 3) Pcl
    (language_read whole (field ++ 65 ∷ rest) (no_exit_field field amount 65 rest f (omega arith) (λ e. absurd (omega (arith, e))))
    ∙ leave_read field amount rest handover f h)
    (ReadsTo-at refl (sym (drop_field field 65 rest)) size here))

-- ---- faults

causes_at : (c : Context) (rest : List ℕ) (f : First) (cause : LexCause) → f ≡ Faulty cause → IsFault true f c rest cause
causes_at c rest f cause e = subst (λ (g : First). IsFault true g c rest cause) (sym e) refl

letters_wrong : (k : Kind) (m : Mnemonic) (n : ℕ) (l : List ℕ) → IsWrong (Word m) k → letters_by k true m n l ≡ Faulty Syntax
letters_wrong kinds.Comma m n l h = refl
letters_wrong kinds.Other m n l h = refl
letters_wrong kinds.White m n l h = absurd h
letters_wrong kinds.Semicolon m n l h = absurd h
letters_wrong kinds.Letter m n l h = absurd h
letters_wrong kinds.Escape m n l h = absurd h
letters_wrong kinds.Sign m n l h = absurd h
letters_wrong kinds.Figure m n l h = absurd h

numbers_wrong : (k : Kind) (x : Numbers) (gap : Gap) (n : ℕ) (l : List ℕ) → IsWrong (Number x gap) k →
    numbers_by k true x gap n l ≡ Faulty Syntax
numbers_wrong kinds.Figure x gaps.Straight n l h = refl
numbers_wrong kinds.Other x gap n l h = refl
numbers_wrong kinds.Comma x gaps.Comma n l h = refl
numbers_wrong kinds.Semicolon x gaps.Comma n l h = refl
numbers_wrong kinds.Letter x gaps.Comma n l h = refl
numbers_wrong kinds.Escape x gaps.Comma n l h = refl
numbers_wrong kinds.Comma x gaps.Straight n l h = absurd h
numbers_wrong kinds.Comma x gaps.Spaced n l h = absurd h
numbers_wrong kinds.Semicolon x gaps.Straight n l h = absurd h
numbers_wrong kinds.Semicolon x gaps.Spaced n l h = absurd h
numbers_wrong kinds.Letter x gaps.Straight n l h = absurd h
numbers_wrong kinds.Letter x gaps.Spaced n l h = absurd h
numbers_wrong kinds.Escape x gaps.Straight n l h = absurd h
numbers_wrong kinds.Escape x gaps.Spaced n l h = absurd h
numbers_wrong kinds.Figure x gaps.Spaced n l h = absurd h
numbers_wrong kinds.Figure x gaps.Comma n l h = absurd h
numbers_wrong kinds.White x gaps.Straight n l h = absurd h
numbers_wrong kinds.White x gaps.Spaced n l h = absurd h
numbers_wrong kinds.White x gaps.Comma n l h = absurd h
numbers_wrong kinds.Sign x gaps.Straight n l h = absurd h
numbers_wrong kinds.Sign x gaps.Spaced n l h = absurd h
numbers_wrong kinds.Sign x gaps.Comma n l h = absurd h

wrong_read : (part : Part) (n b : ℕ) (rest : List ℕ) → IsWrong part (kind_of b) →
    first_of true (context_of part n) (b ∷ rest) ≡ Faulty Syntax
unfolding first_of after_letters after_numbers
wrong_read (Word m) n b rest h = letters_wrong (kind_of b) m n (b ∷ rest) h
wrong_read (Number x gap) n b rest h = numbers_wrong (kind_of b) x gap n (b ∷ rest) h

-- a byte that begins a number
word_starts : (m : Mnemonic) (k : Kind) → BeginsNumber (Word m) k → IsStart k
word_starts m kinds.Sign h = tt
word_starts m kinds.Figure h = tt
word_starts m kinds.White h = h
word_starts m kinds.Comma h = h
word_starts m kinds.Semicolon h = h
word_starts m kinds.Letter h = h
word_starts m kinds.Escape h = h
word_starts m kinds.Other h = h

number_starts : (x : Numbers) (gap : Gap) (k : Kind) → BeginsNumber (Number x gap) k → IsStart k × (gap ≡ gaps.Straight → k ≡ kinds.Sign)
number_starts x gap kinds.Sign h = (tt, λ _. refl)
number_starts x gaps.Spaced kinds.Figure h = (tt, λ e. absurd cc)
number_starts x gaps.Comma kinds.Figure h = (tt, λ e. absurd cc)
number_starts x gaps.Straight kinds.Figure h = absurd h
number_starts x gap kinds.White h = absurd h
number_starts x gap kinds.Comma h = absurd h
number_starts x gap kinds.Semicolon h = absurd h
number_starts x gap kinds.Letter h = absurd h
number_starts x gap kinds.Escape h = absurd h
number_starts x gap kinds.Other h = absurd h

-- the number that is due
abbrev due : Part → ℕ → List ℕ → First
due (Word m) n l = first_number true m n l
due (Number x gap) n l = further true x l

due_read : (part : Part) (n b : ℕ) (rest : List ℕ) → BeginsNumber part (kind_of b) →
    first_of true (context_of part n) (b ∷ rest) ≡ due part n (b ∷ rest)
unfolding first_of after_letters after_numbers
due_read (Word m) n b rest h = letters_number true (kind_of b) m n (b ∷ rest) (word_starts m (kind_of b) h)
due_read (Number x gap) n b rest h = let s = number_starts x gap (kind_of b) h in numbers_number true (kind_of b) x gap n (b ∷ rest) s.0 s.1

full_due : (part : Part) (n : ℕ) (l : List ℕ) → IsFull part → due part n l ≡ Faulty BadNumber
full_due (Word mnemonics.Initialize) n l h = refl
full_due (Word (mnemonics.Sets s)) n l h = absurd h
full_due (Word (mnemonics.Moves motion)) n l h = absurd h
full_due (Number (Single s a) gap) n l h = refl
full_due (Number (Odd motion x) gap) n l h = absurd h
full_due (Number (Even motion) gap) n l h = absurd h

-- a number's fault is the command's
abbrev IsMaker : {A : Type 0} → (Numeral A → First) → Type 0
IsMaker make = (make Cut ≡ Open) × ((cause : LexCause) → make (Wrong cause) ≡ Faulty cause)

made_fault : {A : Type 0} (make : Numeral A → First) (part : Part) (n b : ℕ) (rest : List ℕ) (r : Numeral A) (cause : LexCause) →
    IsMaker make → CausesNumeral r cause → IsFault true (make r) (context_of part n) (b ∷ rest) cause
made_fault make part n b rest Cut cause m h =
    subst (λ (f : First). IsFault true f (context_of part n) (b ∷ rest) cause) (sym m.0) (cut part cause h)
  where
    cut : (part : Part) (cause : LexCause) → cause ≡ Truncated → IsFault true Open (context_of part n) (b ∷ rest) cause
    cut (Word w) cause h = ap Some (sym h)
    cut (Number x gap) cause h = ap Some (sym h)
made_fault make part n b rest (Wrong c) cause m h =
    subst (λ (f : First). IsFault true f (context_of part n) (b ∷ rest) cause) (sym (m.1 c)) h
made_fault make part n b rest (Read x len) cause m h = absurd h

coordinate_fault : (part : Part) (n b : ℕ) (rest : List ℕ) (cause : LexCause) → TakesCoordinate part →
    CausesNumeral (numeral_at coordinate_of true (b ∷ rest)) cause →
    IsFault true (due part n (b ∷ rest)) (context_of part n) (b ∷ rest) cause
coordinate_fault (Word mnemonics.Initialize) n b rest cause h c = absurd h
coordinate_fault (Word (mnemonics.Sets s)) n b rest cause h c = absurd h
coordinate_fault (Word (mnemonics.Moves motion)) n b rest cause h c =
    made_fault (first_of_pair n motion) (Word (mnemonics.Moves motion)) n b rest
    (numeral_at coordinate_of true (b ∷ rest)) cause (refl, λ _. refl) c
coordinate_fault (Number (Single s a) gap) n b rest cause h c = absurd h
coordinate_fault (Number (Odd motion x) gap) n b rest cause h c =
    made_fault (second_of_pair motion x) (Number (Odd motion x) gap) n b rest
    (numeral_at coordinate_of true (b ∷ rest)) cause (refl, λ _. refl) c
coordinate_fault (Number (Even motion) gap) n b rest cause h c =
    made_fault (first_of_pair 0 motion) (Number (Even motion) gap) n b rest
    (numeral_at coordinate_of true (b ∷ rest)) cause (refl, λ _. refl) c

odd_ended : (motion : Motion) (x : ℤ) (gap : Gap) → HasNoComma gap → ended_by (Odd motion x) gap ≡ Faulty BadNumber
odd_ended motion x gaps.Straight h = refl
odd_ended motion x gaps.Spaced h = refl
odd_ended motion x gaps.Comma h = absurd h

odd_read : (motion : Motion) (x : ℤ) (gap : Gap) (n b : ℕ) (rest : List ℕ) → HasNoComma gap → IsEnd (kind_of b) →
    first_of true (Numbered (Odd motion x) gap n) (b ∷ rest) ≡ Faulty BadNumber
unfolding first_of after_numbers
odd_read motion x gap n b rest h ends = numbers_end true (kind_of b) (Odd motion x) gap n (b ∷ rest) ends ∙ odd_ended motion x gap h

unfinished_read : (part : Part) (n : ℕ) → IsUnfinished part →
    IsFault true (first_of true (context_of part n) []) (context_of part n) [] Truncated
unfolding first_of after_letters after_numbers
unfinished_read (Word m) n h = absurd h
unfinished_read (Number x gaps.Comma) n h = refl
unfinished_read (Number (Odd motion x) gaps.Straight) n h = refl
unfinished_read (Number (Odd motion x) gaps.Spaced) n h = refl
unfinished_read (Number (Single s a) gaps.Straight) n h = absurd h
unfinished_read (Number (Single s a) gaps.Spaced) n h = absurd h
unfinished_read (Number (Even motion) gaps.Straight) n h = absurd h
unfinished_read (Number (Even motion) gaps.Spaced) n h = absurd h

pub part_fault : (part : Part) (n : ℕ) (bytes : List ℕ) (cause : LexCause) → PartFault part bytes cause →
    IsFault true (first_of true (context_of part n) bytes) (context_of part n) bytes cause
part_fault _ n _ _ (wrong_byte {part = part} {b = b} {rest = rest} h) =
    causes_at (context_of part n) (b ∷ rest) _ Syntax (wrong_read part n b rest h)
part_fault _ n _ _ (too_many {part = part} {b = b} {rest = rest} h full) =
    causes_at (context_of part n) (b ∷ rest) _ BadNumber (due_read part n b rest h ∙ full_due part n (b ∷ rest) full)
part_fault _ n _ _ (odd {motion = motion} {x = x} {gap = gap} {b = b} {rest = rest} h ends) =
    causes_at (Numbered (Odd motion x) gap n) (b ∷ rest) _ BadNumber (odd_read motion x gap n b rest h ends)
part_fault _ n _ _ (cut_part {part = part} h) = unfinished_read part n h
part_fault _ n _ _ (no_setting {setting = s} {b = b} {rest = rest} {cause = cause} h f) =
    subst (λ (g : First). IsFault true g (Letters (mnemonics.Sets s) n) (b ∷ rest) cause)
    (sym (due_read (Word (mnemonics.Sets s)) n b rest h))
    (made_fault (single n (λ a. Single s a)) (Word (mnemonics.Sets s)) n b rest (numeral_at setting_of true (b ∷ rest)) cause
    (refl, λ _. refl) (numeral_faulty setting_of IsSetting settings (b ∷ rest) cause f))
part_fault _ n _ _ (no_coordinate {part = part} {b = b} {rest = rest} {cause = cause} h takes f) =
    subst (λ (g : First). IsFault true g (context_of part n) (b ∷ rest) cause) (sym (due_read part n b rest h))
    (coordinate_fault part n b rest cause takes (numeral_faulty coordinate_of IsCoordinate coordinates (b ∷ rest) cause f))

-- where a fault of a frame is read
pub record FaultRead (s : Start) (place from : ℕ) (bytes : List ℕ) (cause : LexCause) : Type 0 where
  pub context : Context
  pub end : ℕ
  pub rest : List ℕ
  pub reads : ReadsTo true (context_before s) place bytes [] context end rest
  pub stands : place + from ≡ item_place context end
  pub fault : IsFault true (first_of true context rest) context rest cause

part_place : (part : Part) (n from start : ℕ) (text : List ℕ) → Counted part n from text →
    start + from ≡ item_place (context_of part n) (start + length text)
part_place (Word m) n from start text count = omega (arith, count)
part_place (Number (Single s a) gap) n from start text count = omega (arith, count)
part_place (Number (Odd motion x) gap) n from start text count = omega (arith, count)
part_place (Number (Even motion) gap) n from start text count = omega (arith, count)

at_once : (place : ℕ) (bytes : List ℕ) (cause : LexCause) → IsFault true (first_of true Frame bytes) Frame bytes cause →
    FaultRead AtLetters place 0 bytes cause
at_once place bytes cause h = record { context = Frame; end = place; rest = bytes; reads = here; stands = omega arith; fault = h }

none_read : (k : Kind) (b : ℕ) (rest : List ℕ) → BeginsNone k → by_kind k b rest ≡ Faulty Syntax
none_read kinds.Comma b rest h = refl
none_read kinds.Sign b rest h = refl
none_read kinds.Figure b rest h = refl
none_read kinds.Other b rest h = refl
none_read kinds.White b rest h = absurd h
none_read kinds.Semicolon b rest h = absurd h
none_read kinds.Letter b rest h = absurd h
none_read kinds.Escape b rest h = absurd h

no_second : (k : Kind) (a b : ℕ) → (k ≡ kinds.Letter → ⊥) → second_letter k a b ≡ Faulty Syntax
no_second kinds.Letter a b h = absurd (h refl)
no_second kinds.White a b h = refl
no_second kinds.Comma a b h = refl
no_second kinds.Semicolon a b h = refl
no_second kinds.Escape a b h = refl
no_second kinds.Sign a b h = refl
no_second kinds.Figure a b h = refl
no_second kinds.Other a b h = refl

leave_fault : (bytes : List ℕ) (f : First) (cause : LexCause) → Causes f cause → IsFault true f Frame (escape ∷ 37 ∷ bytes) cause
leave_fault bytes Open cause h = ap Some (sym h)
leave_fault bytes (Passes len next) cause h = absurd h
leave_fault bytes (Begins item len next) cause h = absurd h
leave_fault bytes (Faulty c) cause h = h

pub fault_read : {s : Start} {from : ℕ} {bytes : List ℕ} {cause : LexCause} (place : ℕ) → FrameFault s from bytes cause →
    FaultRead s place from bytes cause
unfolding first_of at_frame kind_of
fault_read place frame_ends = at_once place [] _ refl
fault_read place (no_command {b = b} {rest = rest} h) =
    at_once place (b ∷ rest) Syntax (causes_at Frame (b ∷ rest) _ Syntax (none_read (kind_of b) b rest h))
fault_read place (cut_letter {a = a} e) =
    at_once place (a ∷ []) Truncated
    (subst (λ (f : First). IsFault true f Frame (a ∷ []) Truncated) (sym (ap (λ k. by_kind k a []) e)) refl)
fault_read place (one_letter {a = a} {b = b} {rest = rest} e h) =
    at_once place (a ∷ b ∷ rest) Syntax
    (causes_at Frame (a ∷ b ∷ rest) _ Syntax (ap (λ k. by_kind k a (b ∷ rest)) e ∙ no_second (kind_of b) a b h))
fault_read place (unknown_letters {a = a} {b = b} {rest = rest} e f h) =
    at_once place (a ∷ b ∷ rest) (NotInProfile (names.Pair (capital a) (capital b)))
    (causes_at Frame (a ∷ b ∷ rest) _ _
    (ap (λ k. by_kind k a (b ∷ rest)) e ∙ ap (λ k. second_letter k a b) f ∙ ap (λ o. reader.in_command o (capital a) (capital b)) h))
fault_read place cut_frame_escape = at_once place (escape ∷ []) Truncated refl
fault_read place (other_sequence {b = b} {rest = rest} h k) =
    at_once place (escape ∷ b ∷ rest) (NotInProfile (names.Byte b))
    (causes_at Frame (escape ∷ b ∷ rest) _ _
    (cond-false (b == 69) _ _ (by_test (b == 69) (λ t. h (eqb-true b 69 t)))
    ∙ cond-false (b == 37) _ _ (by_test (b == 37) (λ t. k (eqb-true b 37 t)))))
fault_read place (in_language {bytes = bytes} {cause = cause} k h) =
    at_once place (escape ∷ 37 ∷ bytes) cause
    (subst (λ (f : First). IsFault true f Frame (escape ∷ 37 ∷ bytes) cause) (sym (language_read true bytes k))
    (leave_fault bytes (language_in bytes) cause (leave_causes bytes cause h)))
fault_read place (faults.in_command {part = part} {from = from} {text = text} {bytes = rest} {cause = cause} begun h) =
    let r = begun_read true place tt begun in
    record {
      context = context_of part r.n;
      end = place + length text;
      rest = rest;
      reads = r.reads;
      stands = part_place part r.n from place text r.counts;
      fault = part_fault part r.n rest cause h;
    }
