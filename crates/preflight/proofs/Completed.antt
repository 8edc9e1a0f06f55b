-- An item to which open bytes may go on takes more bytes than its place is back, and than are counted behind it.
use Rattle.std.proofs.Common.{◌≡◌, ℕ, ◌+◌, ◌<◌, List, [], ◌∷◌, ◌++◌, drop, length, true, Option, None, Some, refl, sym, subst, arith}
use Rattle.std.specs.Prelude.{ℤ, ◌==◌, nat_lt}
use Rattle.std.proofs.lemmas.Bool.{cond_both}
use Rattle.std.proofs.lemmas.List.{length-drop}
use Rattle.pcl_lexer.specs.declared.frame.Gap.{Gap}
use Rattle.pcl_lexer.specs.declared.frame.Gap.TheVariants as gaps
use Rattle.pcl_lexer.specs.declared.frame.Kind.{Kind}
use Rattle.pcl_lexer.specs.declared.frame.Kind.TheVariants as kinds
use Rattle.pcl_items.specs.declared.frame.Mnemonic.{Mnemonic}
use Rattle.pcl_items.specs.declared.frame.Mnemonic.TheVariants as mnemonics
use Rattle.pcl_items.specs.declared.frame.Motion.{Motion}
use Rattle.pcl_items.specs.declared.frame.Setting.{Setting}
use Rattle.pcl_lexer.specs.Lexing.Contexts.{Context, Pcl, Sequence, Frame, Letters, Numbered, Pjl, Numbers, Single, Odd, Even, counted}
use Rattle.pcl_lexer.specs.Lexing.Contexts.{pending, item_place}
use Rattle.pcl_items.specs.PjlLines.Exit.{exit_field, begins_with}
use Rattle.pcl_lexer.specs.Escapes.Field.{Field, field_at, amount_of}
use Rattle.pcl_lexer.specs.Frames.Number.{coordinate_of, setting_of, Numeral, Cut, Wrong, Read, numeral_at}
use Rattle.pcl_lexer.specs.Frames.Reader.{left_by, by_language, after_language_field, language_in, in_command, second_letter, after_letter}
use Rattle.pcl_lexer.specs.Frames.Reader.{after_frame_escape, by_kind, at_frame, single, first_of_pair, second_of_pair, first_number}
use Rattle.pcl_lexer.specs.Frames.Reader.{letters_by, after_letters, further, ended_by, ended, with_comma, by_figure, numbers_by}
use Rattle.pcl_lexer.specs.Frames.Reader.{after_numbers}
use Rattle.pcl_items.specs.Items.{Entry}
use Rattle.pcl_lexer.specs.Frames.Kinds.{kind_of}
use Rattle.pcl_items.specs.Frames.Mnemonics.{capital, mnemonic_at}
use Rattle.pcl_items.specs.PjlLines.First as lines
use Rattle.pcl_items.specs.PjlLines.Text.{Bare, Remark, JobBegins, JobEnds, EnterPcl}
use Rattle.pcl_lexer.specs.Escapes.Ungrouped.{leave_at}
use Rattle.pcl_lexer.specs.Reader.{First, Open, Passes, Begins, Faulty, is_termination, between_units, by_pjl, first_of}
use Rattle.pcl_items.specs.Escapes.Value.{Amount}
use Rattle.pcl_lexer.proofs.Frames.Opening.{ended_open}
use Rattle.pcl_lexer.proofs.Lexing.Spans.{IsNumeralSpan, numeral-span, begins-taken, pcl_item, pcl_item_in}

abbrev Takes : Context → First → Type 0
Takes c Open = Unit {0}
Takes c (Passes len next) = Unit {0}
Takes c (Begins entry len next) = (place : ℕ) → item_place c place + counted next < place + len
Takes c (Faulty cause) = Unit {0}

by_item : (c : Context) (f : First) →
    ((entry : Entry) (len : ℕ) (next : Context) → f ≡ Begins entry len next → (place : ℕ) →
    item_place c place + counted next < place + len) →
    Takes c f
by_item c Open h = tt
by_item c (Passes len next) h = tt
by_item c (Begins entry len next) h = h entry len next refl
by_item c (Faulty cause) h = tt

-- behind an item nothing is counted
abbrev IsLast : First → Type 0
IsLast Open = Unit {0}
IsLast (Passes len next) = Unit {0}
IsLast (Begins entry len next) = counted next ≡ 0
IsLast (Faulty cause) = Unit {0}

-- ---- where no command of a frame is begun

bytes_taken : (c : Context) (bytes : List ℕ) (entry : Entry) (len : ℕ) (next : Context) → pending c ≡ 0 →
    first_of true c bytes ≡ Begins entry len next → 0 < len
bytes_taken c bytes entry len next none e = omega (arith, none, (begins-taken true c bytes entry len next e).less, length-drop len bytes)

last_takes : (c : Context) (bytes : List ℕ) → pending c ≡ 0 → ((place : ℕ) → item_place c place ≡ place) → IsLast (first_of true c bytes) →
    Takes c (first_of true c bytes)
last_takes c bytes none here_is h =
    by_item c (first_of true c bytes)
    (λ entry len next e place. omega (arith, subst IsLast e h, bytes_taken c bytes entry len next none e, here_is place))

pcl_takes : (bytes : List ℕ) → Takes Pcl (first_of true Pcl bytes)
pcl_takes bytes =
    by_item Pcl (first_of true Pcl bytes)
    (λ entry len next e place. let k = pcl_item true bytes entry len next e in omega (arith, k.0, k.1))

left_last : (o : Option Entry) (c len : ℕ) → IsLast (left_by o c len)
left_last None c len = tt
left_last (Some item) c len = refl

language_last : (o : Option Amount) (len c : ℕ) → IsLast (by_language o len c)
language_last None len c = tt
language_last (Some a) len c = cond_both (is_termination c) _ _ IsLast (λ _. left_last (leave_at a c) c (len + 3)) (λ _. tt)

field_last : (f : Field) (bytes : List ℕ) → IsLast (after_language_field f bytes)
field_last f [] = tt
field_last f (c ∷ bytes) = language_last (amount_of f) f.len c

leaving_last : (bytes : List ℕ) → IsLast (language_in bytes)
unfolding language_in
leaving_last bytes =
    cond_both (nat_lt 16 (field_at bytes).len) _ _ IsLast (λ _. tt) (λ _. field_last (field_at bytes) (drop (field_at bytes).len bytes))

escape_last : (bytes : List ℕ) → IsLast (after_frame_escape bytes)
escape_last [] = tt
escape_last (b ∷ bytes) =
    cond_both (b == 69) _ _ IsLast (λ _. refl) (λ _.
    cond_both (b == 37) _ _ IsLast
    (λ _. cond_both (begins_with exit_field bytes) _ _ IsLast (λ _. refl) (λ _. leaving_last bytes)) (λ _. tt))

letter_last : (a : ℕ) (bytes : List ℕ) → IsLast (after_letter a bytes)
letter_last a [] = tt
letter_last a (b ∷ bytes) = by_second (kind_of b)
  where
    by_mnemonic : (o : Option Mnemonic) → IsLast (in_command o (capital a) (capital b))
    by_mnemonic None = tt
    by_mnemonic (Some m) = tt

    by_second : (k : Kind) → IsLast (second_letter k a b)
    by_second kinds.Letter = by_mnemonic (mnemonic_at (capital a) (capital b))
    by_second kinds.White = tt
    by_second kinds.Comma = tt
    by_second kinds.Semicolon = tt
    by_second kinds.Escape = tt
    by_second kinds.Sign = tt
    by_second kinds.Figure = tt
    by_second kinds.Other = tt

kind_last : (k : Kind) (b : ℕ) (bytes : List ℕ) → IsLast (by_kind k b bytes)
kind_last kinds.Letter b bytes = letter_last b bytes
kind_last kinds.Escape b bytes = escape_last bytes
kind_last kinds.White b bytes = tt
kind_last kinds.Comma b bytes = tt
kind_last kinds.Semicolon b bytes = tt
kind_last kinds.Sign b bytes = tt
kind_last kinds.Figure b bytes = tt
kind_last kinds.Other b bytes = tt

frame_last : (bytes : List ℕ) → IsLast (at_frame bytes)
unfolding at_frame
frame_last [] = tt
frame_last (b ∷ bytes) = kind_last (kind_of b) b bytes

line_last : (f : lines.FirstPjl) → IsLast (by_pjl f)
line_last lines.Open = tt
line_last (lines.Begins Bare len) = refl
line_last (lines.Begins (Remark text) len) = refl
line_last (lines.Begins (JobBegins text) len) = refl
line_last (lines.Begins (JobEnds text) len) = refl
line_last (lines.Begins EnterPcl len) = refl
line_last (lines.Faulty cause) = tt

pcl_last : (f : First) (b : ℕ) (bytes : List ℕ) → first_of true Pcl (b ∷ bytes) ≡ f → IsLast f
pcl_last Open b bytes e = tt
pcl_last (Passes len next) b bytes e = tt
pcl_last (Begins entry len next) b bytes e = (pcl_item true (b ∷ bytes) entry len next e).1
pcl_last (Faulty cause) b bytes e = tt

pjl_last : (bytes : List ℕ) → IsLast (first_of true Pjl bytes)
unfolding first_of
pjl_last [] = tt
pjl_last (b ∷ bytes) =
    cond_both (b == 64) _ _ IsLast (λ _. line_last (lines.at_pjl (b ∷ bytes))) (λ _. pcl_last (between_units b bytes) b bytes refl)

-- ---- behind the letters of a command

single_takes : (c : Context) (n : ℕ) (s : Setting) (r : Numeral ℕ) → Takes c (single n (λ a. Single s a) r)
single_takes c n s Cut = tt
single_takes c n s (Wrong cause) = tt
single_takes c n s (Read a len) = tt

pair_takes : (c : Context) (n : ℕ) (motion : Motion) (r : Numeral ℤ) → Takes c (first_of_pair n motion r)
pair_takes c n motion Cut = tt
pair_takes c n motion (Wrong cause) = tt
pair_takes c n motion (Read x len) = tt

number_takes : (m : Mnemonic) (n : ℕ) (bytes : List ℕ) → Takes (Letters m n) (first_number true m n bytes)
number_takes mnemonics.Initialize n bytes = tt
number_takes (mnemonics.Sets s) n bytes = single_takes (Letters (mnemonics.Sets s) n) n s (numeral_at setting_of true bytes)
number_takes (mnemonics.Moves motion) n bytes =
    pair_takes (Letters (mnemonics.Moves motion) n) n motion (numeral_at coordinate_of true bytes)

letters_take : (k : Kind) (m : Mnemonic) (n : ℕ) (bytes longer : List ℕ) → letters_by k true m n bytes ≡ Open →
    Takes (Letters m n) (letters_by k true m n longer)
letters_take kinds.White m n bytes longer e = tt
letters_take kinds.Semicolon m n bytes longer e = absurd cc
letters_take kinds.Letter m n bytes longer e = absurd cc
letters_take kinds.Escape m n bytes longer e = absurd cc
letters_take kinds.Sign m n bytes longer e = number_takes m n longer
letters_take kinds.Figure m n bytes longer e = number_takes m n longer
letters_take kinds.Comma m n bytes longer e = tt
letters_take kinds.Other m n bytes longer e = tt

-- ---- behind numbers

second_takes : (gap : Gap) (n : ℕ) (motion : Motion) (x : ℤ) (m : ℕ) (r : Numeral ℤ) → IsNumeralSpan m r →
    Takes (Numbered (Odd motion x) gap n) (second_of_pair motion x r)
second_takes gap n motion x m Cut h = tt
second_takes gap n motion x m (Wrong cause) h = tt
second_takes gap n motion x m (Read y len) h = λ place. omega (arith, h.0)

further_takes : (x : Numbers) (gap : Gap) (n : ℕ) (bytes : List ℕ) → Takes (Numbered x gap n) (further true x bytes)
further_takes (Single s a) gap n bytes = tt
further_takes (Odd motion x) gap n bytes =
    second_takes gap n motion x (length bytes) (numeral_at coordinate_of true bytes) (numeral-span coordinate_of true bytes)
further_takes (Even motion) gap n bytes = pair_takes (Numbered (Even motion) gap n) 0 motion (numeral_at coordinate_of true bytes)

figure_takes : (x : Numbers) (gap : Gap) (n : ℕ) (bytes : List ℕ) → Takes (Numbered x gap n) (by_figure true x gap bytes)
figure_takes x gaps.Straight n bytes = tt
figure_takes x gaps.Spaced n bytes = further_takes x gaps.Spaced n bytes
figure_takes x gaps.Comma n bytes = further_takes x gaps.Comma n bytes

comma_takes : (x : Numbers) (gap : Gap) (n : ℕ) → Takes (Numbered x gap n) (with_comma x gap n)
comma_takes x gaps.Comma n = tt
comma_takes x gaps.Straight n = tt
comma_takes x gaps.Spaced n = tt

-- where the end of the bytes ends no command, no byte does
ended_takes : (x : Numbers) (gap : Gap) (n : ℕ) → ended x gap ≡ Open → Takes (Numbered x gap n) (ended_by x gap)
ended_takes x gaps.Comma n e = tt
ended_takes (Single s a) gaps.Straight n e = absurd cc
ended_takes (Single s a) gaps.Spaced n e = absurd cc
ended_takes (Odd motion x) gaps.Straight n e = tt
ended_takes (Odd motion x) gaps.Spaced n e = tt
ended_takes (Even motion) gaps.Straight n e = tt
ended_takes (Even motion) gaps.Spaced n e = tt

numbers_take : (k : Kind) (x : Numbers) (gap : Gap) (n : ℕ) (bytes : List ℕ) → Takes (Numbered x gap n) (ended_by x gap) →
    Takes (Numbered x gap n) (numbers_by k true x gap n bytes)
numbers_take kinds.White x gap n bytes h = tt
numbers_take kinds.Comma x gap n bytes h = comma_takes x gap n
numbers_take kinds.Semicolon x gap n bytes h = h
numbers_take kinds.Letter x gap n bytes h = h
numbers_take kinds.Escape x gap n bytes h = h
numbers_take kinds.Sign x gap n bytes h = further_takes x gap n bytes
numbers_take kinds.Figure x gap n bytes h = figure_takes x gap n bytes
numbers_take kinds.Other x gap n bytes h = tt

from_end : (x : Numbers) (gap : Gap) (n : ℕ) (bytes : List ℕ) → ended x gap ≡ Open →
    Takes (Numbered x gap n) (after_numbers true x gap n bytes)
unfolding after_numbers
from_end x gap n [] e = subst (Takes (Numbered x gap n)) (sym e) tt
from_end x gap n (b ∷ bytes) e = numbers_take (kind_of b) x gap n (b ∷ bytes) (ended_takes x gap n e)

from_number : (k : Kind) (x : Numbers) (gap : Gap) (n : ℕ) (bytes longer : List ℕ) → numbers_by k true x gap n bytes ≡ Open →
    Takes (Numbered x gap n) (numbers_by k true x gap n longer)
from_number kinds.White x gap n bytes longer e = tt
from_number kinds.Comma x gap n bytes longer e = comma_takes x gap n
from_number kinds.Semicolon x gap n bytes longer e = absurd (ended_open x gap e)
from_number kinds.Letter x gap n bytes longer e = absurd (ended_open x gap e)
from_number kinds.Escape x gap n bytes longer e = absurd (ended_open x gap e)
from_number kinds.Sign x gap n bytes longer e = further_takes x gap n longer
from_number kinds.Figure x gap n bytes longer e = figure_takes x gap n longer
from_number kinds.Other x gap n bytes longer e = tt

-- ---- from each context

completed : (c : Context) (rest more : List ℕ) → first_of true c rest ≡ Open → Takes c (first_of true c (rest ++ more))
unfolding first_of after_letters after_numbers
completed Pcl rest more e = pcl_takes (rest ++ more)
completed (Sequence g) rest more e =
    by_item (Sequence g) (first_of true (Sequence g) (rest ++ more))
    (λ entry len next f place. let k = pcl_item_in true g (rest ++ more) entry len next f in omega (arith, k.0, k.1))
completed Pjl rest more e = last_takes Pjl (rest ++ more) refl (λ place. refl) (pjl_last (rest ++ more))
completed Frame rest more e = last_takes Frame (rest ++ more) refl (λ place. refl) (frame_last (rest ++ more))
completed (Letters m n) [] more e = absurd cc
completed (Letters m n) (b ∷ rest) more e = letters_take (kind_of b) m n (b ∷ rest) (b ∷ (rest ++ more)) e
completed (Numbered x gap n) [] more e = from_end x gap n more e
completed (Numbered x gap n) (b ∷ rest) more e = from_number (kind_of b) x gap n (b ∷ rest) (b ∷ (rest ++ more)) e

pub item_takes : (c : Context) (rest more : List ℕ) (entry : Entry) (len : ℕ) (next : Context) → first_of true c rest ≡ Open →
    first_of true c (rest ++ more) ≡ Begins entry len next → (place : ℕ) → item_place c place + counted next < place + len
item_takes c rest more entry len next e f = subst (Takes c) f (completed c rest more e)
