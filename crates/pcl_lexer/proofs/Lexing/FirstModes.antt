-- What is read in a mode is admitted there, and what follows it is in the mode behind it.
use Rattle.std.proofs.Common.{◌≡◌, ℕ, ◌+◌, ◌-◌, List, [], ◌∷◌, length, drop, Bool, false, Option, None, Some, refl, sym, ap, subst}
use Rattle.std.specs.Prelude.{ℤ, nat_lt, nat_le, ◌==◌, ◌||◌, ◌&&◌}
use Rattle.std.specs.Int.{is_in_range}
use Rattle.std.proofs.lemmas.Bool.{cond_both, cond-false}
use Rattle.pcl_items.specs.declared.pcl.command.Group.{Group}
use Rattle.pcl_items.specs.declared.pcl.command.Command.{Command}
use Rattle.pcl_items.specs.declared.pcl.command.DataCommand.{DataCommand}
use Rattle.pcl_items.specs.declared.item.Mode.{Mode}
use Rattle.pcl_items.specs.declared.item.Mode.TheVariants as modes
use Rattle.pcl_items.specs.declared.frame.Handover.{Handover}
use Rattle.pcl_lexer.specs.declared.frame.Kind.{Kind}
use Rattle.pcl_lexer.specs.declared.frame.Kind.TheVariants as kinds
use Rattle.pcl_items.specs.declared.frame.Motion.{Motion}
use Rattle.pcl_items.specs.declared.frame.Setting.{Setting}
use Rattle.pcl_items.specs.declared.frame.Mnemonic.{Mnemonic}
use Rattle.pcl_items.specs.declared.frame.Mnemonic.TheVariants as mnemonics
use Rattle.pcl_lexer.specs.declared.frame.Gap.{Gap}
use Rattle.pcl_lexer.specs.declared.frame.Gap.TheVariants as gaps
use Rattle.pcl_lexer.specs.Lexing.Contexts.{Context, Pcl, Sequence, Frame, Letters, Numbered, Pjl, Numbers, Single, Odd, Even}
use Rattle.pcl_items.specs.Modes.{follows, behind_pjl}
use Rattle.pcl_lexer.specs.Modes.{mode_of, between}
use Rattle.pcl_items.specs.PjlLines.Text.{PjlCommand, Bare, Remark, JobBegins, JobEnds, EnterPcl}
use Rattle.pcl_items.specs.PjlLines.First as lines
use Rattle.pcl_items.specs.PjlLines.Exit.{exit_field, begins_with}
use Rattle.pcl_lexer.specs.Frames.Kinds.{kind_of}
use Rattle.pcl_items.specs.Frames.Mnemonics.{capital, mnemonic_at}
use Rattle.pcl_items.specs.Escapes.Commands.{group_at, command_at, data_command_at}
use Rattle.pcl_items.specs.Escapes.Codes.{control_at, sequence_at}
use Rattle.pcl_items.specs.Escapes.Value.{Amount}
use Rattle.pcl_lexer.specs.Escapes.Field.{Field, field_at, amount_of}
use Rattle.pcl_items.specs.Items.{Entry, bare}
use Rattle.pcl_items.specs.Escapes.SetLetters.{is_set_letter}
use Rattle.pcl_lexer.specs.Escapes.Ungrouped.{is_three, font_at, handover_of, leaving, entering, leave_at, language_at, ungrouped_at}
use Rattle.pcl_lexer.specs.Escapes.Ungrouped.{count_of}
use Rattle.pcl_lexer.specs.Frames.Number.{coordinate_of, setting_of, Numeral, Cut, Wrong, Read, numeral_at}
use Rattle.pcl_lexer.specs.Frames.Reader.{left_by, by_language, after_language_field, language_in, in_command, second_letter, after_letter}
use Rattle.pcl_lexer.specs.Frames.Reader.{after_frame_escape, by_kind, at_frame, single, first_of_pair, second_of_pair, first_number}
use Rattle.pcl_lexer.specs.Frames.Reader.{letters_by, after_letters, further, ended_by, ended, with_comma, by_figure, numbers_by}
use Rattle.pcl_lexer.specs.Frames.Reader.{after_numbers}
use Rattle.pcl_lexer.specs.Reader.{First, Open, Passes, Begins, Faulty, behind, named, with_data, by_last_letter, by_other_letter}
use Rattle.pcl_lexer.specs.Reader.{by_last_byte, after_field, command_in, is_group_or_parameter, is_termination, behind_ungrouped}
use Rattle.pcl_lexer.specs.Reader.{ungrouped, by_termination, after_ungrouped_field, without_group, in_group, after_introducer}
use Rattle.pcl_lexer.specs.Reader.{after_parenthesis, by_character, after_escape, by_code, between_units, by_pjl, exit_or, first_of}

-- what may stand first in a mode
abbrev IsIn : Mode → First → Type 0
IsIn mode Open = Unit {0}
IsIn mode (Passes len next) = mode_of next ≡ mode
IsIn mode (Begins item len next) = follows mode item ≡ Some (mode_of next)
IsIn mode (Faulty cause) = Unit {0}

-- ---- mode PCL

-- mode PJL admits it too
abbrev InPcl : First → Type 0
InPcl Open = Unit {0}
InPcl (Passes len next) = ⊥
InPcl (Begins item len next) = (follows modes.Pcl item ≡ Some (mode_of next)) × (follows modes.Pjl item ≡ Some (mode_of next))
InPcl (Faulty cause) = Unit {0}

pcl_in : (f : First) → InPcl f → IsIn modes.Pcl f
pcl_in Open h = tt
pcl_in (Passes len next) h = absurd h
pcl_in (Begins item len next) h = h.0
pcl_in (Faulty cause) h = tt

pjl_in : (f : First) → InPcl f → IsIn modes.Pjl f
pjl_in Open h = tt
pjl_in (Passes len next) h = absurd h
pjl_in (Begins item len next) h = h.1
pjl_in (Faulty cause) h = tt

named_in : (o : Option Command) (g : Group) (c : ℕ) (a : Amount) (len : ℕ) (next : Context) → mode_of next ≡ modes.Pcl →
    InPcl (named o g c a len next)
named_in None g c a len next h = tt
named_in (Some command) g c a len next h = (ap Some (sym h), ap Some (sym h))

with_data_in : (d : DataCommand) (o : Option ℕ) (len : ℕ) (bytes : List ℕ) → InPcl (with_data d o len bytes)
with_data_in d None len bytes = tt
with_data_in d (Some n) len bytes = cond_both (nat_lt (length bytes) n) _ _ InPcl (λ _. tt) (λ _. (refl, refl))

last_letter_in : (o : Option DataCommand) (g : Group) (c : ℕ) (a : Amount) (len : ℕ) (bytes : List ℕ) →
    InPcl (by_last_letter o g c a len bytes)
last_letter_in None g c a len bytes = named_in (command_at g c) g c a len Pcl refl
last_letter_in (Some d) g c a len bytes = with_data_in d (count_of a) len bytes

other_letter_in : (o : Option DataCommand) (g : Group) (c : ℕ) (a : Amount) (len : ℕ) → InPcl (by_other_letter o g c a len)
other_letter_in None g c a len = named_in (command_at g c) g c a len (Sequence g) refl
other_letter_in (Some d) g c a len = tt

last_byte_in : (o : Option Amount) (g : Group) (len c : ℕ) (bytes : List ℕ) → InPcl (by_last_byte o g len c bytes)
last_byte_in None g len c bytes = tt
last_byte_in (Some a) g len c bytes =
    cond_both (is_group_or_parameter c) _ _ InPcl (λ _. other_letter_in (data_command_at g (c - 32)) g (c - 32) a (len + 1))
    (λ _. cond_both (is_termination c) _ _ InPcl (λ _. last_letter_in (data_command_at g c) g c a (len + 1) bytes) (λ _. tt))

field_in : (g : Group) (f : Field) (bytes : List ℕ) → InPcl (after_field g f bytes)
field_in g f [] = tt
field_in g f (c ∷ bytes) = last_byte_in (amount_of f) g f.len c bytes

command_in_pcl : (g : Group) (bytes : List ℕ) → InPcl (command_in g bytes)
unfolding command_in
command_in_pcl g bytes =
    cond_both (nat_lt 16 (field_at bytes).len) _ _ InPcl (λ _. tt) (λ _. field_in g (field_at bytes) (drop (field_at bytes).len bytes))

-- the items without a group
abbrev IsUngroupedIn : Option Entry → Type 0
IsUngroupedIn None = Unit {0}
IsUngroupedIn (Some item) =
    (follows modes.Pcl item ≡ Some (mode_of (behind_ungrouped item))) × (follows modes.Pjl item ≡ Some (mode_of (behind_ungrouped item)))

font_in : (a : Amount) (c : ℕ) → IsUngroupedIn (font_at a c)
font_in a c =
    cond_both (is_set_letter c) _ _ IsUngroupedIn (λ _. (refl, refl))
    (λ _. cond_both ((c == 64) && is_three a) _ _ IsUngroupedIn (λ _. (refl, refl)) (λ _. tt))

leaving_in : (o : Option Handover) → IsUngroupedIn (leaving o)
leaving_in None = tt
leaving_in (Some handover) = (refl, refl)

entering_in : (o : Option Handover) → IsUngroupedIn (entering o)
entering_in None = tt
entering_in (Some handover) = (refl, refl)

leave_in : (a : Amount) (c : ℕ) → IsUngroupedIn (leave_at a c)
leave_in a c = cond_both (c == 65) _ _ IsUngroupedIn (λ _. leaving_in (handover_of a)) (λ _. tt)

language_in_pcl : (a : Amount) (c : ℕ) → IsUngroupedIn (language_at a c)
language_in_pcl a c = cond_both (c == 66) _ _ IsUngroupedIn (λ _. entering_in (handover_of a)) (λ _. leave_in a c)

ungrouped_known : (i : ℕ) (a : Amount) (c : ℕ) → IsUngroupedIn (ungrouped_at i a c)
ungrouped_known i a c =
    cond_both (i == 40) _ _ IsUngroupedIn (λ _. font_in a c)
    (λ _. cond_both (i == 37) _ _ IsUngroupedIn (λ _. language_in_pcl a c) (λ _. tt))

ungrouped_in : (o : Option Entry) (i c len : ℕ) → IsUngroupedIn o → InPcl (ungrouped o i c len)
ungrouped_in None i c len h = tt
ungrouped_in (Some item) i c len h = h

termination_in : (o : Option Amount) (i len c : ℕ) → InPcl (by_termination o i len c)
termination_in None i len c = tt
termination_in (Some a) i len c =
    cond_both (is_termination c) _ _ InPcl (λ _. ungrouped_in (ungrouped_at i a c) i c (len + 3) (ungrouped_known i a c)) (λ _. tt)

ungrouped_field_in : (i : ℕ) (f : Field) (bytes : List ℕ) → InPcl (after_ungrouped_field i f bytes)
ungrouped_field_in i f [] = tt
ungrouped_field_in i f (c ∷ bytes) = termination_in (amount_of f) i f.len c

without_group_in : (i : ℕ) (bytes : List ℕ) → InPcl (without_group i bytes)
unfolding without_group
without_group_in i bytes =
    cond_both (nat_lt 16 (field_at bytes).len) _ _ InPcl (λ _. tt)
    (λ _. ungrouped_field_in i (field_at bytes) (drop (field_at bytes).len bytes))

behind_in : (n : ℕ) (f : First) → InPcl f → InPcl (behind n f)
behind_in n Open h = tt
behind_in n (Passes len next) h = h
behind_in n (Begins item len next) h = h
behind_in n (Faulty cause) h = tt

group_in : (o : Option Group) (i c : ℕ) (bytes : List ℕ) → InPcl (in_group o i c bytes)
group_in None i c bytes = tt
group_in (Some g) i c bytes = behind_in 3 (command_in g bytes) (command_in_pcl g bytes)

introducer_in : (i : ℕ) (bytes : List ℕ) → InPcl (after_introducer i bytes)
unfolding after_introducer
introducer_in i [] = tt
introducer_in i (c ∷ bytes) = cond_both (is_group_or_parameter c) _ _ InPcl (λ _. group_in (group_at i c) i c bytes) (λ _. tt)

parenthesis_in : (bytes : List ℕ) → InPcl (after_parenthesis bytes)
unfolding after_parenthesis
parenthesis_in [] = tt
parenthesis_in (c ∷ bytes) =
    cond_both (is_group_or_parameter c) _ _ InPcl (λ _. group_in (group_at 40 c) 40 c bytes) (λ _. without_group_in 40 (c ∷ bytes))

-- the universal exit, or something other
exit_in : (f : First) (bytes : List ℕ) → InPcl f → InPcl (exit_or f bytes)
exit_in f bytes h = cond_both (begins_with exit_field bytes) _ _ InPcl (λ _. (refl, refl)) (λ _. h)

-- what mode PCL admits and stays behind
abbrev IsPlain : Option Entry → Type 0
IsPlain None = Unit {0}
IsPlain (Some item) = (follows modes.Pcl item ≡ Some modes.Pcl) × (follows modes.Pjl item ≡ Some modes.Pcl)

controls : (code : ℕ) → IsPlain (control_at code)
controls code =
    cond_both (code == 10) _ _ IsPlain (λ _. (refl, refl)) (λ _.
    cond_both (code == 12) _ _ IsPlain (λ _. (refl, refl)) (λ _.
    cond_both (code == 13) _ _ IsPlain (λ _. (refl, refl)) (λ _. tt)))

sequences : (character : ℕ) → IsPlain (sequence_at character)
sequences character =
    cond_both (character == 57) _ _ IsPlain (λ _. (refl, refl)) (λ _.
    cond_both (character == 61) _ _ IsPlain (λ _. (refl, refl)) (λ _.
    cond_both (character == 69) _ _ IsPlain (λ _. (refl, refl)) (λ _. tt)))

character_in : (o : Option Entry) (b : ℕ) (bytes : List ℕ) → IsPlain o → InPcl (by_character o b bytes)
character_in (Some item) b bytes h = h
character_in None b bytes h =
    cond_both ((b == 38) || (b == 42)) _ _ InPcl (λ _. introducer_in b bytes) (λ _.
    cond_both (b == 40) _ _ InPcl (λ _. parenthesis_in bytes) (λ _.
    cond_both (b == 37) _ _ InPcl (λ _. exit_in (without_group 37 bytes) bytes (without_group_in 37 bytes)) (λ _.
    cond_both (is_in_range 33 126 b) _ _ InPcl (λ _. tt) (λ _. tt))))

escape_in : (bytes : List ℕ) → InPcl (after_escape bytes)
unfolding after_escape
escape_in [] = tt
escape_in (b ∷ bytes) = character_in (sequence_at b) b bytes (sequences b)

code_in : (o : Option Entry) (b : ℕ) (bytes : List ℕ) → IsPlain o → InPcl (by_code o b bytes)
code_in (Some item) b bytes h = h
code_in None b bytes h = cond_both (b == 27) _ _ InPcl (λ _. escape_in bytes) (λ _. tt)

-- ---- mode PJL

line_behind : (line : PjlCommand) → mode_of (between (behind_pjl line)) ≡ behind_pjl line
line_behind Bare = refl
line_behind (Remark text) = refl
line_behind (JobBegins text) = refl
line_behind (JobEnds text) = refl
line_behind EnterPcl = refl

first_pjl : (f : lines.FirstPjl) → IsIn modes.Pjl (by_pjl f)
first_pjl lines.Open = tt
first_pjl (lines.Begins line len) = ap Some (sym (line_behind line))
first_pjl (lines.Faulty cause) = tt

otherwise_in : (b : ℕ) (bytes : List ℕ) → (b == 64) ≡ false → IsIn modes.Pjl (between_units b bytes)
otherwise_in b bytes e =
    cond_both (nat_le 32 b) _ _ (IsIn modes.Pjl) (λ _. cond-false (b == 64) None (Some modes.Pcl) e)
    (λ _. pjl_in (by_code (control_at b) b bytes) (code_in (control_at b) b bytes (controls b)))

-- ---- a frame

abbrev InFrame : First → Type 0
InFrame first = IsIn modes.Frame first

-- the item that leaves a frame
abbrev IsLeaving : Option Entry → Type 0
IsLeaving None = Unit {0}
IsLeaving (Some item) = follows modes.Frame item ≡ Some modes.Pcl

leaving_frame : (o : Option Handover) → IsLeaving (leaving o)
leaving_frame None = tt
leaving_frame (Some handover) = refl

leave_known : (a : Amount) (c : ℕ) → IsLeaving (leave_at a c)
leave_known a c = cond_both (c == 65) _ _ IsLeaving (λ _. leaving_frame (handover_of a)) (λ _. tt)

left_in : (o : Option Entry) (c len : ℕ) → IsLeaving o → InFrame (left_by o c len)
left_in None c len h = tt
left_in (Some item) c len h = h

by_language_in : (o : Option Amount) (len c : ℕ) → InFrame (by_language o len c)
by_language_in None len c = tt
by_language_in (Some a) len c =
    cond_both (is_termination c) _ _ InFrame (λ _. left_in (leave_at a c) c (len + 3) (leave_known a c)) (λ _. tt)

language_field_in : (f : Field) (bytes : List ℕ) → InFrame (after_language_field f bytes)
language_field_in f [] = tt
language_field_in f (c ∷ bytes) = by_language_in (amount_of f) f.len c

language_in_frame : (bytes : List ℕ) → InFrame (language_in bytes)
unfolding language_in
language_in_frame bytes =
    cond_both (nat_lt 16 (field_at bytes).len) _ _ InFrame (λ _. tt)
    (λ _. language_field_in (field_at bytes) (drop (field_at bytes).len bytes))

in_command_in : (o : Option Mnemonic) (a b : ℕ) → InFrame (in_command o a b)
in_command_in None a b = tt
in_command_in (Some m) a b = refl

second_letter_in : (k : Kind) (a b : ℕ) → InFrame (second_letter k a b)
second_letter_in kinds.Letter a b = in_command_in (mnemonic_at (capital a) (capital b)) (capital a) (capital b)
second_letter_in kinds.White a b = tt
second_letter_in kinds.Comma a b = tt
second_letter_in kinds.Semicolon a b = tt
second_letter_in kinds.Escape a b = tt
second_letter_in kinds.Sign a b = tt
second_letter_in kinds.Figure a b = tt
second_letter_in kinds.Other a b = tt

letter_in : (a : ℕ) (bytes : List ℕ) → InFrame (after_letter a bytes)
letter_in a [] = tt
letter_in a (b ∷ bytes) = second_letter_in (kind_of b) a b

frame_escape_in : (bytes : List ℕ) → InFrame (after_frame_escape bytes)
frame_escape_in [] = tt
frame_escape_in (b ∷ bytes) =
    cond_both (b == 69) _ _ InFrame (λ _. refl) (λ _.
    cond_both (b == 37) _ _ InFrame
    (λ _. cond_both (begins_with exit_field bytes) _ _ InFrame (λ _. refl) (λ _. language_in_frame bytes)) (λ _. tt))

kind_in : (k : Kind) (b : ℕ) (bytes : List ℕ) → InFrame (by_kind k b bytes)
kind_in kinds.White b bytes = refl
kind_in kinds.Semicolon b bytes = refl
kind_in kinds.Letter b bytes = letter_in b bytes
kind_in kinds.Escape b bytes = frame_escape_in bytes
kind_in kinds.Comma b bytes = tt
kind_in kinds.Sign b bytes = tt
kind_in kinds.Figure b bytes = tt
kind_in kinds.Other b bytes = tt

bare_in : (m : Mnemonic) → follows modes.Frame (bare m) ≡ Some modes.Frame
bare_in mnemonics.Initialize = refl
bare_in (mnemonics.Sets setting) = refl
bare_in (mnemonics.Moves motion) = refl

single_in : (n : ℕ) (setting : Setting) (x : Numeral ℕ) → InFrame (single n (λ a. Single setting a) x)
single_in n setting Cut = tt
single_in n setting (Wrong cause) = tt
single_in n setting (Read a len) = refl

first_of_pair_in : (n : ℕ) (motion : Motion) (x : Numeral ℤ) → InFrame (first_of_pair n motion x)
first_of_pair_in n motion Cut = tt
first_of_pair_in n motion (Wrong cause) = tt
first_of_pair_in n motion (Read x len) = refl

second_of_pair_in : (motion : Motion) (x : ℤ) (y : Numeral ℤ) → InFrame (second_of_pair motion x y)
second_of_pair_in motion x Cut = tt
second_of_pair_in motion x (Wrong cause) = tt
second_of_pair_in motion x (Read y len) = refl

first_number_in : (whole : Bool) (m : Mnemonic) (n : ℕ) (bytes : List ℕ) → InFrame (first_number whole m n bytes)
first_number_in whole mnemonics.Initialize n bytes = tt
first_number_in whole (mnemonics.Sets setting) n bytes = single_in n setting (numeral_at setting_of whole bytes)
first_number_in whole (mnemonics.Moves motion) n bytes = first_of_pair_in n motion (numeral_at coordinate_of whole bytes)

letters_in : (k : Kind) (whole : Bool) (m : Mnemonic) (n : ℕ) (bytes : List ℕ) → InFrame (letters_by k whole m n bytes)
letters_in kinds.White whole m n bytes = refl
letters_in kinds.Semicolon whole m n bytes = bare_in m
letters_in kinds.Letter whole m n bytes = bare_in m
letters_in kinds.Escape whole m n bytes = bare_in m
letters_in kinds.Sign whole m n bytes = first_number_in whole m n bytes
letters_in kinds.Figure whole m n bytes = first_number_in whole m n bytes
letters_in kinds.Comma whole m n bytes = tt
letters_in kinds.Other whole m n bytes = tt

further_in : (whole : Bool) (x : Numbers) (bytes : List ℕ) → InFrame (further whole x bytes)
further_in whole (Single setting a) bytes = tt
further_in whole (Odd motion x) bytes = second_of_pair_in motion x (numeral_at coordinate_of whole bytes)
further_in whole (Even motion) bytes = first_of_pair_in 0 motion (numeral_at coordinate_of whole bytes)

ended_by_in : (x : Numbers) (gap : Gap) → InFrame (ended_by x gap)
ended_by_in x gaps.Comma = tt
ended_by_in (Single setting a) gaps.Straight = refl
ended_by_in (Single setting a) gaps.Spaced = refl
ended_by_in (Odd motion x) gaps.Straight = tt
ended_by_in (Odd motion x) gaps.Spaced = tt
ended_by_in (Even motion) gaps.Straight = refl
ended_by_in (Even motion) gaps.Spaced = refl

ended_in : (x : Numbers) (gap : Gap) → InFrame (ended x gap)
ended_in x gaps.Comma = tt
ended_in (Single setting a) gaps.Straight = refl
ended_in (Single setting a) gaps.Spaced = refl
ended_in (Odd motion x) gaps.Straight = tt
ended_in (Odd motion x) gaps.Spaced = tt
ended_in (Even motion) gaps.Straight = refl
ended_in (Even motion) gaps.Spaced = refl

comma_in : (x : Numbers) (gap : Gap) (n : ℕ) → InFrame (with_comma x gap n)
comma_in x gaps.Comma n = tt
comma_in x gaps.Straight n = refl
comma_in x gaps.Spaced n = refl

figure_in : (whole : Bool) (x : Numbers) (gap : Gap) (bytes : List ℕ) → InFrame (by_figure whole x gap bytes)
figure_in whole x gaps.Straight bytes = tt
figure_in whole x gaps.Spaced bytes = further_in whole x bytes
figure_in whole x gaps.Comma bytes = further_in whole x bytes

numbers_in : (k : Kind) (whole : Bool) (x : Numbers) (gap : Gap) (n : ℕ) (bytes : List ℕ) → InFrame (numbers_by k whole x gap n bytes)
numbers_in kinds.White whole x gap n bytes = refl
numbers_in kinds.Comma whole x gap n bytes = comma_in x gap n
numbers_in kinds.Semicolon whole x gap n bytes = ended_by_in x gap
numbers_in kinds.Letter whole x gap n bytes = ended_by_in x gap
numbers_in kinds.Escape whole x gap n bytes = ended_by_in x gap
numbers_in kinds.Sign whole x gap n bytes = further_in whole x bytes
numbers_in kinds.Figure whole x gap n bytes = figure_in whole x gap bytes
numbers_in kinds.Other whole x gap n bytes = tt

-- ---- of any context

first_in_mode : (whole : Bool) (c : Context) (bytes : List ℕ) → IsIn (mode_of c) (first_of whole c bytes)
unfolding first_of at_frame after_letters after_numbers
first_in_mode whole Pcl [] = tt
first_in_mode whole Pcl (b ∷ bytes) =
    cond_both (nat_le 32 b) _ _ (IsIn modes.Pcl) (λ _. refl)
    (λ _. pcl_in (by_code (control_at b) b bytes) (code_in (control_at b) b bytes (controls b)))
first_in_mode whole (Sequence g) bytes = pcl_in (command_in g bytes) (command_in_pcl g bytes)
first_in_mode whole Frame [] = tt
first_in_mode whole Frame (b ∷ bytes) = kind_in (kind_of b) b bytes
first_in_mode whole (Letters m n) [] = cond_both whole _ _ InFrame (λ _. bare_in m) (λ _. tt)
first_in_mode whole (Letters m n) (b ∷ bytes) = letters_in (kind_of b) whole m n (b ∷ bytes)
first_in_mode whole (Numbered x gap n) [] = cond_both whole _ _ InFrame (λ _. ended_in x gap) (λ _. tt)
first_in_mode whole (Numbered x gap n) (b ∷ bytes) = numbers_in (kind_of b) whole x gap n (b ∷ bytes)
first_in_mode whole Pjl [] = tt
first_in_mode whole Pjl (b ∷ bytes) =
    cond_both (b == 64) _ _ (IsIn modes.Pjl) (λ _. first_pjl (lines.at_pjl (b ∷ bytes))) (λ e. otherwise_in b bytes e)

pub begins_in_mode : (whole : Bool) (c : Context) (bytes : List ℕ) (item : Entry) (len : ℕ) (next : Context) →
    first_of whole c bytes ≡ Begins item len next → follows (mode_of c) item ≡ Some (mode_of next)
begins_in_mode whole c bytes item len next e = subst (IsIn (mode_of c)) e (first_in_mode whole c bytes)

pub passes_in_mode : (whole : Bool) (c : Context) (bytes : List ℕ) (len : ℕ) (next : Context) → first_of whole c bytes ≡ Passes len next →
    mode_of next ≡ mode_of c
passes_in_mode whole c bytes len next e = subst (IsIn (mode_of c)) e (first_in_mode whole c bytes)
