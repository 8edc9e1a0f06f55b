-- One command, and one unit: what stands first, by its text.
use Rattle.std.proofs.Common.{◌≡◌, ℕ, suc, ◌+◌, ◌-◌, ◌≤◌, List, [], ◌∷◌, ◌++◌, length, take, drop, true, false, Option, None, Some, refl}
use Rattle.std.proofs.Common.{sym, ap, subst, ◌∙◌, arith}
use Rattle.std.specs.Prelude.{◌==◌, ◌||◌, nat_lt, nat_le}
use Rattle.std.specs.Int.{is_in_range}
use Rattle.std.proofs.lemmas.Bool.{eqb-true, cond_both, cond-true, cond-false, and_from, le-leb, leb-true, le-ltb, lt-ltb}
use Rattle.std.proofs.lemmas.Bool as bools
use Rattle.std.proofs.lemmas.List.{drop-drop, length-append, length-take-le, take-append-drop}
use Rattle.std.proofs.Math.Seq.{drop-append_seam, take-append_seam}
use Rattle.pcl_items.specs.declared.pcl.command.Group.{Group}
use Rattle.pcl_items.specs.declared.pcl.command.Group.TheVariants as groups
use Rattle.pcl_items.specs.declared.pcl.command.Command.{Command}
use Rattle.pcl_items.specs.declared.pcl.command.DataCommand.{DataCommand}
use Rattle.pcl_items.specs.declared.item.Mode.{Mode}
use Rattle.pcl_lexer.specs.Lexing.Contexts.{Context, Pcl, Sequence, Pjl}
use Rattle.pcl_items.specs.Escapes.Commands.{introducer_of, character_of, group_of, letter_of, group_at, command_at, data_group_of}
use Rattle.pcl_items.specs.Escapes.Commands.{data_letter_of, data_command_at}
use Rattle.pcl_items.specs.Escapes.Value.{Amount, Counts}
use Rattle.pcl_lexer.specs.Escapes.Field.{field_at, amount_of}
use Rattle.pcl_items.specs.Escapes.ValueField.{IsField}
use Rattle.pcl_items.specs.Items.{Entry, Text, Parameterized, WithData, ExitLanguage}
use Rattle.pcl_items.specs.PjlLines.Exit.{exit_field, exit_text, BeginsExit, begins_with}
use Rattle.pcl_lexer.specs.Escapes.Ungrouped.{ungrouped_at, count_of}
use Rattle.pcl_items.specs.Escapes.Codes.{control_at, sequence_at, escape}
use Rattle.pcl_lexer.specs.Modes.{between}
use Rattle.pcl_lexer.specs.Grammar.{small, IsUngrouped}
use Rattle.pcl_lexer.specs.Reader.{First, Open, Passes, Begins, Faulty, behind, named, with_data, by_last_letter, by_other_letter}
use Rattle.pcl_lexer.specs.Reader.{by_last_byte, after_field, command_in, is_group_or_parameter, is_termination, ungrouped, by_termination}
use Rattle.pcl_lexer.specs.Reader.{after_ungrouped_field, without_group, in_group, after_introducer, after_parenthesis, by_character}
use Rattle.pcl_lexer.specs.Reader.{after_escape, by_code, exit_or, first_of}
use Rattle.pcl_lexer.proofs.PjlLines.Exits.{exit_there}
use Rattle.pcl_lexer.proofs.Escapes.Tables.{both_true, command_known, capital_letter, group_found, command_found, no_data}
use Rattle.pcl_lexer.proofs.Escapes.Tables.{data_command_known, data_capital_letter, data_command_found}
use Rattle.pcl_lexer.proofs.Escapes.Counted.{counted, counts_of}
use Rattle.pcl_lexer.proofs.Escapes.Ungrouped.{ungrouped_known, ungrouped_behind_is, ungrouped_found, ungrouped_letter}
use Rattle.pcl_lexer.proofs.Escapes.Fields.{EndsIn, ends_at_letter, field_read, field_spelled}

pub drop_behind : (text : List ℕ) (c : ℕ) (rest : List ℕ) → drop (length text + 1) (text ++ c ∷ rest) ≡ rest
drop_behind text c rest = sym (drop-drop 1 (length text) (text ++ c ∷ rest)) ∙ ap (drop 1) (drop-append_seam text (c ∷ rest))

pub data_behind : (text : List ℕ) (c : ℕ) (bytes rest : List ℕ) → drop (length text + 1 + length bytes) (text ++ c ∷ (bytes ++ rest)) ≡ rest
data_behind text c bytes rest =
    sym (drop-drop (length bytes) (length text + 1) (text ++ c ∷ (bytes ++ rest)))
    ∙ ap (drop (length bytes)) (drop_behind text c (bytes ++ rest)) ∙ drop-append_seam bytes rest

pub ungrouped_behind : (a b : ℕ) (text : List ℕ) (c : ℕ) (rest : List ℕ) → drop (length text + 3) (a ∷ b ∷ (text ++ c ∷ rest)) ≡ rest
ungrouped_behind a b text c rest =
    let e : length text + 3 ≡ suc (suc (length text + 1)) = omega arith in
    ap (λ n. drop n (a ∷ b ∷ (text ++ c ∷ rest))) e ∙ drop_behind text c rest

-- ---- a command that is spelled is read

pub by_field : (g : Group) (text : List ℕ) (a : Amount) (c : ℕ) (rest : List ℕ) (f : IsField text a) →
    EndsIn a.sign f.whole f.fraction (c ∷ rest) → command_in g (text ++ c ∷ rest) ≡ by_last_byte (Some a) g (length text) c rest
unfolding command_in
by_field g text a c rest f end =
    let l : List ℕ = text ++ c ∷ rest in
    let r = field_read text a (c ∷ rest) f end in
    let fits : (field_at l).len ≤ 16 = omega (arith, r.len, f.short) in
    cond-false (nat_lt 16 (field_at l).len) _ _ (le-ltb 16 (field_at l).len fits)
    ∙ ap (λ n. after_field g (field_at l) (drop n l)) r.len
    ∙ ap (after_field g (field_at l)) (drop-append_seam text (c ∷ rest))
    ∙ ap (λ o. by_last_byte o g (field_at l).len c rest) r.amount
    ∙ ap (λ n. by_last_byte (Some a) g n c rest) r.len

-- .. before a termination character, and before a parameter character
pub by_capital : (g : Group) (text : List ℕ) (a : Amount) (c : ℕ) (rest : List ℕ) → IsField text a → 64 ≤ c → c ≤ 94 →
    command_in g (text ++ c ∷ rest) ≡ by_last_letter (data_command_at g c) g c a (length text + 1) rest
by_capital g text a c rest f low high =
    let no : is_group_or_parameter c ≡ false = grind arith in
    let yes : is_termination c ≡ true = and_from (nat_le 64 c) (nat_le c 94) (le-leb 64 c low) (le-leb c 94 high) in
    by_field g text a c rest f (ends_at_letter a.sign f.whole f.fraction c rest (omega (arith, low)))
    ∙ cond-false (is_group_or_parameter c) _ _ no ∙ cond-true (is_termination c) _ _ yes

pub by_small : (g : Group) (text : List ℕ) (a : Amount) (letter : ℕ) (rest : List ℕ) → IsField text a → 64 ≤ letter → letter ≤ 94 →
    command_in g (text ++ small letter ∷ rest) ≡ by_other_letter (data_command_at g letter) g letter a (length text + 1)
by_small g text a letter rest f low high =
    let c = small letter in
    let yes : is_group_or_parameter c ≡ true =
    and_from (nat_le 96 c) (nat_le c 126) (le-leb 96 c (omega (arith, low))) (le-leb c 126 (omega (arith, high))) in
    let back : c - 32 ≡ letter = omega arith in
    by_field g text a c rest f (ends_at_letter a.sign f.whole f.fraction c rest (omega (arith, low)))
    ∙ cond-true (is_group_or_parameter c) _ _ yes
    ∙ ap (λ n. by_other_letter (data_command_at g n) g n a (length text + 1)) back

pub last_read : (command : Command) (text : List ℕ) (a : Amount) (rest : List ℕ) → IsField text a →
    command_in (group_of command) (text ++ letter_of command ∷ rest) ≡ Begins (Parameterized command a) (length text + 1) Pcl
last_read command text a rest f =
    let g = group_of command in
    let c = letter_of command in
    let k = capital_letter command in
    by_capital g text a c rest f (omega (arith, k.0)) (omega (arith, k.1))
    ∙ ap (λ o. by_last_letter o g c a (length text + 1) rest) (no_data command)
    ∙ ap (λ o. named o g c a (length text + 1) Pcl) (command_known command)

pub more_read : (command : Command) (text : List ℕ) (a : Amount) (rest : List ℕ) → IsField text a →
    command_in (group_of command) (text ++ small (letter_of command) ∷ rest)
    ≡ Begins (Parameterized command a) (length text + 1) (Sequence (group_of command))
more_read command text a rest f =
    let g = group_of command in
    let c = letter_of command in
    let k = capital_letter command in
    by_small g text a c rest f (omega (arith, k.0)) (omega (arith, k.1))
    ∙ ap (λ o. by_other_letter o g c a (length text + 1)) (no_data command)
    ∙ ap (λ o. named o g c a (length text + 1) (Sequence g)) (command_known command)

-- a command with data, by what the number counts
pub by_count : (command : DataCommand) (text : List ℕ) (a : Amount) (rest : List ℕ) → IsField text a →
    command_in (data_group_of command) (text ++ data_letter_of command ∷ rest) ≡ with_data command (count_of a) (length text + 1) rest
by_count command text a rest f =
    let g = data_group_of command in
    let c = data_letter_of command in
    let k = data_capital_letter command in
    by_capital g text a c rest f (omega (arith, k.0)) (omega (arith, k.1))
    ∙ ap (λ o. by_last_letter o g c a (length text + 1) rest) (data_command_known command)

pub data_read : (command : DataCommand) (text : List ℕ) (a : Amount) (bytes rest : List ℕ) → IsField text a → Counts a (length bytes) →
    command_in (data_group_of command) (text ++ data_letter_of command ∷ (bytes ++ rest))
    ≡ Begins (WithData command bytes) (length text + 1 + length bytes) Pcl
data_read command text a bytes rest f h =
    let n = length bytes in
    let all : n ≤ length (bytes ++ rest) = omega (arith, length-append bytes rest) in
    by_count command text a (bytes ++ rest) f
    ∙ ap (λ o. with_data command o (length text + 1) (bytes ++ rest)) (counted a n h)
    ∙ cond-false (nat_lt (length (bytes ++ rest)) n) _ _ (le-ltb (length (bytes ++ rest)) n all)
    ∙ ap (λ l. Begins (WithData command l) (length text + 1 + n) Pcl) (take-append_seam bytes rest)

-- ---- a command that is read is spelled

pub data HeadCommand : Group → List ℕ → Entry → ℕ → Context → List ℕ → Type 0 where
  ends : {text rest : List ℕ} {amount : Amount} (command : Command) → IsField text amount →
      HeadCommand (group_of command) (text ++ letter_of command ∷ rest) (Parameterized command amount) (length text + 1) Pcl rest
  ends_with_data : {text bytes rest : List ℕ} {amount : Amount} (command : DataCommand) → IsField text amount →
      Counts amount (length bytes) →
      HeadCommand (data_group_of command) (text ++ data_letter_of command ∷ (bytes ++ rest)) (WithData command bytes)
      (length text + 1 + length bytes) Pcl rest
  goes_on : {text rest : List ℕ} {amount : Amount} (command : Command) → IsField text amount →
      HeadCommand (group_of command) (text ++ small (letter_of command) ∷ rest) (Parameterized command amount) (length text + 1)
      (Sequence (group_of command)) rest

abbrev Tells : Group → List ℕ → First → Type 0
Tells g bytes Open = Unit {0}
Tells g bytes (Passes len next) = Unit {0}
Tells g bytes (Begins item len next) = HeadCommand g bytes item len next (drop len bytes)
Tells g bytes (Faulty cause) = Unit {0}

-- at an equal rest
HeadCommand-at : {g : Group} {bytes rest rest' : List ℕ} {item : Entry} {len : ℕ} {next : Context} → rest ≡ rest' →
    HeadCommand g bytes item len next rest → HeadCommand g bytes item len next rest'
HeadCommand-at {g = g} {bytes = bytes} {item = item} {len = len} {next = next} e h =
    subst (λ (r : List ℕ). HeadCommand g bytes item len next r) e h

named_last : (o : Option Command) (g : Group) (c : ℕ) (text : List ℕ) (a : Amount) (rest : List ℕ) → IsField text a → command_at g c ≡ o →
    Tells g (text ++ c ∷ rest) (named o g c a (length text + 1) Pcl)
named_last None g c text a rest f e = tt
named_last (Some command) g c text a rest f e =
    let t = command_found g c command e in
    let head : HeadCommand g (text ++ c ∷ rest) (Parameterized command a) (length text + 1) Pcl rest =
    subst (λ (h : Group). HeadCommand h (text ++ c ∷ rest) (Parameterized command a) (length text + 1) Pcl rest) (sym t.0)
    (subst (λ (n : ℕ). HeadCommand (group_of command) (text ++ n ∷ rest) (Parameterized command a) (length text + 1) Pcl rest)
    (sym t.1) (ends command f)) in
    HeadCommand-at (sym (drop_behind text c rest)) head

named_more : (o : Option Command) (g : Group) (c : ℕ) (text : List ℕ) (a : Amount) (rest : List ℕ) → IsField text a → 32 ≤ c →
    command_at g (c - 32) ≡ o → Tells g (text ++ c ∷ rest) (named o g (c - 32) a (length text + 1) (Sequence g))
named_more None g c text a rest f high e = tt
named_more (Some command) g c text a rest f high e =
    let t = command_found g (c - 32) command e in
    let letter : small (letter_of command) ≡ c = omega (arith, t.1) in
    let head : HeadCommand g (text ++ c ∷ rest) (Parameterized command a) (length text + 1) (Sequence g) rest =
    subst (λ (h : Group). HeadCommand h (text ++ c ∷ rest) (Parameterized command a) (length text + 1) (Sequence h) rest) (sym t.0)
    (subst
    (λ (n : ℕ).
    HeadCommand (group_of command) (text ++ n ∷ rest) (Parameterized command a) (length text + 1) (Sequence (group_of command)) rest)
    letter (goes_on command f)) in
    HeadCommand-at (sym (drop_behind text c rest)) head

data_told : (o : Option ℕ) (g : Group) (d : DataCommand) (text : List ℕ) (a : Amount) (rest : List ℕ) → IsField text a →
    data_group_of d ≡ g → count_of a ≡ o → Tells g (text ++ data_letter_of d ∷ rest) (with_data d o (length text + 1) rest)
data_told None g d text a rest f e k = tt
data_told (Some n) g d text a rest f e k =
    cond_both (nat_lt (length rest) n) _ _ (Tells g (text ++ data_letter_of d ∷ rest)) (λ _. tt) (λ t.
    let c = data_letter_of d in
    let bytes : List ℕ = take n rest in
    let whole : bytes ++ drop n rest ≡ rest = take-append-drop n rest in
    let size : length bytes ≡ n = length-take-le n rest (bools.ltb-false (length rest) n t) in
    let left : drop (length text + 1 + n) (text ++ c ∷ rest) ≡ drop n rest =
    sym (drop-drop n (length text + 1) (text ++ c ∷ rest)) ∙ ap (drop n) (drop_behind text c rest) in
    let head : HeadCommand (data_group_of d) (text ++ c ∷ (bytes ++ drop n rest)) (WithData d bytes)
    (length text + 1 + length bytes) Pcl (drop n rest) =
    ends_with_data d f (subst (Counts a) (sym size) (counts_of a n k)) in
    HeadCommand-at (sym left)
    (subst (λ (h : Group). HeadCommand h (text ++ c ∷ rest) (WithData d bytes) (length text + 1 + n) Pcl (drop n rest)) e
    (subst (λ (m : ℕ). HeadCommand (data_group_of d) (text ++ c ∷ rest) (WithData d bytes) (length text + 1 + m) Pcl (drop n rest)) size
    (subst
    (λ (l : List ℕ).
    HeadCommand (data_group_of d) (text ++ c ∷ l) (WithData d bytes) (length text + 1 + length bytes) Pcl (drop n rest))
    whole head))))

last_told : (o : Option DataCommand) (g : Group) (c : ℕ) (text : List ℕ) (a : Amount) (rest : List ℕ) → IsField text a →
    data_command_at g c ≡ o → Tells g (text ++ c ∷ rest) (by_last_letter o g c a (length text + 1) rest)
last_told None g c text a rest f e = named_last (command_at g c) g c text a rest f refl
last_told (Some d) g c text a rest f e =
    let t = data_command_found g c d e in
    subst (λ (n : ℕ). Tells g (text ++ n ∷ rest) (with_data d (count_of a) (length text + 1) rest)) (sym t.1)
    (data_told (count_of a) g d text a rest f (sym t.0) refl)

other_told : (o : Option DataCommand) (g : Group) (c : ℕ) (text : List ℕ) (a : Amount) (rest : List ℕ) → IsField text a → 32 ≤ c →
    Tells g (text ++ c ∷ rest) (by_other_letter o g (c - 32) a (length text + 1))
other_told None g c text a rest f high = named_more (command_at g (c - 32)) g c text a rest f high refl
other_told (Some d) g c text a rest f high = tt

by_last_byte-told : (g : Group) (text : List ℕ) (a : Amount) (c : ℕ) (rest : List ℕ) → IsField text a →
    Tells g (text ++ c ∷ rest) (by_last_byte (Some a) g (length text) c rest)
by_last_byte-told g text a c rest f =
    cond_both (is_group_or_parameter c) _ _ (Tells g (text ++ c ∷ rest))
    (λ e. let low : 96 ≤ c = leb-true 96 c (both_true (nat_le 96 c) (nat_le c 126) e).0 in
    other_told (data_command_at g (c - 32)) g c text a rest f (omega (arith, low)))
    (λ _.
    cond_both (is_termination c) _ _ (Tells g (text ++ c ∷ rest)) (λ _. last_told (data_command_at g c) g c text a rest f refl) (λ _. tt))

-- by the amount, and by the bytes behind the field
by_amount : (o : Option Amount) (g : Group) (bytes : List ℕ) (c : ℕ) (rest : List ℕ) → (field_at bytes).len ≤ 16 →
    amount_of (field_at bytes) ≡ o → drop (field_at bytes).len bytes ≡ c ∷ rest →
    Tells g bytes (by_last_byte o g (field_at bytes).len c rest)
by_amount None g bytes c rest short e d = tt
by_amount (Some a) g bytes c rest short e d =
    let f = field_spelled bytes a short e in
    let whole : bytes ≡ f.0 ++ c ∷ rest = f.2 ∙ ap (λ t. f.0 ++ t) d in
    subst (λ (n : ℕ). Tells g bytes (by_last_byte (Some a) g n c rest)) (sym f.3)
    (subst (λ (l : List ℕ). Tells g l (by_last_byte (Some a) g (length f.0) c rest)) (sym whole) (by_last_byte-told g f.0 a c rest f.1))

by_rest : (g : Group) (bytes behind : List ℕ) → (field_at bytes).len ≤ 16 → drop (field_at bytes).len bytes ≡ behind →
    Tells g bytes (after_field g (field_at bytes) behind)
by_rest g bytes [] short e = tt
by_rest g bytes (c ∷ rest) short e = by_amount (amount_of (field_at bytes)) g bytes c rest short refl e

command_tells : (g : Group) (bytes : List ℕ) → Tells g bytes (command_in g bytes)
unfolding command_in
command_tells g bytes =
    cond_both (nat_lt 16 (field_at bytes).len) _ _ (Tells g bytes) (λ _. tt)
    (λ e. by_rest g bytes (drop (field_at bytes).len bytes) (bools.ltb-false 16 (field_at bytes).len e) refl)

pub command_spelled : (g : Group) (bytes : List ℕ) (item : Entry) (len : ℕ) (next : Context) → command_in g bytes ≡ Begins item len next →
    HeadCommand g bytes item len next (drop len bytes)
command_spelled g bytes item len next e = subst (Tells g bytes) e (command_tells g bytes)

-- ---- a unit

pub group_read : (g : Group) (bytes : List ℕ) →
    first_of true Pcl (escape ∷ introducer_of g ∷ character_of g ∷ bytes) ≡ behind 3 (command_in g bytes)
unfolding first_of after_escape after_introducer after_parenthesis
group_read groups.Position bytes = refl
group_read groups.Macro bytes = refl
group_read groups.Spacing bytes = refl
group_read groups.Layout bytes = refl
group_read groups.Transparent bytes = refl
group_read groups.Units bytes = refl
group_read groups.RasterData bytes = refl
group_read groups.Rectangle bytes = refl
group_read groups.UnitPosition bytes = refl
group_read groups.Raster bytes = refl
group_read groups.Resolution bytes = refl
group_read groups.Font bytes = refl

pub data HeadUnit : List ℕ → Entry → ℕ → Context → Type 0 where
  text_byte : {code : ℕ} {rest : List ℕ} → 32 ≤ code → HeadUnit (code ∷ rest) (Text code) 1 Pcl
  ungrouped_item : {introducer letter : ℕ} {text : List ℕ} {amount : Amount} {item : Entry} {mode : Mode} (rest : List ℕ) →
      IsField text amount → IsUngrouped introducer amount letter item mode →
      HeadUnit (escape ∷ introducer ∷ (text ++ letter ∷ rest)) item (length text + 3) (between mode)
  control_code : {code : ℕ} {rest : List ℕ} {item : Entry} → control_at code ≡ Some item → HeadUnit (code ∷ rest) item 1 Pcl
  two_characters : {character : ℕ} {rest : List ℕ} {item : Entry} → sequence_at character ≡ Some item →
      HeadUnit (escape ∷ character ∷ rest) item 2 Pcl
  combined : {group : Group} {rest : List ℕ} {item : Entry} {len : ℕ} {next : Context} →
      HeadCommand group rest item len next (drop len rest) →
      HeadUnit (escape ∷ introducer_of group ∷ character_of group ∷ rest) item (3 + len) next
  exits : (rest : List ℕ) → HeadUnit (exit_text ++ rest) ExitLanguage 9 Pjl

abbrev TellsUnit : List ℕ → First → Type 0
TellsUnit bytes Open = Unit {0}
TellsUnit bytes (Passes len next) = Unit {0}
TellsUnit bytes (Begins item len next) = HeadUnit bytes item len next
TellsUnit bytes (Faulty cause) = Unit {0}

behind_told : (g : Group) (bytes : List ℕ) (f : First) → Tells g bytes f →
    TellsUnit (escape ∷ introducer_of g ∷ character_of g ∷ bytes) (behind 3 f)
behind_told g bytes Open h = tt
behind_told g bytes (Passes len next) h = tt
behind_told g bytes (Begins item len next) h = combined h
behind_told g bytes (Faulty cause) h = tt

in_group_told : (o : Option Group) (i c : ℕ) (bytes : List ℕ) → group_at i c ≡ o → TellsUnit (escape ∷ i ∷ c ∷ bytes) (in_group o i c bytes)
in_group_told None i c bytes e = tt
in_group_told (Some g) i c bytes e =
    let t = group_found i c g e in
    subst (λ (n : ℕ). TellsUnit (escape ∷ n ∷ c ∷ bytes) (behind 3 (command_in g bytes))) (sym t.0)
    (subst (λ (n : ℕ). TellsUnit (escape ∷ introducer_of g ∷ n ∷ bytes) (behind 3 (command_in g bytes))) (sym t.1)
    (behind_told g bytes (command_in g bytes) (command_tells g bytes)))

after_introducer_told : (i : ℕ) (bytes : List ℕ) → TellsUnit (escape ∷ i ∷ bytes) (after_introducer i bytes)
unfolding after_introducer
after_introducer_told i [] = tt
after_introducer_told i (c ∷ bytes) =
    cond_both (is_group_or_parameter c) _ _ (TellsUnit (escape ∷ i ∷ c ∷ bytes))
    (λ _. in_group_told (group_at i c) i c bytes refl) (λ _. tt)

-- a sequence without a group

pub ungrouped_field : (i : ℕ) (text : List ℕ) (a : Amount) (c : ℕ) (rest : List ℕ) (f : IsField text a) →
    EndsIn a.sign f.whole f.fraction (c ∷ rest) → without_group i (text ++ c ∷ rest) ≡ by_termination (Some a) i (length text) c
unfolding without_group
ungrouped_field i text a c rest f end =
    let l : List ℕ = text ++ c ∷ rest in
    let r = field_read text a (c ∷ rest) f end in
    let fits : (field_at l).len ≤ 16 = omega (arith, r.len, f.short) in
    cond-false (nat_lt 16 (field_at l).len) _ _ (le-ltb 16 (field_at l).len fits)
    ∙ ap (λ n. after_ungrouped_field i (field_at l) (drop n l)) r.len
    ∙ ap (after_ungrouped_field i (field_at l)) (drop-append_seam text (c ∷ rest))
    ∙ ap (λ o. by_termination o i (field_at l).len c) r.amount
    ∙ ap (λ n. by_termination (Some a) i n c) r.len

pub ungrouped_read : {i letter : ℕ} {a : Amount} {item : Entry} {mode : Mode} (text rest : List ℕ) → IsField text a →
    IsUngrouped i a letter item mode → without_group i (text ++ letter ∷ rest) ≡ Begins item (length text + 3) (between mode)
ungrouped_read {i = i} {letter = c} {a = a} {item = item} text rest f h =
    let t = ungrouped_letter h in
    ungrouped_field i text a c rest f (ends_at_letter a.sign f.whole f.fraction c rest (omega (arith, t.0)))
    ∙ cond-true (is_termination c) _ _ (and_from (nat_le 64 c) (nat_le c 94) (le-leb 64 c t.0) (le-leb c 94 t.1))
    ∙ ap (λ o. ungrouped o i c (length text + 3)) (ungrouped_known h)
    ∙ ap (Begins item (length text + 3)) (ungrouped_behind_is h)

ungrouped_told : (o : Option Entry) (i : ℕ) (text : List ℕ) (a : Amount) (c : ℕ) (rest : List ℕ) → IsField text a → ungrouped_at i a c ≡ o →
    TellsUnit (escape ∷ i ∷ (text ++ c ∷ rest)) (ungrouped o i c (length text + 3))
ungrouped_told None i text a c rest f e = tt
ungrouped_told (Some item) i text a c rest f e =
    let g = ungrouped_found i a c item e in
    subst (HeadUnit (escape ∷ i ∷ (text ++ c ∷ rest)) item (length text + 3)) (sym g.2) (ungrouped_item rest f g.1)

ungrouped_amount_told : (o : Option Amount) (i : ℕ) (bytes : List ℕ) (c : ℕ) (rest : List ℕ) → (field_at bytes).len ≤ 16 →
    amount_of (field_at bytes) ≡ o → drop (field_at bytes).len bytes ≡ c ∷ rest →
    TellsUnit (escape ∷ i ∷ bytes) (by_termination o i (field_at bytes).len c)
ungrouped_amount_told None i bytes c rest short e d = tt
ungrouped_amount_told (Some a) i bytes c rest short e d =
    let f = field_spelled bytes a short e in
    let whole : bytes ≡ f.0 ++ c ∷ rest = f.2 ∙ ap (λ t. f.0 ++ t) d in
    subst (λ (n : ℕ). TellsUnit (escape ∷ i ∷ bytes) (by_termination (Some a) i n c)) (sym f.3)
    (subst (λ (l : List ℕ). TellsUnit (escape ∷ i ∷ l) (by_termination (Some a) i (length f.0) c)) (sym whole)
    (cond_both (is_termination c) _ _ (TellsUnit (escape ∷ i ∷ (f.0 ++ c ∷ rest)))
    (λ _. ungrouped_told (ungrouped_at i a c) i f.0 a c rest f.1 refl) (λ _. tt)))

ungrouped_rest_told : (i : ℕ) (bytes behind : List ℕ) → (field_at bytes).len ≤ 16 → drop (field_at bytes).len bytes ≡ behind →
    TellsUnit (escape ∷ i ∷ bytes) (after_ungrouped_field i (field_at bytes) behind)
ungrouped_rest_told i bytes [] short d = tt
ungrouped_rest_told i bytes (c ∷ rest) short d = ungrouped_amount_told (amount_of (field_at bytes)) i bytes c rest short refl d

without_group_told : (i : ℕ) (bytes : List ℕ) → TellsUnit (escape ∷ i ∷ bytes) (without_group i bytes)
unfolding without_group
without_group_told i bytes =
    cond_both (nat_lt 16 (field_at bytes).len) _ _ (TellsUnit (escape ∷ i ∷ bytes)) (λ _. tt)
    (λ e. ungrouped_rest_told i bytes (drop (field_at bytes).len bytes) (bools.ltb-false 16 (field_at bytes).len e) refl)

exit_head : (bytes : List ℕ) → BeginsExit bytes → HeadUnit (escape ∷ 37 ∷ bytes) ExitLanguage 9 Pjl
exit_head bytes h = subst (λ (l : List ℕ). HeadUnit (escape ∷ 37 ∷ l) ExitLanguage 9 Pjl) (sym h.1) (exits h.0)

percent_told : (bytes : List ℕ) → TellsUnit (escape ∷ 37 ∷ bytes) (exit_or (without_group 37 bytes) bytes)
percent_told bytes =
    cond_both (begins_with exit_field bytes) _ _ (TellsUnit (escape ∷ 37 ∷ bytes)) (λ e. exit_head bytes (exit_there bytes e))
    (λ _. without_group_told 37 bytes)

after_parenthesis_told : (bytes : List ℕ) → TellsUnit (escape ∷ 40 ∷ bytes) (after_parenthesis bytes)
unfolding after_parenthesis
after_parenthesis_told [] = tt
after_parenthesis_told (c ∷ bytes) =
    cond_both (is_group_or_parameter c) _ _ (TellsUnit (escape ∷ 40 ∷ c ∷ bytes)) (λ _. in_group_told (group_at 40 c) 40 c bytes refl)
    (λ _. without_group_told 40 (c ∷ bytes))

by_character_told : (o : Option Entry) (b : ℕ) (bytes : List ℕ) → sequence_at b ≡ o →
    TellsUnit (escape ∷ b ∷ bytes) (by_character o b bytes)
by_character_told (Some item) b bytes e = two_characters e
by_character_told None b bytes e =
    cond_both ((b == 38) || (b == 42)) _ _ (TellsUnit (escape ∷ b ∷ bytes)) (λ _. after_introducer_told b bytes) (λ _.
    cond_both (b == 40) _ _ (TellsUnit (escape ∷ b ∷ bytes))
    (λ e.
    subst (λ (n : ℕ). TellsUnit (escape ∷ n ∷ bytes) (after_parenthesis bytes)) (sym (eqb-true b 40 e)) (after_parenthesis_told bytes))
    (λ _.
    cond_both (b == 37) _ _ (TellsUnit (escape ∷ b ∷ bytes))
    (λ e. subst (λ (n : ℕ). TellsUnit (escape ∷ n ∷ bytes) (exit_or (without_group 37 bytes) bytes))
    (sym (eqb-true b 37 e)) (percent_told bytes))
    (λ _.
    cond_both (is_in_range 33 126 b) _ _ (TellsUnit (escape ∷ b ∷ bytes)) (λ _. tt) (λ _. tt))))

after_escape_told : (bytes : List ℕ) → TellsUnit (escape ∷ bytes) (after_escape bytes)
unfolding after_escape
after_escape_told [] = tt
after_escape_told (b ∷ bytes) = by_character_told (sequence_at b) b bytes refl

by_code_told : (o : Option Entry) (b : ℕ) (bytes : List ℕ) → control_at b ≡ o → TellsUnit (b ∷ bytes) (by_code o b bytes)
by_code_told (Some item) b bytes e = control_code e
by_code_told None b bytes e =
    cond_both (b == 27) _ _ (TellsUnit (b ∷ bytes))
    (λ k. subst (λ (n : ℕ). TellsUnit (n ∷ bytes) (after_escape bytes)) (sym (eqb-true b 27 k)) (after_escape_told bytes)) (λ _. tt)

unit_tells : (bytes : List ℕ) → TellsUnit bytes (first_of true Pcl bytes)
unfolding first_of
unit_tells [] = tt
unit_tells (b ∷ bytes) =
    cond_both (nat_le 32 b) _ _ (TellsUnit (b ∷ bytes)) (λ e. text_byte (leb-true 32 b e)) (λ _. by_code_told (control_at b) b bytes refl)

pub unit_spelled : (bytes : List ℕ) (item : Entry) (len : ℕ) (next : Context) → first_of true Pcl bytes ≡ Begins item len next →
    HeadUnit bytes item len next
unit_spelled bytes item len next e = subst (TellsUnit bytes) e (unit_tells bytes)
