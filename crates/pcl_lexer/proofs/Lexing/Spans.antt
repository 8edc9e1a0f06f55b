-- A step takes bytes, or it ends a command; and no more bytes than there are.
use Rattle.std.proofs.Common.{◌≡◌, ℕ, zero, suc, ◌+◌, ◌-◌, ◌*◌, ◌<◌, ◌≤◌, List, [], ◌∷◌, ◌++◌, length, Bool, true, cond, Option, Some, None}
use Rattle.std.proofs.Common.{arith, ap, sym, subst, refl}
use Rattle.std.proofs.lemmas.Bool.{cond_both, ltb-false}
use Rattle.std.proofs.lemmas.List.{length-drop, length-append}
use Rattle.std.specs.Prelude.{ℤ, drop, nat_lt, nat_le, not, ◌==◌, ◌||◌, ◌&&◌}
use Rattle.std.specs.Int.{is_in_range}
use Rattle.pcl_items.specs.declared.pcl.command.Group.{Group}
use Rattle.pcl_items.specs.declared.pcl.command.Command.{Command}
use Rattle.pcl_items.specs.declared.pcl.command.DataCommand.{DataCommand}
use Rattle.pcl_lexer.specs.declared.frame.Kind.{Kind}
use Rattle.pcl_lexer.specs.declared.frame.Kind.TheVariants as kinds
use Rattle.pcl_items.specs.declared.frame.Motion.{Motion}
use Rattle.pcl_items.specs.declared.frame.Setting.{Setting}
use Rattle.pcl_items.specs.declared.frame.Mnemonic.{Mnemonic}
use Rattle.pcl_items.specs.declared.frame.Mnemonic.TheVariants as mnemonics
use Rattle.pcl_lexer.specs.declared.frame.Gap.{Gap}
use Rattle.pcl_lexer.specs.declared.frame.Gap.TheVariants as gaps
use Rattle.pcl_lexer.specs.declared.lexer.first.Context as code_context
use Rattle.pcl_lexer.specs.declared.lexer.first.First as code_first
use Rattle.pcl_items.specs.declared.fault.LexCause.TheVariants.{BadNumber}
use Rattle.pcl_lexer.specs.Lexing.Contexts.{Context, Pcl, Sequence, Frame, Letters, Numbered, Pjl, Numbers, Single, Odd, Even, counted}
use Rattle.pcl_lexer.specs.Lexing.Contexts.{pending}
use Rattle.pcl_lexer.specs.Frames.Kinds.{kind_of}
use Rattle.pcl_items.specs.Frames.Mnemonics.{capital, mnemonic_at}
use Rattle.pcl_items.specs.Escapes.Commands.{group_at, command_at, data_command_at}
use Rattle.pcl_items.specs.Escapes.Value.{Amount}
use Rattle.pcl_items.specs.Escapes.ValueField.{fraction_text, decimals_of}
use Rattle.pcl_lexer.specs.Escapes.Field.{Field, field_at, amount_of}
use Rattle.pcl_items.specs.Items.{Entry, Text, CarriageReturn, LineFeed, FormFeed, Reset, ClearMargins, HalfLineFeed, Parameterized}
use Rattle.pcl_items.specs.Items.{SymbolSet, DefaultFont, EnterFrame, LeaveFrame, Initialize, Set, Move, WithData, ExitLanguage, PjlLine}
use Rattle.pcl_items.specs.Escapes.Codes.{control_at, sequence_at}
use Rattle.pcl_lexer.specs.Escapes.Ungrouped.{ungrouped_at, leave_at, count_of}
use Rattle.pcl_lexer.specs.Frames.Number.{coordinate_of, setting_of, Numeral, Cut, Wrong, Read, has_digit, read_or, number_end, numeral_at}
use Rattle.pcl_lexer.specs.Frames.Reader.{left_by, by_language, after_language_field, language_in, in_command, second_letter, after_letter}
use Rattle.pcl_lexer.specs.Frames.Reader.{after_frame_escape, by_kind, at_frame, single, first_of_pair, second_of_pair, first_number}
use Rattle.pcl_lexer.specs.Frames.Reader.{letters_by, after_letters, further, ended_by, ended, with_comma, by_figure, numbers_by}
use Rattle.pcl_lexer.specs.Frames.Reader.{after_numbers}
use Rattle.pcl_lexer.specs.Lexing.FirstView.{context_view, first_view, len_of, counted_after}
use Rattle.pcl_lexer.specs.Reading.{left}
use Rattle.pcl_lexer.specs.Reader.{First, Open, Passes, Begins, Faulty, behind, named, with_data, by_last_letter, by_other_letter}
use Rattle.pcl_lexer.specs.Reader.{by_last_byte, after_field, command_in, is_group_or_parameter, is_termination, behind_ungrouped}
use Rattle.pcl_lexer.specs.Reader.{ungrouped, by_termination, after_ungrouped_field, without_group, in_group, after_introducer}
use Rattle.pcl_lexer.specs.Reader.{after_parenthesis, by_character, after_escape, by_code, between_units, by_pjl, exit_or, first_of}
use Rattle.pcl_items.specs.PjlLines.Exit.{exit_field, begins_with}
use Rattle.pcl_items.specs.Modes.{behind_pjl}
use Rattle.pcl_lexer.specs.Modes.{between}
use Rattle.pcl_items.specs.PjlLines.Text.{PjlCommand}
use Rattle.pcl_items.specs.PjlLines.Text.{Bare, Remark, JobBegins, JobEnds, EnterPcl}
use Rattle.pcl_items.specs.PjlLines.First as lines
use Rattle.pcl_lexer.specs.PjlLines.Units.{IsPjlUnit, whole_line}
use Rattle.pcl_lexer.proofs.PjlLines.Units.{lines_by_rules}
use Rattle.pcl_lexer.proofs.PjlLines.Exits.{exit_there}
use Rattle.pcl_lexer.proofs.Escapes.Tables.{both_true}
use Rattle.pcl_lexer.proofs.Escapes.Fields.{field_parts, parts_text, length-parts}

-- in mode PCL none is passed over, and an item has at least one byte, among n
abbrev IsSpan : ℕ → First → Type 0
IsSpan n Open = Unit {0}
IsSpan n (Passes len next) = ⊥
IsSpan n (Begins item len next) = (0 < len) × (len ≤ n) × (counted next ≡ 0) × (pending next ≡ 0)
IsSpan n (Faulty cause) = Unit {0}

named-span : (o : Option Command) (g : Group) (c : ℕ) (a : Amount) (len : ℕ) (next : Context) (n : ℕ) → 0 < len → len ≤ n →
    counted next ≡ 0 → pending next ≡ 0 → IsSpan n (named o g c a len next)
named-span None g c a len next n h k i j = tt
named-span (Some command) g c a len next n h k i j = (h, k, i, j)

with_data-span : (d : DataCommand) (o : Option ℕ) (len : ℕ) (bytes : List ℕ) (n : ℕ) → 0 < len → len + length bytes ≤ n →
    IsSpan n (with_data d o len bytes)
with_data-span d None len bytes n h k = tt
with_data-span d (Some m) len bytes n h k =
    cond_both (nat_lt (length bytes) m) _ _ (IsSpan n) (λ _. tt)
    (λ e. (omega arith, omega (arith, ltb-false (length bytes) m e, k), refl, refl))

by_last_letter-span : (o : Option DataCommand) (g : Group) (c : ℕ) (a : Amount) (len : ℕ) (bytes : List ℕ) (n : ℕ) → 0 < len →
    len + length bytes ≤ n → IsSpan n (by_last_letter o g c a len bytes)
by_last_letter-span None g c a len bytes n h k = named-span (command_at g c) g c a len Pcl n h (omega (arith, k)) refl refl
by_last_letter-span (Some d) g c a len bytes n h k = with_data-span d (count_of a) len bytes n h k

by_other_letter-span : (o : Option DataCommand) (g : Group) (c : ℕ) (a : Amount) (len n : ℕ) → 0 < len → len ≤ n →
    IsSpan n (by_other_letter o g c a len)
by_other_letter-span None g c a len n h k = named-span (command_at g c) g c a len (Sequence g) n h k refl refl
by_other_letter-span (Some d) g c a len n h k = tt

by_last_byte-span : (o : Option Amount) (g : Group) (len c : ℕ) (bytes : List ℕ) (n : ℕ) → len + 1 + length bytes ≤ n →
    IsSpan n (by_last_byte o g len c bytes)
by_last_byte-span None g len c bytes n h = tt
by_last_byte-span (Some a) g len c bytes n h =
    cond_both (is_group_or_parameter c) _ _ (IsSpan n)
    (λ _. by_other_letter-span (data_command_at g (c - 32)) g (c - 32) a (len + 1) n (omega arith) (omega (arith, h)))
    (λ _. cond_both (is_termination c) _ _ (IsSpan n)
    (λ _. by_last_letter-span (data_command_at g c) g c a (len + 1) bytes n (omega arith) h) (λ _. tt))

after_field-span : (g : Group) (f : Field) (bytes : List ℕ) (n : ℕ) → (0 < length bytes → f.len + length bytes ≤ n) →
    IsSpan n (after_field g f bytes)
after_field-span g f [] n h = tt
after_field-span g f (c ∷ bytes) n h = by_last_byte-span (amount_of f) g f.len c bytes n (let k = h (omega arith) in omega (arith, k))

command_in-span : (g : Group) (bytes : List ℕ) → IsSpan (length bytes) (command_in g bytes)
unfolding command_in
command_in-span g bytes =
    cond_both (nat_lt 16 (field_at bytes).len) _ _ (IsSpan (length bytes)) (λ _. tt)
    (λ _. after_field-span g (field_at bytes) (drop (field_at bytes).len bytes) (length bytes)
    (λ h. omega (arith, length-drop (field_at bytes).len bytes)))

-- between units
counted_behind : (item : Entry) → counted (behind_ungrouped item) ≡ 0
counted_behind (Text c) = refl
counted_behind CarriageReturn = refl
counted_behind LineFeed = refl
counted_behind FormFeed = refl
counted_behind Reset = refl
counted_behind ClearMargins = refl
counted_behind HalfLineFeed = refl
counted_behind (Parameterized command amount) = refl
counted_behind (SymbolSet amount letter) = refl
counted_behind DefaultFont = refl
counted_behind (EnterFrame handover) = refl
counted_behind (LeaveFrame handover) = refl
counted_behind Initialize = refl
counted_behind (Set setting n) = refl
counted_behind (Move motion to) = refl
counted_behind (WithData command bytes) = refl
counted_behind ExitLanguage = refl
counted_behind (PjlLine line) = refl

pending_behind : (item : Entry) → pending (behind_ungrouped item) ≡ 0
pending_behind (Text c) = refl
pending_behind CarriageReturn = refl
pending_behind LineFeed = refl
pending_behind FormFeed = refl
pending_behind Reset = refl
pending_behind ClearMargins = refl
pending_behind HalfLineFeed = refl
pending_behind (Parameterized command amount) = refl
pending_behind (SymbolSet amount letter) = refl
pending_behind DefaultFont = refl
pending_behind (EnterFrame handover) = refl
pending_behind (LeaveFrame handover) = refl
pending_behind Initialize = refl
pending_behind (Set setting n) = refl
pending_behind (Move motion to) = refl
pending_behind (WithData command bytes) = refl
pending_behind ExitLanguage = refl
pending_behind (PjlLine line) = refl

ungrouped-span : (o : Option Entry) (i c len n : ℕ) → 0 < len → len ≤ n → IsSpan n (ungrouped o i c len)
ungrouped-span None i c len n h k = tt
ungrouped-span (Some item) i c len n h k = (h, k, counted_behind item, pending_behind item)

by_termination-span : (o : Option Amount) (i len c n : ℕ) → len + 3 ≤ n → IsSpan n (by_termination o i len c)
by_termination-span None i len c n h = tt
by_termination-span (Some a) i len c n h =
    cond_both (is_termination c) _ _ (IsSpan n) (λ _. ungrouped-span (ungrouped_at i a c) i c (len + 3) n (omega arith) h) (λ _. tt)

after_ungrouped_field-span : (i : ℕ) (f : Field) (bytes : List ℕ) (n : ℕ) → (0 < length bytes → f.len + 3 ≤ n) →
    IsSpan n (after_ungrouped_field i f bytes)
after_ungrouped_field-span i f [] n h = tt
after_ungrouped_field-span i f (c ∷ bytes) n h = by_termination-span (amount_of f) i f.len c n (h (omega arith))

without_group-span : (i : ℕ) (bytes : List ℕ) (n : ℕ) → 2 + length bytes ≤ n → IsSpan n (without_group i bytes)
unfolding without_group
without_group-span i bytes n k =
    cond_both (nat_lt 16 (field_at bytes).len) _ _ (IsSpan n) (λ _. tt)
    (λ _. after_ungrouped_field-span i (field_at bytes) (drop (field_at bytes).len bytes) n
    (λ h. omega (arith, k, length-drop (field_at bytes).len bytes)))

-- the universal exit
exit_or-span : (f : First) (bytes : List ℕ) (n : ℕ) → 2 + length bytes ≤ n → IsSpan n f → IsSpan n (exit_or f bytes)
exit_or-span f bytes n k h =
    cond_both (begins_with exit_field bytes) _ _ (IsSpan n)
    (λ e. let t = exit_there bytes e in (omega arith, omega (arith, k, ap length t.1), refl, refl)) (λ _. h)

behind-span : (n m : ℕ) (f : First) → IsSpan m f → IsSpan (n + m) (behind n f)
behind-span n m Open h = tt
behind-span n m (Passes len next) h = absurd h
behind-span n m (Begins item len next) h = (omega (arith, h.0), omega (arith, h.1), h.2, h.3)
behind-span n m (Faulty cause) h = tt

in_group-span : (o : Option Group) (i c : ℕ) (bytes : List ℕ) → IsSpan (3 + length bytes) (in_group o i c bytes)
in_group-span None i c bytes = tt
in_group-span (Some g) i c bytes = behind-span 3 (length bytes) (command_in g bytes) (command_in-span g bytes)

three_more : (bytes : List ℕ) (a b c : ℕ) (f : First) → IsSpan (3 + length bytes) f → IsSpan (length (a ∷ b ∷ c ∷ bytes)) f
three_more bytes a b c f h = let e : 3 + length bytes ≡ length (a ∷ b ∷ c ∷ bytes) = omega arith in subst (λ (n : ℕ). IsSpan n f) e h

after_introducer-span : (a i : ℕ) (bytes : List ℕ) → IsSpan (length (a ∷ i ∷ bytes)) (after_introducer i bytes)
unfolding after_introducer
after_introducer-span a i [] = tt
after_introducer-span a i (c ∷ bytes) =
    cond_both (is_group_or_parameter c) _ _ (IsSpan (length (a ∷ i ∷ c ∷ bytes)))
    (λ _. three_more bytes a i c (in_group (group_at i c) i c bytes) (in_group-span (group_at i c) i c bytes)) (λ _. tt)

after_parenthesis-span : (a b : ℕ) (bytes : List ℕ) → IsSpan (length (a ∷ b ∷ bytes)) (after_parenthesis bytes)
unfolding after_parenthesis
after_parenthesis-span a b [] = tt
after_parenthesis-span a b (c ∷ bytes) =
    cond_both (is_group_or_parameter c) _ _ (IsSpan (length (a ∷ b ∷ c ∷ bytes)))
    (λ _. three_more bytes a b c (in_group (group_at 40 c) 40 c bytes) (in_group-span (group_at 40 c) 40 c bytes))
    (λ _. without_group-span 40 (c ∷ bytes) (length (a ∷ b ∷ c ∷ bytes)) (omega arith))

by_character-span : (o : Option Entry) (a b : ℕ) (bytes : List ℕ) → IsSpan (length (a ∷ b ∷ bytes)) (by_character o b bytes)
by_character-span (Some item) a b bytes = (omega arith, omega arith, refl, refl)
by_character-span None a b bytes =
    let n : ℕ = length (a ∷ b ∷ bytes) in
    cond_both ((b == 38) || (b == 42)) _ _ (IsSpan n) (λ _. after_introducer-span a b bytes) (λ _.
    cond_both (b == 40) _ _ (IsSpan n) (λ _. after_parenthesis-span a b bytes) (λ _.
    cond_both (b == 37) _ _ (IsSpan n)
    (λ _. exit_or-span (without_group 37 bytes) bytes n (omega arith) (without_group-span 37 bytes n (omega arith))) (λ _.
    cond_both (is_in_range 33 126 b) _ _ (IsSpan n) (λ _. tt) (λ _. tt))))

after_escape-span : (a : ℕ) (bytes : List ℕ) → IsSpan (length (a ∷ bytes)) (after_escape bytes)
unfolding after_escape
after_escape-span a [] = tt
after_escape-span a (b ∷ bytes) = by_character-span (sequence_at b) a b bytes

by_code-span : (o : Option Entry) (b : ℕ) (bytes : List ℕ) → IsSpan (length (b ∷ bytes)) (by_code o b bytes)
by_code-span (Some item) b bytes = (omega arith, omega arith, refl, refl)
by_code-span None b bytes = cond_both (b == 27) _ _ (IsSpan (length (b ∷ bytes))) (λ _. after_escape-span b bytes) (λ _. tt)

-- enter PCL mode, behind ESC and `%`
left_by-span : (o : Option Entry) (c len n : ℕ) → 0 < len → len ≤ n → IsSpan n (left_by o c len)
left_by-span None c len n h k = tt
left_by-span (Some item) c len n h k = (h, k, refl, refl)

by_language-span : (o : Option Amount) (len c n : ℕ) → len + 3 ≤ n → IsSpan n (by_language o len c)
by_language-span None len c n h = tt
by_language-span (Some a) len c n h =
    cond_both (is_termination c) _ _ (IsSpan n) (λ _. left_by-span (leave_at a c) c (len + 3) n (omega arith) h) (λ _. tt)

after_language_field-span : (f : Field) (bytes : List ℕ) (n : ℕ) → (0 < length bytes → f.len + 3 ≤ n) →
    IsSpan n (after_language_field f bytes)
after_language_field-span f [] n h = tt
after_language_field-span f (c ∷ bytes) n h = by_language-span (amount_of f) f.len c n (h (omega arith))

language-span : (a b : ℕ) (bytes : List ℕ) → IsSpan (length (a ∷ b ∷ bytes)) (language_in bytes)
unfolding language_in
language-span a b bytes =
    cond_both (nat_lt 16 (field_at bytes).len) _ _ (IsSpan (length (a ∷ b ∷ bytes))) (λ _. tt)
    (λ _. after_language_field-span (field_at bytes) (drop (field_at bytes).len bytes) (length (a ∷ b ∷ bytes))
    (λ h. omega (arith, length-drop (field_at bytes).len bytes)))

between-span : (b : ℕ) (bytes : List ℕ) → IsSpan (length (b ∷ bytes)) (between_units b bytes)
between-span b bytes =
    cond_both (nat_le 32 b) _ _ (IsSpan (length (b ∷ bytes))) (λ _. (omega arith, omega arith, refl, refl))
    (λ _. by_code-span (control_at b) b bytes)

-- a line has its newline at least
line-counted : (line : PjlCommand) → counted (between (behind_pjl line)) ≡ 0
line-counted Bare = refl
line-counted (Remark text) = refl
line-counted (JobBegins text) = refl
line-counted (JobEnds text) = refl
line-counted EnterPcl = refl

line-pending : (line : PjlCommand) → pending (between (behind_pjl line)) ≡ 0
line-pending Bare = refl
line-pending (Remark text) = refl
line-pending (JobBegins text) = refl
line-pending (JobEnds text) = refl
line-pending EnterPcl = refl

line-length : {text : List ℕ} {line : PjlCommand} → IsPjlUnit text line → 0 < length text
line-length (whole_line words h e short) = omega (arith, length-append words (10 ∷ []))

by_pjl-span : (bytes : List ℕ) (f : lines.FirstPjl) → lines.at_pjl bytes ≡ f → IsSpan (length bytes) (by_pjl f)
by_pjl-span bytes lines.Open e = tt
by_pjl-span bytes (lines.Begins line len) e =
    let b = (lines_by_rules bytes).line line len e in (
      omega (arith, b.size, line-length b.unit),
      omega (arith, b.size, ap length b.all, length-append b.text b.rest),
      line-counted line,
      line-pending line,
    )
by_pjl-span bytes (lines.Faulty cause) e = tt

pjl-span : (b : ℕ) (bytes : List ℕ) →
    IsSpan (length (b ∷ bytes)) (cond (b == 64) (by_pjl (lines.at_pjl (b ∷ bytes))) (between_units b bytes))
pjl-span b bytes =
    cond_both (b == 64) _ _ (IsSpan (length (b ∷ bytes))) (λ _. by_pjl-span (b ∷ bytes) (lines.at_pjl (b ∷ bytes)) refl)
    (λ _. between-span b bytes)

-- ---- a number of a frame

abbrev pub IsNumeralSpan : {A : Type 0} → ℕ → Numeral A → Type 0
IsNumeralSpan n Cut = Unit {0}
IsNumeralSpan n (Wrong cause) = Unit {0}
IsNumeralSpan n (Read value len) = (0 < len) × (len ≤ n)

read_or-span : {A : Type 0} (r : Numeral A) (o : Option A) (len n : ℕ) → IsNumeralSpan n r → 0 < len → len ≤ n →
    IsNumeralSpan n (read_or r o len)
read_or-span r None len n h k l = h
read_or-span r (Some value) len n h k l = (k, l)

number_end-span : {A : Type 0} (whole digit : Bool) (o : Option A) (len : ℕ) (rest : List ℕ) (n : ℕ) → (digit ≡ true → 0 < len) → len ≤ n →
    IsNumeralSpan n (number_end whole digit o len rest)
number_end-span whole digit o len [] n h k =
    cond_both (whole && digit) _ _ (IsNumeralSpan n) (λ e. read_or-span Cut o len n tt (h (both_true whole digit e).1) k) (λ _. tt)
number_end-span whole digit o len (c ∷ rest) n h k =
    cond_both digit _ _ (IsNumeralSpan n) (λ e. read_or-span (Wrong BadNumber) o len n tt (h e) k) (λ _. tt)

not_zero : (n : ℕ) → not (n == 0) ≡ true → 0 < n
not_zero zero h = absurd cc
not_zero (suc n) h = omega arith

fraction-length : (o : Option (List ℕ)) → length (decimals_of o) ≤ length (fraction_text o)
fraction-length None = omega arith
fraction-length (Some ds) = omega arith

field-positive : (bytes : List ℕ) → has_digit (field_at bytes) ≡ true → 0 < (field_at bytes).len
field-positive bytes h =
    let f = field_at bytes in
    let p = field_parts bytes in
    let some = not_zero (length f.whole + length f.decimals) h in
    omega (arith, some, p.len, ap length p.decimals, fraction-length p.fraction, length-parts f.sign f.whole (fraction_text p.fraction))

pub field-within : (bytes : List ℕ) → (field_at bytes).len ≤ length bytes
field-within bytes =
    let f = field_at bytes in
    let p = field_parts bytes in
    let all : length bytes ≡ length (parts_text f.sign f.whole p.fraction ++ drop f.len bytes) = ap length p.text in
    omega (arith, all, p.len, length-append (parts_text f.sign f.whole p.fraction) (drop f.len bytes))

pub numeral-span : {A : Type 0} (value : Field → Option A) (whole : Bool) (bytes : List ℕ) →
    IsNumeralSpan (length bytes) (numeral_at value whole bytes)
unfolding numeral_at
numeral-span value whole bytes =
    cond_both (nat_lt 16 (field_at bytes).len) _ _ (IsNumeralSpan (length bytes)) (λ _. tt)
    (λ _. number_end-span whole (has_digit (field_at bytes)) (value (field_at bytes)) (field_at bytes).len (drop (field_at bytes).len bytes)
    (length bytes) (field-positive bytes) (field-within bytes))

-- ---- a step from a context

abbrev IsTaken : Context → ℕ → ℕ → Context → Type 0
IsTaken c n len next = (pending next < 2 * len + pending c) × (len ≤ n) × (counted next ≤ counted c + len)

abbrev IsStep : Context → ℕ → First → Type 0
IsStep c n Open = Unit {0}
IsStep c n (Passes len next) = IsTaken c n len next
IsStep c n (Begins item len next) = IsTaken c n len next
IsStep c n (Faulty cause) = Unit {0}

span-step : (c : Context) (n : ℕ) (f : First) → IsSpan n f → IsStep c n f
span-step c n Open h = tt
span-step c n (Passes len next) h = absurd h
span-step c n (Begins item len next) h = (omega (arith, h.0, h.3), h.1, omega (arith, h.2))
span-step c n (Faulty cause) h = tt

in_command-step : (o : Option Mnemonic) (a b n : ℕ) → 2 ≤ n → IsStep Frame n (in_command o a b)
in_command-step None a b n h = tt
in_command-step (Some m) a b n h = (omega arith, h, omega arith)

second_letter-step : (k : Kind) (a b n : ℕ) → 2 ≤ n → IsStep Frame n (second_letter k a b)
second_letter-step kinds.Letter a b n h = in_command-step (mnemonic_at (capital a) (capital b)) (capital a) (capital b) n h
second_letter-step kinds.White a b n h = tt
second_letter-step kinds.Comma a b n h = tt
second_letter-step kinds.Semicolon a b n h = tt
second_letter-step kinds.Escape a b n h = tt
second_letter-step kinds.Sign a b n h = tt
second_letter-step kinds.Figure a b n h = tt
second_letter-step kinds.Other a b n h = tt

after_letter-step : (b : ℕ) (bytes : List ℕ) → IsStep Frame (length (b ∷ bytes)) (after_letter b bytes)
after_letter-step b [] = tt
after_letter-step b (c ∷ bytes) = second_letter-step (kind_of c) b c (length (b ∷ c ∷ bytes)) (omega arith)

frame_escape-step : (b : ℕ) (bytes : List ℕ) → IsStep Frame (length (b ∷ bytes)) (after_frame_escape bytes)
frame_escape-step b [] = tt
frame_escape-step b (c ∷ bytes) =
    let n : ℕ = length (b ∷ c ∷ bytes) in
    cond_both (c == 69) _ _ (IsStep Frame n) (λ _. (omega arith, omega arith, omega arith)) (λ _.
    cond_both (c == 37) _ _ (IsStep Frame n)
    (λ _. span-step Frame n (exit_or (language_in bytes) bytes)
    (exit_or-span (language_in bytes) bytes n (omega arith) (language-span b c bytes)))
    (λ _. tt))

kind-step : (k : Kind) (b : ℕ) (bytes : List ℕ) → IsStep Frame (length (b ∷ bytes)) (by_kind k b bytes)
kind-step kinds.White b bytes = (omega arith, omega arith, omega arith)
kind-step kinds.Semicolon b bytes = (omega arith, omega arith, omega arith)
kind-step kinds.Letter b bytes = after_letter-step b bytes
kind-step kinds.Escape b bytes = frame_escape-step b bytes
kind-step kinds.Comma b bytes = tt
kind-step kinds.Sign b bytes = tt
kind-step kinds.Figure b bytes = tt
kind-step kinds.Other b bytes = tt

single-step : (c : Context) (n : ℕ) (setting : Setting) (x : Numeral ℕ) (m : ℕ) → n ≤ counted c → IsNumeralSpan m x →
    IsStep c m (single n (λ a. Single setting a) x)
single-step c n setting Cut m e h = tt
single-step c n setting (Wrong cause) m e h = tt
single-step c n setting (Read a len) m e h = (omega (arith, h.0), h.1, omega (arith, e))

first_of_pair-step : (c : Context) (n : ℕ) (motion : Motion) (x : Numeral ℤ) (m : ℕ) → n ≤ counted c → IsNumeralSpan m x →
    IsStep c m (first_of_pair n motion x)
first_of_pair-step c n motion Cut m e h = tt
first_of_pair-step c n motion (Wrong cause) m e h = tt
first_of_pair-step c n motion (Read y len) m e h = (omega (arith, h.0), h.1, omega (arith, e))

second_of_pair-step : (c : Context) (motion : Motion) (x : ℤ) (y : Numeral ℤ) (m : ℕ) → IsNumeralSpan m y →
    IsStep c m (second_of_pair motion x y)
second_of_pair-step c motion x Cut m h = tt
second_of_pair-step c motion x (Wrong cause) m h = tt
second_of_pair-step c motion x (Read y len) m h = (omega (arith, h.0), h.1, omega arith)

first_number-step : (whole : Bool) (m : Mnemonic) (n : ℕ) (bytes : List ℕ) →
    IsStep (Letters m n) (length bytes) (first_number whole m n bytes)
first_number-step whole mnemonics.Initialize n bytes = tt
first_number-step whole (mnemonics.Sets setting) n bytes =
    single-step (Letters (mnemonics.Sets setting) n) n setting (numeral_at setting_of whole bytes) (length bytes) (omega arith)
    (numeral-span setting_of whole bytes)
first_number-step whole (mnemonics.Moves motion) n bytes =
    first_of_pair-step (Letters (mnemonics.Moves motion) n) n motion (numeral_at coordinate_of whole bytes) (length bytes) (omega arith)
    (numeral-span coordinate_of whole bytes)

letters-step : (k : Kind) (whole : Bool) (m : Mnemonic) (n b : ℕ) (bytes : List ℕ) →
    IsStep (Letters m n) (length (b ∷ bytes)) (letters_by k whole m n (b ∷ bytes))
letters-step kinds.White whole m n b bytes = (omega arith, omega arith, omega arith)
letters-step kinds.Semicolon whole m n b bytes = (omega arith, omega arith, omega arith)
letters-step kinds.Letter whole m n b bytes = (omega arith, omega arith, omega arith)
letters-step kinds.Escape whole m n b bytes = (omega arith, omega arith, omega arith)
letters-step kinds.Sign whole m n b bytes = first_number-step whole m n (b ∷ bytes)
letters-step kinds.Figure whole m n b bytes = first_number-step whole m n (b ∷ bytes)
letters-step kinds.Comma whole m n b bytes = tt
letters-step kinds.Other whole m n b bytes = tt

further-step : (whole : Bool) (x : Numbers) (gap : Gap) (n : ℕ) (bytes : List ℕ) →
    IsStep (Numbered x gap n) (length bytes) (further whole x bytes)
further-step whole (Single setting a) gap n bytes = tt
further-step whole (Odd motion x) gap n bytes =
    second_of_pair-step (Numbered (Odd motion x) gap n) motion x (numeral_at coordinate_of whole bytes) (length bytes)
    (numeral-span coordinate_of whole bytes)
further-step whole (Even motion) gap n bytes =
    first_of_pair-step (Numbered (Even motion) gap n) 0 motion (numeral_at coordinate_of whole bytes) (length bytes) (omega arith)
    (numeral-span coordinate_of whole bytes)

ended_by-step : (x : Numbers) (gap : Gap) (n m : ℕ) → IsStep (Numbered x gap n) m (ended_by x gap)
ended_by-step x gaps.Comma n m = tt
ended_by-step (Single setting a) gaps.Straight n m = (omega arith, omega arith, omega arith)
ended_by-step (Single setting a) gaps.Spaced n m = (omega arith, omega arith, omega arith)
ended_by-step (Odd motion x) gaps.Straight n m = tt
ended_by-step (Odd motion x) gaps.Spaced n m = tt
ended_by-step (Even motion) gaps.Straight n m = (omega arith, omega arith, omega arith)
ended_by-step (Even motion) gaps.Spaced n m = (omega arith, omega arith, omega arith)

ended-step : (x : Numbers) (gap : Gap) (n m : ℕ) → IsStep (Numbered x gap n) m (ended x gap)
ended-step x gaps.Comma n m = tt
ended-step (Single setting a) gaps.Straight n m = (omega arith, omega arith, omega arith)
ended-step (Single setting a) gaps.Spaced n m = (omega arith, omega arith, omega arith)
ended-step (Odd motion x) gaps.Straight n m = tt
ended-step (Odd motion x) gaps.Spaced n m = tt
ended-step (Even motion) gaps.Straight n m = (omega arith, omega arith, omega arith)
ended-step (Even motion) gaps.Spaced n m = (omega arith, omega arith, omega arith)

with_comma-step : (x : Numbers) (gap : Gap) (n m : ℕ) → 1 ≤ m → IsStep (Numbered x gap n) m (with_comma x gap n)
with_comma-step x gaps.Comma n m h = tt
with_comma-step x gaps.Straight n m h = (omega arith, h, omega arith)
with_comma-step x gaps.Spaced n m h = (omega arith, h, omega arith)

figure-step : (whole : Bool) (x : Numbers) (gap : Gap) (n : ℕ) (bytes : List ℕ) →
    IsStep (Numbered x gap n) (length bytes) (by_figure whole x gap bytes)
figure-step whole x gaps.Straight n bytes = tt
figure-step whole x gaps.Spaced n bytes = further-step whole x gaps.Spaced n bytes
figure-step whole x gaps.Comma n bytes = further-step whole x gaps.Comma n bytes

numbers-step : (k : Kind) (whole : Bool) (x : Numbers) (gap : Gap) (n b : ℕ) (bytes : List ℕ) →
    IsStep (Numbered x gap n) (length (b ∷ bytes)) (numbers_by k whole x gap n (b ∷ bytes))
numbers-step kinds.White whole x gap n b bytes = (omega arith, omega arith, omega arith)
numbers-step kinds.Comma whole x gap n b bytes = with_comma-step x gap n (length (b ∷ bytes)) (omega arith)
numbers-step kinds.Semicolon whole x gap n b bytes = ended_by-step x gap n (length (b ∷ bytes))
numbers-step kinds.Letter whole x gap n b bytes = ended_by-step x gap n (length (b ∷ bytes))
numbers-step kinds.Escape whole x gap n b bytes = ended_by-step x gap n (length (b ∷ bytes))
numbers-step kinds.Sign whole x gap n b bytes = further-step whole x gap n (b ∷ bytes)
numbers-step kinds.Figure whole x gap n b bytes = figure-step whole x gap n (b ∷ bytes)
numbers-step kinds.Other whole x gap n b bytes = tt

first-step : (whole : Bool) (c : Context) (bytes : List ℕ) → IsStep c (length bytes) (first_of whole c bytes)
unfolding first_of at_frame after_letters after_numbers
first-step whole Pcl [] = tt
first-step whole Pcl (b ∷ bytes) = span-step Pcl (length (b ∷ bytes)) (between_units b bytes) (between-span b bytes)
first-step whole (Sequence g) bytes = span-step (Sequence g) (length bytes) (command_in g bytes) (command_in-span g bytes)
first-step whole Frame [] = tt
first-step whole Frame (b ∷ bytes) = kind-step (kind_of b) b bytes
first-step whole (Letters m n) [] = cond_both whole _ _ (IsStep (Letters m n) 0) (λ _. (omega arith, omega arith, omega arith)) (λ _. tt)
first-step whole (Letters m n) (b ∷ bytes) = letters-step (kind_of b) whole m n b bytes
first-step whole (Numbered x gap n) [] = cond_both whole _ _ (IsStep (Numbered x gap n) 0) (λ _. ended-step x gap n 0) (λ _. tt)
first-step whole (Numbered x gap n) (b ∷ bytes) = numbers-step (kind_of b) whole x gap n b bytes
first-step whole Pjl [] = tt
first-step whole Pjl (b ∷ bytes) = span-step Pjl (length (b ∷ bytes)) _ (pjl-span b bytes)

-- what a step takes
pub record Taken (c : Context) (bytes : List ℕ) (len : ℕ) (next : Context) : Type 0 where
  pub less : left next (drop len bytes) < left c bytes
  pub within : len ≤ length bytes
  pub counts : counted next ≤ counted c + len

taken : (c : Context) (bytes : List ℕ) (len : ℕ) (next : Context) → IsTaken c (length bytes) len next → Taken c bytes len next
taken c bytes len next h = record { less = omega (arith, h.0, h.1, length-drop len bytes); within = h.1; counts = h.2 }

pub begins-taken : (whole : Bool) (c : Context) (bytes : List ℕ) (item : Entry) (len : ℕ) (next : Context) →
    first_of whole c bytes ≡ Begins item len next → Taken c bytes len next
begins-taken whole c bytes item len next e = taken c bytes len next (subst (IsStep c (length bytes)) e (first-step whole c bytes))

pub passes-taken : (whole : Bool) (c : Context) (bytes : List ℕ) (len : ℕ) (next : Context) → first_of whole c bytes ≡ Passes len next →
    Taken c bytes len next
passes-taken whole c bytes len next e = taken c bytes len next (subst (IsStep c (length bytes)) e (first-step whole c bytes))

-- in mode PCL nothing is passed over
pub no_passing : (whole : Bool) (bytes : List ℕ) (len : ℕ) (next : Context) → first_of whole Pcl bytes ≡ Passes len next → ⊥
unfolding first_of
no_passing whole [] len next e = absurd cc
no_passing whole (b ∷ bytes) len next e = subst (IsSpan (length (b ∷ bytes))) e (between-span b bytes)

pub no_passing_in : (whole : Bool) (g : Group) (bytes : List ℕ) (len : ℕ) (next : Context) →
    first_of whole (Sequence g) bytes ≡ Passes len next → ⊥
unfolding first_of
no_passing_in whole g bytes len next e = subst (IsSpan (length bytes)) e (command_in-span g bytes)

pub no_passing_line : (whole : Bool) (bytes : List ℕ) (len : ℕ) (next : Context) → first_of whole Pjl bytes ≡ Passes len next → ⊥
unfolding first_of
no_passing_line whole [] len next e = absurd cc
no_passing_line whole (b ∷ bytes) len next e = subst (IsSpan (length (b ∷ bytes))) e (pjl-span b bytes)

-- and an item has a byte at least, behind which nothing is counted
pub pcl_item : (whole : Bool) (bytes : List ℕ) (item : Entry) (len : ℕ) (next : Context) → first_of whole Pcl bytes ≡ Begins item len next →
    (0 < len) × (counted next ≡ 0)
unfolding first_of
pcl_item whole [] item len next e = absurd cc
pcl_item whole (b ∷ bytes) item len next e =
    let span = subst (IsSpan (length (b ∷ bytes))) e (between-span b bytes) in (span.0, span.2)

pub pcl_item_in : (whole : Bool) (g : Group) (bytes : List ℕ) (item : Entry) (len : ℕ) (next : Context) →
    first_of whole (Sequence g) bytes ≡ Begins item len next → (0 < len) × (counted next ≡ 0)
unfolding first_of
pcl_item_in whole g bytes item len next e =
    let span = subst (IsSpan (length bytes)) e (command_in-span g bytes) in (span.0, span.2)

-- what is counted behind a step
counted-step : (c : Context) (n : ℕ) (f : First) → IsStep c n f → counted_after f ≤ counted c + len_of f
counted-step c n Open h = omega arith
counted-step c n (Passes len next) h = h.2
counted-step c n (Begins item len next) h = h.2
counted-step c n (Faulty cause) h = omega arith

counted_by : (f : First) (whole : Bool) (c : Context) (bytes : List ℕ) → f ≡ first_of whole c bytes → counted_after f ≤ counted c + len_of f
counted_by f whole c bytes e = counted-step c (length bytes) f (subst (IsStep c (length bytes)) (sym e) (first-step whole c bytes))

within-step : (c : Context) (n : ℕ) (f : First) → IsStep c n f → len_of f ≤ n
within-step c n Open h = omega arith
within-step c n (Passes len next) h = h.1
within-step c n (Begins item len next) h = h.1
within-step c n (Faulty cause) h = omega arith

pub first_within : (f : First) (whole : Bool) (c : Context) (bytes : List ℕ) → f ≡ first_of whole c bytes → len_of f ≤ length bytes
first_within f whole c bytes e = within-step c (length bytes) f (subst (IsStep c (length bytes)) (sym e) (first-step whole c bytes))

-- the same of what the code answers
pub first_counted : (first : code_first.First) (whole : Bool) (context : code_context.Context) (bytes : List ℕ) →
    first_view bytes first ≡ first_of whole (context_view context) bytes →
    counted_after (first_view bytes first) ≤ counted (context_view context) + len_of (first_view bytes first)
first_counted first whole context bytes e = counted_by (first_view bytes first) whole (context_view context) bytes e
