-- What has a rule of a fault is read as that fault.
use Rattle.std.proofs.Common.{◌≡◌, ℕ, ◌+◌, ◌<◌, ◌≤◌, List, [], ◌∷◌, ◌++◌, length, Bool, true, false, cond, Option, None, Some, refl, sym}
use Rattle.std.proofs.Common.{ap, subst, ◌∙◌, arith, inl, inr}
use Rattle.std.specs.Prelude.{◌==◌, ◌||◌, nat_lt, nat_le}
use Rattle.std.specs.Int.{is_in_range}
use Rattle.std.proofs.lemmas.Bool.{eqb-true, cond-true, cond-false, and_from, le-leb, leb-true}
use Rattle.pcl_items.specs.declared.pcl.command.Group.{Group}
use Rattle.pcl_items.specs.declared.pcl.command.Command.{Command}
use Rattle.pcl_items.specs.declared.pcl.command.DataCommand.{DataCommand}
use Rattle.pcl_lexer.specs.Lexing.Contexts.{Pcl, Sequence}
use Rattle.pcl_items.specs.declared.fault.Name.TheVariants as names
use Rattle.pcl_items.specs.declared.fault.LexCause.{LexCause}
use Rattle.pcl_items.specs.declared.fault.LexCause.TheVariants.{Syntax, Truncated, NotInProfile, BadNumber}
use Rattle.pcl_items.specs.declared.item.Mode.TheVariants as modes
use Rattle.pcl_items.specs.Escapes.Commands.{introducer_of, character_of, group_at, command_at, data_group_of, data_letter_of}
use Rattle.pcl_items.specs.Escapes.Commands.{data_command_at}
use Rattle.pcl_items.specs.Escapes.Value.{Amount, Counts}
use Rattle.pcl_lexer.specs.Escapes.Field.{field_at}
use Rattle.pcl_items.specs.Escapes.ValueField.{IsField}
use Rattle.pcl_lexer.specs.Grammar.{small}
use Rattle.pcl_items.specs.Escapes.Codes.{escape, control_at, sequence_at}
use Rattle.pcl_lexer.specs.Reader.{First, Open, Passes, Begins, Faulty, behind, named, with_data, by_last_letter, by_other_letter}
use Rattle.pcl_lexer.specs.Reader.{by_last_byte, after_field, command_in, is_group_or_parameter, is_termination, ungrouped, by_termination}
use Rattle.pcl_lexer.specs.Reader.{after_ungrouped_field, without_group, in_group, after_introducer, after_parenthesis, by_character}
use Rattle.pcl_lexer.specs.Reader.{after_escape, by_code, exit_or, first_of}
use Rattle.pcl_lexer.specs.Escapes.Ungrouped.{ungrouped_at, count_of}
use Rattle.pcl_lexer.specs.Faults as rules
use Rattle.pcl_lexer.specs.Faults.{Ends, NumberFault, IsCut, IsCapital, IsSmall, IsUnknown, CommandFault, number, no_letter, unknown_last}
use Rattle.pcl_lexer.specs.Faults.{unknown_more, data_goes_on, no_count, cut_data, cut_command, UngroupedFault, ungrouped_number, no_end}
use Rattle.pcl_lexer.specs.Faults.{unknown_end, cut_ungrouped, HasGroups, BeginsSmall, UnitFault, no_byte, cut_escape, no_sequence}
use Rattle.pcl_lexer.specs.Faults.{no_character, cut_introducer, no_group, unknown_group, font, language}
use Rattle.pcl_items.specs.PjlLines.Exit.{exit_field, BeginsExit, begins_with}
use Rattle.pcl_lexer.proofs.PjlLines.Exits.{no_exit}
use Rattle.pcl_lexer.proofs.Escapes.Tables.{both_true, by_test, command_found, group_found, no_sequence_outside, data_command_known}
use Rattle.pcl_lexer.proofs.Escapes.Tables.{data_command_found, data_capital_letter}
use Rattle.pcl_lexer.proofs.Escapes.Counted.{counted, counts_of}
use Rattle.pcl_lexer.proofs.Escapes.Ungrouped.{ungrouped_none}
use Rattle.pcl_lexer.proofs.Escapes.Fields.{EndsIn, ends_at_letter}
use Rattle.pcl_lexer.proofs.Escapes.Shapes.{ends_in, number_fault, cut_read}
use Rattle.pcl_lexer.proofs.Escapes.FaultHeads.{small_is, is_small, capital_is, is_capital}
use Rattle.pcl_lexer.proofs.Reading.Causes.{Causes, causes_fault, causes_open}
use Rattle.pcl_lexer.proofs.Escapes.Heads.{by_field, by_capital, by_small, by_count, ungrouped_field, group_read}
use Rattle.std.proofs.lemmas.Bool.{lt-ltb, lt-leb}

not_byte : (b n : ℕ) → (b ≡ n → ⊥) → (b == n) ≡ false
not_byte b n h = by_test (b == n) (λ e. h (eqb-true b n e))

-- ---- a command

no_command_at : (g : Group) (letter : ℕ) (o : Option Command) → IsUnknown g letter → command_at g letter ≡ o → o ≡ None
no_command_at g letter None h e = refl
no_command_at g letter (Some command) h e = let t = command_found g letter command e in absurd (h.no_command command (sym t.0) (sym t.1))

no_data_at : (g : Group) (letter : ℕ) (o : Option DataCommand) → IsUnknown g letter → data_command_at g letter ≡ o → o ≡ None
no_data_at g letter None h e = refl
no_data_at g letter (Some command) h e =
    let t = data_command_found g letter command e in absurd (h.no_data_command command (sym t.0) (sym t.1))

no_count_at : (a : Amount) (o : Option ℕ) → ((n : ℕ) → Counts a n → ⊥) → count_of a ≡ o → o ≡ None
no_count_at a None h e = refl
no_count_at a (Some n) h e = absurd (h n (counts_of a n e))

field_ends : (text : List ℕ) (a : Amount) (c : ℕ) (rest : List ℕ) (f : IsField text a) → Ends text c →
    EndsIn a.sign f.whole f.fraction (c ∷ rest)
field_ends text a c rest f e = ends_in text a.sign f.whole f.fraction c rest f.shape e

pub command_causes : (g : Group) (bytes : List ℕ) (cause : LexCause) → CommandFault g bytes cause → Causes (command_in g bytes) cause
unfolding command_in
command_causes _ _ _ (number {group = g} {bytes = bytes} h) =
    causes_fault (command_in g bytes) BadNumber
    (number_fault (after_field g) bytes (λ f c rest e. ap (λ o. by_last_byte o g f.len c rest) e) h)
command_causes _ _ _ (no_letter {group = g} {text = text} {amount = a} {byte = c} rest f ends no_capital no_small) =
    causes_fault (command_in g (text ++ c ∷ rest)) Syntax (by_field g text a c rest f (field_ends text a c rest f ends)
    ∙ cond-false (is_group_or_parameter c) _ _ (by_test (is_group_or_parameter c) (λ e. no_small (small_is c e)))
    ∙ cond-false (is_termination c) _ _ (by_test (is_termination c) (λ e. no_capital (capital_is c e))))
command_causes _ _ _ (unknown_last {group = g} {text = text} {amount = a} {letter = c} rest f capital none) =
    causes_fault (command_in g (text ++ c ∷ rest)) (NotInProfile (names.Command g c)) (by_capital g text a c rest f capital.0 capital.1
    ∙ ap (λ o. by_last_letter o g c a (length text + 1) rest) (no_data_at g c (data_command_at g c) none refl)
    ∙ ap (λ o. named o g c a (length text + 1) Pcl) (no_command_at g c (command_at g c) none refl))
command_causes _ _ _ (unknown_more {group = g} {text = text} {amount = a} {letter = c} rest f capital none) =
    causes_fault (command_in g (text ++ small c ∷ rest)) (NotInProfile (names.Command g c)) (by_small g text a c rest f capital.0 capital.1
    ∙ ap (λ o. by_other_letter o g c a (length text + 1)) (no_data_at g c (data_command_at g c) none refl)
    ∙ ap (λ o. named o g c a (length text + 1) (Sequence g)) (no_command_at g c (command_at g c) none refl))
command_causes _ _ _ (data_goes_on {text = text} {amount = a} d rest f) =
    let g = data_group_of d in
    let c = data_letter_of d in
    let k = data_capital_letter d in
    causes_fault (command_in g (text ++ small c ∷ rest)) Syntax (by_small g text a c rest f (omega (arith, k.0)) (omega (arith, k.1))
    ∙ ap (λ o. by_other_letter o g c a (length text + 1)) (data_command_known d))
command_causes _ _ _ (no_count {text = text} {amount = a} d rest f none) =
    causes_fault (command_in (data_group_of d) (text ++ data_letter_of d ∷ rest)) BadNumber (by_count d text a rest f
    ∙ ap (λ o. with_data d o (length text + 1) rest) (no_count_at a (count_of a) none refl))
command_causes _ _ _ (cut_data {text = text} {amount = a} {n = n} d bytes f h short) =
    causes_open (command_in (data_group_of d) (text ++ data_letter_of d ∷ bytes)) (by_count d text a bytes f
    ∙ ap (λ o. with_data d o (length text + 1) bytes) (counted a n h)
    ∙ cond-true (nat_lt (length bytes) n) _ _ (lt-ltb (length bytes) n short))
command_causes _ _ _ (cut_command {group = g} {bytes = bytes} h) = causes_open (command_in g bytes) (cut_read (after_field g) bytes h).1

-- ---- a sequence without a group

ungrouped_causes : (i : ℕ) (bytes : List ℕ) (cause : LexCause) → UngroupedFault i bytes cause → Causes (without_group i bytes) cause
unfolding without_group
ungrouped_causes _ _ _ (ungrouped_number {introducer = i} {bytes = bytes} h) =
    causes_fault (without_group i bytes) BadNumber
    (number_fault (after_ungrouped_field i) bytes (λ f c rest e. ap (λ o. by_termination o i f.len c) e) h)
ungrouped_causes _ _ _ (no_end {introducer = i} {text = text} {amount = a} {byte = c} rest f ends no_capital) =
    causes_fault (without_group i (text ++ c ∷ rest)) Syntax (ungrouped_field i text a c rest f (field_ends text a c rest f ends)
    ∙ cond-false (is_termination c) _ _ (by_test (is_termination c) (λ e. no_capital (capital_is c e))))
ungrouped_causes _ _ _ (unknown_end {introducer = i} {text = text} {amount = a} {letter = c} rest f capital none) =
    causes_fault (without_group i (text ++ c ∷ rest)) (NotInProfile (names.Pair i c))
    (ungrouped_field i text a c rest f (ends_at_letter a.sign f.whole f.fraction c rest (omega (arith, capital.0)))
    ∙ cond-true (is_termination c) _ _ (is_capital c capital)
    ∙ ap (λ o. ungrouped o i c (length text + 3)) (ungrouped_none i a c (ungrouped_at i a c) none refl))
ungrouped_causes _ _ _ (cut_ungrouped {introducer = i} {bytes = bytes} h) =
    causes_open (without_group i bytes) (cut_read (after_ungrouped_field i) bytes h).1

-- ---- a unit

no_group_at : (i c : ℕ) (o : Option Group) → ((g : Group) → introducer_of g ≡ i → character_of g ≡ c → ⊥) → group_at i c ≡ o → o ≡ None
no_group_at i c None h e = refl
no_group_at i c (Some g) h e = let t = group_found i c g e in absurd (h g (sym t.0) (sym t.1))

behind_causes : (n : ℕ) (f : First) (cause : LexCause) → Causes f cause → Causes (behind n f) cause
behind_causes n Open cause h = h
behind_causes n (Passes len next) cause h = h
behind_causes n (Begins item len next) cause h = h
behind_causes n (Faulty c) cause h = h

-- after an introducer, at a byte that is a group character or not
small_introducer : (b c : ℕ) (rest : List ℕ) → HasGroups b → IsSmall c →
    first_of true Pcl (escape ∷ b ∷ c ∷ rest) ≡ in_group (group_at b c) b c rest
unfolding first_of after_escape after_introducer after_parenthesis
small_introducer b c rest (inl e) s =
    ap (λ n. first_of true Pcl (escape ∷ n ∷ c ∷ rest)) e ∙ cond-true (is_group_or_parameter c) _ _ (is_small c s)
    ∙ sym (ap (λ n. in_group (group_at n c) n c rest) e)
small_introducer b c rest (inr (inl e)) s =
    ap (λ n. first_of true Pcl (escape ∷ n ∷ c ∷ rest)) e ∙ cond-true (is_group_or_parameter c) _ _ (is_small c s)
    ∙ sym (ap (λ n. in_group (group_at n c) n c rest) e)
small_introducer b c rest (inr (inr e)) s =
    ap (λ n. first_of true Pcl (escape ∷ n ∷ c ∷ rest)) e ∙ cond-true (is_group_or_parameter c) _ _ (is_small c s)
    ∙ sym (ap (λ n. in_group (group_at n c) n c rest) e)

other_introducer : (b c : ℕ) (rest : List ℕ) → HasGroups b → (b ≡ 40 → ⊥) → (IsSmall c → ⊥) →
    first_of true Pcl (escape ∷ b ∷ c ∷ rest) ≡ Faulty Syntax
unfolding first_of after_escape after_introducer after_parenthesis
other_introducer b c rest (inl e) k s =
    ap (λ n. first_of true Pcl (escape ∷ n ∷ c ∷ rest)) e
    ∙ cond-false (is_group_or_parameter c) _ _ (by_test (is_group_or_parameter c) (λ t. s (small_is c t)))
other_introducer b c rest (inr (inl e)) k s =
    ap (λ n. first_of true Pcl (escape ∷ n ∷ c ∷ rest)) e
    ∙ cond-false (is_group_or_parameter c) _ _ (by_test (is_group_or_parameter c) (λ t. s (small_is c t)))
other_introducer b c rest (inr (inr e)) k s = absurd (k e)

introducer_end : (b : ℕ) → HasGroups b → first_of true Pcl (escape ∷ b ∷ []) ≡ Open
unfolding first_of after_escape after_introducer after_parenthesis
introducer_end b (inl e) = ap (λ n. first_of true Pcl (escape ∷ n ∷ [])) e
introducer_end b (inr (inl e)) = ap (λ n. first_of true Pcl (escape ∷ n ∷ [])) e
introducer_end b (inr (inr e)) = ap (λ n. first_of true Pcl (escape ∷ n ∷ [])) e

pub font_read : (bytes : List ℕ) → (BeginsSmall bytes → ⊥) → first_of true Pcl (escape ∷ 40 ∷ bytes) ≡ without_group 40 bytes
unfolding first_of after_escape after_parenthesis without_group field_at
font_read [] h = refl
font_read (c ∷ bytes) h = cond-false (is_group_or_parameter c) _ _ (by_test (is_group_or_parameter c) (λ t. h (small_is c t)))

pub percent_read : (bytes : List ℕ) → first_of true Pcl (escape ∷ 37 ∷ bytes) ≡ exit_or (without_group 37 bytes) bytes
unfolding first_of after_escape
percent_read bytes = refl

pub language_read : (bytes : List ℕ) → (BeginsExit bytes → ⊥) → first_of true Pcl (escape ∷ 37 ∷ bytes) ≡ without_group 37 bytes
language_read bytes h = percent_read bytes ∙ cond-false (begins_with exit_field bytes) _ _ (no_exit bytes h)

no_byte_read : (b : ℕ) (rest : List ℕ) → b < 32 → control_at b ≡ None → (b ≡ escape → ⊥) →
    first_of true Pcl (b ∷ rest) ≡ Faulty (NotInProfile (names.Byte b))
unfolding first_of
no_byte_read b rest low h k =
    cond-false (nat_le 32 b) _ _ (lt-leb 32 b low) ∙ ap (λ o. by_code o b rest) h ∙ cond-false (b == 27) _ _ (not_byte b 27 k)

-- after ESC, a byte that goes on to nothing
after_others : (b : ℕ) (rest : List ℕ) → sequence_at b ≡ None → (b ≡ 37 → ⊥) → (HasGroups b → ⊥) →
    first_of true Pcl (escape ∷ b ∷ rest) ≡ cond (is_in_range 33 126 b) (Faulty (NotInProfile (names.Byte b))) (Faulty Syntax)
unfolding first_of after_escape
after_others b rest h k g =
    ap (λ o. by_character o b rest) h
    ∙ cond-false ((b == 38) || (b == 42)) _ _
    (or_false (b == 38) (b == 42) (not_byte b 38 (λ e. g (inl e))) (not_byte b 42 (λ e. g (inr (inl e)))))
    ∙ cond-false (b == 40) _ _ (not_byte b 40 (λ e. g (inr (inr e))))
    ∙ cond-false (b == 37) _ _ (not_byte b 37 k)
  where
    or_false : (x y : Bool) → x ≡ false → y ≡ false → (x || y) ≡ false
    or_false true y h k = h
    or_false false y h k = k

outside : (b : ℕ) → (33 ≤ b → b ≤ 126 → ⊥) → (n : ℕ) → 33 ≤ n → n ≤ 126 → b ≡ n → ⊥
outside b h n l k e = h (omega (arith, e, l)) (omega (arith, e, k))

outside_groups : (b : ℕ) → (33 ≤ b → b ≤ 126 → ⊥) → HasGroups b → ⊥
outside_groups b h (inl e) = outside b h 38 (omega arith) (omega arith) e
outside_groups b h (inr (inl e)) = outside b h 42 (omega arith) (omega arith) e
outside_groups b h (inr (inr e)) = outside b h 40 (omega arith) (omega arith) e

outside_range : (b : ℕ) → (33 ≤ b → b ≤ 126 → ⊥) → is_in_range 33 126 b ≡ true → ⊥
outside_range b h e = let t = both_true (nat_le 33 b) (nat_le b 126) e in h (leb-true 33 b t.0) (leb-true b 126 t.1)

escape_end : Causes (first_of true Pcl (escape ∷ [])) Truncated
unfolding first_of after_escape
escape_end = refl

pub unit_causes : (bytes : List ℕ) (cause : LexCause) → UnitFault modes.Pcl bytes cause → Causes (first_of true Pcl bytes) cause
unit_causes _ _ (no_byte {b = b} {rest = rest} low h k) = causes_fault _ _ (no_byte_read b rest low h k)
unit_causes _ _ cut_escape = escape_end
unit_causes _ _ (no_sequence {b = b} {rest = rest} l h none e37 g) =
    causes_fault _ _
    (after_others b rest none e37 g
    ∙ cond-true (is_in_range 33 126 b) _ _ (and_from (nat_le 33 b) (nat_le b 126) (le-leb 33 b l) (le-leb b 126 h)))
unit_causes _ _ (no_character {b = b} {rest = rest} h) =
    causes_fault _ _
    (after_others b rest (no_sequence_outside b (by_test (is_in_range 33 126 b) (outside_range b h)))
    (outside b h 37 (omega arith) (omega arith)) (outside_groups b h)
    ∙ cond-false (is_in_range 33 126 b) _ _ (by_test (is_in_range 33 126 b) (outside_range b h)))
unit_causes _ _ (cut_introducer {b = b} h) = causes_open _ (introducer_end b h)
unit_causes _ _ (no_group {b = b} {c = c} {rest = rest} h k s) = causes_fault _ _ (other_introducer b c rest h k s)
unit_causes _ _ (unknown_group {b = b} {c = c} {rest = rest} h s none) =
    causes_fault _ _ (small_introducer b c rest h s ∙ ap (λ o. in_group o b c rest) (no_group_at b c (group_at b c) none refl))
unit_causes _ _ (rules.in_group {group = g} {bytes = rest} {cause = cause} h) =
    subst (λ (f : First). Causes f cause) (sym (group_read g rest))
    (behind_causes 3 (command_in g rest) cause (command_causes g rest cause h))
unit_causes _ _ (font {bytes = rest} {cause = cause} k h) =
    subst (λ (f : First). Causes f cause) (sym (font_read rest k)) (ungrouped_causes 40 rest cause h)
unit_causes _ _ (language {bytes = rest} {cause = cause} k h) =
    subst (λ (f : First). Causes f cause) (sym (language_read rest k)) (ungrouped_causes 37 rest cause h)

-- no unit begins with no byte
pub unit_byte : (bytes : List ℕ) (cause : LexCause) → UnitFault modes.Pcl bytes cause → (bytes ≡ [] → ⊥)
unit_byte bytes cause (no_byte low h k) e = absurd cc
unit_byte bytes cause cut_escape e = absurd cc
unit_byte bytes cause (no_sequence l h none e37 g) e = absurd cc
unit_byte bytes cause (no_character h) e = absurd cc
unit_byte bytes cause (cut_introducer h) e = absurd cc
unit_byte bytes cause (no_group h k s) e = absurd cc
unit_byte bytes cause (unknown_group h s none) e = absurd cc
unit_byte bytes cause (rules.in_group h) e = absurd cc
unit_byte bytes cause (font k h) e = absurd cc
unit_byte bytes cause (language k h) e = absurd cc
