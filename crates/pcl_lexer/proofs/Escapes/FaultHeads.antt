-- The faults of one command and of one unit, read and by their rules.
use Rattle.std.proofs.Common.{◌≡◌, ℕ, ◌+◌, ◌-◌, ◌<◌, ◌≤◌, List, [], ◌∷◌, ◌++◌, length, drop, Bool, true, false, Option, None, Some, refl}
use Rattle.std.proofs.Common.{sym, ap, subst, ◌∙◌, arith, inl, inr}
use Rattle.std.specs.Prelude.{◌==◌, ◌||◌, ◌⊎◌, nat_lt, nat_le}
use Rattle.std.specs.Int.{is_in_range}
use Rattle.std.proofs.lemmas.Bool.{eqb-true, eqb-false, cond_both, and_from, le-leb, leb-true, leb-false, ltb-true, ltb-false, both_ways}
use Rattle.pcl_items.specs.declared.pcl.command.Group.{Group}
use Rattle.pcl_items.specs.declared.pcl.command.Command.{Command}
use Rattle.pcl_items.specs.declared.pcl.command.DataCommand.{DataCommand}
use Rattle.pcl_lexer.specs.Lexing.Contexts.{Context, Pcl, Sequence}
use Rattle.pcl_items.specs.declared.fault.Name.TheVariants as names
use Rattle.pcl_items.specs.declared.fault.LexCause.TheVariants.{Syntax, Truncated, NotInProfile}
use Rattle.pcl_items.specs.declared.item.Mode.TheVariants as modes
use Rattle.pcl_items.specs.Escapes.Commands.{introducer_of, character_of, letter_of, group_at, command_at, data_group_of, data_letter_of}
use Rattle.pcl_items.specs.Escapes.Commands.{data_command_at}
use Rattle.pcl_items.specs.Escapes.Value.{Amount}
use Rattle.pcl_lexer.specs.Escapes.Field.{field_at, amount_of}
use Rattle.pcl_items.specs.Escapes.ValueField.{IsField}
use Rattle.pcl_lexer.specs.Grammar.{small}
use Rattle.pcl_items.specs.Escapes.Codes.{escape, control_at, sequence_at}
use Rattle.pcl_lexer.specs.Reader.{First, Open, Passes, Begins, Faulty, behind, named, with_data, by_last_letter, by_other_letter}
use Rattle.pcl_lexer.specs.Reader.{by_last_byte, after_field, command_in, is_group_or_parameter, is_termination, ungrouped, by_termination}
use Rattle.pcl_lexer.specs.Reader.{after_ungrouped_field, without_group, in_group, after_introducer, after_parenthesis, by_character}
use Rattle.pcl_lexer.specs.Reader.{after_escape, by_code, exit_or, first_of}
use Rattle.pcl_items.specs.Items.{Entry}
use Rattle.pcl_lexer.specs.Escapes.Ungrouped.{ungrouped_at, count_of}
use Rattle.pcl_lexer.specs.Faults as rules
use Rattle.pcl_lexer.specs.Faults.{Ends, NumberFault, IsCut, IsCapital, IsSmall, IsUnknown, CommandFault, number, no_letter, unknown_last}
use Rattle.pcl_lexer.specs.Faults.{unknown_more, data_goes_on, no_count, cut_data, cut_command, UngroupedFault, ungrouped_number, no_end}
use Rattle.pcl_lexer.specs.Faults.{unknown_end, cut_ungrouped, HasGroups, BeginsSmall, UnitFault, no_byte, cut_escape, no_sequence}
use Rattle.pcl_lexer.specs.Faults.{no_character, cut_introducer, no_group, unknown_group, font, language}
use Rattle.pcl_items.specs.PjlLines.Exit.{exit_field, BeginsExit, begins_with}
use Rattle.pcl_lexer.proofs.PjlLines.Exits.{not_exit}
use Rattle.pcl_lexer.proofs.Escapes.Tables.{both_true, command_known, group_found, group_known, data_command_known, data_command_found}
use Rattle.pcl_lexer.proofs.Escapes.Counted.{counts_of, no_counts_of}
use Rattle.pcl_lexer.proofs.Escapes.Ungrouped.{ungrouped_known}
use Rattle.pcl_lexer.proofs.Escapes.Fields.{field_spelled}
use Rattle.pcl_lexer.proofs.Escapes.Shapes.{longest, long_fault, range_fault, cut_shape}

pub small_is : (c : ℕ) → is_group_or_parameter c ≡ true → IsSmall c
small_is c e = let t = both_true (nat_le 96 c) (nat_le c 126) e in (leb-true 96 c t.0, leb-true c 126 t.1)

pub is_small : (c : ℕ) → IsSmall c → is_group_or_parameter c ≡ true
is_small c h = and_from (nat_le 96 c) (nat_le c 126) (le-leb 96 c h.0) (le-leb c 126 h.1)

pub capital_is : (c : ℕ) → is_termination c ≡ true → IsCapital c
capital_is c e = let t = both_true (nat_le 64 c) (nat_le c 94) e in (leb-true 64 c t.0, leb-true c 94 t.1)

pub is_capital : (c : ℕ) → IsCapital c → is_termination c ≡ true
is_capital c h = and_from (nat_le 64 c) (nat_le c 94) (le-leb 64 c h.0) (le-leb c 94 h.1)

-- ---- what is read of a command

abbrev pub TellsCommand : Group → List ℕ → First → Type 0
TellsCommand g bytes Open = CommandFault g bytes Truncated
TellsCommand g bytes (Passes len next) = Unit {0}
TellsCommand g bytes (Begins item len next) = Unit {0}
TellsCommand g bytes (Faulty cause) = CommandFault g bytes cause

unknown : (g : Group) (letter : ℕ) → command_at g letter ≡ None → data_command_at g letter ≡ None → IsUnknown g letter
unknown g letter e d = record {
  no_command = λ command p q.
      let found : command_at g letter ≡ Some command =
      sym (ap (λ h. command_at h (letter_of command)) p ∙ ap (command_at g) q) ∙ command_known command in
      let both : None ≡ Some command = sym e ∙ found in absurd cc;
  no_data_command = λ command p q.
      let found : data_command_at g letter ≡ Some command =
      sym (ap (λ h. data_command_at h (data_letter_of command)) p ∙ ap (data_command_at g) q) ∙ data_command_known command in
      let both : None ≡ Some command = sym d ∙ found in absurd cc;
}

told_last : (o : Option Command) (g : Group) (text : List ℕ) (a : Amount) (c : ℕ) (rest : List ℕ) (len : ℕ) (next : Context) →
    IsField text a → IsCapital c → data_command_at g c ≡ None → command_at g c ≡ o →
    TellsCommand g (text ++ c ∷ rest) (named o g c a len next)
told_last None g text a c rest len next f h d e = unknown_last rest f h (unknown g c e d)
told_last (Some command) g text a c rest len next f h d e = tt

told_more : (o : Option Command) (g : Group) (text : List ℕ) (a : Amount) (c : ℕ) (rest : List ℕ) (len : ℕ) (next : Context) →
    IsField text a → IsSmall c → data_command_at g (c - 32) ≡ None → command_at g (c - 32) ≡ o →
    TellsCommand g (text ++ c ∷ rest) (named o g (c - 32) a len next)
told_more None g text a c rest len next f h d e =
    let same : small (c - 32) ≡ c = omega (arith, h.0) in
    let capital : IsCapital (c - 32) = (omega (arith, h.0), omega (arith, h.1)) in
    subst (λ (n : ℕ). CommandFault g (text ++ n ∷ rest) (NotInProfile (names.Command g (c - 32)))) same
    (unknown_more rest f capital (unknown g (c - 32) e d))
told_more (Some command) g text a c rest len next f h d e = tt

told_count : (o : Option ℕ) (d : DataCommand) (text : List ℕ) (a : Amount) (rest : List ℕ) (len : ℕ) → IsField text a → count_of a ≡ o →
    TellsCommand (data_group_of d) (text ++ data_letter_of d ∷ rest) (with_data d o len rest)
told_count None d text a rest len f e = no_count d rest f (no_counts_of a e)
told_count (Some n) d text a rest len f e =
    cond_both (nat_lt (length rest) n) _ _ (TellsCommand (data_group_of d) (text ++ data_letter_of d ∷ rest))
    (λ t. cut_data d rest f (counts_of a n e) (ltb-true (length rest) n t)) (λ _. tt)

told_last_letter : (o : Option DataCommand) (g : Group) (text : List ℕ) (a : Amount) (c : ℕ) (rest : List ℕ) (len : ℕ) → IsField text a →
    IsCapital c → data_command_at g c ≡ o → TellsCommand g (text ++ c ∷ rest) (by_last_letter o g c a len rest)
told_last_letter None g text a c rest len f h e = told_last (command_at g c) g text a c rest len Pcl f h e refl
told_last_letter (Some d) g text a c rest len f h e =
    let t = data_command_found g c d e in
    subst (λ (k : Group). TellsCommand k (text ++ c ∷ rest) (with_data d (count_of a) len rest)) (sym t.0)
    (subst (λ (n : ℕ). TellsCommand (data_group_of d) (text ++ n ∷ rest) (with_data d (count_of a) len rest)) (sym t.1)
    (told_count (count_of a) d text a rest len f refl))

told_other_letter : (o : Option DataCommand) (g : Group) (text : List ℕ) (a : Amount) (c : ℕ) (rest : List ℕ) (len : ℕ) → IsField text a →
    IsSmall c → data_command_at g (c - 32) ≡ o → TellsCommand g (text ++ c ∷ rest) (by_other_letter o g (c - 32) a len)
told_other_letter None g text a c rest len f h e = told_more (command_at g (c - 32)) g text a c rest len (Sequence g) f h e refl
told_other_letter (Some d) g text a c rest len f h e =
    let t = data_command_found g (c - 32) d e in
    let same : small (data_letter_of d) ≡ c = omega (arith, h.0, t.1) in
    subst (λ (k : Group). CommandFault k (text ++ c ∷ rest) Syntax) (sym t.0)
    (subst (λ (n : ℕ). CommandFault (data_group_of d) (text ++ n ∷ rest) Syntax) same (data_goes_on d rest f))

told_byte : (g : Group) (text : List ℕ) (a : Amount) (c : ℕ) (rest : List ℕ) (len : ℕ) → IsField text a → Ends text c →
    TellsCommand g (text ++ c ∷ rest) (by_last_byte (Some a) g len c rest)
told_byte g text a c rest len f ends =
    cond_both (is_group_or_parameter c) _ _ (TellsCommand g (text ++ c ∷ rest))
    (λ e. told_other_letter (data_command_at g (c - 32)) g text a c rest (len + 1) f (small_is c e) refl) (λ d.
    cond_both (is_termination c) _ _ (TellsCommand g (text ++ c ∷ rest))
    (λ e. told_last_letter (data_command_at g c) g text a c rest (len + 1) f (capital_is c e) refl) (λ e.
    no_letter rest f ends (λ h. both_ways (is_termination c) e (is_capital c h))
    (λ h. both_ways (is_group_or_parameter c) d (is_small c h))))

-- the field, and the byte behind it
pub record Front (bytes : List ℕ) (a : Amount) (c : ℕ) (rest : List ℕ) : Type 0 where
  pub text : List ℕ
  pub field : IsField text a
  pub whole : bytes ≡ text ++ c ∷ rest
  pub len : (field_at bytes).len ≡ length text
  pub ends : Ends text c

pub front : (bytes : List ℕ) (a : Amount) (c : ℕ) (rest : List ℕ) → (field_at bytes).len ≤ 16 → amount_of (field_at bytes) ≡ Some a →
    drop (field_at bytes).len bytes ≡ c ∷ rest → Front bytes a c rest
front bytes a c rest short e d =
    let f = field_spelled bytes a short e in
    let whole : bytes ≡ f.0 ++ c ∷ rest = f.2 ∙ ap (λ t. f.0 ++ t) d in
    record { text = f.0; field = f.1; whole = whole; len = f.3; ends = longest f.0 c rest (ap (λ l. (field_at l).len) (sym whole) ∙ f.3) }

told_amount : (o : Option Amount) (g : Group) (bytes : List ℕ) (c : ℕ) (rest : List ℕ) → (field_at bytes).len ≤ 16 →
    amount_of (field_at bytes) ≡ o → drop (field_at bytes).len bytes ≡ c ∷ rest →
    TellsCommand g bytes (by_last_byte o g (field_at bytes).len c rest)
told_amount None g bytes c rest short e d = number (range_fault bytes c rest short d e)
told_amount (Some a) g bytes c rest short e d =
    let f = front bytes a c rest short e d in
    subst (λ (l : List ℕ). TellsCommand g l (by_last_byte (Some a) g (field_at bytes).len c rest)) (sym f.whole)
    (told_byte g f.text a c rest (field_at bytes).len f.field f.ends)

told_rest : (g : Group) (bytes rest : List ℕ) → (field_at bytes).len ≤ 16 → drop (field_at bytes).len bytes ≡ rest →
    TellsCommand g bytes (after_field g (field_at bytes) rest)
told_rest g bytes [] short d = cut_command (cut_shape bytes short d)
told_rest g bytes (c ∷ rest) short d = told_amount (amount_of (field_at bytes)) g bytes c rest short refl d

pub command_told : (g : Group) (bytes : List ℕ) → TellsCommand g bytes (command_in g bytes)
unfolding command_in
command_told g bytes =
    cond_both (nat_lt 16 (field_at bytes).len) _ _ (TellsCommand g bytes)
    (λ e. number (long_fault bytes (ltb-true 16 (field_at bytes).len e)))
    (λ e. told_rest g bytes (drop (field_at bytes).len bytes) (ltb-false 16 (field_at bytes).len e) refl)

-- ---- a sequence without a group

abbrev pub TellsUngrouped : ℕ → List ℕ → First → Type 0
TellsUngrouped i bytes Open = UngroupedFault i bytes Truncated
TellsUngrouped i bytes (Passes len next) = Unit {0}
TellsUngrouped i bytes (Begins item len next) = Unit {0}
TellsUngrouped i bytes (Faulty cause) = UngroupedFault i bytes cause

told_ungrouped : (o : Option Entry) (i : ℕ) (text : List ℕ) (a : Amount) (c : ℕ) (rest : List ℕ) (len : ℕ) → IsField text a → IsCapital c →
    ungrouped_at i a c ≡ o → TellsUngrouped i (text ++ c ∷ rest) (ungrouped o i c len)
told_ungrouped None i text a c rest len f h e =
    unknown_end rest f h (λ item mode k. let both : None ≡ Some item = sym e ∙ ungrouped_known k in absurd cc)
told_ungrouped (Some item) i text a c rest len f h e = tt

ungrouped_amount : (o : Option Amount) (i : ℕ) (bytes : List ℕ) (c : ℕ) (rest : List ℕ) → (field_at bytes).len ≤ 16 →
    amount_of (field_at bytes) ≡ o → drop (field_at bytes).len bytes ≡ c ∷ rest →
    TellsUngrouped i bytes (by_termination o i (field_at bytes).len c)
ungrouped_amount None i bytes c rest short e d = ungrouped_number (range_fault bytes c rest short d e)
ungrouped_amount (Some a) i bytes c rest short e d =
    let f = front bytes a c rest short e d in
    subst (λ (l : List ℕ). TellsUngrouped i l (by_termination (Some a) i (field_at bytes).len c)) (sym f.whole)
    (cond_both (is_termination c) _ _ (TellsUngrouped i (f.text ++ c ∷ rest))
    (λ t. told_ungrouped (ungrouped_at i a c) i f.text a c rest ((field_at bytes).len + 3) f.field (capital_is c t) refl)
    (λ t. no_end rest f.field f.ends (λ h. both_ways (is_termination c) t (is_capital c h))))

ungrouped_rest : (i : ℕ) (bytes rest : List ℕ) → (field_at bytes).len ≤ 16 → drop (field_at bytes).len bytes ≡ rest →
    TellsUngrouped i bytes (after_ungrouped_field i (field_at bytes) rest)
ungrouped_rest i bytes [] short d = cut_ungrouped (cut_shape bytes short d)
ungrouped_rest i bytes (c ∷ rest) short d = ungrouped_amount (amount_of (field_at bytes)) i bytes c rest short refl d

ungrouped_told : (i : ℕ) (bytes : List ℕ) → TellsUngrouped i bytes (without_group i bytes)
unfolding without_group
ungrouped_told i bytes =
    cond_both (nat_lt 16 (field_at bytes).len) _ _ (TellsUngrouped i bytes)
    (λ e. ungrouped_number (long_fault bytes (ltb-true 16 (field_at bytes).len e)))
    (λ e. ungrouped_rest i bytes (drop (field_at bytes).len bytes) (ltb-false 16 (field_at bytes).len e) refl)

-- ---- what is read of a unit

abbrev pub TellsUnit : List ℕ → First → Type 0
TellsUnit bytes Open = UnitFault modes.Pcl bytes Truncated
TellsUnit bytes (Passes len next) = Unit {0}
TellsUnit bytes (Begins item len next) = Unit {0}
TellsUnit bytes (Faulty cause) = UnitFault modes.Pcl bytes cause

behind_told : (g : Group) (bytes : List ℕ) (f : First) → TellsCommand g bytes f →
    TellsUnit (escape ∷ introducer_of g ∷ character_of g ∷ bytes) (behind 3 f)
behind_told g bytes Open h = rules.in_group h
behind_told g bytes (Passes len next) h = tt
behind_told g bytes (Begins item len next) h = tt
behind_told g bytes (Faulty cause) h = rules.in_group h

no_such_group : (i c : ℕ) → group_at i c ≡ None → (g : Group) → introducer_of g ≡ i → character_of g ≡ c → ⊥
no_such_group i c e g p q =
    let found : group_at i c ≡ Some g = sym (ap (λ n. group_at n (character_of g)) p ∙ ap (group_at i) q) ∙ group_known g in
    let both : None ≡ Some g = sym e ∙ found in absurd cc

group_told : (o : Option Group) (i c : ℕ) (bytes : List ℕ) → HasGroups i → IsSmall c → group_at i c ≡ o →
    TellsUnit (escape ∷ i ∷ c ∷ bytes) (in_group o i c bytes)
group_told None i c bytes h k e = unknown_group h k (no_such_group i c e)
group_told (Some g) i c bytes h k e =
    let t = group_found i c g e in
    subst (λ (n : ℕ). TellsUnit (escape ∷ n ∷ c ∷ bytes) (behind 3 (command_in g bytes))) (sym t.0)
    (subst (λ (n : ℕ). TellsUnit (escape ∷ introducer_of g ∷ n ∷ bytes) (behind 3 (command_in g bytes))) (sym t.1)
    (behind_told g bytes (command_in g bytes) (command_told g bytes)))

introducer_told : (i : ℕ) (bytes : List ℕ) → HasGroups i → (i ≡ 40 → ⊥) → TellsUnit (escape ∷ i ∷ bytes) (after_introducer i bytes)
unfolding after_introducer
introducer_told i [] h k = cut_introducer h
introducer_told i (c ∷ bytes) h k =
    cond_both (is_group_or_parameter c) _ _ (TellsUnit (escape ∷ i ∷ c ∷ bytes))
    (λ e. group_told (group_at i c) i c bytes h (small_is c e) refl)
    (λ e. no_group h k (λ s. both_ways (is_group_or_parameter c) e (is_small c s)))

font_told : (bytes : List ℕ) (f : First) → (BeginsSmall bytes → ⊥) → TellsUngrouped 40 bytes f → TellsUnit (escape ∷ 40 ∷ bytes) f
font_told bytes Open k h = font k h
font_told bytes (Passes len next) k h = tt
font_told bytes (Begins item len next) k h = tt
font_told bytes (Faulty cause) k h = font k h

language_told : (bytes : List ℕ) (f : First) → (BeginsExit bytes → ⊥) → TellsUngrouped 37 bytes f → TellsUnit (escape ∷ 37 ∷ bytes) f
language_told bytes Open k h = language k h
language_told bytes (Passes len next) k h = tt
language_told bytes (Begins item len next) k h = tt
language_told bytes (Faulty cause) k h = language k h

percent_told : (bytes : List ℕ) → TellsUnit (escape ∷ 37 ∷ bytes) (exit_or (without_group 37 bytes) bytes)
percent_told bytes =
    cond_both (begins_with exit_field bytes) _ _ (TellsUnit (escape ∷ 37 ∷ bytes)) (λ _. tt)
    (λ e. language_told bytes (without_group 37 bytes) (not_exit bytes e) (ungrouped_told 37 bytes))

parenthesis_told : (bytes : List ℕ) → TellsUnit (escape ∷ 40 ∷ bytes) (after_parenthesis bytes)
unfolding after_parenthesis
parenthesis_told [] = cut_introducer (inr (inr refl))
parenthesis_told (c ∷ bytes) =
    cond_both (is_group_or_parameter c) _ _ (TellsUnit (escape ∷ 40 ∷ c ∷ bytes))
    (λ e. group_told (group_at 40 c) 40 c bytes (inr (inr refl)) (small_is c e) refl)
    (λ e. font_told (c ∷ bytes) (without_group 40 (c ∷ bytes)) (λ s. both_ways (is_group_or_parameter c) e (is_small c s))
    (ungrouped_told 40 (c ∷ bytes)))

either_byte : (b : ℕ) → ((b == 38) || (b == 42)) ≡ true → (b ≡ 38) ⊎ (b ≡ 42)
either_byte b e = go (b == 38) (b == 42) (eqb-true b 38) (eqb-true b 42) e
  where
    go : (x y : Bool) → (x ≡ true → b ≡ 38) → (y ≡ true → b ≡ 42) → (x || y) ≡ true → (b ≡ 38) ⊎ (b ≡ 42)
    go true y f g h = inl (f refl)
    go false true f g h = inr (g refl)
    go false false f g h = absurd cc

has_groups : (b : ℕ) → (b ≡ 38) ⊎ (b ≡ 42) → HasGroups b × (b ≡ 40 → ⊥)
has_groups b (inl e) = (inl e, λ k. absurd (omega arith))
has_groups b (inr e) = (inr (inl e), λ k. absurd (omega arith))

without_groups : (b : ℕ) → ((b == 38) || (b == 42)) ≡ false → (b == 40) ≡ false → HasGroups b → ⊥
without_groups b e k (inl p) =
    let t : ((38 == 38) || (38 == 42)) ≡ false = subst (λ (n : ℕ). ((n == 38) || (n == 42)) ≡ false) p e in absurd cc
without_groups b e k (inr (inl p)) =
    let t : ((42 == 38) || (42 == 42)) ≡ false = subst (λ (n : ℕ). ((n == 38) || (n == 42)) ≡ false) p e in absurd cc
without_groups b e k (inr (inr p)) = eqb-false b 40 k p

character_told : (o : Option Entry) (b : ℕ) (bytes : List ℕ) → sequence_at b ≡ o → TellsUnit (escape ∷ b ∷ bytes) (by_character o b bytes)
character_told (Some item) b bytes none = tt
character_told None b bytes none =
    cond_both ((b == 38) || (b == 42)) _ _ (TellsUnit (escape ∷ b ∷ bytes))
    (λ e. let h = has_groups b (either_byte b e) in introducer_told b bytes h.0 h.1) (λ eg.
    cond_both (b == 40) _ _ (TellsUnit (escape ∷ b ∷ bytes))
    (λ e. subst (λ (n : ℕ). TellsUnit (escape ∷ n ∷ bytes) (after_parenthesis bytes)) (sym (eqb-true b 40 e)) (parenthesis_told bytes))
    (λ e40.
    cond_both (b == 37) _ _ (TellsUnit (escape ∷ b ∷ bytes))
    (λ e. subst (λ (n : ℕ). TellsUnit (escape ∷ n ∷ bytes) (exit_or (without_group 37 bytes) bytes))
    (sym (eqb-true b 37 e)) (percent_told bytes))
    (λ e37.
    cond_both (is_in_range 33 126 b) _ _ (TellsUnit (escape ∷ b ∷ bytes))
    (λ e. let t = both_true (nat_le 33 b) (nat_le b 126) e in
    no_sequence (leb-true 33 b t.0) (leb-true b 126 t.1) none (eqb-false b 37 e37) (without_groups b eg e40))
    (λ e. no_character
    (λ l h. both_ways (is_in_range 33 126 b) e (and_from (nat_le 33 b) (nat_le b 126) (le-leb 33 b l) (le-leb b 126 h)))))))

escape_told : (bytes : List ℕ) → TellsUnit (escape ∷ bytes) (after_escape bytes)
unfolding after_escape
escape_told [] = cut_escape
escape_told (b ∷ bytes) = character_told (sequence_at b) b bytes refl

code_told : (o : Option Entry) (b : ℕ) (bytes : List ℕ) → b < 32 → control_at b ≡ o → TellsUnit (b ∷ bytes) (by_code o b bytes)
code_told (Some item) b bytes low none = tt
code_told None b bytes low none =
    cond_both (b == 27) _ _ (TellsUnit (b ∷ bytes))
    (λ e. subst (λ (n : ℕ). TellsUnit (n ∷ bytes) (after_escape bytes)) (sym (eqb-true b 27 e)) (escape_told bytes))
    (λ e. no_byte low none (eqb-false b 27 e))

pub unit_told : (b : ℕ) (bytes : List ℕ) → TellsUnit (b ∷ bytes) (first_of true Pcl (b ∷ bytes))
unfolding first_of
unit_told b bytes =
    cond_both (nat_le 32 b) _ _ (TellsUnit (b ∷ bytes)) (λ _. tt) (λ e. code_told (control_at b) b bytes (leb-false 32 b e) refl)
