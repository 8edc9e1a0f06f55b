-- The table of the commands, read and written.
use Rattle.std.proofs.Common.{◌≡◌, ℕ, ◌≤◌, List, [], ◌∷◌, ◌<◌, Bool, true, false, Option, None, Some, refl, sym, ap, subst, ◌∙◌, arith, inl}
use Rattle.std.proofs.Common.{inr}
use Rattle.std.specs.Prelude.{◌==◌, ◌&&◌, ◌⊎◌, nat_le, nat_lt, not, is_none}
use Rattle.std.specs.Int.{is_in_range}
use Rattle.std.specs.List.{list_all}
use Rattle.std.specs.Map.{lookup}
use Rattle.std.proofs.lemmas.Bool.{eqb-true, eqb-false, cond_both, leb-true, le-leb, le-ltb, and_from, cases_lt, both_ways}
use Rattle.pcl_items.specs.declared.pcl.command.Group.{Group}
use Rattle.pcl_items.specs.declared.pcl.command.Group.TheVariants.{Position}
use Rattle.pcl_items.specs.declared.pcl.command.Command.{Command}
use Rattle.pcl_items.specs.declared.pcl.command.DataCommand.{DataCommand}
use Rattle.pcl_items.specs.declared.pcl.command.DataCommand.TheVariants.{TransparentText, RasterRow}
use Rattle.pcl_items.specs.declared.pcl.command.Command.TheVariants.{LeftMargin}
use Rattle.pcl_items.specs.Escapes.Commands.{introducer_of, character_of, groups, group_of, letter_of, commands, first_group, group_at}
use Rattle.pcl_items.specs.Escapes.Commands.{same_group, first_command, command_at, data_group_of, data_letter_of, data_commands}
use Rattle.pcl_items.specs.Escapes.Commands.{first_data_command, data_command_at}
use Rattle.pcl_items.specs.Items.{Entry}
use Rattle.pcl_items.specs.Escapes.Codes.{control_codes, control_at, second_characters, sequence_at}
use Rattle.pcl_items.specs.Escapes.SetLetters.{IsSetLetter, is_set_letter}

pub both_true : (a b : Bool) → (a && b) ≡ true → (a ≡ true) × (b ≡ true)
both_true true b h = (refl, h)
both_true false b h = absurd cc

-- a test that cannot hold
pub by_test : (b : Bool) → (b ≡ true → ⊥) → b ≡ false
by_test true h = absurd (h refl)
by_test false h = refl

-- each group is found by its two characters
pub group_known : (g : Group) → group_at (introducer_of g) (character_of g) ≡ Some g
group_known Position = refl
group_known _ = refl

-- each command by its group and letter
pub command_known : (c : Command) → command_at (group_of c) (letter_of c) ≡ Some c
command_known LeftMargin = refl
command_known _ = refl

-- what is found stands there
abbrev HasCharacters : ℕ → ℕ → Option Group → Type 0
HasCharacters i c None = Unit {0}
HasCharacters i c (Some g) = (i ≡ introducer_of g) × (c ≡ character_of g)

first_group-has : (i c : ℕ) (gs : List Group) → HasCharacters i c (first_group i c gs)
first_group-has i c [] = tt
first_group-has i c (g ∷ gs) =
    cond_both ((i == introducer_of g) && (c == character_of g)) _ _ (HasCharacters i c)
    (λ e.
    let t = both_true (i == introducer_of g) (c == character_of g) e in (eqb-true i (introducer_of g) t.0, eqb-true c (character_of g) t.1))
    (λ _. first_group-has i c gs)

pub group_found : (i c : ℕ) (g : Group) → group_at i c ≡ Some g → (i ≡ introducer_of g) × (c ≡ character_of g)
group_found i c g e = subst (HasCharacters i c) e (first_group-has i c groups)

some_same : (g h : Group) → Some g ≡ Some h → g ≡ h
some_same g h e = cc

same_group-true : (g h : Group) → same_group g h ≡ true → g ≡ h
same_group-true g h e =
    let t = both_true (introducer_of g == introducer_of h) (character_of g == character_of h) e in
    let i = eqb-true (introducer_of g) (introducer_of h) t.0 in
    let c = eqb-true (character_of g) (character_of h) t.1 in
    some_same g h (sym (group_known g) ∙ ap (λ n. group_at n (character_of g)) i ∙ ap (group_at (introducer_of h)) c ∙ group_known h)

abbrev HasLetter : Group → ℕ → Option Command → Type 0
HasLetter g letter None = Unit {0}
HasLetter g letter (Some c) = (g ≡ group_of c) × (letter ≡ letter_of c)

first_command-has : (g : Group) (letter : ℕ) (cs : List Command) → HasLetter g letter (first_command g letter cs)
first_command-has g letter [] = tt
first_command-has g letter (c ∷ cs) =
    cond_both (same_group g (group_of c) && (letter == letter_of c)) _ _ (HasLetter g letter)
    (λ e. let t = both_true (same_group g (group_of c)) (letter == letter_of c) e in
    (same_group-true g (group_of c) t.0, eqb-true letter (letter_of c) t.1))
    (λ _. first_command-has g letter cs)

pub command_found : (g : Group) (letter : ℕ) (c : Command) → command_at g letter ≡ Some c → (g ≡ group_of c) × (letter ≡ letter_of c)
command_found g letter c e = subst (HasLetter g letter) e (first_command-has g letter commands)

-- a test that all commands pass is passed by the one that is found
abbrev IsPassed : (Command → Bool) → Option Command → Type 0
IsPassed p None = Unit {0}
IsPassed p (Some c) = p c ≡ true

first_command-passes : (p : Command → Bool) (g : Group) (letter : ℕ) (cs : List Command) → list_all p cs ≡ true →
    IsPassed p (first_command g letter cs)
first_command-passes p g letter [] h = tt
first_command-passes p g letter (c ∷ cs) h =
    let t = both_true (p c) (list_all p cs) h in
    cond_both (same_group g (group_of c) && (letter == letter_of c)) _ _ (IsPassed p) (λ _. t.0)
    (λ _. first_command-passes p g letter cs t.1)

abbrev has_capital : Command → Bool
has_capital c = is_in_range 65 90 (letter_of c)

-- its letter is a capital one
pub capital_letter : (c : Command) → (65 ≤ letter_of c) × (letter_of c ≤ 90)
capital_letter c =
    let e : has_capital c ≡ true =
    subst (IsPassed has_capital) (command_known c) (first_command-passes has_capital (group_of c) (letter_of c) commands refl) in
    let t = both_true (nat_le 65 (letter_of c)) (nat_le (letter_of c) 90) e in
    (leb-true 65 (letter_of c) t.0, leb-true (letter_of c) 90 t.1)

-- ---- commands with data

pub data_command_known : (c : DataCommand) → data_command_at (data_group_of c) (data_letter_of c) ≡ Some c
data_command_known TransparentText = refl
data_command_known RasterRow = refl

pub data_capital_letter : (c : DataCommand) → (65 ≤ data_letter_of c) × (data_letter_of c ≤ 90)
data_capital_letter TransparentText = (omega arith, omega arith)
data_capital_letter RasterRow = (omega arith, omega arith)

abbrev HasDataLetter : Group → ℕ → Option DataCommand → Type 0
HasDataLetter g letter None = Unit {0}
HasDataLetter g letter (Some c) = (g ≡ data_group_of c) × (letter ≡ data_letter_of c)

first_data_command-has : (g : Group) (letter : ℕ) (cs : List DataCommand) → HasDataLetter g letter (first_data_command g letter cs)
first_data_command-has g letter [] = tt
first_data_command-has g letter (c ∷ cs) =
    cond_both (same_group g (data_group_of c) && (letter == data_letter_of c)) _ _ (HasDataLetter g letter)
    (λ e. let t = both_true (same_group g (data_group_of c)) (letter == data_letter_of c) e in
    (same_group-true g (data_group_of c) t.0, eqb-true letter (data_letter_of c) t.1))
    (λ _. first_data_command-has g letter cs)

pub data_command_found : (g : Group) (letter : ℕ) (c : DataCommand) → data_command_at g letter ≡ Some c →
    (g ≡ data_group_of c) × (letter ≡ data_letter_of c)
data_command_found g letter c e = subst (HasDataLetter g letter) e (first_data_command-has g letter data_commands)

-- no command has the letter of one with data
abbrev has_no_data : Command → Bool
has_no_data c = is_none (data_command_at (group_of c) (letter_of c))

none_of : (o : Option DataCommand) → is_none o ≡ true → o ≡ None
none_of None h = refl
none_of (Some c) h = absurd cc

pub no_data : (c : Command) → data_command_at (group_of c) (letter_of c) ≡ None
no_data c =
    none_of (data_command_at (group_of c) (letter_of c))
    (subst (IsPassed has_no_data) (command_known c) (first_command-passes has_no_data (group_of c) (letter_of c) commands refl))

-- ---- letters of symbol sets

not_true : (b : Bool) → not b ≡ true → b ≡ false
not_true true h = absurd cc
not_true false h = refl

not_false : (b : Bool) → b ≡ false → not b ≡ true
not_false true h = absurd cc
not_false false h = refl

pub set_letter_is : (c : ℕ) → is_set_letter c ≡ true → IsSetLetter c
set_letter_is c e =
    let t = both_true (is_in_range 65 90 c) (not (c == 88)) e in
    let r = both_true (nat_le 65 c) (nat_le c 90) t.0 in
    (leb-true 65 c r.0, leb-true c 90 r.1, eqb-false c 88 (not_true (c == 88) t.1))

pub is_set_letter-true : (c : ℕ) → IsSetLetter c → is_set_letter c ≡ true
is_set_letter-true c h =
    and_from (is_in_range 65 90 c) (not (c == 88)) (and_from (nat_le 65 c) (nat_le c 90) (le-leb 65 c h.0) (le-leb c 90 h.1))
    (not_false (c == 88) (by_test (c == 88) (λ e. h.2 (eqb-true c 88 e))))

-- ---- codes

-- what fails a test that all rows pass stands in no row
outside-lookup : (p : ℕ → Bool) (b : ℕ) (rows : List (ℕ × Entry)) → list_all (λ r. p r.0) rows ≡ true → p b ≡ false →
    lookup (λ c. b == c) rows ≡ None
outside-lookup p b [] h k = refl
outside-lookup p b (r ∷ rows) h k =
    let t = both_true (p r.0) (list_all (λ q. p q.0) rows) h in
    cond_both (b == r.0) _ _ (λ (o : Option Entry). o ≡ None)
    (λ e. absurd (both_ways (p b) k (ap p (eqb-true b r.0 e) ∙ t.0)))
    (λ _. outside-lookup p b rows t.1 k)

pub no_sequence_outside : (b : ℕ) → is_in_range 33 126 b ≡ false → sequence_at b ≡ None
no_sequence_outside b k = outside-lookup (is_in_range 33 126) b second_characters refl k

-- control codes are below 32
abbrev is_low : ℕ → Bool
is_low c = nat_lt c 32

pub no_control : (b : ℕ) → 32 ≤ b → control_at b ≡ None
no_control b h = outside-lookup is_low b control_codes refl (le-ltb b 32 h)

pub control_is_low : (b : ℕ) (item : Entry) → control_at b ≡ Some item → b < 32
control_is_low b item e = go (cases_lt b 32)
  where
    go : (b < 32) ⊎ (32 ≤ b) → b < 32
    go (inl low) = low
    go (inr high) = let both : None ≡ Some item = sym (no_control b high) ∙ e in absurd cc
