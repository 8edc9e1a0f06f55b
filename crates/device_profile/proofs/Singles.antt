-- Keys that come once stand on one line of an accepted text.
use Rattle.std.proofs.Common.{◌≡◌, ℕ, ◌+◌, ◌≤◌, ◌==◌, ◌&&◌, Bool, true, false, not, cond, List, [], ◌∷◌, length, get_or, map, filter, codes}
use Rattle.std.proofs.Common.{All, IsTrue, MatchBool, Option, None, Some, is_some, find, Result, Ok, Err, nat_lt, nat_le, if◌then◌else◌}
use Rattle.std.proofs.Common.{arith, refl, sym, subst, ap, ◌∙◌}
use Rattle.std.specs.Option.{option_map, option_and_then}
use Rattle.std.specs.Str.{bytes_eq}
use Rattle.std.specs.List.{list_all, AllByRecursion}
use Rattle.std.proofs.lemmas.Bool.{and_parts, cond_both, not-true, false≢true, leb-true, eqb-true}
use Rattle.std.proofs.lemmas.Bool.Decides.{nat_tests}
use Rattle.std.proofs.lemmas.List.Elements.{All-from_recursion}
use Rattle.std.proofs.lemmas.Slice.Eq.{bytes_eq-Decides}
use Rattle.device_profile.specs.declared.field.Field.{Field}
use Rattle.device_profile.specs.declared.format.Format.{Format}
use Rattle.device_profile.specs.declared.format.Format.TheVariants.{One, Two}
use Rattle.device_profile.specs.declared.field.Field.TheVariants.{Size, Orientation, Vmi, Font, Copies, Sides, Tray, LineTerm}
use Rattle.device_profile.specs.declared.key.Key.{Key}
use Rattle.device_profile.specs.declared.key.Key.TheVariants.{Name, Choice, Trays, Duplex, Depth, Memory, Page, Face as FaceRow}
use Rattle.device_profile.specs.declared.fault.Cause.{Cause}
use Rattle.device_profile.specs.Values.{is_between, is_value, are_values, are_choices, has_repeat, values_on_line, number_on_line, is_name}
use Rattle.device_profile.specs.GeometryLine.{row_of_words}
use Rattle.device_profile.specs.FaceLine.{face_of_words}
use Rattle.device_profile.specs.Draft.{Draft, no_draft, is_key_in, key_of, draft_after}
use Rattle.device_profile.specs.Key.{every_key, key_word}
use Rattle.device_profile.specs.Words.{words_of}
use Rattle.device_profile.specs.Text.{version_of, format_of, words_of_line, draft_of_lines, draft_of, is_given, is_complete}
use Rattle.device_profile.specs.Laws.{common_keys, has_key, single_keys}
use Rattle.device_profile.proofs.LineParts.{of_value, of_mapped}
use Rattle.device_profile.proofs.Additions.{Addition, nothing, new_name, new_choice, new_device_trays, new_duplex, new_depth, new_memory}
use Rattle.device_profile.proofs.Additions.{new_page, new_face, or_none, addition_of_key, addition_of, takes_list, takes, added, adds}
use Rattle.device_profile.proofs.GivenKeys.{each_given}
use Rattle.device_profile.proofs.Sound.{line_given, version_given}

-- the key of an addition's line, by its word
abbrev word_of_addition : Addition → List ℕ
word_of_addition nothing = []
word_of_addition new_name = codes "name"
word_of_addition (new_choice field values) = key_word (Choice field)
word_of_addition (new_device_trays values) = codes "trays"
word_of_addition (new_duplex n) = codes "duplex"
word_of_addition (new_depth n) = codes "depth"
word_of_addition (new_memory n) = codes "memory"
word_of_addition (new_page row) = codes "geometry"
word_of_addition (new_face face) = codes "face"

kept_key : (is_kept : Bool) (found key : Key) → (if is_kept then Some found else None) ≡ Some key → found ≡ key
kept_key true found key is = cc
kept_key false found key is = cc

found_word : (format : Format) (keys : List Key) (word : List ℕ) (key : Key)
    → option_and_then (λ k. if is_key_in format k then Some k else None) (find (λ k. bytes_eq (key_word k) word) keys) ≡ Some key
    → key_word key ≡ word
found_word format [] word key is = cc
found_word format (other ∷ others) word key is =
    cond_both (bytes_eq (key_word other) word) (Some other) (find (λ k. bytes_eq (key_word k) word) others)
    (λ found. option_and_then (λ k. if is_key_in format k then Some k else None) found ≡ Some key → key_word key ≡ word)
    (λ yes got. ap key_word (sym (kept_key (is_key_in format other) other key got)) ∙ (bytes_eq-Decides (key_word other) word).0 yes)
    (λ no got. found_word format others word key got)
    is

-- a key is the word that it is read from
word_of_key : (format : Format) (word : List ℕ) (key : Key) → key_of format word ≡ Some key → key_word key ≡ word
unfolding key_of
word_of_key format word key is = found_word format every_key word key is

word_of_list : (word : List ℕ) (new : List ℕ → Addition) (given : Result (List ℕ) Cause) (addition : Addition) →
    ((values : List ℕ) → word_of_addition (new values) ≡ word)
    → or_none new given ≡ Some addition → word_of_addition addition ≡ word
word_of_list word new (Ok values) addition named told =
    let is : new values ≡ addition = cc in
    ap word_of_addition (sym is) ∙ named values
word_of_list word new (Err cause) addition named told = cc

word_of_mapped : {X : Type 0} (word : List ℕ) (new : X → Addition) (value : Option X) (addition : Addition) →
    ((x : X) → word_of_addition (new x) ≡ word)
    → option_map new value ≡ Some addition → word_of_addition addition ≡ word
word_of_mapped word new value addition named told =
    let given = of_mapped new value addition told in
    ap word_of_addition (sym given.2) ∙ named given.0

word_of_name : (is_right : Bool) (addition : Addition) → (if is_right then Some new_name else None) ≡ Some addition →
    word_of_addition addition ≡ codes "name"
word_of_name true addition told =
    let is : new_name ≡ addition = cc in
    ap word_of_addition (sym is)
word_of_name false addition told = cc

word_of_told : (key : Key) (words : List (List ℕ)) (addition : Addition) → addition_of_key key words ≡ Some addition →
    word_of_addition addition ≡ key_word key
word_of_told Name words addition told = word_of_name (is_name words) addition told
word_of_told (Choice field) words addition told =
    word_of_list (key_word (Choice field)) (new_choice field) (values_on_line field words) addition (λ v. refl) told
word_of_told Trays words addition told = word_of_list (codes "trays") new_device_trays (values_on_line Tray words) addition (λ v. refl) told
word_of_told Duplex words addition told = word_of_mapped (codes "duplex") new_duplex (number_on_line 1 words) addition (λ n. refl) told
word_of_told Depth words addition told = word_of_mapped (codes "depth") new_depth (number_on_line 8 words) addition (λ n. refl) told
word_of_told Memory words addition told =
    word_of_mapped (codes "memory") new_memory (number_on_line 1_048_576 words) addition (λ n. refl) told
word_of_told Page words addition told = word_of_mapped (codes "geometry") new_page (row_of_words words) addition (λ row. refl) told
word_of_told FaceRow words addition told = word_of_mapped (codes "face") new_face (face_of_words words) addition (λ face. refl) told

-- a line's first word is the key of what it adds
first_word : (format : Format) (words : List (List ℕ)) (addition : Addition) → addition_of format words ≡ Some addition →
    get_or words 0 [] ≡ word_of_addition addition
first_word format [] addition told =
    let is : nothing ≡ addition = cc in
    ap word_of_addition is
first_word format (word ∷ words) addition told =
    let given = of_value (λ k. addition_of_key k words) (key_of format word) addition told in
    sym (word_of_key format word given.0 given.1) ∙ sym (word_of_told given.0 words addition given.2)

-- whether a key comes once
abbrev is_single : Key → Bool
is_single Name = true
is_single (Choice field) = true
is_single Trays = true
is_single Duplex = true
is_single Depth = true
is_single Memory = true
is_single Page = false
is_single FaceRow = false

-- where the line has the key it was not given before and is now, else nothing changes
abbrev Counts : Bool → Bool → Bool → Type 0
Counts has was now = MatchBool has ((was ≡ false) × (now ≡ true)) (now ≡ was)

pub some_values : (field : Field) (values : List ℕ) → IsTrue (are_choices field values) → 1 ≤ length values
some_values field values are =
    let fit = and_parts (are_values field values) (not (has_repeat values)) are in
    let counted = and_parts (is_between 1 16 (length values)) (list_all (is_value field) values) fit.0 in
    leb-true 1 (length values) ((and_parts (nat_le 1 (length values)) (nat_le (length values) 16) counted.0).0)

list_counts : (field : Field) (held values : List ℕ) → IsTrue (takes_list field held values) →
    (nat_lt 0 (length held) ≡ false) × (nat_lt 0 (length values) ≡ true)
list_counts field held values taken =
    let parts = and_parts (length held == 0) (are_choices field values) taken in
    let none : length held ≡ 0 = eqb-true (length held) 0 parts.0 in
    let some : 1 ≤ length values = some_values field values parts.1 in
    (ap (nat_lt 0) none, grind (arith, nat_tests))

number_counts : (is_held fits : Bool) → IsTrue (not is_held && fits) → (is_held ≡ false) × (true ≡ true)
number_counts is_held fits taken = (not-true is_held ((and_parts (not is_held) fits taken).0), refl)

-- (beside the keys of no field, a case with Size has all fields told apart)
counts : (key : Key) (draft : Draft) (addition : Addition) → IsTrue (is_single key) → IsTrue (takes draft addition)
    → Counts (bytes_eq (key_word key) (word_of_addition addition)) (is_given draft key) (is_given (added draft addition) key)
counts Page draft addition single taken = absurd (false≢true single)
counts FaceRow draft addition single taken = absurd (false≢true single)
counts Name draft new_name single taken = (not-true draft.is_named taken, refl)
counts Name draft (new_choice Size values) single taken = refl
counts (Choice Size) draft (new_choice Size values) single taken = list_counts Size draft.choices.sizes values taken
counts (Choice Orientation) draft (new_choice Orientation values) single taken =
    list_counts Orientation draft.choices.orientations values taken
counts (Choice Vmi) draft (new_choice Vmi values) single taken = list_counts Vmi draft.choices.vmis values taken
counts (Choice Font) draft (new_choice Font values) single taken = list_counts Font draft.choices.fonts values taken
counts (Choice Copies) draft (new_choice Copies values) single taken = list_counts Copies draft.choices.copies values taken
counts (Choice Sides) draft (new_choice Sides values) single taken = list_counts Sides draft.choices.sides values taken
counts (Choice Tray) draft (new_choice Tray values) single taken = list_counts Tray draft.choices.panel_trays values taken
counts (Choice LineTerm) draft (new_choice LineTerm values) single taken = list_counts LineTerm draft.choices.line_terminations values taken
counts Trays draft (new_device_trays values) single taken = list_counts Tray draft.device_trays values taken
counts Trays draft (new_choice Size values) single taken = refl
counts Duplex draft (new_duplex n) single taken = number_counts (is_some draft.duplex) (nat_le n 1) taken
counts Duplex draft (new_choice Size values) single taken = refl
counts Depth draft (new_depth n) single taken = number_counts (is_some draft.depth) (nat_le n 8) taken
counts Depth draft (new_choice Size values) single taken = refl
counts Memory draft (new_memory n) single taken = number_counts (is_some draft.memory) (nat_le n 1_048_576) taken
counts Memory draft (new_choice Size values) single taken = refl
counts key draft addition single taken = refl

abbrev bit : Bool → ℕ
bit true = 1
bit false = 0

-- the lines with a key
abbrev with_key : Key → List (List ℕ) → List (List ℕ)
with_key key lines = filter (has_key (key_word key)) lines

one_line : (has was now : Bool) (line : List ℕ) (rest : List (List ℕ)) (total : ℕ) → Counts has was now → bit now + length rest ≡ total →
    bit was + length (cond has (line ∷ rest) rest) ≡ total
one_line true was now line rest total counted is =
    let before : bit was ≡ 0 = ap bit counted.0 in
    let after : bit now ≡ 1 = ap bit counted.1 in
    omega arith
one_line false was now line rest total counted is =
    let same : bit now ≡ bit was = ap bit counted in
    omega arith

count_lines : (format : Format) (key : Key) → IsTrue (is_single key) → (lines : List (List ℕ)) (draft : Draft) (number : ℕ) (last : Draft) →
    draft_of_lines format draft number lines ≡ Ok last
    → bit (is_given draft key) + length (with_key key lines) ≡ bit (is_given last key)
count_lines format key single [] draft number last is =
    let same : draft ≡ last = cc in
    let bits : bit (is_given draft key) ≡ bit (is_given last key) = ap (λ d. bit (is_given d key)) same in
    omega arith
count_lines format key single (line ∷ lines) draft number last is =
    let given =
    line_given (draft_after format draft (words_of_line line)) (λ next. draft_of_lines format next (number + 1) lines) number last is in
    let step = adds format draft (words_of_line line) given.0 given.1 in
    let here : Counts (has_key (key_word key) line) (is_given draft key) (is_given (added draft step.addition) key) =
    subst (λ (word : List ℕ). Counts (bytes_eq (key_word key) word) (is_given draft key) (is_given (added draft step.addition) key))
    (sym (first_word format (words_of_line line) step.addition step.told))
    (counts key draft step.addition single step.taken) in
    let counted : Counts (has_key (key_word key) line) (is_given draft key) (is_given given.0 key) =
    subst (λ (d : Draft). Counts (has_key (key_word key) line) (is_given draft key) (is_given d key)) step.is here in
    one_line (has_key (key_word key) line) (is_given draft key) (is_given given.0 key) line (with_key key lines)
    (bit (is_given last key)) counted
    (count_lines format key single lines given.0 (number + 1) last given.2)

no_key : (key : Key) → (bytes_eq (key_word key) [] ≡ false) × (bytes_eq (key_word key) (codes "pclprofile") ≡ false)
no_key Name = (refl, refl)
no_key (Choice Size) = (refl, refl)
no_key (Choice Orientation) = (refl, refl)
no_key (Choice Vmi) = (refl, refl)
no_key (Choice Font) = (refl, refl)
no_key (Choice Copies) = (refl, refl)
no_key (Choice Sides) = (refl, refl)
no_key (Choice Tray) = (refl, refl)
no_key (Choice LineTerm) = (refl, refl)
no_key Trays = (refl, refl)
no_key Duplex = (refl, refl)
no_key Depth = (refl, refl)
no_key Memory = (refl, refl)
no_key Page = (refl, refl)
no_key FaceRow = (refl, refl)

named : (words : List (List ℕ)) (format : Format) → format_of words ≡ Some format → get_or words 0 [] ≡ codes "pclprofile"
named [] format is = cc
named (name ∷ []) format is = cc
named (name ∷ version ∷ []) format is =
    cond_both (bytes_eq name (codes "pclprofile")) (version_of version) None (λ found. found ≡ Some format → name ≡ codes "pclprofile")
    (λ yes got. (bytes_eq-Decides name (codes "pclprofile")).0 yes)
    (λ no got. cc)
    is
named (name ∷ version ∷ more ∷ words) format is = cc

-- the first line has no key
first_line : (key : Key) (first : List ℕ) (format : Format) → format_of (words_of first) ≡ Some format →
    has_key (key_word key) first ≡ false
first_line key first format version =
    cond_both (get_or first 0 0 == 35) [] (words_of first) (λ words. bytes_eq (key_word key) (get_or words 0 []) ≡ false)
    (λ comment. (no_key key).0)
    (λ line. ap (bytes_eq (key_word key)) (named (words_of first) format version) ∙ (no_key key).1)

-- a key that was given stands on one of all lines, where nothing gave it before the lines
stands_once : (key : Key) → IsTrue (is_single key) → (format : Format) → is_given (no_draft format) key ≡ false → (first : List ℕ)
    (later : List (List ℕ)) (draft : Draft)
    → format_of (words_of first) ≡ Some format → draft_of_lines format (no_draft format) 2 later ≡ Ok draft → is_given draft key ≡ true
    → length (with_key key (first ∷ later)) ≡ 1
stands_once key single format none first later draft version is given =
    let total : bit (is_given (no_draft format) key) + length (with_key key later) ≡ bit (is_given draft key) =
    count_lines format key single later (no_draft format) 2 draft is in
    let before : bit (is_given (no_draft format) key) ≡ 0 = ap bit none in
    let after : bit (is_given draft key) ≡ 1 = ap bit given in
    let rest : length (with_key key later) ≡ 1 = omega arith in
    ap (λ has. length (cond has (first ∷ with_key key later) (with_key key later))) (first_line key first format version) ∙ rest

abbrev StandsOnce : List (List ℕ) → List ℕ → Type 0
StandsOnce all key = length (filter (has_key key) all) ≡ 1

-- whether a key comes once, and nothing gives it before the lines
abbrev is_awaited : Format → Key → Bool
is_awaited format key = is_single key && not (is_given (no_draft format) key)

all_words : (P : List ℕ → Type 0) (format : Format) → ((key : Key) → IsTrue (is_awaited format key) → P (key_word key))
    → (singles : List Key) → IsTrue (list_all (is_awaited format) singles) → AllByRecursion P (map key_word singles)
all_words P format holds [] awaited = tt
all_words P format holds (key ∷ singles) awaited =
    let parts = and_parts (is_awaited format key) (list_all (is_awaited format) singles) awaited in
    (holds key parts.0, all_words P format holds singles parts.1)

all_singles : (P : List ℕ → Type 0) (format : Format) → ((key : Key) → IsTrue (is_awaited format key) → P (key_word key)) →
    AllByRecursion P (single_keys format)
all_singles P One holds = all_words P One holds common_keys refl
all_singles P Two holds = all_words P Two holds (Choice LineTerm ∷ common_keys) refl

-- where each key was given, each that comes once stands on one line
all_once_of : (format : Format) (first : List ℕ) (later : List (List ℕ)) (draft : Draft) → format_of (words_of first) ≡ Some format
    → draft_of_lines format (no_draft format) 2 later ≡ Ok draft → IsTrue (is_complete draft)
    → AllByRecursion (StandsOnce (first ∷ later)) (single_keys format)
all_once_of format first later draft version is complete =
    all_singles (StandsOnce (first ∷ later)) format
    (λ key awaited.
    let parts = and_parts (is_single key) (not (is_given (no_draft format) key)) awaited in
    stands_once key parts.0 format (not-true (is_given (no_draft format) key) parts.1) first later draft version is
    (each_given draft complete key))

pub all_once : (all : List (List ℕ)) (draft : Draft) (format : Format) → draft_of all ≡ Ok draft →
    format_of (words_of (get_or all 0 [])) ≡ Some format → IsTrue (is_complete draft)
    → All (λ key. length (filter (has_key key) all) ≡ 1) (single_keys format)
all_once [] draft format is version complete = cc
all_once (first ∷ later) draft format is version complete =
    let parts = version_given (format_of (words_of first)) later draft is in
    let same : parts.0 ≡ format = cc in
    All-from_recursion (StandsOnce (first ∷ later)) (single_keys format)
    (all_once_of format first later draft version
    (subst (λ (f : Format). draft_of_lines f (no_draft f) 2 later ≡ Ok draft) same parts.2) complete)
