-- What the code keeps of the items before an item finds the notes of the definitions.
use Rattle.std.proofs.Common.{◌≡◌, ℕ, ◌==◌, Bool, true, false, not, ◌&&◌, ◌||◌, cond, List, [], ◌∷◌, ◌++◌, ◌-◌, refl, ap, sym, ◌∙◌}
use Rattle.pcl_items.specs.Items.{Entry, Placed, Text, Reset, ExitLanguage, PjlLine}
use Rattle.page_env.specs.JobControl.{is_reset}
use Rattle.notes.specs.declared.note.Note.TheVariants.{OpenStart, PjlAsText, FractionOfUnit, LaterLanguage}
use Rattle.notes.specs.declared.note.Note.TheVariants.{OtherLanguage}
use Rattle.notes.specs.declared.past.TextPrefix.{TextPrefix}
use Rattle.notes.specs.declared.past.TextPrefix.TheVariants.{NoText, One, Two, Three, More}
use Rattle.notes.specs.declared.past.Past.{Past}
use Rattle.notes.specs.declared.past.Spelled.{Spelled}
use Rattle.notes.specs.declared.past.Spelled.TheVariants.{Nothing, At, AtP, AtPj, Other}
use Rattle.notes.specs.Note.{told_if}
use Rattle.notes.specs.ItemNotes.{acts, is_line, has_reset, is_text, is_byte, ends_word, is_job_word, is_fraction, is_later, is_open_end}
use Rattle.notes.specs.ItemNotes.{begins_with, is_other_language, item_notes}
use Rattle.notes.specs.Carriers.Past.{spelled_with, spelled_behind, past_behind, past_of, ends_job_word, ends_open, past_notes}
use Rattle.notes.specs.Carriers.Past.{front_with, front_behind, is_three, spells, ends_other_word}

and_false : (b : Bool) → b && false ≡ false
and_false b = elim b as (λ v. v && false ≡ false) [ true ↦ refl | false ↦ refl ]

and_true : (b : Bool) → b && true ≡ b
and_true b = elim b as (λ v. v && true ≡ v) [ true ↦ refl | false ↦ refl ]

-- ---- how much of `@PJL` stands there

abbrev is_nothing : Spelled → Bool
is_nothing Nothing = true
is_nothing _ = false

abbrev is_at : Spelled → Bool
is_at At = true
is_at _ = false

abbrev is_at_p : Spelled → Bool
is_at_p AtP = true
is_at_p _ = false

abbrev is_at_pj : Spelled → Bool
is_at_pj AtPj = true
is_at_pj _ = false

nothing_with : (spelled : Spelled) (code : ℕ) → is_nothing (spelled_with spelled code) ≡ false
nothing_with Nothing code = elim (code == 64) as (λ b. is_nothing (cond b At Other) ≡ false) [ true ↦ refl | false ↦ refl ]
nothing_with At code = elim (code == 80) as (λ b. is_nothing (cond b AtP Other) ≡ false) [ true ↦ refl | false ↦ refl ]
nothing_with AtP code = elim (code == 74) as (λ b. is_nothing (cond b AtPj Other) ≡ false) [ true ↦ refl | false ↦ refl ]
nothing_with AtPj code = refl
nothing_with Other code = refl

nothing_behind : (spelled : Spelled) (item : Entry) → is_nothing (spelled_behind spelled item) ≡ not (is_text item)
nothing_behind spelled (Text code) = nothing_with spelled code
nothing_behind spelled _ = refl

nothing_is : (items_before : List Placed) → is_nothing (past_of items_before).spelled ≡ ends_word [] items_before
nothing_is [] = refl
nothing_is (x ∷ items_before) = nothing_behind (past_of items_before).spelled x.item

at_with : (spelled : Spelled) (code : ℕ) → is_at (spelled_with spelled code) ≡ (code == 64) && is_nothing spelled
at_with Nothing code = elim (code == 64) as (λ b. is_at (cond b At Other) ≡ b && true) [ true ↦ refl | false ↦ refl ]
at_with At code = elim (code == 80) as (λ b. is_at (cond b AtP Other) ≡ false) [ true ↦ refl | false ↦ refl ] ∙ sym (and_false (code == 64))
at_with AtP code =
    elim (code == 74) as (λ b. is_at (cond b AtPj Other) ≡ false) [ true ↦ refl | false ↦ refl ] ∙ sym (and_false (code == 64))
at_with AtPj code = sym (and_false (code == 64))
at_with Other code = sym (and_false (code == 64))

at_behind : (spelled : Spelled) (item : Entry) → is_at (spelled_behind spelled item) ≡ is_byte 64 item && is_nothing spelled
at_behind spelled (Text code) = at_with spelled code
at_behind spelled _ = refl

at_is : (items_before : List Placed) → is_at (past_of items_before).spelled ≡ ends_word (64 ∷ []) items_before
at_is [] = refl
at_is (x ∷ items_before) = at_behind (past_of items_before).spelled x.item ∙ ap (λ b. is_byte 64 x.item && b) (nothing_is items_before)

at_p_with : (spelled : Spelled) (code : ℕ) → is_at_p (spelled_with spelled code) ≡ (code == 80) && is_at spelled
at_p_with Nothing code =
    elim (code == 64) as (λ b. is_at_p (cond b At Other) ≡ false) [ true ↦ refl | false ↦ refl ] ∙ sym (and_false (code == 80))
at_p_with At code = elim (code == 80) as (λ b. is_at_p (cond b AtP Other) ≡ b && true) [ true ↦ refl | false ↦ refl ]
at_p_with AtP code =
    elim (code == 74) as (λ b. is_at_p (cond b AtPj Other) ≡ false) [ true ↦ refl | false ↦ refl ] ∙ sym (and_false (code == 80))
at_p_with AtPj code = sym (and_false (code == 80))
at_p_with Other code = sym (and_false (code == 80))

at_p_behind : (spelled : Spelled) (item : Entry) → is_at_p (spelled_behind spelled item) ≡ is_byte 80 item && is_at spelled
at_p_behind spelled (Text code) = at_p_with spelled code
at_p_behind spelled _ = refl

at_p_is : (items_before : List Placed) → is_at_p (past_of items_before).spelled ≡ ends_word (80 ∷ 64 ∷ []) items_before
at_p_is [] = refl
at_p_is (x ∷ items_before) = at_p_behind (past_of items_before).spelled x.item ∙ ap (λ b. is_byte 80 x.item && b) (at_is items_before)

at_pj_with : (spelled : Spelled) (code : ℕ) → is_at_pj (spelled_with spelled code) ≡ (code == 74) && is_at_p spelled
at_pj_with Nothing code =
    elim (code == 64) as (λ b. is_at_pj (cond b At Other) ≡ false) [ true ↦ refl | false ↦ refl ] ∙ sym (and_false (code == 74))
at_pj_with At code =
    elim (code == 80) as (λ b. is_at_pj (cond b AtP Other) ≡ false) [ true ↦ refl | false ↦ refl ] ∙ sym (and_false (code == 74))
at_pj_with AtP code = elim (code == 74) as (λ b. is_at_pj (cond b AtPj Other) ≡ b && true) [ true ↦ refl | false ↦ refl ]
at_pj_with AtPj code = sym (and_false (code == 74))
at_pj_with Other code = sym (and_false (code == 74))

at_pj_behind : (spelled : Spelled) (item : Entry) → is_at_pj (spelled_behind spelled item) ≡ is_byte 74 item && is_at_p spelled
at_pj_behind spelled (Text code) = at_pj_with spelled code
at_pj_behind spelled _ = refl

at_pj_is : (items_before : List Placed) → is_at_pj (past_of items_before).spelled ≡ ends_word (74 ∷ 80 ∷ 64 ∷ []) items_before
at_pj_is [] = refl
at_pj_is (x ∷ items_before) = at_pj_behind (past_of items_before).spelled x.item ∙ ap (λ b. is_byte 74 x.item && b) (at_p_is items_before)

job_word_with : (spelled : Spelled) (item : Entry) → ends_job_word spelled item ≡ is_byte 76 item && is_at_pj spelled
job_word_with Nothing item = sym (and_false (is_byte 76 item))
job_word_with At item = sym (and_false (is_byte 76 item))
job_word_with AtP item = sym (and_false (is_byte 76 item))
job_word_with AtPj item = sym (and_true (is_byte 76 item))
job_word_with Other item = sym (and_false (is_byte 76 item))

job_word_is : (items_before : List Placed) (x : Placed) → ends_job_word (past_of items_before).spelled x.item ≡ is_job_word items_before x
job_word_is items_before x = job_word_with (past_of items_before).spelled x.item ∙ ap (λ b. is_byte 76 x.item && b) (at_pj_is items_before)

-- ---- the word with which text begins

abbrev is_no_text : TextPrefix → Bool
is_no_text NoText = true
is_no_text _ = false

abbrev is_one : ℕ → TextPrefix → Bool
is_one first (One a) = a == first
is_one first _ = false

abbrev is_two : ℕ → ℕ → TextPrefix → Bool
is_two first second (Two a b) = (b == second) && (a == first)
is_two first second _ = false

no_text_with : (front : TextPrefix) (code : ℕ) → is_no_text (front_with front code) ≡ false
no_text_with NoText code = refl
no_text_with (One a) code = refl
no_text_with (Two a b) code = refl
no_text_with (Three a b c) code = refl
no_text_with More code = refl

no_text_behind : (front : TextPrefix) (item : Entry) → is_no_text (front_behind front item) ≡ not (acts item)
no_text_behind front (Text code) = no_text_with front code
no_text_behind front Reset = refl
no_text_behind front ExitLanguage = refl
no_text_behind front (PjlLine line) = refl
no_text_behind front _ = refl

no_text_is : (items_before : List Placed) → is_no_text (past_of items_before).front ≡ begins_with [] items_before
no_text_is [] = refl
no_text_is (x ∷ items_before) = no_text_behind (past_of items_before).front x.item

one_with : (first : ℕ) (front : TextPrefix) (code : ℕ) → is_one first (front_with front code) ≡ (code == first) && is_no_text front
one_with first NoText code = sym (and_true (code == first))
one_with first (One a) code = sym (and_false (code == first))
one_with first (Two a b) code = sym (and_false (code == first))
one_with first (Three a b c) code = sym (and_false (code == first))
one_with first More code = sym (and_false (code == first))

one_behind : (first : ℕ) (front : TextPrefix) (item : Entry) →
    is_one first (front_behind front item) ≡ is_byte first item && is_no_text front
one_behind first front (Text code) = one_with first front code
one_behind first front Reset = refl
one_behind first front ExitLanguage = refl
one_behind first front (PjlLine line) = refl
one_behind first front _ = refl

one_is : (first : ℕ) (items_before : List Placed) → is_one first (past_of items_before).front ≡ begins_with (first ∷ []) items_before
one_is first [] = refl
one_is first (x ∷ items_before) =
    one_behind first (past_of items_before).front x.item ∙ ap (λ b. is_byte first x.item && b) (no_text_is items_before)

two_with : (first second : ℕ) (front : TextPrefix) (code : ℕ) →
    is_two first second (front_with front code) ≡ (code == second) && is_one first front
two_with first second NoText code = sym (and_false (code == second))
two_with first second (One a) code = refl
two_with first second (Two a b) code = sym (and_false (code == second))
two_with first second (Three a b c) code = sym (and_false (code == second))
two_with first second More code = sym (and_false (code == second))

two_behind : (first second : ℕ) (front : TextPrefix) (item : Entry) →
    is_two first second (front_behind front item) ≡ is_byte second item && is_one first front
two_behind first second front (Text code) = two_with first second front code
two_behind first second front Reset = refl
two_behind first second front ExitLanguage = refl
two_behind first second front (PjlLine line) = refl
two_behind first second front _ = refl

two_is : (first second : ℕ) (items_before : List Placed) →
    is_two first second (past_of items_before).front ≡ begins_with (second ∷ first ∷ []) items_before
two_is first second [] = refl
two_is first second (x ∷ items_before) =
    two_behind first second (past_of items_before).front x.item ∙ ap (λ b. is_byte second x.item && b) (one_is first items_before)

three_with : (first second third : ℕ) (front : TextPrefix) (code : ℕ) →
    is_three first second third (front_with front code) ≡ (code == third) && is_two first second front
three_with first second third NoText code = sym (and_false (code == third))
three_with first second third (One a) code = sym (and_false (code == third))
three_with first second third (Two a b) code = refl
three_with first second third (Three a b c) code = sym (and_false (code == third))
three_with first second third More code = sym (and_false (code == third))

three_behind : (first second third : ℕ) (front : TextPrefix) (item : Entry) →
    is_three first second third (front_behind front item) ≡ is_byte third item && is_two first second front
three_behind first second third front (Text code) = three_with first second third front code
three_behind first second third front Reset = refl
three_behind first second third front ExitLanguage = refl
three_behind first second third front (PjlLine line) = refl
three_behind first second third front _ = refl

three_is : (first second third : ℕ) (items_before : List Placed) →
    is_three first second third (past_of items_before).front ≡ begins_with (third ∷ second ∷ first ∷ []) items_before
three_is first second third [] = refl
three_is first second third (x ∷ items_before) =
    three_behind first second third (past_of items_before).front x.item
    ∙ ap (λ b. is_byte third x.item && b) (two_is first second items_before)

spells_is : (items_before : List Placed) (x : Placed) (first second third fourth : ℕ) →
    spells (past_of items_before).front x.item first second third fourth
    ≡ begins_with (fourth ∷ third ∷ second ∷ first ∷ []) (x ∷ items_before)
spells_is items_before x first second third fourth = ap (λ b. is_byte fourth x.item && b) (three_is first second third items_before)

other_is : (items_before : List Placed) (x : Placed) → ends_other_word (past_of items_before).front x.item ≡
    is_other_language items_before x
other_is items_before x = λ i.
    (spells_is items_before x 37 33 80 83 i || (spells_is items_before x 37 80 68 70 i || spells_is items_before x 41 32 72 80 i))
    || (spells_is items_before x 71 73 70 56 i
    || (spells_is items_before x 137 80 78 71 i
    || (spells_is items_before x 255 216 255 224 i
    || (spells_is items_before x 255 216 255 225 i
    || (spells_is items_before x 255 216 255 238 i || spells_is items_before x 255 216 255 219 i)))))

-- ---- resets

reset_is : (items_before : List Placed) → (past_of items_before).has_reset ≡ has_reset items_before
reset_is [] = refl
reset_is (x ∷ items_before) = ap (λ b. is_reset x.item || b) (reset_is items_before)

-- ---- the notes

pub past_is : (items_before : List Placed) (x : Placed) → past_notes (past_of items_before) x ≡ item_notes items_before x
past_is items_before x = λ i.
    told_if (acts x.item && not (reset_is items_before i)) x.place OpenStart
    ++ told_if (job_word_is items_before x i) (x.place - 3) PjlAsText
    ++ told_if (is_fraction x.item) x.place FractionOfUnit
    ++ told_if (is_later x.item) x.place LaterLanguage
    ++ told_if (other_is items_before x i) (x.place - 3) OtherLanguage

-- ---- behind the last reset

open_step : (line resets kept later others : Bool) →
    (kept && not (resets || later)) || (((not line && not resets) && not later) || others)
    ≡ ((not resets && (kept || (not line && not resets))) && not later) || others
open_step true true true true o = refl
open_step true true true false o = refl
open_step true true false true o = refl
open_step true true false false o = refl
open_step true false true true o = refl
open_step true false true false o = refl
open_step true false false true o = refl
open_step true false false false o = refl
open_step false true true true o = refl
open_step false true true false o = refl
open_step false true false true o = refl
open_step false true false false o = refl
open_step false false true true o = refl
open_step false false true false o = refl
open_step false false false true o = refl
open_step false false false false o = refl

pub ends_open_more : (past : Past) (x : Placed) (items : List Placed) →
    ends_open past (x ∷ items) ≡ ends_open (past_behind past x.item) items
ends_open_more past x items = open_step (is_line x.item) (is_reset x.item) past.is_open (has_reset items) (is_open_end items)

pub ends_open_none : (past : Past) → ends_open past [] ≡ past.is_open
ends_open_none past = elim past.is_open as (λ b. (b && true) || false ≡ b) [ true ↦ refl | false ↦ refl ]
