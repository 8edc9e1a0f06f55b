-- The line of a command in the list: of its spelling only the escape character shows nothing.
use Rattle.std.proofs.Common.{◌≡◌, ◌+◌, ◌<◌, ◌≤◌, ◌/◌, ◌%◌, ◌^◌, ℕ, List, [], ◌∷◌, ◌++◌, refl, ap, sym, ◌∙◌, arith, append_assoc, not, ◌&&◌}
use Rattle.std.proofs.Common.{◌==◌, Result, Ok, Err, OnOk}
use Rattle.std.specs.Prelude.{decimal, length, nat_le}
use Rattle.std.specs.List.{flat_map}
use Rattle.std.proofs.lemmas.Bool.{cond-true, cond_both, and_from, le-leb, ne_eqb}
use Rattle.std.proofs.lemmas.Fmt.{decimal_by_steps}
use Rattle.std.proofs.lemmas.Grind.{flat_map-append}
use Rattle.std.proofs.lemmas.List.{append-nil}
use Rattle.pcl_items.specs.declared.pcl.command.Command.{Command}
use Rattle.pcl_items.specs.declared.pcl.command.Command.TheVariants.{LeftMargin}
use Rattle.pcl_items.specs.declared.pcl.command.Group.{Group}
use Rattle.pcl_items.specs.declared.pcl.command.Group.TheVariants.{RasterData}
use Rattle.pcl_items.specs.declared.number.Sign.{Sign}
use Rattle.pcl_items.specs.declared.number.Sign.TheVariants.{Absent, Plus, Minus}
use Rattle.pcl_items.specs.Spellings.Canon.{amount_text, canon}
use Rattle.pcl_items.specs.Escapes.Commands.{introducer_of, character_of, group_of, letter_of}
use Rattle.pcl_items.specs.Items.{Parameterized, at}
use Rattle.pcl_items.specs.Escapes.Value.{Amount, most}
use Rattle.pcl_items.specs.Escapes.ValueField.{sign_text}
use Rattle.pcl_spelling.proofs.Escapes.WholeNumbers.{no_decimals}
use Rattle.shown_bytes.specs.Decimals.{digit_before, four_decimals, magnitude_text, with_point, without_zeros}
use Rattle.line_words.specs.Figures.{escaped_byte}
use Rattle.line_words.specs.ItemLines.{item_line}

-- these bytes stand in a line as they are
abbrev IsShown : List ℕ → Type 0
IsShown text = flat_map escaped_byte text ≡ text

shown_byte : (b : ℕ) → 33 ≤ b → b ≤ 91 → escaped_byte b ≡ b ∷ []
shown_byte b low high =
    cond-true (nat_le 33 b && nat_le b 126 && not (b == 92)) _ _
    (and_from _ _ (and_from _ _ (le-leb 33 b low) (le-leb b 126 (omega (arith, high))))
    (ap not (ne_eqb b 92 (λ e. omega (arith, high, e)))))

shown_first : (b : ℕ) (text : List ℕ) → escaped_byte b ≡ b ∷ [] → IsShown text → IsShown (b ∷ text)
shown_first b text h k = ap (λ l. l ++ flat_map escaped_byte text) h ∙ ap (λ l. b ∷ l) k

shown_both : (front text : List ℕ) → IsShown front → IsShown text → IsShown (front ++ text)
shown_both front text h k =
    flat_map-append escaped_byte front text ∙ (ap (λ l. l ++ flat_map escaped_byte text) h ∙ ap (λ l. front ++ l) k)

-- ---- a number

shown_digit : (d : ℕ) → d < 10 → escaped_byte (48 + d) ≡ (48 + d) ∷ []
shown_digit d h = shown_byte (48 + d) (omega arith) (omega (arith, h))

shown_decimal : (n : ℕ) → n < 2 ^ 64 → IsShown (decimal n)
shown_decimal =
    decimal_by_steps (λ n text. IsShown text)
    (λ n h. shown_first (48 + n) [] (shown_digit n h) refl)
    (λ n text h shown. shown_both text ((48 + n % 10) ∷ []) shown (shown_first (48 + n % 10) [] (shown_digit (n % 10) (omega arith)) refl))

shown_before : (d : ℕ) (text : List ℕ) → escaped_byte d ≡ d ∷ [] → IsShown text → IsShown (digit_before d text)
shown_before d [] h k = cond_both (d == 48) _ _ IsShown (λ _. refl) (λ _. shown_first d [] h refl)
shown_before d (e ∷ text) h k = shown_first d (e ∷ text) h k

shown_point : (text : List ℕ) → IsShown text → IsShown (with_point text)
shown_point [] h = refl
shown_point (d ∷ text) h = shown_first 46 (d ∷ text) refl h

shown_decimals : (n : ℕ) → IsShown (with_point (without_zeros (four_decimals n)))
shown_decimals n =
    let a = n / 1000 % 10 in
    let b = n / 100 % 10 in
    let c = n / 10 % 10 in
    let d = n % 10 in
    shown_point _
    (shown_before (48 + a) _ (shown_digit a (omega arith))
    (shown_before (48 + b) _ (shown_digit b (omega arith))
    (shown_before (48 + c) _ (shown_digit c (omega arith))
    (shown_before (48 + d) [] (shown_digit d (omega arith)) refl))))

shown_sign : (sign : Sign) → IsShown (sign_text sign)
shown_sign Absent = refl
shown_sign Plus = refl
shown_sign Minus = refl

shown_amount : (a : Amount) → a.ten_thousandths ≤ most → IsShown (amount_text a)
shown_amount a h =
    let n = a.ten_thousandths in
    shown_both (sign_text a.sign) (magnitude_text n) (shown_sign a.sign)
    (shown_both (decimal (n / 10000)) _ (shown_decimal (n / 10000) (omega (arith, h))) (shown_decimals n))

-- ---- a command

shown_introducer : (g : Group) → escaped_byte (introducer_of g) ≡ introducer_of g ∷ []
shown_introducer RasterData = refl
shown_introducer _ = refl

shown_character : (g : Group) → escaped_byte (character_of g) ≡ character_of g ∷ []
shown_character RasterData = refl
shown_character _ = refl

shown_letter : (c : Command) → escaped_byte (letter_of c) ≡ letter_of c ∷ []
shown_letter LeftMargin = refl
shown_letter _ = refl

-- its place, the escape character by its digits, and the bytes behind it as they are
command_line : (place : ℕ) (command : Command) (a : Amount) → a.ten_thousandths ≤ most →
    item_line (at place (Parameterized command a))
    ≡ decimal place
    ++ (32 ∷ 92 ∷ 120 ∷ 49 ∷ 98 ∷ introducer_of (group_of command) ∷ character_of (group_of command)
    ∷ (amount_text a ++ letter_of command ∷ 10 ∷ []))
command_line place command a h =
    let i = introducer_of (group_of command) in
    let c = character_of (group_of command) in
    let letter = letter_of command in
    let shown : IsShown (i ∷ c ∷ (amount_text a ++ letter ∷ [])) =
    shown_first i _ (shown_introducer (group_of command))
    (shown_first c _ (shown_character (group_of command))
    (shown_both (amount_text a) (letter ∷ []) (shown_amount a h) (shown_first letter [] (shown_letter command) refl))) in
    let escaped : flat_map escaped_byte (canon (Parameterized command a)) ≡ 92 ∷ 120 ∷ 49 ∷ 98 ∷ i ∷ c ∷ (amount_text a ++ letter ∷ []) =
    ap (λ (l : List ℕ). 92 ∷ 120 ∷ 49 ∷ 98 ∷ l) shown in
    ap (λ (l : List ℕ). decimal place ++ 32 ∷ l ++ 10 ∷ []) escaped
    ∙ append_assoc (decimal place) (32 ∷ 92 ∷ 120 ∷ 49 ∷ 98 ∷ i ∷ c ∷ (amount_text a ++ letter ∷ [])) (10 ∷ [])
    ∙ ap (λ (l : List ℕ). decimal place ++ 32 ∷ 92 ∷ 120 ∷ 49 ∷ 98 ∷ i ∷ c ∷ l) (append_assoc (amount_text a) (letter ∷ []) (10 ∷ []))

pub line_is_pushed : {E : Type 0} (place : ℕ) (command : Command) (a : Amount) (old new : List ℕ) (result : Result Unit E) →
    a.ten_thousandths ≤ most →
    OnOk result
    (new
    ≡ old
    ++ (decimal place
    ++ (32 ∷ 92 ∷ 120 ∷ 49 ∷ 98 ∷ introducer_of (group_of command) ∷ character_of (group_of command)
    ∷ (amount_text a ++ letter_of command ∷ 10 ∷ []))))
    → OnOk result (new ≡ old ++ item_line (at place (Parameterized command a)))
line_is_pushed place command a old new (Ok u) h pushed = pushed ∙ ap (λ (l : List ℕ). old ++ l) (sym (command_line place command a h))
line_is_pushed place command a old new (Err e) h pushed = tt

pub sign_is_short : (sign : Sign) → length (sign_text sign) ≤ 1
sign_is_short Absent = omega arith
sign_is_short Plus = omega arith
sign_is_short Minus = omega arith

-- a whole number has no decimals
whole_amount : (a : Amount) → a.ten_thousandths % 10000 ≡ 0 → amount_text a ≡ sign_text a.sign ++ decimal (a.ten_thousandths / 10000)
whole_amount a whole =
    let w = decimal (a.ten_thousandths / 10000) in
    ap (λ (l : List ℕ). sign_text a.sign ++ (w ++ l)) (no_decimals a.ten_thousandths whole)
    ∙ ap (λ (l : List ℕ). sign_text a.sign ++ l) (append-nil w)

-- the line of a command whose number is whole
pub whole_line_is_pushed : {E : Type 0} (place : ℕ) (command : Command) (a : Amount) (old new line : List ℕ) (result : Result Unit E) →
    a.ten_thousandths ≤ most → a.ten_thousandths % 10000 ≡ 0 →
    line
    ≡ decimal place
    ++ (32 ∷ 92 ∷ 120 ∷ 49 ∷ 98 ∷ introducer_of (group_of command) ∷ character_of (group_of command)
    ∷ (sign_text a.sign ++ (decimal (a.ten_thousandths / 10000) ++ letter_of command ∷ 10 ∷ [])))
    → OnOk result (new ≡ old ++ line)
    → OnOk result (new ≡ old ++ item_line (at place (Parameterized command a)))
whole_line_is_pushed place command a old new line (Ok u) h whole is pushed =
    let end = letter_of command ∷ 10 ∷ [] in
    let number : sign_text a.sign ++ (decimal (a.ten_thousandths / 10000) ++ end) ≡ amount_text a ++ end =
    sym (append_assoc (sign_text a.sign) (decimal (a.ten_thousandths / 10000)) end)
    ∙ ap (λ (l : List ℕ). l ++ end) (sym (whole_amount a whole)) in
    let line_is = is
    ∙ ap
    (λ (l : List ℕ). decimal place ++ (32 ∷ 92 ∷ 120 ∷ 49 ∷ 98 ∷ introducer_of (group_of command) ∷ character_of (group_of command) ∷ l))
    number
    ∙ sym (command_line place command a h) in
    pushed ∙ ap (λ (l : List ℕ). old ++ l) line_is
whole_line_is_pushed place command a old new line (Err e) h whole is pushed = tt
