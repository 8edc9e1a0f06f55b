-- The one spelling of each item of a frame is one unit of it.
use Rattle.std.proofs.Common.{◌≡◌, ℕ, suc, ◌+◌, ◌*◌, ◌^◌, ◌<◌, ◌≤◌, List, [], ◌∷◌, ◌++◌, length, Option, None, Some, refl, sym, ap, subst}
use Rattle.std.proofs.Common.{◌∙◌, arith}
use Rattle.std.specs.Prelude.{ℤ, pos, negsuc, decimal, unsigned_abs}
use Rattle.std.specs.Fmt.{signed_decimal}
use Rattle.std.specs.Char.{is_ascii_digit}
use Rattle.std.specs.Str.Parse.{AllDigits, digits_value}
use Rattle.std.proofs.lemmas.Fmt.{decimal_is_IsNumeral, length-decimal-le}
use Rattle.std.proofs.lemmas.List.{append-nil, append_assoc}
use Rattle.std.proofs.lemmas.List.Sums.{take_while-cons}
use Rattle.pcl_items.specs.declared.number.Sign.{Sign}
use Rattle.pcl_items.specs.declared.number.Sign.TheVariants.{Absent, Minus}
use Rattle.pcl_items.specs.declared.frame.Handover.{Handover}
use Rattle.pcl_items.specs.declared.frame.Handover.TheVariants.{Previous, Current}
use Rattle.pcl_items.specs.declared.frame.Motion.{Motion}
use Rattle.pcl_items.specs.declared.frame.Motion.TheVariants as motions
use Rattle.pcl_items.specs.declared.frame.Setting.{Setting}
use Rattle.pcl_items.specs.declared.frame.Setting.TheVariants as settings
use Rattle.pcl_items.specs.declared.frame.Mnemonic.{Mnemonic}
use Rattle.pcl_items.specs.declared.frame.Mnemonic.TheVariants as mnemonics
use Rattle.pcl_lexer.specs.declared.frame.Gap.TheVariants as gaps
use Rattle.pcl_lexer.specs.Frames.Kinds.{kind_of}
use Rattle.pcl_items.specs.Frames.Mnemonics.{letters_of}
use Rattle.pcl_lexer.specs.Frames.CommandParts.{Odd}
use Rattle.pcl_items.specs.Escapes.Value.{most_units, signed}
use Rattle.pcl_items.specs.Escapes.ValueField.{sign_text, decimals_of, IsShape}
use Rattle.pcl_lexer.specs.Frames.NumberText.{Ends, IsCoordinate, IsSetting}
use Rattle.pcl_items.specs.Items.{Entry, Placed, Reset, LeaveFrame, Initialize, Set, Move, at}
use Rattle.pcl_lexer.specs.Grammar.{previous, current}
use Rattle.pcl_lexer.specs.Frames.Grammar.{AtLetters, Word, Number, IsBegun, letters, setting, coordinate, behind_pair, comma, EndsCommand}
use Rattle.pcl_lexer.specs.Frames.Grammar.{IsWhole, without_number, with_number, second_coordinate, IsCommand, without_pairs, pair}
use Rattle.pcl_lexer.specs.Frames.Grammar.{behind_pairs, LeavesFrame, reset, leave_frame}
use Rattle.pcl_items.specs.Spellings.Canon.{canon, IsItem}
use Rattle.shown_bytes.specs.Decimals.{magnitude_text}
use Rattle.pcl_lexer.proofs.Escapes.Fields.{EndsIn, ends_at_letter}
use Rattle.pcl_lexer.proofs.Escapes.Shapes.{shape_read, longest}
use Rattle.pcl_spelling.proofs.Spellings.Canonical.{setting_spelled, zero_spelled, one_spelled}

-- ---- numbers

ends_at_comma : (s : Sign) (w : List ℕ) (o : Option (List ℕ)) (rest : List ℕ) → EndsIn s w o (44 ∷ rest)
ends_at_comma s w o rest = record { no_digit = take_while-cons is_ascii_digit 44 rest; no_point = λ _. refl; no_sign = λ _ _ _. refl }

-- a shape ends where the byte behind it does not go on with it
shape_ends : (text : List ℕ) (s : Sign) (w : List ℕ) (o : Option (List ℕ)) (c : ℕ) (rest : List ℕ) → IsShape text s w o →
    EndsIn s w o (c ∷ rest) → Ends text c
shape_ends text s w o c rest h e =
    longest text c rest (ap (λ f. f.len) (shape_read text s w o (c ∷ rest) h e) ∙ ap length (sym h.spelled))

coordinate_of_text : (text : List ℕ) (s : Sign) (w : List ℕ) (n : ℕ) (x : ℤ) → text ≡ sign_text s ++ (w ++ []) → AllDigits 10 w →
    0 < length w → length text ≤ 16 → digits_value 10 w ≡ n → n ≤ most_units → x ≡ signed s n → IsCoordinate text x
coordinate_of_text text s w n x e digits some short value limited is =
    let written : n * 10 ^ length (decimals_of None) ≡ digits_value 10 (w ++ decimals_of None) =
    omega (arith, value, ap (digits_value 10) (append-nil w)) in
    record {
      sign = s;
      units = n;
      whole = w;
      fraction = None;
      numeral = record { shape = record { spelled = e; digits = (digits, tt) }; digit = omega (arith, some); short = short };
      written = written;
      limited = limited;
      value = is;
    }

pub coordinate_spelled : (x : ℤ) → unsigned_abs x ≤ most_units → IsCoordinate (signed_decimal x) x
coordinate_spelled (pos n) h =
    let high : n < 2 ^ 64 = omega arith in
    let seven : n < 10 ^ 7 = omega arith in
    let i = decimal_is_IsNumeral n high in
    coordinate_of_text (decimal n) Absent (decimal n) n (pos n) (sym (append-nil (decimal n))) i.0.1 i.0.0
    (omega (arith, length-decimal-le 7 n (omega arith) seven high)) i.1 h refl
coordinate_spelled (negsuc n) h =
    let high : suc n < 2 ^ 64 = omega arith in
    let seven : suc n < 10 ^ 7 = omega arith in
    let i = decimal_is_IsNumeral (suc n) high in
    coordinate_of_text (45 ∷ decimal (suc n)) Minus (decimal (suc n)) (suc n) (negsuc n)
    (ap (λ t. 45 ∷ t) (sym (append-nil (decimal (suc n))))) i.0.1 i.0.0
    (omega (arith, length-decimal-le 7 (suc n) (omega arith) seven high)) i.1 h refl

setting_ends : (text : List ℕ) (n : ℕ) (rest : List ℕ) → IsSetting text n → Ends text 59
setting_ends text n rest h =
    shape_ends text h.sign h.field.whole h.field.fraction 59 rest h.field.shape
    (ends_at_letter h.sign h.field.whole h.field.fraction 59 rest (omega arith))

coordinate_ends : (text : List ℕ) (x : ℤ) (rest : List ℕ) → IsCoordinate text x → Ends text 59
coordinate_ends text x rest h =
    shape_ends text h.sign h.whole h.fraction 59 rest h.numeral.shape (ends_at_letter h.sign h.whole h.fraction 59 rest (omega arith))

coordinate_ends_at_comma : (text : List ℕ) (x : ℤ) (rest : List ℕ) → IsCoordinate text x → Ends text 44
coordinate_ends_at_comma text x rest h =
    shape_ends text h.sign h.whole h.fraction 44 rest h.numeral.shape (ends_at_comma h.sign h.whole h.fraction rest)

-- ---- commands

ends_command : (rest : List ℕ) → EndsCommand (59 ∷ rest)
unfolding kind_of
ends_command rest = tt

begun_letters : (m : Mnemonic) (rest : List ℕ) → IsBegun AtLetters (Word m) 0 ((letters_of m).0 ∷ (letters_of m).1 ∷ []) rest
unfolding kind_of
begun_letters mnemonics.Initialize rest = letters refl refl refl
begun_letters (mnemonics.Sets settings.Pen) rest = letters refl refl refl
begun_letters (mnemonics.Sets settings.Width) rest = letters refl refl refl
begun_letters (mnemonics.Moves motions.Up) rest = letters refl refl refl
begun_letters (mnemonics.Moves motions.Down) rest = letters refl refl refl
begun_letters (mnemonics.Moves motions.Absolute) rest = letters refl refl refl
begun_letters (mnemonics.Moves motions.Relative) rest = letters refl refl refl

-- an item at the place of its command's letters
at_letters : {text : List ℕ} {rest : List ℕ} {item : Entry} (place : ℕ) → IsCommand AtLetters place text rest (at (place + 0) item ∷ []) →
    IsCommand AtLetters place text rest (at place item ∷ [])
at_letters {text = text} {rest = rest} {item = item} place h =
    let here : place + 0 ≡ place = omega arith in subst (λ (p : ℕ). IsCommand AtLetters place text rest (at p item ∷ [])) here h

-- a command that its own semicolon ends
pub data IsEnded : ℕ → List ℕ → List ℕ → List Placed → Type 0 where
  ended : {place : ℕ} {text rest : List ℕ} {items : List Placed} → IsCommand AtLetters place text (59 ∷ rest) items →
      IsEnded place (text ++ 59 ∷ []) rest items

bare_unit : (m : Mnemonic) (item : Entry) → IsWhole (Word m) item → (place : ℕ) (rest : List ℕ) →
    IsEnded place (((letters_of m).0 ∷ (letters_of m).1 ∷ []) ++ 59 ∷ []) rest (at place item ∷ [])
bare_unit m item whole place rest = ended (at_letters place (without_pairs (begun_letters m (59 ∷ rest)) whole (ends_command rest)))

set_unit : (s : Setting) (n : ℕ) → IsSetting (magnitude_text n) n → (place : ℕ) (rest : List ℕ) →
    IsEnded place (canon (Set s n)) rest (at place (Set s n) ∷ [])
set_unit s n h place rest =
    let number : List ℕ = magnitude_text n in
    ended (at_letters place
    (without_pairs (setting (begun_letters (mnemonics.Sets s) (number ++ 59 ∷ rest)) h (setting_ends number n rest h))
    (with_number tt) (ends_command rest)))

-- a pair
pair_command : (motion : Motion) (x y : ℤ) → IsCoordinate (signed_decimal x) x → IsCoordinate (signed_decimal y) y → (place : ℕ)
    (rest : List ℕ) →
    IsCommand AtLetters place
    (((letters_of (mnemonics.Moves motion)).0 ∷ (letters_of (mnemonics.Moves motion)).1 ∷ [])
    ++ (signed_decimal x ++ 44 ∷ signed_decimal y))
    (59 ∷ rest) (at place (Move motion (Some (x, y))) ∷ [])
unfolding kind_of
pair_command motion x y h k place rest =
    let l : List ℕ = (letters_of (mnemonics.Moves motion)).0 ∷ (letters_of (mnemonics.Moves motion)).1 ∷ [] in
    let a : List ℕ = signed_decimal x in
    let b : List ℕ = signed_decimal y in
    let first : IsBegun AtLetters (Number (Odd motion x) gaps.Straight) 0 (l ++ a) (44 ∷ (b ++ 59 ∷ rest)) =
    coordinate (begun_letters (mnemonics.Moves motion) (a ++ 44 ∷ (b ++ 59 ∷ rest))) h (coordinate_ends_at_comma a x (b ++ 59 ∷ rest) h) in
    let begun : IsBegun AtLetters (Number (Odd motion x) gaps.Comma) 0 ((l ++ a) ++ 44 ∷ []) (b ++ 59 ∷ rest) = comma first refl tt in
    let same : (((l ++ a) ++ 44 ∷ []) ++ b) ++ [] ≡ l ++ (a ++ 44 ∷ b) =
    append-nil (((l ++ a) ++ 44 ∷ []) ++ b) ∙ append_assoc (l ++ a) (44 ∷ []) b ∙ append_assoc l a (44 ∷ b) in
    subst (λ (t : List ℕ). IsCommand AtLetters place t (59 ∷ rest) (at place (Move motion (Some (x, y))) ∷ [])) same
    (at_letters place
    (pair {more = []} (second_coordinate begun tt k (coordinate_ends b y rest k)) (behind_pairs behind_pair tt (ends_command rest))))

-- ---- the items

-- the items of commands of a frame
abbrev pub IsFrameItem : Entry → Type 0
IsFrameItem Initialize = Unit {0}
IsFrameItem (Set kind amount) = Unit {0}
IsFrameItem (Move motion to) = Unit {0}
IsFrameItem item = ⊥

pub frame_ended : (item : Entry) → IsItem item → IsFrameItem item → (place : ℕ) (rest : List ℕ) →
    IsEnded place (canon item) rest (at place item ∷ [])
frame_ended Initialize h e place rest = bare_unit mnemonics.Initialize Initialize without_number place rest
frame_ended (Set s n) h e place rest = set_unit s n (setting_spelled n h) place rest
frame_ended (Move motion None) h e place rest = bare_unit (mnemonics.Moves motion) (Move motion None) without_number place rest
frame_ended (Move motion (Some p)) h e place rest =
    ended (pair_command motion p.0 p.1 (coordinate_spelled p.0 h.0) (coordinate_spelled p.1 h.1) place rest)
frame_ended _ h e place rest = absurd e

pub reset_leaves : (place : ℕ) → LeavesFrame place (canon Reset) (at place Reset ∷ [])
reset_leaves place = reset

pub language_leaves : (handover : Handover) (place : ℕ) →
    LeavesFrame place (canon (LeaveFrame handover)) (at place (LeaveFrame handover) ∷ [])
language_leaves Previous place = leave_frame zero_spelled (previous refl)
language_leaves Current place = leave_frame one_spelled (current refl (λ e. absurd cc))
