-- The bytes with which numbers of a frame begin.
use Rattle.std.proofs.Common.{◌≡◌, ℕ, ◌≤◌, List, [], ◌∷◌, true, false, Option, None, Some, sym, subst, ◌∙◌, arith}
use Rattle.std.specs.Prelude.{ℤ, ◌==◌, ◌||◌}
use Rattle.std.specs.Int.{is_in_range}
use Rattle.std.proofs.lemmas.Bool.{cond-true, cond-false}
use Rattle.std.proofs.lemmas.Str.Parse.{digit_from_value}
use Rattle.pcl_items.specs.declared.number.Sign.{Sign}
use Rattle.pcl_items.specs.declared.number.Sign.TheVariants.{Absent, Plus, Minus}
use Rattle.pcl_lexer.specs.declared.frame.Kind.{Kind}
use Rattle.pcl_lexer.specs.declared.frame.Kind.TheVariants as kinds
use Rattle.pcl_lexer.specs.Frames.Kinds.{is_white, is_letter, kind_of}
use Rattle.pcl_lexer.specs.Frames.NumberText.{IsNumeral, IsCoordinate, IsSetting}

abbrev pub IsStart : Kind → Type 0
IsStart kinds.White = ⊥
IsStart kinds.Comma = ⊥
IsStart kinds.Semicolon = ⊥
IsStart kinds.Letter = ⊥
IsStart kinds.Escape = ⊥
IsStart kinds.Sign = Unit {0}
IsStart kinds.Figure = Unit {0}
IsStart kinds.Other = ⊥

digit_kind : (d : ℕ) → 48 ≤ d → d ≤ 57 → kind_of d ≡ kinds.Figure
unfolding kind_of
digit_kind d l h =
    let white : is_white d ≡ false = grind arith in
    let no_comma : (d == 44) ≡ false = grind arith in
    let semicolon : (d == 59) ≡ false = grind arith in
    let letter : is_letter d ≡ false = grind arith in
    let no_escape : (d == 27) ≡ false = grind arith in
    let sign : ((d == 43) || (d == 45)) ≡ false = grind arith in
    let digit : (is_in_range 48 57 d || (d == 46)) ≡ true = grind arith in
    cond-false (is_white d) _ _ white ∙ cond-false (d == 44) _ _ no_comma ∙ cond-false (d == 59) _ _ semicolon
    ∙ cond-false (is_letter d) _ _ letter
    ∙ cond-false (d == 27) _ _ no_escape ∙ cond-false ((d == 43) || (d == 45)) _ _ sign
    ∙ cond-true (is_in_range 48 57 d || (d == 46)) _ _ digit

-- a number, by its first byte
pub data IsLed : List ℕ → Type 0 where
  led : {b : ℕ} (text : List ℕ) → IsStart (kind_of b) → IsLed (b ∷ text)

pub numeral_led : (text : List ℕ) (s : Sign) (w : List ℕ) (o : Option (List ℕ)) → IsNumeral text s w o → IsLed text
unfolding kind_of
numeral_led text Plus w o n = subst IsLed (sym n.shape.spelled) (led _ tt)
numeral_led text Minus w o n = subst IsLed (sym n.shape.spelled) (led _ tt)
numeral_led text Absent (d ∷ w) o n =
    let r = digit_from_value d n.shape.digits.0.0 in
    subst IsLed (sym n.shape.spelled) (led _ (subst IsStart (sym (digit_kind d r.0 r.1)) tt))
numeral_led text Absent [] (Some ds) n = subst IsLed (sym n.shape.spelled) (led _ tt)
numeral_led text Absent [] None n = absurd (omega (arith, n.digit))

pub setting_led : (number : List ℕ) (a : ℕ) → IsSetting number a → IsLed number
setting_led number a h =
    numeral_led number h.sign h.field.whole h.field.fraction (record { shape = h.field.shape; digit = h.digit; short = h.field.short })

pub coordinate_led : (number : List ℕ) (x : ℤ) → IsCoordinate number x → IsLed number
coordinate_led number x h = numeral_led number h.sign h.whole h.fraction h.numeral
