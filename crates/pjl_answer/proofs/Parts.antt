-- The parts of a line between form feeds.
use Rattle.std.proofs.Common.{◌≡◌, ℕ, ◌+◌, ◌-◌, ◌<◌, ◌==◌, List, [], ◌∷◌, length, take, drop, Option, None, Some, sym, ap, ◌∙◌, arith}
use Rattle.std.specs.List.{position_or_len, slice_split}
use Rattle.std.specs.Option.{option_or}
use Rattle.std.proofs.lemmas.List.{take_rest}
use Rattle.std.proofs.lemmas.List.Splits.{slice_split_first, slice_split_none}
use Rattle.std.proofs.lemmas.List.Sums.{fails_before_first}
use Rattle.pjl_answer.specs.declared.variable.Variable.{Variable}
use Rattle.pjl_answer.specs.Answer.{value_in, value_in_parts}

-- a line without a form feed is one part
pub one_part : (line : List ℕ) (place : ℕ) → place ≡ position_or_len (λ b. b == 12) line → place ≡ length line →
    slice_split (λ b. b == 12) line ≡ line ∷ []
one_part line place is_place all =
    slice_split_none (λ b. b == 12) line (λ k d below. fails_before_first (λ b. b == 12) line k d (omega arith))

-- a form feed ends the first part
pub two_parts : (line : List ℕ) (place : ℕ) → place ≡ position_or_len (λ b. b == 12) line → place < length line
    → slice_split (λ b. b == 12) line
    ≡ take place line ∷ slice_split (λ b. b == 12) (take (length line - (place + 1)) (drop (place + 1) line))
two_parts line place is_place within =
    let inside : position_or_len (λ b. b == 12) line < length line = omega arith in
    slice_split_first (λ b. b == 12) line 0 inside
    ∙ ap (λ (n : ℕ). take n line ∷ slice_split (λ b. b == 12) (drop (n + 1) line)) (sym is_place)
    ∙ ap (λ (l : List ℕ). take place line ∷ slice_split (λ b. b == 12) l) (sym (take_rest line (place + 1)))

-- what the first part gives counts, else what the others give
pub first_gives : (variable : Variable) (parts : List (List ℕ)) (part value : List ℕ) (others : List (List ℕ)) → parts ≡ part ∷ others
    → Some value ≡ value_in variable part → Some value ≡ value_in_parts variable parts
first_gives variable parts part value others are gives =
    ap (λ (o : Option (List ℕ)). option_or o (value_in_parts variable others)) gives ∙ ap (value_in_parts variable) (sym are)

pub others_give : (variable : Variable) (parts : List (List ℕ)) (part : List ℕ) (others : List (List ℕ)) → parts ≡ part ∷ others
    → None ≡ value_in variable part → value_in_parts variable parts ≡ value_in_parts variable others
others_give variable parts part others are gives =
    ap (value_in_parts variable) are ∙ ap (λ (o : Option (List ℕ)). option_or o (value_in_parts variable others)) (sym gives)
