-- Texts by their parts.
use Rattle.std.specs.Prelude.{ℕ, unsigned_abs, List, [], ◌∷◌, ◌++◌, decimal}
use Rattle.shown_bytes.specs.Lettered.{lettered}
use Rattle.test_sheet.specs.declared.parts.Part.{Part}
use Rattle.test_sheet.specs.declared.parts.Part.TheVariants.{Words, Number, LongNumber, Amount, SignedAmount}
use Rattle.test_sheet.specs.declared.parts.Part.TheVariants.{Millimetres, Set}
use Rattle.test_sheet.specs.Figures.{amount, millimetres, signed_amount}

abbrev pub part_words : Part → List ℕ
part_words (Words words) = words.now
part_words (Number n) = decimal n
part_words (LongNumber n) = decimal n
part_words (Amount n) = amount n
part_words (SignedAmount n) = signed_amount n
part_words (Millimetres length) = millimetres (unsigned_abs length)
part_words (Set set) = lettered set.number set.letter

-- one behind another
abbrev pub parts_words : List Part → List ℕ
parts_words [] = []
parts_words (part ∷ []) = part_words part
parts_words (part ∷ next ∷ more) = part_words part ++ parts_words (next ∷ more)
