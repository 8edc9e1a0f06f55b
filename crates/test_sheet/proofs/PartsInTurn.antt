-- The words of parts, one part after another.
use Rattle.std.proofs.Common.{◌≡◌, ℕ, ◌+◌, ◌<◌, List, [], ◌∷◌, ◌++◌, length, drop, get_or, refl, sym, ap, append_assoc, append-nil, ◌∙◌}
use Rattle.std.proofs.lemmas.List.{drop_more}
use Rattle.test_sheet.specs.declared.parts.Part.{Part}
use Rattle.test_sheet.specs.Parts.{part_words, parts_words}

first_part : (part : Part) (parts : List Part) → parts_words (part ∷ parts) ≡ part_words part ++ parts_words parts
first_part part [] = sym (append-nil (part_words part))
first_part part (next ∷ more) = refl

pub next_part : (parts : List Part) (i : ℕ) (part : Part) (before after all : List ℕ) → i < length parts → part ≡ get_or parts i part
    → before ++ parts_words (drop i parts) ≡ all → after ≡ before ++ part_words part → after ++ parts_words (drop (i + 1) parts) ≡ all
next_part parts i part before after all within is_part are is =
    let rest = drop (i + 1) parts in
    ap (λ l. l ++ parts_words rest) is
    ∙ append_assoc before (part_words part) (parts_words rest)
    ∙ ap (λ l. before ++ l) (sym (first_part part rest))
    ∙ ap (λ p. before ++ parts_words (p ∷ rest)) is_part
    ∙ ap (λ ps. before ++ parts_words ps) (sym (drop_more parts i part within))
    ∙ are
