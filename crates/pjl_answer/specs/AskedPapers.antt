-- The papers that a profile needs that an answer is put into.
use Rattle.std.specs.Prelude.{ℕ, List, [], ◌∷◌, Option, None, Some}
use Rattle.printer_models.specs.declared.paper.Paper.{Paper}
use Rattle.printer_models.specs.declared.paper.Paper.TheVariants.{Letter, A4}
use Rattle.pjl_answer.specs.Told.{paper_told}

-- a paper, and letter and A4, none twice
abbrev pub papers_with : Option Paper → List Paper
papers_with None = Letter ∷ A4 ∷ []
papers_with (Some Letter) = Letter ∷ A4 ∷ []
papers_with (Some A4) = A4 ∷ Letter ∷ []
papers_with (Some paper) = paper ∷ Letter ∷ A4 ∷ []

-- the panel's paper where the answer tells it, and letter and A4
abbrev pub asked_papers : List ℕ → List Paper
asked_papers answer = papers_with (paper_told answer)
