-- What is written of all models.
use Rattle.std.specs.Prelude.{ℕ, List, ◌∷◌, ◌++◌, codes, flat_map}
use Rattle.printer_models.specs.declared.model.Model.{Model}
use Rattle.printer_models.specs.declared.paper.Paper.{Paper}
use Rattle.printer_models.specs.Model.{facts_of, every_model}
use Rattle.printer_models.specs.Paper.{word_of}

-- the names of papers, each behind a space
abbrev pub paper_words : List Paper → List ℕ
paper_words papers = flat_map (λ paper. 32 ∷ word_of paper) papers

-- a model's word, and what it is
unfoldable pub model_words : Model → List ℕ
model_words model = (facts_of model).word ++ codes ": " ++ (facts_of model).title

-- and the papers that it can have
unfoldable pub model_line : Model → List ℕ
model_line model = model_words model ++ codes "; papers:" ++ paper_words (facts_of model).papers ++ codes "\n"

unfoldable pub models_text : List ℕ
models_text = flat_map model_line every_model
