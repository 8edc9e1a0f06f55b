-- What a user asks for, by words.
use Rattle.std.specs.Prelude.{◌≡◌, ℕ, ◌==◌, not, Bool, List, [], ◌∷◌, ◌++◌, length, Result, Ok, Err, if◌then◌else◌}
use Rattle.std.specs.List.{list_any}
use Rattle.std.specs.Option.{option_map_or}
use Rattle.printer_models.specs.declared.asked.AskedError.{AskedError}
use Rattle.printer_models.specs.declared.asked.AskedError.TheVariants.{Wrong, Memory}
use Rattle.printer_models.specs.declared.asked.PaperFault.{PaperFault}
use Rattle.printer_models.specs.declared.asked.PaperFault.TheVariants.{Unknown, NotHeld, Repeated}
use Rattle.printer_models.specs.declared.asked.WordFault.{WordFault}
use Rattle.printer_models.specs.declared.model.Model.{Model}
use Rattle.printer_models.specs.declared.paper.Paper.{Paper}
use Rattle.printer_models.specs.declared.paper.Paper.TheVariants.{Letter, A4}
use Rattle.printer_models.specs.Model.{facts_of}
use Rattle.printer_models.specs.Paper.{paper_named, code_of}

-- whether a paper is one of these
abbrev pub is_among : List Paper → Paper → Bool
is_among papers paper = list_any (λ held. code_of held == code_of paper) papers

-- a paper that the model can have and that did not come before
abbrev pub held_paper : Model → List Paper → Paper → Result Paper PaperFault
held_paper model papers_before paper =
    if not (is_among (facts_of model).papers paper) then Err NotHeld
    else (if is_among papers_before paper then Err Repeated else Ok paper)

-- the paper of a word, behind others, or what is wrong with the word
abbrev pub paper_asked : Model → List Paper → List ℕ → Result Paper PaperFault
paper_asked model papers_before word = option_map_or (held_paper model papers_before) (paper_named word) (Err Unknown)

-- the papers of words, behind others, or the first word that is wrong
abbrev pub papers_from : Model → List Paper → List (List ℕ) → Result (List Paper) WordFault
papers_from model papers_before [] = Ok papers_before
papers_from model papers_before (word ∷ words) =
    elim (paper_asked model papers_before word) [
      | Ok paper ↦ papers_from model (papers_before ++ paper ∷ []) words
      | Err fault ↦ Err (record { index = length papers_before; fault = fault })
    ]

-- without a word letter and A4 are asked for
abbrev pub papers_asked : Model → List (List ℕ) → Result (List Paper) WordFault
papers_asked model [] = Ok (Letter ∷ A4 ∷ [])
papers_asked model (word ∷ words) = papers_from model [] (word ∷ words)

-- that word is wrong, or memory was wanted
abbrev pub IsWordFault : Result (List Paper) WordFault → AskedError → Type 0
IsWordFault asked (Wrong fault) = asked ≡ Err fault
IsWordFault asked Memory = Unit {0}
