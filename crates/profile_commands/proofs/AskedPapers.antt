-- The name of a paper that is wrong, and what is told of it.
use Rattle.std.proofs.Common.{◌≡◌, ◌<◌, ◌+◌, ℕ, suc, Bor, List, [], ◌∷◌, ◌++◌, Option, None, Some, Result, Ok, Err, get_or, length}
use Rattle.std.proofs.Common.{length-append, map, ap, arith, subst, sym}
use Rattle.std.proofs.lemmas.List.{get_or-map, length-map}
use Rattle.printer_models.specs.declared.asked.PaperFault.{PaperFault}
use Rattle.printer_models.specs.declared.asked.WordFault.{WordFault}
use Rattle.printer_models.specs.declared.model.Model.{Model}
use Rattle.printer_models.specs.declared.new_profile.NewError.{NewError}
use Rattle.printer_models.specs.declared.new_profile.NewError.TheVariants.{Paper as WrongPaper}
use Rattle.printer_models.specs.declared.paper.Paper.{Paper}
use Rattle.printer_models.specs.Asked.{paper_asked, papers_asked, papers_from}
use Rattle.printer_models.specs.NewText.{IsNewError}
use Rattle.streams.specs.Writing.{Writes}
use Rattle.streams.specs.Outlet.{OutletState}
use Rattle.profile_commands.specs.ProfileNew.{wrong_paper}

-- what names come to, where the first of them comes to this
abbrev papers_behind : Model → List Paper → List (List ℕ) → Result Paper PaperFault → Result (List Paper) WordFault
papers_behind model papers_before names (Ok paper) = papers_from model (papers_before ++ paper ∷ []) names
papers_behind model papers_before names (Err fault) = Err (record { index = length papers_before; fault = fault })

one_of_more : (model : Model) (papers_before : List Paper) (names : List (List ℕ)) (wrong : WordFault) (first : Result Paper PaperFault)
    → ((paper : Paper) → papers_from model (papers_before ++ paper ∷ []) names ≡ Err wrong →
    wrong.index < length (papers_before ++ paper ∷ []) + length names)
    → papers_behind model papers_before names first ≡ Err wrong → wrong.index < length papers_before + suc (length names)
one_of_more model papers_before names wrong (Ok paper) more e =
    let within = more paper e in omega (arith, length-append papers_before (paper ∷ []))
one_of_more model papers_before names wrong (Err fault) more e =
    let here : WordFault = record { index = length papers_before; fault = fault } in
    let same : here ≡ wrong = cc in
    let place : length papers_before ≡ wrong.index = ap (λ (found : WordFault). found.index) same in
    omega arith

one_behind : (model : Model) (papers_before : List Paper) (names : List (List ℕ)) (wrong : WordFault) →
    papers_from model papers_before names ≡ Err wrong → wrong.index < length papers_before + length names
one_behind model papers_before [] wrong e = cc
one_behind model papers_before (name ∷ names) wrong e =
    one_of_more model papers_before names wrong (paper_asked model papers_before name)
    (λ paper further. one_behind model (papers_before ++ paper ∷ []) names wrong further) e

-- it is one of the names
one_of_names : (model : Model) (names : List (List ℕ)) (wrong : WordFault) → papers_asked model names ≡ Err wrong →
    wrong.index < length names
one_of_names model [] wrong e = cc
one_of_names model (name ∷ names) wrong e = let within = one_behind model [] (name ∷ names) wrong e in omega arith

one_that_is_told : (model : Option Model) (names : List (List ℕ)) (wrong : WordFault) → IsNewError model names (WrongPaper wrong) →
    wrong.index < length names
one_that_is_told None names wrong told = absurd told
one_that_is_told (Some model) names wrong told = one_of_names model names wrong told

pub told_of_one : (model : Option Model) (papers : List (Bor (List ℕ))) (wrong : WordFault) (error : NewError) → error ≡ WrongPaper wrong →
    IsNewError model (map (λ name. name.now) papers) error
    → wrong.index < length papers
told_of_one model papers wrong error is told =
    let names = map (λ (name : Bor (List ℕ)). name.now) papers in
    simp length-map at (one_that_is_told model names wrong (subst (IsNewError model names) is told))

-- the line on a fault, by words that are the names
pub line_told : (err err' : OutletState) (model model' paper paper' : List ℕ) (fault is : PaperFault) → fault ≡ is → model' ≡ model →
    paper' ≡ paper
    → Writes err err' (wrong_paper model' paper' is) → Writes err err' (wrong_paper model paper fault)
line_told err err' model model' paper paper' fault is e of for told =
    subst (λ f. Writes err err' (wrong_paper model paper f)) (sym e)
    (subst (λ m. Writes err err' (wrong_paper m paper is)) of (subst (λ p. Writes err err' (wrong_paper model' p is)) for told))

-- the name is the one at that place
pub name_told : (err err' : OutletState) (model : List ℕ) (papers : List (Bor (List ℕ))) (wrong : WordFault) (other : Bor (List ℕ)) →
    wrong.index < length papers
    → Writes err err' (wrong_paper model (get_or papers wrong.index other).now wrong.fault)
    → Writes err err' (wrong_paper model (get_or (map (λ name. name.now) papers) wrong.index []) wrong.fault)
name_told err err' model papers wrong other within told =
    subst (λ paper. Writes err err' (wrong_paper model paper wrong.fault))
    (sym (get_or-map (λ (name : Bor (List ℕ)). name.now) papers wrong.index other [] within)) told
