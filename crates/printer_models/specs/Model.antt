-- The models of printers.
use Rattle.std.specs.Prelude.{ℕ, Bool, true, false, List, [], ◌∷◌, Option, find, codes}
use Rattle.std.specs.Str.{bytes_eq}
use Rattle.printer_models.specs.declared.face.Generation.{Generation}
use Rattle.printer_models.specs.declared.face.Generation.TheVariants.{LaserJet4, LaserJet5}
use Rattle.printer_models.specs.declared.model.Model.{Model}
use Rattle.printer_models.specs.declared.model.Model.TheVariants as models
use Rattle.printer_models.specs.declared.paper.Paper.{Paper}
use Rattle.printer_models.specs.declared.paper.Paper.TheVariants as paper
use Rattle.printer_models.specs.Paper.{every_paper}

-- What is known of a model: the word by which it is asked for, its title, its generation, the papers that it can have,
-- its trays by their numbers in `ESC &l#H`, those that it takes paper from by itself, the usual one first, whether it
-- can print on both sides, and a guess of the memory for macros.
pub record Facts : Type 0 where
  pub word : List ℕ
  pub title : List ℕ
  pub generation : Generation
  pub papers : List Paper
  pub device_trays : List ℕ
  pub panel_trays : List ℕ
  pub has_duplex : Bool
  pub memory : ℕ

abbrev pub facts : List ℕ → List ℕ → Generation → List Paper → List ℕ → List ℕ → Bool → ℕ → Facts
facts word title generation papers device_trays panel_trays has_duplex memory = record {
  word = word;
  title = title;
  generation = generation;
  papers = papers;
  device_trays = device_trays;
  panel_trays = panel_trays;
  has_duplex = has_duplex;
  memory = memory;
}

-- papers that several models can have
abbrev pub first_papers : List Paper
first_papers =
    paper.Executive ∷ paper.Letter ∷ paper.Legal ∷ paper.A4 ∷ paper.Monarch ∷ paper.Com10 ∷ paper.Dl ∷ paper.C5
    ∷ paper.B5 ∷ []

abbrev pub papers_with_a5 : List Paper
papers_with_a5 =
    paper.Executive ∷ paper.Letter ∷ paper.Legal ∷ paper.A5 ∷ paper.A4 ∷ paper.JisB5 ∷ paper.Monarch ∷ paper.Com10
    ∷ paper.Dl ∷ paper.C5 ∷ paper.B5 ∷ []

abbrev pub papers_with_a6 : List Paper
papers_with_a6 =
    paper.Executive ∷ paper.Letter ∷ paper.Legal ∷ paper.A6 ∷ paper.A5 ∷ paper.A4 ∷ paper.JisB5 ∷ paper.Monarch
    ∷ paper.Com10 ∷ paper.Dl ∷ paper.C5 ∷ paper.B5 ∷ []

abbrev pub wide_papers : List Paper
wide_papers =
    paper.Executive ∷ paper.Letter ∷ paper.Legal ∷ paper.Ledger ∷ paper.A5 ∷ paper.A4 ∷ paper.A3 ∷ paper.JisB5
    ∷ paper.JisB4 ∷ paper.Monarch ∷ paper.Com10 ∷ paper.Dl ∷ paper.C5 ∷ paper.B5 ∷ []

-- numbers of trays
abbrev pub three_trays : List ℕ
three_trays = 1 ∷ 2 ∷ 3 ∷ []

abbrev pub five_trays : List ℕ
five_trays = 1 ∷ 2 ∷ 3 ∷ 4 ∷ 5 ∷ []

abbrev pub six_trays : List ℕ
six_trays = 1 ∷ 2 ∷ 3 ∷ 4 ∷ 5 ∷ 6 ∷ []

abbrev pub one_and_four : List ℕ
one_and_four = 1 ∷ 4 ∷ []

-- THE TABLE OF MODELS
abbrev pub facts_of : Model → Facts
facts_of models.Generic =
    facts (codes "generic")
    (codes "a printer of PCL 5e that is not in this list") LaserJet5 every_paper three_trays (1 ∷ []) false 262_144
facts_of models.HpLaserJet4 =
    facts (codes "hp-laserjet-4") (codes "HP LaserJet 4") LaserJet4 first_papers six_trays one_and_four false 1_048_576
facts_of models.HpLaserJet4Plus =
    facts (codes "hp-laserjet-4-plus")
    (codes "HP LaserJet 4 Plus") LaserJet4 first_papers six_trays one_and_four true 1_048_576
facts_of models.HpLaserJet5 =
    facts (codes "hp-laserjet-5") (codes "HP LaserJet 5") LaserJet5 first_papers six_trays one_and_four false 1_048_576
facts_of models.HpLaserJet5Si =
    facts (codes "hp-laserjet-5si") (codes "HP LaserJet 5Si") LaserJet5
    (paper.Executive ∷ paper.Letter ∷ paper.Legal ∷ paper.Ledger ∷ paper.A4 ∷ paper.A3 ∷ paper.JisB5 ∷ paper.JisB4
    ∷ paper.Monarch ∷ paper.Com10 ∷ paper.Dl ∷ paper.C5 ∷ paper.B5 ∷ [])
    (1 ∷ 2 ∷ 3 ∷ 4 ∷ 5 ∷ 6 ∷ 20 ∷ []) one_and_four true 1_048_576
facts_of models.HpLaserJet4000 =
    facts (codes "hp-laserjet-4000")
    (codes "HP LaserJet 4000") LaserJet5 papers_with_a5 six_trays one_and_four true 1_048_576
facts_of models.HpLaserJet4200 =
    facts (codes "hp-laserjet-4200") (codes "HP LaserJet 4200") LaserJet5 papers_with_a5
    (1 ∷ 2 ∷ 3 ∷ 4 ∷ 5 ∷ 6 ∷ 20 ∷ []) one_and_four true 1_048_576
facts_of models.HpLaserJet4250 =
    facts (codes "hp-laserjet-4250") (codes "HP LaserJet 4250") LaserJet5 papers_with_a5
    (1 ∷ 2 ∷ 3 ∷ 4 ∷ 5 ∷ 6 ∷ 20 ∷ []) one_and_four true 1_048_576
facts_of models.HpLaserJet5000 =
    facts (codes "hp-laserjet-5000")
    (codes "HP LaserJet 5000") LaserJet5 every_paper five_trays one_and_four true 1_048_576
facts_of models.HpLaserJet8000 =
    facts (codes "hp-laserjet-8000") (codes "HP LaserJet 8000") LaserJet5 wide_papers
    (1 ∷ 2 ∷ 3 ∷ 4 ∷ 5 ∷ 6 ∷ 20 ∷ 21 ∷ []) one_and_four true 1_048_576
facts_of models.HpLaserJet9000 =
    facts (codes "hp-laserjet-9000") (codes "HP LaserJet 9000") LaserJet5 wide_papers
    (1 ∷ 2 ∷ 3 ∷ 4 ∷ 5 ∷ 20 ∷ []) one_and_four true 1_048_576
facts_of models.HpLaserJetP3005 =
    facts (codes "hp-laserjet-p3005")
    (codes "HP LaserJet P3005") LaserJet5 papers_with_a6 five_trays one_and_four true 1_048_576
facts_of models.HpLaserJetP3015 =
    facts (codes "hp-laserjet-p3015") (codes "HP LaserJet P3015") LaserJet5 papers_with_a6
    (1 ∷ 2 ∷ 3 ∷ 4 ∷ 5 ∷ 20 ∷ []) one_and_four true 1_048_576
facts_of models.HpLaserJetM605 =
    facts (codes "hp-laserjet-m605") (codes "HP LaserJet M605") LaserJet5 papers_with_a6
    (1 ∷ 2 ∷ 3 ∷ 4 ∷ 5 ∷ 6 ∷ 20 ∷ 21 ∷ 22 ∷ []) one_and_four true 1_048_576
facts_of models.BrotherHl5350Dn =
    facts (codes "brother-hl-5350dn") (codes "Brother HL-5350DN") LaserJet5
    (paper.Executive ∷ paper.Letter ∷ paper.Legal ∷ paper.A6 ∷ paper.A5 ∷ paper.A4 ∷ paper.Monarch ∷ paper.Com10
    ∷ paper.Dl ∷ paper.C5 ∷ paper.B5 ∷ [])
    five_trays one_and_four true 1_048_576
facts_of models.KyoceraFs1020D =
    facts (codes "kyocera-fs-1020d") (codes "Kyocera FS-1020D") LaserJet5
    (paper.Executive ∷ paper.Letter ∷ paper.Legal ∷ paper.A6 ∷ paper.A5 ∷ paper.A4 ∷ []) five_trays
    one_and_four true 1_048_576
facts_of models.LexmarkMs520 =
    facts (codes "lexmark-ms520") (codes "Lexmark MS520") LaserJet5 papers_with_a6 (1 ∷ 2 ∷ 3 ∷ 4 ∷ 5 ∷ 6 ∷ 8 ∷ 20 ∷ [])
    (1 ∷ 8 ∷ []) true 1_048_576
facts_of models.RicohSp3710Dn =
    facts (codes "ricoh-sp-3710dn") (codes "Ricoh SP 3710DN") LaserJet5
    (paper.Letter ∷ paper.Legal ∷ paper.A5 ∷ paper.A4 ∷ paper.Monarch ∷ paper.Com10 ∷ paper.Dl ∷ paper.C5 ∷ [])
    (1 ∷ 8 ∷ []) (1 ∷ 8 ∷ []) true 1_048_576

abbrev pub every_model : List Model
every_model =
    models.HpLaserJet4 ∷ models.HpLaserJet4Plus ∷ models.HpLaserJet5 ∷ models.HpLaserJet5Si ∷ models.HpLaserJet4000
    ∷ models.HpLaserJet4200 ∷ models.HpLaserJet4250 ∷ models.HpLaserJet5000
    ∷ models.HpLaserJet8000 ∷ models.HpLaserJet9000 ∷ models.HpLaserJetP3005 ∷ models.HpLaserJetP3015
    ∷ models.HpLaserJetM605
    ∷ models.BrotherHl5350Dn ∷ models.KyoceraFs1020D ∷ models.LexmarkMs520 ∷ models.RicohSp3710Dn ∷ models.Generic ∷ []

-- the model of a word
abbrev pub model_named : List ℕ → Option Model
model_named word = find (λ model. bytes_eq (facts_of model).word word) every_model
