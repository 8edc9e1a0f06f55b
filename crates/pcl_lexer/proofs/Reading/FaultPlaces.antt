-- Where a fault is read it has a rule, and what has a rule is read as that fault.
use Rattle.std.proofs.Common.{◌≡◌, ◌≢◌, ℕ, List, [], ◌∷◌, true, Some, refl, sym, ap, subst}
use Rattle.std.specs.Prelude.{◌==◌}
use Rattle.std.proofs.lemmas.Bool.{eqb-true, eqb-false, cond_both}
use Rattle.pcl_items.specs.declared.pcl.command.Group.{Group}
use Rattle.pcl_items.specs.declared.fault.LexCause.{LexCause}
use Rattle.pcl_items.specs.declared.fault.LexCause.TheVariants.{Truncated}
use Rattle.pcl_items.specs.declared.item.Mode.TheVariants as modes
use Rattle.pcl_lexer.specs.Lexing.Contexts.{Context, Pcl, Sequence, Frame, Letters, Numbered, Pjl}
use Rattle.pcl_lexer.specs.Lexing.Firsts.{First, Open, Passes, Begins, Faulty}
use Rattle.pcl_lexer.specs.Reader.{command_in, between_units, by_pjl, first_of}
use Rattle.pcl_items.specs.PjlLines.Text.{at_sign}
use Rattle.pcl_items.specs.PjlLines.First as lines
use Rattle.pcl_lexer.specs.PjlLines.Units.{PjlFault}
use Rattle.pcl_lexer.proofs.PjlLines.Laws.{first_of_fault}
use Rattle.pcl_lexer.proofs.PjlLines.Units.{lines_by_rules}
use Rattle.pcl_lexer.proofs.PjlLines.Heads.{line_begins}
use Rattle.pcl_lexer.specs.Fault.{end_cause, IsFault}
use Rattle.pcl_lexer.specs.Frames.Grammar.{AtLetters, Word, Number}
use Rattle.pcl_lexer.specs.Frames.Faults.{FrameFault, PartFault}
use Rattle.pcl_lexer.specs.Faults.{CommandFault, UnitFault}
use Rattle.pcl_lexer.proofs.Reading.Causes.{Causes}
use Rattle.pcl_lexer.proofs.Escapes.FaultHeads.{TellsCommand, command_told, TellsUnit, unit_told}
use Rattle.pcl_lexer.proofs.Reading.FaultRules.{command_causes, unit_causes, unit_byte}
use Rattle.pcl_lexer.proofs.Frames.Heads.{Motive, Closed, FaultIn, Tells, cut_cause, frame_told, letters_tell, numbers_tell}

-- in mode PJL a line is wrong, or mode PCL has a fault there
pub data FaultInPjl : List ℕ → LexCause → Type 0 where
  in_line : {bytes : List ℕ} {cause : LexCause} → PjlFault (at_sign ∷ bytes) cause → FaultInPjl (at_sign ∷ bytes) cause
  in_pcl : {b : ℕ} {bytes : List ℕ} {cause : LexCause} → b ≢ at_sign → UnitFault modes.Pcl (b ∷ bytes) cause → FaultInPjl (b ∷ bytes) cause

abbrev pub HasRule : Context → List ℕ → LexCause → Type 0
HasRule Pcl bytes cause = UnitFault modes.Pcl bytes cause
HasRule (Sequence g) bytes cause = CommandFault g bytes cause
HasRule Pjl bytes cause = FaultInPjl bytes cause
HasRule Frame bytes cause = FrameFault AtLetters 0 bytes cause
HasRule (Letters m n) bytes cause = PartFault (Word m) bytes cause
HasRule (Numbered x gap n) bytes cause = PartFault (Number x gap) bytes cause

-- ---- what is read has its rule

unit_rule : (b : ℕ) (bytes : List ℕ) (f : First) (cause : LexCause) → TellsUnit (b ∷ bytes) f → IsFault true f Pcl (b ∷ bytes) cause →
    UnitFault modes.Pcl (b ∷ bytes) cause
unit_rule b bytes Open cause h i = subst (UnitFault modes.Pcl (b ∷ bytes)) (cut_cause cause i) h
unit_rule b bytes (Passes len next) cause h i = absurd i
unit_rule b bytes (Begins item len next) cause h i = absurd i
unit_rule b bytes (Faulty c) cause h i = subst (UnitFault modes.Pcl (b ∷ bytes)) (sym i) h

command_cut : (g : Group) (bytes : List ℕ) (cause : LexCause) → end_cause (Sequence g) bytes ≡ Some cause → Truncated ≡ cause
command_cut g [] cause e = cut_cause cause e
command_cut g (b ∷ bytes) cause e = cut_cause cause e

command_rule : (g : Group) (bytes : List ℕ) (f : First) (cause : LexCause) → TellsCommand g bytes f →
    IsFault true f (Sequence g) bytes cause → CommandFault g bytes cause
command_rule g bytes Open cause h i = subst (CommandFault g bytes) (command_cut g bytes cause i) h
command_rule g bytes (Passes len next) cause h i = absurd i
command_rule g bytes (Begins item len next) cause h i = absurd i
command_rule g bytes (Faulty c) cause h i = subst (CommandFault g bytes) (sym i) h

-- in a frame, where the property says nothing
abbrev Anything : Motive
Anything stand place bytes items = Unit {0}

anything : Closed Anything
anything = record {
  separator = λ place b bytes items e h. tt;
  command = λ start place items begun whole ends h. tt;
  pair = λ start place items p h. tt;
  pairs = λ start place items begun none ends h. tt;
  exits = λ place bytes items h. tt;
  leaves = λ place text bytes item items l h. tt;
}

tells_rule : (c : Context) (bytes : List ℕ) (f : First) (cause : LexCause) → Tells Anything c 0 bytes f → IsFault true f c bytes cause →
    FaultIn c bytes cause
tells_rule c bytes Open cause h i = h cause i
tells_rule c bytes (Passes len next) cause h i = absurd i
tells_rule c bytes (Begins item len next) cause h i = absurd i
tells_rule c bytes (Faulty cause') cause h i = subst (FaultIn c bytes) (sym i) h

no_end : (cause : LexCause) → IsFault true (first_of true Pcl []) Pcl [] cause → ⊥
unfolding first_of
no_end cause h = absurd cc

-- in mode PJL
line_rule : (bytes : List ℕ) (f : lines.FirstPjl) (cause : LexCause) → lines.at_pjl (at_sign ∷ bytes) ≡ f →
    IsFault true (by_pjl f) Pjl (at_sign ∷ bytes) cause → PjlFault (at_sign ∷ bytes) cause
line_rule bytes lines.Open cause e h = subst (PjlFault (at_sign ∷ bytes)) (cut_cause cause h) ((lines_by_rules (at_sign ∷ bytes)).cut e)
line_rule bytes (lines.Begins line len) cause e h = absurd h
line_rule bytes (lines.Faulty other) cause e h =
    subst (PjlFault (at_sign ∷ bytes)) (sym h) ((lines_by_rules (at_sign ∷ bytes)).fault other e)

in_other_mode : (b : ℕ) (bytes : List ℕ) (f : First) (cause : LexCause) → IsFault true f Pjl (b ∷ bytes) cause →
    IsFault true f Pcl (b ∷ bytes) cause
in_other_mode b bytes Open cause h = h
in_other_mode b bytes (Passes len next) cause h = h
in_other_mode b bytes (Begins item len next) cause h = h
in_other_mode b bytes (Faulty other) cause h = h

abbrev FaultSays : ℕ → List ℕ → LexCause → First → Type 0
FaultSays b bytes cause f = IsFault true f Pjl (b ∷ bytes) cause → FaultInPjl (b ∷ bytes) cause

pjl_has_rule : (bytes : List ℕ) (cause : LexCause) → IsFault true (first_of true Pjl bytes) Pjl bytes cause → FaultInPjl bytes cause
unfolding first_of
pjl_has_rule [] cause h = absurd cc
pjl_has_rule (b ∷ bytes) cause h =
    cond_both (b == 64) _ _ (FaultSays b bytes cause)
    (λ e. subst (λ (n : ℕ). FaultSays n bytes cause (by_pjl (lines.at_pjl (n ∷ bytes)))) (sym (eqb-true b 64 e))
    (λ k. in_line (line_rule bytes (lines.at_pjl (at_sign ∷ bytes)) cause refl k)))
    (λ e k. in_pcl (eqb-false b 64 e)
    (unit_rule b bytes (between_units b bytes) cause (unit_told b bytes) (in_other_mode b bytes (between_units b bytes) cause k)))
    h

pub fault_has_rule : (c : Context) (bytes : List ℕ) (cause : LexCause) → IsFault true (first_of true c bytes) c bytes cause →
    HasRule c bytes cause
unfolding first_of
fault_has_rule Pcl [] cause h = absurd (no_end cause h)
fault_has_rule Pcl (b ∷ bytes) cause h = unit_rule b bytes (first_of true Pcl (b ∷ bytes)) cause (unit_told b bytes) h
fault_has_rule Pjl bytes cause h = pjl_has_rule bytes cause h
fault_has_rule (Sequence g) bytes cause h = command_rule g bytes (command_in g bytes) cause (command_told g bytes) h
fault_has_rule Frame bytes cause h = tells_rule Frame bytes (first_of true Frame bytes) cause (frame_told Anything anything 0 bytes) h
fault_has_rule (Letters m n) bytes cause h =
    tells_rule (Letters m n) bytes (first_of true (Letters m n) bytes) cause (letters_tell Anything anything m n 0 bytes) h
fault_has_rule (Numbered x gap n) bytes cause h =
    tells_rule (Numbered x gap n) bytes (first_of true (Numbered x gap n) bytes) cause (numbers_tell Anything anything x gap n 0 bytes) h

-- ---- what has a rule of mode PCL is read

unit_fault : (bytes : List ℕ) (f : First) (cause : LexCause) → (bytes ≡ [] → ⊥) → Causes f cause → IsFault true f Pcl bytes cause
unit_fault [] f cause h k = absurd (h refl)
unit_fault (b ∷ bytes) Open cause h k = ap Some (sym k)
unit_fault (b ∷ bytes) (Passes len next) cause h k = absurd k
unit_fault (b ∷ bytes) (Begins item len next) cause h k = absurd k
unit_fault (b ∷ bytes) (Faulty c) cause h k = k

command_fault : (g : Group) (bytes : List ℕ) (f : First) (cause : LexCause) → Causes f cause → IsFault true f (Sequence g) bytes cause
command_fault g [] Open cause k = ap Some (sym k)
command_fault g (b ∷ bytes) Open cause k = ap Some (sym k)
command_fault g bytes (Passes len next) cause k = absurd k
command_fault g bytes (Begins item len next) cause k = absurd k
command_fault g bytes (Faulty c) cause k = k

pub unit_rule_read : (bytes : List ℕ) (cause : LexCause) → UnitFault modes.Pcl bytes cause →
    IsFault true (first_of true Pcl bytes) Pcl bytes cause
unit_rule_read bytes cause h = unit_fault bytes (first_of true Pcl bytes) cause (unit_byte bytes cause h) (unit_causes bytes cause h)

pub command_rule_read : (g : Group) (bytes : List ℕ) (cause : LexCause) → CommandFault g bytes cause →
    IsFault true (first_of true (Sequence g) bytes) (Sequence g) bytes cause
unfolding first_of
command_rule_read g bytes cause h = command_fault g bytes (command_in g bytes) cause (command_causes g bytes cause h)

-- ---- what has a rule of mode PJL is read

pub by_pcl : (b : ℕ) (bytes : List ℕ) (f : First) (cause : LexCause) → IsFault true f Pcl (b ∷ bytes) cause →
    IsFault true f Pjl (b ∷ bytes) cause
by_pcl b bytes Open cause h = h
by_pcl b bytes (Passes len next) cause h = h
by_pcl b bytes (Begins item len next) cause h = h
by_pcl b bytes (Faulty other) cause h = h

-- a line that stops
at_line_fault : (bytes : List ℕ) (f : lines.FirstPjl) (cause : LexCause) → f ≡ first_of_fault cause → PjlFault (at_sign ∷ bytes) cause →
    IsFault true (by_pjl f) Pjl (at_sign ∷ bytes) cause
at_line_fault bytes f Truncated e h = subst (λ (g : lines.FirstPjl). IsFault true (by_pjl g) Pjl (at_sign ∷ bytes) Truncated) (sym e) refl
at_line_fault bytes f cause e h = subst (λ (g : lines.FirstPjl). IsFault true (by_pjl g) Pjl (at_sign ∷ bytes) cause) (sym e) refl

pub line_rule_read : (bytes : List ℕ) (cause : LexCause) → PjlFault (at_sign ∷ bytes) cause →
    IsFault true (first_of true Pjl (at_sign ∷ bytes)) Pjl (at_sign ∷ bytes) cause
line_rule_read bytes cause h =
    subst (λ (f : First). IsFault true f Pjl (at_sign ∷ bytes) cause) (sym (line_begins true bytes))
    (at_line_fault bytes (lines.at_pjl (at_sign ∷ bytes)) cause ((lines_by_rules (at_sign ∷ bytes)).fault_is_read cause h) h)
