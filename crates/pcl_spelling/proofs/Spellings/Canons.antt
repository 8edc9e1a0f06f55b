-- In each mode that admits an item its one spelling is one unit, and is read as that item.
use Rattle.std.proofs.Common.{◌≡◌, ◌≢◌, ℕ, ◌+◌, List, [], ◌∷◌, ◌++◌, length, Bool, true, false, cond, None, Some, refl, sym, ap, subst}
use Rattle.std.proofs.Common.{arith}
use Rattle.std.specs.Prelude.{◌==◌}
use Rattle.std.proofs.lemmas.Bool.{eqb-false}
use Rattle.pcl_items.specs.declared.frame.Handover.{Handover}
use Rattle.pcl_items.specs.declared.frame.Handover.TheVariants.{Previous, Current}
use Rattle.pcl_items.specs.declared.item.Mode.{Mode}
use Rattle.pcl_items.specs.declared.item.Mode.TheVariants as modes
use Rattle.pcl_items.specs.Items.{Entry, Placed, Text, CarriageReturn, LineFeed, FormFeed, Reset, ClearMargins, HalfLineFeed, Parameterized}
use Rattle.pcl_items.specs.Items.{SymbolSet, DefaultFont, EnterFrame, LeaveFrame, Initialize, Set, Move, WithData, ExitLanguage, PjlLine}
use Rattle.pcl_items.specs.Items.{at}
use Rattle.pcl_items.specs.PjlLines.Text.{at_sign, PjlCommand}
use Rattle.pcl_lexer.specs.Lexing.Contexts.{Frame}
use Rattle.pcl_lexer.specs.Grammar as grammar
use Rattle.pcl_lexer.specs.Grammar.{previous, current, enter_frame, IsUnit, ungrouped, in_frame, out_of_frame, exit, line}
use Rattle.pcl_items.specs.Modes.{follows, behind_pjl}
use Rattle.pcl_lexer.specs.Frames.Grammar.{IsFrameUnit, ended_command}
use Rattle.pcl_items.specs.Spellings.Canon.{canon, IsItem, IsNoPjl}
use Rattle.pcl_spelling.specs.Laws.{HasCanon}
use Rattle.pcl_lexer.specs.Reading.{ReadsTo}
use Rattle.pcl_lexer.specs.Modes.{between}
use Rattle.pcl_items.specs.PjlLines.Canon.{IsSpelledPjl}
use Rattle.pcl_lexer.proofs.PjlLines.Canonical.{canon_unit}
use Rattle.pcl_lexer.proofs.Reading.Agreement.{exit_read, unit_otherwise, unit_read}
use Rattle.pcl_lexer.proofs.Frames.Reads.{ended_reads, leaves_reads}
use Rattle.pcl_spelling.proofs.Spellings.Canonical.{between_unit, zero_spelled, one_spelled}
use Rattle.pcl_spelling.proofs.Frames.Canonical.{IsEnded, ended, IsFrameItem, frame_ended, reset_leaves, language_leaves}

made : (mode mode2 : Mode) (item : Entry) → ((place : ℕ) (rest : List ℕ) → IsUnit mode place (canon item) rest (at place item ∷ []) mode2) →
    ((whole : Bool) (place : ℕ) (rest : List ℕ) →
    ReadsTo whole (between mode) place (canon item ++ rest) (at place item ∷ []) (between mode2) (place + length (canon item)) rest) →
    HasCanon mode item mode2
made mode mode2 item unit reads = record { unit = unit; spells = λ place rest. grammar.next (unit place rest) grammar.here; reads = reads }

-- ---- in mode PCL

between_canon : (mode2 : Mode) (item : Entry) →
    ((place : ℕ) (rest : List ℕ) → IsUnit modes.Pcl place (canon item) rest (at place item ∷ []) mode2) → HasCanon modes.Pcl item mode2
between_canon mode2 item unit = made modes.Pcl mode2 item unit (λ whole place rest. unit_read whole tt (unit place rest))

enter_unit : (handover : Handover) (place : ℕ) (rest : List ℕ) →
    IsUnit modes.Pcl place (canon (EnterFrame handover)) rest (at place (EnterFrame handover) ∷ []) modes.Frame
enter_unit Previous place rest = ungrouped zero_spelled (enter_frame (previous refl))
enter_unit Current place rest = ungrouped one_spelled (enter_frame (current refl (λ e. absurd cc)))

enters : (item : Entry) → follows modes.Pcl item ≡ Some modes.Frame → HasCanon modes.Pcl item modes.Frame
enters (EnterFrame handover) e = between_canon modes.Frame (EnterFrame handover) (enter_unit handover)
enters _ e = absurd cc

-- ---- in a frame

leaves : (item : Entry) → follows modes.Frame item ≡ Some modes.Pcl → HasCanon modes.Frame item modes.Pcl
leaves Reset e =
    made modes.Frame modes.Pcl Reset (λ place rest. out_of_frame (reset_leaves place))
    (λ whole place rest. leaves_reads whole rest (reset_leaves place))
leaves (LeaveFrame handover) e =
    made modes.Frame modes.Pcl (LeaveFrame handover) (λ place rest. out_of_frame (language_leaves handover place))
    (λ whole place rest. leaves_reads whole rest (language_leaves handover place))
leaves _ e = absurd cc

framed : (item : Entry) → follows modes.Frame item ≡ Some modes.Frame → IsFrameItem item
framed Initialize e = tt
framed (Set setting n) e = tt
framed (Move motion to) e = tt
framed _ e = absurd cc

ended_unit : {place : ℕ} {text rest : List ℕ} {items : List Placed} → IsEnded place text rest items → IsFrameUnit place text rest items
ended_unit (ended c) = ended_command c

ended_read : {place : ℕ} {text rest : List ℕ} {items : List Placed} (whole : Bool) → IsEnded place text rest items →
    ReadsTo whole Frame place (text ++ rest) items Frame (place + length text) rest
ended_read whole (ended c) = ended_reads whole c

stays : (item : Entry) → IsItem item → follows modes.Frame item ≡ Some modes.Frame → HasCanon modes.Frame item modes.Frame
stays item h e =
    made modes.Frame modes.Frame item (λ place rest. in_frame (ended_unit (frame_ended item h (framed item e) place rest)))
    (λ whole place rest. ended_read whole (frame_ended item h (framed item e) place rest))

-- ---- in mode PJL, and into it

exits : (mode : Mode) → HasCanon mode ExitLanguage modes.Pjl
exits mode = made mode modes.Pjl ExitLanguage (λ place rest. exit) (λ whole place rest. exit_read mode whole rest)

only_exit : (mode : Mode) (item : Entry) → (mode ≡ modes.Pjl → ⊥) → follows mode item ≡ Some modes.Pjl → item ≡ ExitLanguage
only_exit modes.Pcl ExitLanguage h e = refl
only_exit modes.Pcl _ h e = absurd cc
only_exit modes.Frame ExitLanguage h e = refl
only_exit modes.Frame _ h e = absurd cc
only_exit modes.Pjl item h e = absurd (h refl)

into_pjl : (mode : Mode) (item : Entry) → (mode ≡ modes.Pjl → ⊥) → follows mode item ≡ Some modes.Pjl → HasCanon mode item modes.Pjl
into_pjl mode item h e = subst (λ (x : Entry). HasCanon mode x modes.Pjl) (sym (only_exit mode item h e)) (exits mode)

line_unit : (l : PjlCommand) → IsSpelledPjl l → (place : ℕ) (rest : List ℕ) →
    IsUnit modes.Pjl place (canon (PjlLine l)) rest (at place (PjlLine l) ∷ []) (behind_pjl l)
line_unit l h place rest = line (canon_unit l h)

in_pjl : (mode2 : Mode) (item : Entry) →
    ((place : ℕ) (rest : List ℕ) → IsUnit modes.Pjl place (canon item) rest (at place item ∷ []) mode2) → HasCanon modes.Pjl item mode2
in_pjl mode2 item unit = made modes.Pjl mode2 item unit (λ whole place rest. unit_read whole tt (unit place rest))

-- what mode PCL admits
pcl_canon : (mode2 : Mode) (item : Entry) → IsItem item → follows modes.Pcl item ≡ Some mode2 → HasCanon modes.Pcl item mode2
pcl_canon modes.Pcl item h e = between_canon modes.Pcl item (between_unit item h e)
pcl_canon modes.Frame item h e = enters item e
pcl_canon modes.Pjl item h e = into_pjl modes.Pcl item (λ k. absurd cc) e

-- such an item's spelling does not begin a line
pub record Otherwise (mode2 : Mode) (item : Entry) : Type 0 where
  pub admitted : follows modes.Pcl item ≡ Some mode2
  pub first : ℕ
  pub others : List ℕ
  pub spelled : canon item ≡ first ∷ others
  pub other : first ≢ at_sign

escaped : {mode2 : Mode} {item : Entry} (others : List ℕ) → follows modes.Pcl item ≡ Some mode2 → canon item ≡ 27 ∷ others →
    Otherwise mode2 item
escaped others e s = record { admitted = e; first = 27; others = others; spelled = s; other = λ k. absurd (omega (arith, k)) }

text_otherwise : (mode2 : Mode) (code : ℕ) (c : Bool) → (code == 64) ≡ c → cond c None (Some modes.Pcl) ≡ Some mode2 →
    Otherwise mode2 (Text code)
text_otherwise mode2 code true k e = absurd cc
text_otherwise mode2 code false k e = record { admitted = e; first = code; others = []; spelled = refl; other = eqb-false code 64 k }

pub otherwise_item : (mode2 : Mode) (item : Entry) → IsNoPjl item → follows modes.Pjl item ≡ Some mode2 → Otherwise mode2 item
otherwise_item mode2 (Text code) n e = text_otherwise mode2 code (code == 64) refl e
otherwise_item mode2 CarriageReturn n e =
    record { admitted = e; first = 13; others = []; spelled = refl; other = λ k. absurd (omega (arith, k)) }
otherwise_item mode2 LineFeed n e = record { admitted = e; first = 10; others = []; spelled = refl; other = λ k. absurd (omega (arith, k)) }
otherwise_item mode2 FormFeed n e = record { admitted = e; first = 12; others = []; spelled = refl; other = λ k. absurd (omega (arith, k)) }
otherwise_item mode2 Reset n e = escaped _ e refl
otherwise_item mode2 ClearMargins n e = escaped _ e refl
otherwise_item mode2 HalfLineFeed n e = escaped _ e refl
otherwise_item mode2 (Parameterized command amount) n e = escaped _ e refl
otherwise_item mode2 (SymbolSet amount letter) n e = escaped _ e refl
otherwise_item mode2 DefaultFont n e = escaped _ e refl
otherwise_item mode2 (EnterFrame handover) n e = escaped _ e refl
otherwise_item mode2 (LeaveFrame handover) n e = escaped _ e refl
otherwise_item mode2 Initialize n e = absurd cc
otherwise_item mode2 (Set setting m) n e = absurd cc
otherwise_item mode2 (Move motion to) n e = absurd cc
otherwise_item mode2 (WithData command bytes) n e = escaped _ e refl
otherwise_item mode2 ExitLanguage n e = escaped _ e refl
otherwise_item mode2 (PjlLine l) n e = absurd n

otherwise_canon : (mode2 : Mode) (item : Entry) → IsItem item → Otherwise mode2 item → HasCanon modes.Pjl item mode2
otherwise_canon mode2 item h o =
    in_pjl mode2 item (λ place rest.
    unit_otherwise (canon item) rest o.other (ap (λ l. l ++ rest) o.spelled) ((pcl_canon mode2 item h o.admitted).unit place rest))

pjl_canon : (mode2 : Mode) (item : Entry) → IsItem item → follows modes.Pjl item ≡ Some mode2 → HasCanon modes.Pjl item mode2
pjl_canon mode2 (PjlLine l) h e =
    let same : behind_pjl l ≡ mode2 = cc in
    subst (λ (mode : Mode). HasCanon modes.Pjl (PjlLine l) mode) same (in_pjl (behind_pjl l) (PjlLine l) (line_unit l h))
pjl_canon mode2 item h e = otherwise_canon mode2 item h (otherwise_item mode2 item tt e)

-- in each mode that admits the item
pub has_canon : (mode mode2 : Mode) (item : Entry) → IsItem item → follows mode item ≡ Some mode2 → HasCanon mode item mode2
has_canon modes.Pcl mode2 item h e = pcl_canon mode2 item h e
has_canon modes.Frame modes.Pcl item h e = leaves item e
has_canon modes.Frame modes.Frame item h e = stays item h e
has_canon modes.Frame modes.Pjl item h e = into_pjl modes.Frame item (λ k. absurd cc) e
has_canon modes.Pjl mode2 item h e = pjl_canon mode2 item h e
