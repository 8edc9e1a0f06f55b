-- What stands first in mode PJL.
use Rattle.std.proofs.Common.{◌≡◌, ◌≢◌, ℕ, suc, ◌+◌, ◌-◌, ◌≤◌, List, [], ◌∷◌, ◌++◌, length, take, drop, Bool, true, false, Some, refl, sym}
use Rattle.std.proofs.Common.{ap, subst, ◌∙◌, arith}
use Rattle.std.specs.Prelude.{◌==◌, ◌&&◌}
use Rattle.pcl_items.specs.declared.pcl.command.Group.{Group}
use Rattle.pcl_items.specs.PjlLines.Exit.{begins_with}
use Rattle.std.proofs.lemmas.Bool.{eqb-true, eqb-false, cond_both, cond-true, cond-false}
use Rattle.std.proofs.lemmas.List.{append_assoc, length-append}
use Rattle.std.proofs.Math.Seq.{take-append_seam}
use Rattle.pcl_lexer.specs.declared.lexer.first.Context as code_context
use Rattle.pcl_lexer.specs.declared.lexer.first.First as code_first
use Rattle.pcl_lexer.specs.declared.lexer.first.First.TheVariants as firsts
use Rattle.pcl_lexer.specs.declared.lexer.first.Head.{Head}
use Rattle.pcl_lexer.specs.declared.lexer.first.Head.TheVariants as heads
use Rattle.pcl_items.specs.declared.item.Mode.{Mode}
use Rattle.pcl_items.specs.declared.item.Mode.TheVariants as modes
use Rattle.pcl_lexer.specs.Lexing.Contexts.{Context, Pcl, Sequence, Frame, Letters, Numbered, Pjl}
use Rattle.pcl_items.specs.Modes.{follows, behind_pjl}
use Rattle.pcl_lexer.specs.Modes.{mode_of, between}
use Rattle.pcl_items.specs.Items.{Entry, PjlLine, WithData}
use Rattle.pcl_items.specs.PjlLines.Text.{at_sign, PjlCommand}
use Rattle.pcl_items.specs.PjlLines.Reader.{pjl_command_of}
use Rattle.pcl_items.specs.PjlLines.First as lines
use Rattle.pcl_lexer.specs.PjlLines.Units.{IsPjlUnit, whole_line}
use Rattle.pcl_items.specs.PjlLines.Canon.{IsSpelledPjl}
use Rattle.pcl_lexer.proofs.PjlLines.Laws.{BeginsWith}
use Rattle.pcl_lexer.specs.Reader.{First, Open, Passes, Begins, Faulty, behind, command_in, between_units, by_pjl, first_of}
use Rattle.pcl_lexer.specs.Lexing.FirstView.{context_view, first_view, data_len, pjl_read, head_view, HasPjl, FirstHasPjl}
use Rattle.pcl_lexer.proofs.Escapes.Tables.{both_true, by_test}
use Rattle.pcl_lexer.proofs.PjlLines.Agreement as agreement
use Rattle.pcl_lexer.proofs.PjlLines.Canonical.{spelled_line}
use Rattle.pcl_lexer.proofs.PjlLines.Units.{lines_by_rules}
use Rattle.pcl_lexer.proofs.Lexing.Spans.{no_passing}
use Rattle.pcl_lexer.proofs.Lexing.FirstModes.{begins_in_mode}

-- a byte that begins no line is read in mode PCL
pub otherwise_read : (whole : Bool) (b : ℕ) (bytes : List ℕ) → b ≢ at_sign → first_of whole Pjl (b ∷ bytes) ≡ first_of whole Pcl (b ∷ bytes)
unfolding first_of
otherwise_read whole b bytes h = cond-false (b == 64) _ _ (by_test (b == 64) (λ e. h (eqb-true b 64 e)))

pub line_begins : (whole : Bool) (bytes : List ℕ) → first_of whole Pjl (at_sign ∷ bytes) ≡ by_pjl (lines.at_pjl (at_sign ∷ bytes))
unfolding first_of
line_begins whole bytes = refl

-- whether all bytes are there matters to no line
pub same_in_pjl : (whole : Bool) (bytes : List ℕ) → first_of whole Pjl bytes ≡ first_of true Pjl bytes
unfolding first_of
same_in_pjl whole [] = refl
same_in_pjl whole (b ∷ bytes) = refl

pub open_line : (f : lines.FirstPjl) → by_pjl f ≡ Open → f ≡ lines.Open
open_line lines.Open e = refl
open_line (lines.Begins line len) e = absurd cc
open_line (lines.Faulty cause) e = absurd cc

-- ---- what is read

pub data HeadPjl : List ℕ → Entry → ℕ → Context → Type 0 where
  head_line : {bytes : List ℕ} {line : PjlCommand} {len : ℕ} → BeginsWith bytes line len →
      HeadPjl bytes (PjlLine line) len (between (behind_pjl line))
  head_other : {b : ℕ} {bytes : List ℕ} {item : Entry} {len : ℕ} {next : Context} → b ≢ at_sign →
      first_of true Pcl (b ∷ bytes) ≡ Begins item len next → HeadPjl (b ∷ bytes) item len next

abbrev Tells : List ℕ → First → Type 0
Tells bytes Open = Unit {0}
Tells bytes (Passes len next) = ⊥
Tells bytes (Begins item len next) = HeadPjl bytes item len next
Tells bytes (Faulty cause) = Unit {0}

line_told : (bytes : List ℕ) (f : lines.FirstPjl) → lines.at_pjl bytes ≡ f → Tells bytes (by_pjl f)
line_told bytes lines.Open e = tt
line_told bytes (lines.Begins line len) e = head_line ((lines_by_rules bytes).line line len e)
line_told bytes (lines.Faulty cause) e = tt

other_told : (b : ℕ) (bytes : List ℕ) (f : First) → b ≢ at_sign → first_of true Pcl (b ∷ bytes) ≡ f → Tells (b ∷ bytes) f
other_told b bytes Open h e = tt
other_told b bytes (Passes len next) h e = absurd (no_passing true (b ∷ bytes) len next e)
other_told b bytes (Begins item len next) h e = head_other h e
other_told b bytes (Faulty cause) h e = tt

pjl_tells : (bytes : List ℕ) → Tells bytes (first_of true Pjl bytes)
unfolding first_of
pjl_tells [] = tt
pjl_tells (b ∷ bytes) =
    cond_both (b == 64) _ _ (Tells (b ∷ bytes)) (λ _. line_told (b ∷ bytes) (lines.at_pjl (b ∷ bytes)) refl)
    (λ e. other_told b bytes (between_units b bytes) (eqb-false b 64 e) refl)

pub pjl_spelled : (bytes : List ℕ) (item : Entry) (len : ℕ) (next : Context) → first_of true Pjl bytes ≡ Begins item len next →
    HeadPjl bytes item len next
pjl_spelled bytes item len next e = subst (Tells bytes) e (pjl_tells bytes)

-- ---- the line that was read

unit_again : {text : List ℕ} {line : PjlCommand} (rest : List ℕ) → IsPjlUnit text line →
    pjl_command_of (take (length text - 1) (text ++ rest)) ≡ Some line
unit_again {line = line} rest (whole_line words h e short) =
    let n : length (words ++ 10 ∷ []) - 1 ≡ length words = omega (arith, length-append words (10 ∷ [])) in
    ap (λ m. pjl_command_of (take m ((words ++ 10 ∷ []) ++ rest))) n
    ∙ ap (λ l. pjl_command_of (take (length words) l)) (append_assoc words (10 ∷ []) rest)
    ∙ ap pjl_command_of (take-append_seam words (10 ∷ rest))
    ∙ agreement.pjl_read words line h

read_again : {bytes : List ℕ} {line : PjlCommand} {len : ℕ} → BeginsWith bytes line len → pjl_command_of (take (len - 1) bytes) ≡ Some line
read_again {bytes = bytes} {line = line} {len = len} b =
    ap (λ n. pjl_command_of (take (n - 1) bytes)) b.size ∙ ap (λ l. pjl_command_of (take (length b.text - 1) l)) b.all
    ∙ unit_again b.rest b.unit

no_line_in : (c : Context) (line : PjlCommand) (len : ℕ) (next : Context) (bytes : List ℕ) (whole : Bool) → (mode_of c ≡ modes.Pjl → ⊥) →
    first_of whole c bytes ≡ Begins (PjlLine line) len next → ⊥
no_line_in c line len next bytes whole h e = go (mode_of c) h (begins_in_mode whole c bytes (PjlLine line) len next e)
  where
    go : (mode : Mode) → (mode ≡ modes.Pjl → ⊥) → follows mode (PjlLine line) ≡ Some (mode_of next) → ⊥
    go modes.Pcl h e = absurd cc
    go modes.Frame h e = absurd cc
    go modes.Pjl h e = absurd (h refl)

has_line : {bytes : List ℕ} {item : Entry} {len : ℕ} {next : Context} (old : PjlCommand) → HeadPjl bytes item len next →
    item ≡ PjlLine old → (line : PjlCommand) × (pjl_command_of (take (len - 1) bytes) ≡ Some line) × IsSpelledPjl line
has_line old (head_line {line = line} b) e = (line, read_again b, spelled_line b.unit)
has_line old (head_other {b = b} {bytes = bytes} {len = len} {next = next} h f) e =
    absurd (no_line_in Pcl old len next (b ∷ bytes) true (λ k. absurd cc) (f ∙ ap (λ x. Begins x len next) e))

line_there : (c : Context) (line : PjlCommand) (len : ℕ) (next : Context) (bytes : List ℕ) (whole : Bool) →
    first_of whole c bytes ≡ Begins (PjlLine line) len next →
    (there : PjlCommand) × (pjl_command_of (take (len - 1) bytes) ≡ Some there) × IsSpelledPjl there
line_there Pjl line len next bytes whole e =
    has_line line (pjl_spelled bytes (PjlLine line) len next (sym (same_in_pjl whole bytes) ∙ e)) refl
line_there Pcl line len next bytes whole e = absurd (no_line_in Pcl line len next bytes whole (λ k. absurd cc) e)
line_there (Sequence g) line len next bytes whole e = absurd (no_line_in (Sequence g) line len next bytes whole (λ k. absurd cc) e)
line_there Frame line len next bytes whole e = absurd (no_line_in Frame line len next bytes whole (λ k. absurd cc) e)
line_there (Letters m n) line len next bytes whole e = absurd (no_line_in (Letters m n) line len next bytes whole (λ k. absurd cc) e)
line_there (Numbered x gap n) line len next bytes whole e =
    absurd (no_line_in (Numbered x gap n) line len next bytes whole (λ k. absurd cc) e)

no_line_in_group : (g : Group) (line : PjlCommand) (len : ℕ) (next : Context) (bytes : List ℕ) →
    command_in g bytes ≡ Begins (PjlLine line) len next → ⊥
unfolding first_of
no_line_in_group g line len next bytes e = no_line_in (Sequence g) line len next bytes true (λ k. absurd cc) e

head_has_line : (head : Head) (len : ℕ) (next : Context) (c : Context) (bytes : List ℕ) (whole : Bool) →
    Begins (head_view head len bytes) len next ≡ first_of whole c bytes → HasPjl head len bytes
head_has_line (heads.Text byte) len next c bytes whole e = tt
head_has_line (heads.Simple item) len next c bytes whole e = tt
head_has_line (heads.WithData command count) len next c bytes whole e = tt
head_has_line heads.PjlLine len next c bytes whole e =
    line_there c (pjl_read (pjl_command_of (take (len - 1) bytes))) len next bytes whole (sym e)

pub first_has_line : (first : code_first.First) (whole : Bool) (context : code_context.Context) (bytes : List ℕ) →
    first_view bytes first ≡ first_of whole (context_view context) bytes → FirstHasPjl bytes first
first_has_line firsts.Open whole context bytes e = tt
first_has_line (firsts.Passes len next) whole context bytes e = tt
first_has_line (firsts.Begins len head next) whole context bytes e =
    head_has_line head len (context_view next) (context_view context) bytes whole e
first_has_line (firsts.Faulty cause) whole context bytes e = tt

pub pcl_has_line : (first : code_first.First) (bytes : List ℕ) → first_view bytes first ≡ first_of true Pcl bytes → FirstHasPjl bytes first
pcl_has_line firsts.Open bytes e = tt
pcl_has_line (firsts.Passes len next) bytes e = tt
pcl_has_line (firsts.Begins len head next) bytes e = head_has_line head len (context_view next) Pcl bytes true e
pcl_has_line (firsts.Faulty cause) bytes e = tt

-- ---- as the code has it

pub first_at_line : (whole : Bool) (bytes : List ℕ) → begins_with (at_sign ∷ []) bytes ≡ true →
    first_of whole Pjl bytes ≡ by_pjl (lines.at_pjl bytes)
unfolding first_of
first_at_line whole [] e = absurd cc
first_at_line whole (b ∷ bytes) e = cond-true (b == 64) _ _ (both_true (b == 64) true e).0

front_false : (a : Bool) → (a && true) ≡ false → a ≡ false
front_false true e = absurd cc
front_false false e = refl

pub first_otherwise : (whole : Bool) (bytes : List ℕ) → begins_with (at_sign ∷ []) bytes ≡ false →
    first_of whole Pjl bytes ≡ first_of whole Pcl bytes
unfolding first_of
first_otherwise whole [] e = refl
first_otherwise whole (b ∷ bytes) e = cond-false (b == 64) _ _ (front_false (b == 64) e)

pub line_first_view : (bytes : List ℕ) (line : PjlCommand) (len : ℕ) (next : Context) → lines.at_pjl bytes ≡ lines.Begins line len →
    next ≡ between (behind_pjl line) →
    Begins (PjlLine (pjl_read (pjl_command_of (take (len - 1) bytes)))) len next ≡ by_pjl (lines.at_pjl bytes)
line_first_view bytes line len next e n =
    ap (λ o. Begins (PjlLine (pjl_read o)) len next) (read_again ((lines_by_rules bytes).line line len e))
    ∙ ap (Begins (PjlLine line) len) n ∙ sym (ap by_pjl e)

unit_positive : {text : List ℕ} {line : PjlCommand} → IsPjlUnit text line → 1 ≤ length text
unit_positive (whole_line words h e short) = omega (arith, length-append words (10 ∷ []))

pub line_within : (bytes : List ℕ) (line : PjlCommand) (len : ℕ) → lines.at_pjl bytes ≡ lines.Begins line len →
    (len ≤ length bytes) × (1 ≤ len)
line_within bytes line len e =
    let b = (lines_by_rules bytes).line line len e in
    (omega (arith, b.size, ap length b.all, length-append b.text b.rest), omega (arith, b.size, unit_positive b.unit))

-- behind the characters of a group, where no line stands
pub grouped_view : (g : Group) (x y z : ℕ) (bytes : List ℕ) (len : ℕ) (head : Head) (next : code_context.Context) → data_len head ≤ len →
    first_view bytes (firsts.Begins len head next) ≡ command_in g bytes →
    first_view (x ∷ y ∷ z ∷ bytes) (firsts.Begins (3 + len) head next) ≡ behind 3 (command_in g bytes)
grouped_view g x y z bytes len (heads.Text byte) next h e = ap (behind 3) e
grouped_view g x y z bytes len (heads.Simple item) next h e = ap (behind 3) e
grouped_view g x y z bytes len (heads.WithData command count) next h e =
    let n : ℕ = count.bytes in
    let longer : 3 + len - n ≡ suc (suc (suc (len - n))) = omega (arith, h) in
    ap (λ m. Begins (WithData command (take n (drop m (x ∷ y ∷ z ∷ bytes)))) (3 + len) (context_view next)) longer ∙ ap (behind 3) e
grouped_view g x y z bytes len heads.PjlLine next h e = absurd (no_line_in_group g _ len (context_view next) bytes (sym e))
