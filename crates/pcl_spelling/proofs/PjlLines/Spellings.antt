-- The spelling of an item that stands first in bytes of mode PJL.
use Rattle.std.proofs.Common.{◌≡◌, ◌≢◌, ℕ, true, false, List, [], ◌∷◌, ◌++◌, length, drop, None, Some, refl, sym, ap, ◌∙◌}
use Rattle.std.specs.Prelude.{◌==◌, Option, MatchOption}
use Rattle.pcl_lexer.specs.declared.lexer.ahead.Ahead.{Ahead}
use Rattle.pcl_lexer.specs.declared.lexer.first.Head.{Head}
use Rattle.pcl_lexer.specs.declared.lexer.first.First.TheVariants as codes
use Rattle.pcl_lexer.specs.declared.lexer.first.Context as code_context
use Rattle.pcl_lexer.specs.Lexing.FirstView.{context_view, first_view, head_view}
use Rattle.pcl_lexer.specs.Lexing.Ahead.{StandsAhead}
use Rattle.pcl_items.specs.PjlLines.Exit.{begins_with}
use Rattle.pcl_spelling.proofs.Frames.Spellings.{ahead_mode}
use Rattle.std.proofs.lemmas.Bool.{eqb-true, cond-false}
use Rattle.pcl_items.specs.declared.item.Item.{Item}
use Rattle.pcl_items.specs.declared.item.Item.TheVariants as items
use Rattle.pcl_items.specs.declared.item.Mode.{Mode}
use Rattle.pcl_items.specs.declared.item.Mode.TheVariants as modes
use Rattle.pcl_items.specs.declared.item.SimpleItem.{SimpleItem}
use Rattle.pcl_items.specs.declared.item.SimpleItem.TheVariants as simple
use Rattle.pcl_items.specs.declared.item.PjlLine as code
use Rattle.pcl_lexer.specs.declared.pjl.first.FirstPjl.TheVariants as firsts
use Rattle.pcl_items.specs.Items.{Entry, Text, PjlLine, view, simple_view}
use Rattle.pcl_items.specs.PjlLines.Text.{at_sign, BeginsPjl, PjlCommand, Bare, Remark, JobBegins, JobEnds, EnterPcl}
use Rattle.pcl_items.specs.PjlLines.First as lines
use Rattle.pcl_items.specs.PjlLines.Canon.{canon_pjl, IsSpelledPjl}
use Rattle.pcl_lexer.specs.PjlLines.FirstView.{first_pjl_view}
use Rattle.pcl_items.specs.Modes.{follows, behind_pjl}
use Rattle.pcl_lexer.specs.Modes.{mode_of}
use Rattle.pcl_items.specs.Spellings.Canon.{canon, IsNoPjl}
use Rattle.pcl_lexer.specs.Lexing.Contexts.{Context, Pcl, Frame}
use Rattle.pcl_lexer.specs.Reader.{Begins, first_of}
use Rattle.pcl_spelling.specs.Spellings.Spelled.{StandsAt, NothingStands}
use Rattle.pcl_lexer.proofs.Escapes.Tables.{both_true, by_test}
use Rattle.pcl_lexer.proofs.PjlLines.Canonical.{line_canon, canon_unit}
use Rattle.pcl_spelling.proofs.Spellings.Canons.{otherwise_item}
use Rattle.pcl_lexer.proofs.Lexing.FirstModes.{begins_in_mode}
use Rattle.pcl_spelling.proofs.Spellings.ReadAgain.{from_zero}

-- ---- which items are lines

simple_no_line : (item : SimpleItem) → IsNoPjl (simple_view item)
simple_no_line simple.CarriageReturn = tt
simple_no_line _ = tt

pub no_line_item : (item : Item) → ((spelled : code.PjlLine) → item ≡ items.PjlLine spelled → ⊥) → IsNoPjl (view item)
no_line_item (items.Text byte) h = tt
no_line_item (items.Simple item) h = simple_no_line item
no_line_item (items.WithData command «data») h = tt
no_line_item (items.PjlLine spelled) h = absurd (h spelled refl)

-- mode PCL and a frame have none
pub no_line_of_pcl : (item : Entry) (next : Mode) → follows modes.Pcl item ≡ Some next → IsNoPjl item
no_line_of_pcl (PjlLine line) next e = absurd cc
no_line_of_pcl _ next e = tt

pub no_line_of_frame : (item : Entry) (next : Mode) → follows modes.Frame item ≡ Some next → IsNoPjl item
no_line_of_frame (PjlLine line) next e = absurd cc
no_line_of_frame _ next e = tt

pub no_line_read : (bytes : List ℕ) (item : Entry) (len : ℕ) (next : Context) → first_of true Pcl bytes ≡ Begins item len next →
    IsNoPjl item
no_line_read bytes item len next e = no_line_of_pcl item (mode_of next) (begins_in_mode true Pcl bytes item len next e)

-- ---- where no line begins

admitted_otherwise : (item : Entry) (next : Mode) → ((code : ℕ) → item ≡ Text code → code ≢ at_sign) → follows modes.Pcl item ≡ Some next →
    follows modes.Pjl item ≡ Some next
admitted_otherwise (Text code) next h e =
    cond-false (code == 64) None (Some modes.Pcl) (by_test (code == 64) (λ k. h code refl (eqb-true code 64 k))) ∙ e
admitted_otherwise (PjlLine line) next h e = absurd cc
admitted_otherwise _ next h e = e

-- the bytes do not begin with `@`
abbrev pub BeginsOther : List ℕ → Type 0
BeginsOther bytes = (rest : List ℕ) → bytes ≡ at_sign ∷ rest → ⊥

pub stands_in_pjl : (bytes : List ℕ) (item : Entry) (end : ℕ) (next : Mode) → BeginsOther bytes → StandsAt modes.Pcl bytes 0 item end next →
    StandsAt modes.Pjl bytes 0 item end next
stands_in_pjl bytes item end next other s = record {
  is_item = s.is_item;
  admitted =
      admitted_otherwise item next
      (λ code is k. other s.rest (s.spelled ∙ ap (λ x. canon x ++ s.rest) is ∙ ap (λ n. n ∷ s.rest) k)) s.admitted;
  rest = s.rest;
  spelled = s.spelled;
  ends = s.ends;
}

-- ---- which item stands there

stands_otherwise : (bytes : List ℕ) (item : Entry) (end : ℕ) (next : Mode) → IsNoPjl item → StandsAt modes.Pjl bytes 0 item end next →
    BeginsOther bytes × StandsAt modes.Pcl bytes 0 item end next
stands_otherwise bytes item end next n s =
    let o = otherwise_item next item n s.admitted in
    let whole : bytes ≡ o.first ∷ (o.others ++ s.rest) = s.spelled ∙ ap (λ l. l ++ s.rest) o.spelled in (
      λ rest e.
          o.other (let both : o.first ∷ (o.others ++ s.rest) ≡ at_sign ∷ rest = sym whole ∙ e in let same : o.first ≡ at_sign = cc in same),
      record { is_item = s.is_item; admitted = o.admitted; rest = s.rest; spelled = s.spelled; ends = s.ends },
    )

-- a line that stands there is what is read there
line_stands : (bytes : List ℕ) (line : PjlCommand) (end : ℕ) (next : Mode) → StandsAt modes.Pjl bytes 0 (PjlLine line) end next →
    lines.at_pjl bytes ≡ lines.Begins line (length (canon_pjl line))
line_stands bytes line end next s = ap lines.at_pjl s.spelled ∙ (line_canon (canon_pjl line) line (canon_unit line s.is_item)).read s.rest

canon_begins : (line : PjlCommand) (rest : List ℕ) → BeginsOther (canon_pjl line ++ rest) → ⊥
canon_begins Bare rest h = h _ refl
canon_begins (Remark text) rest h = h _ refl
canon_begins (JobBegins text) rest h = h _ refl
canon_begins (JobEnds text) rest h = h _ refl
canon_begins EnterPcl rest h = h _ refl

pub nothing_in_pjl : (bytes : List ℕ) → BeginsOther bytes → NothingStands modes.Pcl bytes 0 → NothingStands modes.Pjl bytes 0
nothing_in_pjl bytes other h (PjlLine line) end next s = canon_begins line s.rest (λ rest e. other rest (s.spelled ∙ e))
nothing_in_pjl bytes other h item end next s = h item end next (stands_otherwise bytes item end next tt s).1

-- ---- where a line begins

begins_so : (bytes : List ℕ) → BeginsPjl bytes → BeginsOther bytes → ⊥
begins_so [] h other = h
begins_so (b ∷ bytes) h other = other bytes (ap (λ n. n ∷ bytes) h)

-- only a line stands there, the one that is read
record OnlyLine (bytes : List ℕ) (rest : List ℕ) : Type 0 where
  line : PjlCommand
  read : lines.at_pjl bytes ≡ lines.Begins line (length (canon_pjl line))
  spelled : bytes ≡ canon_pjl line ++ rest

only_line : (bytes : List ℕ) (item : Entry) (end : ℕ) (next : Mode) → BeginsPjl bytes → (s : StandsAt modes.Pjl bytes 0 item end next) →
    OnlyLine bytes s.rest
only_line bytes (PjlLine line) end next h s = record { line = line; read = line_stands bytes line end next s; spelled = s.spelled }
only_line bytes item end next h s = absurd (begins_so bytes h (stands_otherwise bytes item end next tt s).0)

pub no_line_there : (bytes : List ℕ) (read : firsts.the_data) → BeginsPjl bytes → first_pjl_view read ≡ lines.at_pjl bytes →
    ((spelled : code.PjlLine) (len : ℕ) → read ≡ firsts.Begins spelled len → ⊥) → NothingStands modes.Pjl bytes 0
no_line_there bytes firsts.Open h e none item end next s =
    let o = only_line bytes item end next h s in
    let both : lines.Open ≡ lines.Begins o.line (length (canon_pjl o.line)) = e ∙ o.read in absurd cc
no_line_there bytes (firsts.Begins spelled len) h e none item end next s = none spelled len refl
no_line_there bytes (firsts.Faulty cause) h e none item end next s =
    let o = only_line bytes item end next h s in
    let both : lines.Faulty cause ≡ lines.Begins o.line (length (canon_pjl o.line)) = e ∙ o.read in absurd cc

-- so its spelling stands there, or nothing does
pub line_stands_there : (bytes text : List ℕ) (line : PjlCommand) → IsSpelledPjl line → text ≡ canon_pjl line →
    bytes ≡ text ++ drop (length text) bytes → StandsAt modes.Pjl bytes 0 (PjlLine line) (length text) (behind_pjl line)
line_stands_there bytes text line known is begins = record {
  is_item = known;
  admitted = refl;
  rest = drop (length text) bytes;
  spelled = begins ∙ ap (λ t. t ++ drop (length text) bytes) is;
  ends = ap length is ∙ from_zero (length (canon_pjl line));
}

pub other_line_there : (bytes text : List ℕ) (line : PjlCommand) (len : ℕ) → BeginsPjl bytes → lines.Begins line len ≡ lines.at_pjl bytes →
    text ≡ canon_pjl line → ((rest : List ℕ) → bytes ≡ text ++ rest → ⊥) → NothingStands modes.Pjl bytes 0
other_line_there bytes text line len h e is differs item end next s =
    let o = only_line bytes item end next h s in
    let both : lines.Begins line len ≡ lines.Begins o.line (length (canon_pjl o.line)) = e ∙ o.read in
    let same : line ≡ o.line = cc in
    differs s.rest (o.spelled ∙ ap (λ t. t ++ s.rest) (sym (ap canon_pjl same) ∙ sym is))

pub match_map : {A P Q : Type 0} {F G : A → Type 0} (o : Option A) → (P → Q) → ((x : A) → F x → G x) → MatchOption o P F → MatchOption o Q G
match_map None f g h = f h
match_map (Some x) f g h = g x h

pub begins_pjl : (bytes : List ℕ) → begins_with (at_sign ∷ []) bytes ≡ true → BeginsPjl bytes
begins_pjl [] e = absurd cc
begins_pjl (b ∷ bytes) e = eqb-true b at_sign (both_true (b == at_sign) true e).0

pub begins_other : (bytes : List ℕ) → begins_with (at_sign ∷ []) bytes ≡ false → BeginsOther bytes
begins_other bytes e rest k = let both : true ≡ false = sym (ap (begins_with (at_sign ∷ [])) k) ∙ e in absurd cc

-- what is read ahead in a frame is no line
pub no_line_ahead : (front : List ℕ) (item : Item) (ahead : Ahead) (head : Head) (len : ℕ) (next : code_context.Context) →
    StandsAhead true Frame 0 front ahead → ahead.first ≡ codes.Begins len head next →
    view item ≡ head_view head len (drop ahead.start front) → IsNoPjl (view item)
no_line_ahead front item ahead head len next h is item_is =
    let rest : List ℕ = drop ahead.start front in
    let read : first_of true (context_view ahead.context) rest ≡ Begins (view item) len (context_view next) =
    sym h.first_is ∙ ap (first_view rest) is ∙ ap (λ x. Begins x len (context_view next)) (sym item_is) in
    no_line_of_frame (view item) (mode_of (context_view next))
    (ap (λ m. follows m (view item)) (sym (ahead_mode front ahead h))
    ∙ begins_in_mode true (context_view ahead.context) rest (view item) len (context_view next) read)
