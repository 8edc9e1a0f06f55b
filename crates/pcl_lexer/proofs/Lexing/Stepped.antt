-- The answers of a lexer, by what stands first in its window.
use Rattle.std.proofs.Common.{◌≡◌, ◌+◌, ◌-◌, ◌≤◌, ℕ, List, [], ◌∷◌, take, drop, Bool, true, Some, None, Result, Ok, Err, refl, sym, ap}
use Rattle.std.proofs.Common.{subst, ◌∙◌, arith}
use Rattle.std.proofs.lemmas.List.{drop-drop}
use Rattle.pcl_lexer.specs.declared.lexer.ahead.Ahead.{Ahead}
use Rattle.pcl_items.specs.declared.fault.LexFault.{LexFault}
use Rattle.pcl_lexer.specs.declared.lexer.lexed.Lexed.{Lexed}
use Rattle.pcl_lexer.specs.declared.lexer.lexed.Lexed.TheVariants as answers
use Rattle.pcl_items.specs.declared.item.Item.{Item}
use Rattle.pcl_items.specs.declared.item.Item.TheVariants as items
use Rattle.pcl_items.specs.declared.item.Mode.{Mode}
use Rattle.pcl_items.specs.declared.item.SimpleItem.TheVariants as simple
use Rattle.pcl_lexer.specs.declared.pcl.parameterized.ReadCommand.{ReadCommand}
use Rattle.pcl_lexer.specs.declared.frame.pair.Lead.{Lead}
use Rattle.pcl_lexer.specs.declared.frame.pair.ReadPair.{ReadPair}
use Rattle.pcl_items.specs.declared.pcl.command.Command.{Command}
use Rattle.pcl_items.specs.declared.pcl.command.DataCommand.TheVariants.{RasterRow}
use Rattle.pcl_lexer.specs.declared.pcl.command_with_data.ReadWithData.{ReadWithData}
use Rattle.pcl_lexer.specs.declared.lexer.PlacedRow.{PlacedRow}
use Rattle.pcl_lexer.specs.declared.frame.Gap.TheVariants.{Straight}
use Rattle.pcl_items.specs.Escapes.Value.{Amount}
use Rattle.pcl_lexer.specs.Lexing.Contexts.{Context, Pcl, Sequence, Frame, Letters, Numbered, Even, Pjl, counted, item_place}
use Rattle.pcl_items.specs.Modes.{follows}
use Rattle.pcl_lexer.specs.Modes.{mode_of}
use Rattle.pcl_items.specs.Items.{Entry, Parameterized, WithData, view, amount}
use Rattle.pcl_items.specs.Items as entries
use Rattle.pcl_lexer.specs.Reader.{First, Open, Begins, Faulty, first_of}
use Rattle.pcl_lexer.specs.Fault.{IsFault}
use Rattle.pcl_lexer.specs.Lexing.FirstView.{context_view, first_view}
use Rattle.pcl_lexer.specs.Reading.{ReadsTo, here, begins}
use Rattle.pcl_lexer.specs.Lexing.Ahead.{StandsFirst, StandsAhead, IsUndecided}
use Rattle.pcl_lexer.specs.Lexing.State.{LexerState}
use Rattle.pcl_lexer.specs.Lexing.Answers.{AdvancesOver, Answers}
use Rattle.pcl_lexer.specs.Escapes.ReadCommands.{IsAhead, IsAheadWithData}
use Rattle.pcl_lexer.specs.Lexing.Meaning.{answer_of_row}
use Rattle.pcl_lexer.specs.Frames.Pairs.{IsBareAhead, IsPairAhead}
use Rattle.pcl_lexer.proofs.Reading.ReadsTo.{ReadsTo-at, ReadsTo-append}
use Rattle.pcl_lexer.proofs.Lexing.Spans.{begins-taken}
use Rattle.pcl_lexer.proofs.Lexing.FirstModes.{begins_in_mode}
use Rattle.pcl_lexer.proofs.Reading.Readings.{whole_end}

-- where a lexer stands, by its window, how much of it is read, and how many bytes were dropped before it
abbrev pub standing : List ℕ → ℕ → ℕ → Context → Bool → ℕ → LexerState
standing window start dropped context ended held =
    record { rest = drop start window; place = dropped + start; context = context; ended = ended; held = held }

-- over an item that stands first
pub one_item : (ended : Bool) (c next : Context) (window : List ℕ) (start dropped len : ℕ) (entry : Entry) →
    first_of ended c (drop start window) ≡ Begins entry len next →
    ReadsTo ended c (dropped + start) (drop start window) (entries.at (item_place c (dropped + start)) entry ∷ []) next
    (dropped + (start + len)) (drop (start + len) window)
one_item ended c next window start dropped len entry e =
    let place : dropped + start + len ≡ dropped + (start + len) = omega arith in
    subst
    (λ (l : List ℕ). ReadsTo ended c (dropped + start) (drop start window) (entries.at (item_place c (dropped + start)) entry ∷ []) next
    (dropped + (start + len)) l)
    (drop-drop len start window)
    (begins entry len next e (ReadsTo-at refl refl place here))

-- the answer to an item of so many bytes between units
pub unit_is_answer : (window : List ℕ) (start dropped len : ℕ) (ended : Bool) (held : ℕ) (item : Item) →
    StandsFirst item len (drop start window) →
    Answers (standing window start dropped Pcl ended held) (Ok (answers.Item (dropped + start) item))
    (standing window (start + len) dropped Pcl ended held)
unit_is_answer window start dropped len ended held item t =
    record { reads = one_item ended Pcl Pcl window start dropped len (view item) (t.0 ended); ended = refl; held = refl }

-- the answer to a row of a raster
pub row_is_answer : (window : List ℕ) (start dropped : ℕ) (ended : Bool) (held : ℕ) (read : ReadWithData) (row : PlacedRow) →
    read.command ≡ RasterRow → IsAheadWithData read Pcl (drop start window) → row.place ≡ dropped + start →
    row.lent.bytes.now ≡ take read.count.bytes (drop (start + read.len - read.count.bytes) window) →
    Answers (standing window start dropped Pcl ended held) (answer_of_row row)
    (standing window (start + read.len) dropped (context_view read.next) ended held)
row_is_answer window start dropped ended held read row command ahead place is =
    let n = read.count.bytes in
    let entry : Entry = WithData RasterRow row.lent.bytes.now in
    let next : Context = context_view read.next in
    let new : LexerState = standing window (start + read.len) dropped next ended held in
    let before : start + (read.len - n) ≡ start + read.len - n = omega (arith, ahead.1.1) in
    let same : take n (drop (read.len - n) (drop start window)) ≡ row.lent.bytes.now =
    ap (take n) (drop-drop (read.len - n) start window ∙ ap (λ m. drop m window) before) ∙ sym is in
    let first : first_of ended Pcl (drop start window) ≡ Begins entry read.len next =
    ahead.0 ended ∙ (λ i. Begins (WithData (command i) (same i)) read.len next) in
    subst (λ (p : ℕ). AdvancesOver (standing window start dropped Pcl ended held) (entries.at p entry ∷ []) new) (sym place)
    (record { reads = one_item ended Pcl next window start dropped read.len entry first; ended = refl; held = refl })

-- no parameterized command is read of a frame
command_place : (c : Context) (place : ℕ) (command : Command) (a : Amount) (m : Mode) →
    follows (mode_of c) (Parameterized command a) ≡ Some m → item_place c place ≡ place
command_place Pcl place command a m e = refl
command_place (Sequence g) place command a m e = refl
command_place Pjl place command a m e = refl
command_place Frame place command a m e = refl
command_place (Letters mnemonic n) place command a m e = absurd cc
command_place (Numbered numbers gap n) place command a m e = absurd cc

-- the answer to a parameterized command
pub command_is_answer : (window : List ℕ) (start dropped : ℕ) (context : Context) (ended : Bool) (held : ℕ) (read : ReadCommand) →
    IsAhead read context (drop start window) →
    Answers (standing window start dropped context ended held)
    (Ok (answers.Item (dropped + start) (items.Simple (simple.Parameterized read.command read.number))))
    (standing window (start + read.len) dropped (context_view read.next) ended held)
command_is_answer window start dropped context ended held read t =
    let entry : Entry = Parameterized read.command (amount read.number) in
    let new : LexerState = standing window (start + read.len) dropped (context_view read.next) ended held in
    let there : item_place context (dropped + start) ≡ dropped + start =
    command_place context (dropped + start) read.command (amount read.number) (mode_of (context_view read.next))
    (begins_in_mode ended context (drop start window) entry read.len (context_view read.next) (t.0 ended)) in
    subst (λ (place : ℕ). AdvancesOver (standing window start dropped context ended held) (entries.at place entry ∷ []) new) there
    (record {
      reads = one_item ended context (context_view read.next) window start dropped read.len entry (t.0 ended);
      ended = refl;
      held = refl;
    })

-- the answer to a pair of coordinates
pub pair_is_answer : (window : List ℕ) (start dropped : ℕ) (context : Context) (ended : Bool) (held : ℕ) (read : ReadPair) →
    IsPairAhead read context (dropped + start) (drop start window) →
    Answers (standing window start dropped context ended held)
    (Ok (answers.Item read.place (items.Simple (simple.Move read.motion (Some read.to)))))
    (standing window (start + read.len) dropped (Numbered (Even read.motion) Straight 0) ended held)
pair_is_answer window start dropped context ended held read t =
    let entry : Entry = view (items.Simple (simple.Move read.motion (Some read.to))) in
    let place : dropped + start + read.len ≡ dropped + (start + read.len) = omega arith in
    record {
      reads =
          subst
          (λ (l : List ℕ). ReadsTo ended context (dropped + start) (drop start window) (entries.at read.place entry ∷ [])
          (Numbered (Even read.motion) Straight 0) (dropped + (start + read.len)) l)
          (drop-drop read.len start window)
          (ReadsTo-at refl refl place (t.reads ended));
      ended = refl;
      held = refl;
    }

-- the answer to a command without coordinates
pub bare_is_answer : (window : List ℕ) (start dropped : ℕ) (context : Context) (ended : Bool) (held : ℕ) (lead : Lead) →
    IsBareAhead lead context (dropped + start) (drop start window) →
    Answers (standing window start dropped context ended held) (Ok (answers.Item lead.place (items.Simple (simple.Move lead.motion None))))
    (standing window (start + lead.len) dropped Frame ended held)
bare_is_answer window start dropped context ended held lead t =
    let entry : Entry = view (items.Simple (simple.Move lead.motion None)) in
    let place : dropped + start + lead.len ≡ dropped + (start + lead.len) = omega arith in
    record {
      reads =
          subst
          (λ (l : List ℕ). ReadsTo ended context (dropped + start) (drop start window) (entries.at lead.place entry ∷ []) Frame
          (dropped + (start + lead.len)) l)
          (drop-drop lead.len start window)
          (ReadsTo-at refl refl place (t.reads ended));
      ended = refl;
      held = refl;
    }

-- what is counted behind a command
pub command_counts : (context : Context) (bytes : List ℕ) (read : ReadCommand) → IsAhead read context bytes →
    counted (context_view read.next) ≤ counted context + read.len
command_counts context bytes read t =
    (begins-taken true context bytes (Parameterized read.command (amount read.number)) read.len (context_view read.next) (t.0 true)).counts

-- ---- what stands first behind bytes that end no item

module _ (window : List ℕ) (start dropped : ℕ) (context : Context) (ended : Bool) (held : ℕ) (ahead : Ahead)
    (h : StandsAhead ended context start window ahead) where
  abbrev old : LexerState
  old = standing window start dropped context ended held

  abbrev there : LexerState
  there = standing window ahead.start dropped (context_view ahead.context) ended held

  passed_over : AdvancesOver old [] there
  passed_over = record { reads = h.reads dropped; ended = refl; held = refl }

  pub item_ahead : (entry : Entry) (len : ℕ) (next : Context) (place : ℕ) →
      place ≡ item_place (context_view ahead.context) (dropped + ahead.start) →
      first_view (drop ahead.start window) ahead.first ≡ Begins entry len next →
      AdvancesOver old (entries.at place entry ∷ []) (standing window (ahead.start + len) dropped next ended held)
  item_ahead entry len next place p e =
      subst (λ (n : ℕ). AdvancesOver old (entries.at n entry ∷ []) (standing window (ahead.start + len) dropped next ended held)) (sym p)
      (record {
        reads =
            ReadsTo-append (h.reads dropped)
            (one_item ended (context_view ahead.context) next window ahead.start dropped len entry (sym h.first_is ∙ e));
        ended = refl;
        held = refl;
      })

  pub fault_ahead : (fault : LexFault) → fault.place ≡ item_place (context_view ahead.context) (dropped + ahead.start) →
      first_view (drop ahead.start window) ahead.first ≡ Faulty fault.cause → Answers old (Err fault) there
  fault_ahead fault p e = (
    passed_over,
    p,
    subst (λ (f : First). IsFault ended f (context_view ahead.context) (drop ahead.start window) fault.cause) (sym e ∙ h.first_is) refl,
  )

  pub open_ahead : (result : Result Lexed LexFault) (place : ℕ) → place ≡ item_place (context_view ahead.context) (dropped + ahead.start) →
      first_view (drop ahead.start window) ahead.first ≡ Open →
      IsUndecided ended (context_view ahead.context) place (drop ahead.start window) result → Answers old result there
  open_ahead (Ok answers.NeedMore) place p e u = (
    passed_over,
    u,
    subst (λ (w : Bool). first_of w (context_view ahead.context) (drop ahead.start window) ≡ Open) u (sym h.first_is ∙ e),
  )
  open_ahead (Ok answers.End) place p e u =
      let w = whole_end (context_view ahead.context) (drop ahead.start window) u.1 in
      (passed_over, u.0, w.0, w.1)
  open_ahead (Ok (answers.Item place' item)) place p e u = absurd u
  open_ahead (Err fault) place p e u =
      let is_open : Open ≡ first_of ended (context_view ahead.context) (drop ahead.start window) = sym e ∙ h.first_is in
      let whole : IsFault ended Open (context_view ahead.context) (drop ahead.start window) fault.cause =
      subst (λ (w : Bool). IsFault w Open (context_view ahead.context) (drop ahead.start window) fault.cause) (sym u.0) u.2 in (
        passed_over,
        u.1 ∙ p,
        subst (λ (f : First). IsFault ended f (context_view ahead.context) (drop ahead.start window) fault.cause) is_open whole,
      )
