-- What stands ahead in a lexer's window.
use Rattle.std.specs.Prelude.{◌≡◌, ℕ, ◌+◌, ◌≤◌, List, [], length, drop, Bool, true, false, None, Result, Ok, Err}
use Rattle.pcl_items.specs.declared.fault.LexFault.{LexFault}
use Rattle.pcl_lexer.specs.declared.lexer.ahead.Ahead.{Ahead}
use Rattle.pcl_lexer.specs.Lexing.Contexts.{Context, Pcl, counted}
use Rattle.pcl_lexer.specs.Lexing.FirstView.{context_view, first_view, Within, FirstHasPjl, len_of, counted_after}
use Rattle.pcl_lexer.specs.Reading.{ReadsTo}
use Rattle.pcl_items.specs.declared.item.Item.{Item}
use Rattle.pcl_lexer.specs.declared.lexer.lexed.Lexed.{Lexed}
use Rattle.pcl_lexer.specs.declared.lexer.lexed.Lexed.TheVariants as answers
use Rattle.pcl_items.specs.Items.{view}
use Rattle.pcl_lexer.specs.Reader.{Open, Passes, Begins, first_of}
use Rattle.pcl_lexer.specs.Fault.{end_cause, IsFault}

-- an item of so many bytes stands first, between units
abbrev pub StandsFirst : Item → ℕ → List ℕ → Type 0
StandsFirst item len bytes =
    ((whole : Bool) → first_of whole Pcl bytes ≡ Begins (view item) len Pcl) × (len ≤ length bytes)

-- what stands first in a window from a place on, behind bytes that end no item
pub record StandsAhead (whole : Bool) (context : Context) (start : ℕ) (window : List ℕ) (ahead : Ahead) : Type 0 where
  pub reads : (dropped : ℕ) →
      ReadsTo whole context (dropped + start) (drop start window) [] (context_view ahead.context)
      (dropped + ahead.start) (drop ahead.start window)
  pub inside : ahead.start ≤ length window
  pub counts : counted (context_view ahead.context) + start ≤ counted context + ahead.start
  pub first_is : first_view (drop ahead.start window) ahead.first
      ≡ first_of whole (context_view ahead.context) (drop ahead.start window)
  pub stops : (len : ℕ) (next : Context) → first_view (drop ahead.start window) ahead.first ≡ Passes len next → ⊥
  pub within : Within (length (drop ahead.start window)) ahead.first
  pub line : FirstHasPjl (drop ahead.start window) ahead.first
  pub after : counted_after (first_view (drop ahead.start window) ahead.first)
      ≤ counted (context_view ahead.context) + len_of (first_view (drop ahead.start window) ahead.first)

-- the answer where the bytes that are left decide nothing
abbrev pub IsUndecided : Bool → Context → ℕ → List ℕ → Result Lexed LexFault → Type 0
IsUndecided ended context place rest (Ok answers.NeedMore) = ended ≡ false
IsUndecided ended context place rest (Ok answers.End) = (ended ≡ true) × (end_cause context rest ≡ None)
IsUndecided ended context place rest (Ok (answers.Item place' item)) = ⊥
IsUndecided ended context place rest (Err fault) =
    (ended ≡ true) × (fault.place ≡ place) × IsFault true Open context rest fault.cause
