-- What the whole bytes of a job spell: by the rules of the language, and read from left to right.
use Rattle.std.specs.Prelude.{◌≡◌, ℕ, zero, suc, ◌+◌, ◌*◌, List, [], ◌∷◌, length, drop, Bool, true, Option, None, Some}
use Rattle.pcl_items.specs.declared.fault.LexCause.{LexCause}
use Rattle.pcl_lexer.specs.Lexing.Contexts.{Context, Pcl, pending, MayEndAt}
use Rattle.pcl_items.specs.declared.item.Mode.{Mode}
use Rattle.pcl_items.specs.declared.item.Mode.TheVariants as modes
use Rattle.pcl_items.specs.Items.{Entry, Placed, at}
use Rattle.pcl_lexer.specs.Grammar as grammar
use Rattle.pcl_lexer.specs.Faults as rules
use Rattle.pcl_lexer.specs.Reader.{First, Open, Passes, Begins, Faulty, first_of, item_place}
use Rattle.pcl_lexer.specs.Fault.{end_cause, IsFault}

-- all of the bytes are items, whose end stands at this place; or items, and then a fault at this place
pub data Reading : Type 0 where
  Whole : (items : List Placed) (place : ℕ) → Reading
  Stopped : (items : List Placed) (place : ℕ) (cause : LexCause) → Reading

-- what the bytes spell by the rules: all of them items, in a mode in which a job may end, or items up to a fault
abbrev pub IsReading : List ℕ → Reading → Type 0
IsReading bytes (Whole items place) =
    (mode : Mode) × grammar.MayEnd mode × grammar.Spells modes.Pcl 0 bytes items mode × (place ≡ length bytes)
IsReading bytes (Stopped items place cause) = rules.Stops modes.Pcl 0 bytes items place cause

abbrev pub items_of : Reading → List Placed
items_of (Whole items place) = items
items_of (Stopped items place cause) = items

-- ---- read from left to right

-- From a context and a place on items are read, one behind another, up to a context and a place, with the rest behind
-- them.
pub data ReadsTo : Bool → Context → ℕ → List ℕ → List Placed → Context → ℕ → List ℕ → Type 0 where
  here : {whole : Bool} {context : Context} {place : ℕ} {bytes : List ℕ} →
      ReadsTo whole context place bytes [] context place bytes
  passes : {whole : Bool} {context context2 : Context} {place place2 : ℕ} {bytes rest : List ℕ} {items : List Placed}
      (len : ℕ) (next : Context) →
      first_of whole context bytes ≡ Passes len next →
      ReadsTo whole next (place + len) (drop len bytes) items context2 place2 rest →
      ReadsTo whole context place bytes items context2 place2 rest
  begins : {whole : Bool} {context context2 : Context} {place place2 : ℕ} {bytes rest : List ℕ} {items : List Placed}
      (entry : Entry) (len : ℕ) (next : Context) →
      first_of whole context bytes ≡ Begins entry len next →
      ReadsTo whole next (place + len) (drop len bytes) items context2 place2 rest →
      ReadsTo whole context place bytes (at (item_place context place) entry ∷ items) context2 place2 rest

-- where a fault stands behind the items
pub record StopsAt (context : Context) (place : ℕ) (bytes : List ℕ) (items : List Placed) (stop : ℕ)
    (cause : LexCause) : Type 0 where
  pub last : Context
  pub end : ℕ
  pub rest : List ℕ
  pub reads : ReadsTo true context place bytes items last end rest
  pub at_end : stop ≡ item_place last end
  pub fault : IsFault true (first_of true last rest) last rest cause

-- what is read of all bytes
abbrev pub IsReadFrom : Context → ℕ → List ℕ → Reading → Type 0
IsReadFrom context place bytes (Whole items end) =
    (last : Context) × MayEndAt last × ReadsTo true context place bytes items last end []
IsReadFrom context place bytes (Stopped items stop cause) = StopsAt context place bytes items stop cause

-- ---- computed

-- the end of the bytes, where they decide no item
abbrev pub ends_so : Option LexCause → Context → ℕ → Reading
ends_so None context place = Whole [] place
ends_so (Some cause) context place = Stopped [] (item_place context place) cause

abbrev pub end_of : Context → ℕ → List ℕ → Reading
end_of context place rest = ends_so (end_cause context rest) context place

abbrev pub with_item : Placed → Reading → Reading
with_item x (Whole items place) = Whole (x ∷ items) place
with_item x (Stopped items place cause) = Stopped (x ∷ items) place cause

abbrev pub by_first : First → Context → ℕ → List ℕ → (Context → ℕ → List ℕ → Reading) → Reading
by_first Open context place bytes read = end_of context place bytes
by_first (Passes len next) context place bytes read = read next (place + len) (drop len bytes)
by_first (Begins entry len next) context place bytes read =
    with_item (at (item_place context place) entry) (read next (place + len) (drop len bytes))
by_first (Faulty cause) context place bytes read = Stopped [] (item_place context place) cause

-- at most so many items less one, from a context and a place on
unfoldable pub read_on : ℕ → Context → ℕ → List ℕ → Reading
read_on zero context place bytes = end_of context place bytes
read_on (suc n) context place bytes =
    by_first (first_of true context bytes) context place bytes (λ next place2 rest. read_on n next place2 rest)

-- what is left to be read: a step takes bytes, or it ends a command
abbrev pub left : Context → List ℕ → ℕ
left context bytes = 2 * length bytes + pending context

-- what the bytes spell: no more steps than are left
unfoldable pub reading_of : List ℕ → Reading
reading_of bytes = read_on (suc (left Pcl bytes)) Pcl 0 bytes
