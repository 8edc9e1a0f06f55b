-- What was put of a text, piece by piece, and what the answers of a lexer make of the rendering of a job.
use Rattle.std.proofs.Common.{◌≡◌, ℕ, Bool, List, [], ◌∷◌, ◌++◌, length, refl, ap, sym, ◌∙◌, subst, append-nil, append_assoc, Result, Ok}
use Rattle.std.proofs.Common.{Err, Option, None, Some, is_some}
use Rattle.std.specs.List.{flat_map}
use Rattle.std.specs.Result.{IsErr}
use Rattle.pcl_items.specs.declared.fault.LexFault.{LexFault}
use Rattle.pcl_items.specs.declared.item.Item.{Item}
use Rattle.pcl_items.specs.declared.item.Mode.{Mode}
use Rattle.pcl_items.specs.Modes.{follows}
use Rattle.pcl_lexer.specs.declared.lexer.lexed.Lexed.{Lexed}
use Rattle.pcl_lexer.specs.declared.lexer.lexed.Lexed.TheVariants as answers
use Rattle.pcl_items.specs.Items.{Entry, Placed, view, at}
use Rattle.pcl_lexer.specs.Laws.{HasOneReading}
use Rattle.pcl_lexer.specs.Lexing.State.{LexerState}
use Rattle.pcl_lexer.specs.Lexing.Meaning.{HasRead, MayBe, Decides, Settles, given, Tells as LexerTells, Undecided, IsNext}
use Rattle.pcl_lexer.specs.Reading.{Reading, Whole, Stopped, IsReading, items_of, read_on, reading_of, with_item}
use Rattle.pcl_lexer.specs.Reader.{first_of}
use Rattle.pcl_lexer.proofs.Reading.Readings.{one_reading}
use Rattle.pcl_lexer.proofs.Lexing.Steps.{decides}
use Rattle.streams.specs.declared.error.Error.{Error}
use Rattle.renderings.specs.declared.outcome.Outcome.{Outcome}
use Rattle.renderings.specs.Expected.{Rendering, behind, list_rendering}
use Rattle.streams.specs.Outlet.{OutletState, Adds, AddsFront}
use Rattle.renderings.specs.Texts.{reading_outcome, list_text}
use Rattle.line_words.specs.ItemLines.{item_line, fault_line}
use Rattle.renderings.specs.Carriers.Rendering.{RendersItem, StaysIn, MayCome, RenderedTo, RestGoesOn, BeginsWith, StartsWith, Ended}
use Rattle.renderings.specs.Carriers.Rendering.{HasRendered, HasEnded, IsFrontFor}
use Rattle.streams.specs.Writing.{Puts}
use Rattle.streams.proofs.OutletFacts.{Adds-none, Adds-trans}

-- ---- what was put

pub Puts-kept : (a : OutletState) (kept kept' text : List ℕ) → kept' ≡ kept ++ text → Puts a a kept kept' text
Puts-kept a kept kept' text e = record { front = []; adds = Adds-none a; split = sym e }

pub Puts-none : (a : OutletState) (kept : List ℕ) → Puts a a kept kept []
Puts-none a kept = Puts-kept a kept kept [] (sym (append-nil kept))

pub Puts-trans : (a b c : OutletState) (k l m first second : List ℕ) → Puts a b k l first → Puts b c l m second →
    Puts a c k m (first ++ second)
Puts-trans a b c k l m first second p q = record {
  front = p.front ++ q.front;
  adds = Adds-trans a b c p.front q.front p.adds q.adds;
  split =
      sym (append_assoc k first second)
      ∙ (ap (λ t. t ++ second) p.split
      ∙ (append_assoc p.front l second
      ∙ (ap (λ t. p.front ++ t) q.split
      ∙ sym (append_assoc p.front q.front m))));
}

-- a text was put, and of what comes behind it some front was written
pub Puts-front : (a b c : OutletState) (k l first second : List ℕ) → Puts a b k l first → AddsFront b c (l ++ second) →
    AddsFront a c (k ++ (first ++ second))
Puts-front a b c k l first second p q = (
  p.front ++ q.0,
  q.1,
  sym (append_assoc k first second)
      ∙ (ap (λ t. t ++ second) p.split
      ∙ (append_assoc p.front l second
      ∙ (ap (λ t. p.front ++ t) q.2
      ∙ sym (append_assoc p.front q.0 q.1)))),
  Adds-trans a b c p.front q.0 p.adds q.3,
)

pub AddsFront-more : (a b : OutletState) (text more : List ℕ) → AddsFront a b text → AddsFront a b (text ++ more)
AddsFront-more a b text more q = (q.0, q.1 ++ more, ap (λ t. t ++ more) q.2 ∙ append_assoc q.0 q.1 more, q.3)

pub AddsFront-none : (a : OutletState) (text : List ℕ) → AddsFront a a text
AddsFront-none a text = ([], text, refl, Adds-none a)

-- of what was put some front was written
pub Puts-cut-front : (a b : OutletState) (k l text : List ℕ) → Puts a b k l text → AddsFront a b (k ++ text)
Puts-cut-front a b k l text p = (p.front, l, p.split, p.adds)

-- a text that was kept was put
pub Puts-passed : (a b : OutletState) (kept mid kept' text : List ℕ) → mid ≡ kept ++ text → Puts a b mid kept' [] → Puts a b kept kept' text
Puts-passed a b kept mid kept' text e p = record { front = p.front; adds = p.adds; split = sym e ∙ (sym (append-nil mid) ∙ p.split) }

-- nothing is kept
pub Puts-all : (a b : OutletState) (text : List ℕ) → Puts a b [] [] text → Adds a b text
Puts-all a b text p = subst (Adds a b) (sym (p.split ∙ append-nil p.front)) p.adds

-- what was kept is written
pub Puts-written : (a b c : OutletState) (k text : List ℕ) → Puts a b [] k text → Adds b c k → Puts a c [] [] text
Puts-written a b c k text p more = record {
  front = p.front ++ k;
  adds = Adds-trans a b c p.front k p.adds more;
  split = p.split ∙ sym (append-nil (p.front ++ k));
}

-- or a front of it
pub Puts-cut : (a b c : OutletState) (k text : List ℕ) → Puts a b [] k text → AddsFront b c k → AddsFront a c text
Puts-cut a b c k text p q = (
  p.front ++ q.0,
  q.1,
  p.split ∙ (ap (λ t. p.front ++ t) q.2 ∙ sym (append_assoc p.front q.0 q.1)),
  Adds-trans a b c p.front q.0 p.adds q.3,
)

-- ---- items before the rest

pub behind_none : (r : Reading) → behind [] r ≡ r
behind_none (Whole items place) = refl
behind_none (Stopped items place cause) = refl

pub behind_more : (xs : List Placed) (x : Placed) (r : Reading) → behind (xs ++ x ∷ []) r ≡ behind xs (with_item x r)
behind_more xs x (Whole items place) = ap (λ l. Whole l place) (append_assoc xs (x ∷ []) items)
behind_more xs x (Stopped items place cause) = ap (λ l. Stopped l place cause) (append_assoc xs (x ∷ []) items)

behind_front : (xs others : List Placed) (r : Reading) → items_of r ≡ xs ++ others → (rest : Reading) × (r ≡ behind xs rest)
behind_front xs others (Whole items place) e = (Whole others place, ap (λ l. Whole l place) e)
behind_front xs others (Stopped items place cause) e = (Stopped others place cause, ap (λ l. Stopped l place cause) e)

-- items that the bytes decide stand first in the reading of each job that they may be
there_behind : (ended : Bool) (bytes : List ℕ) (xs : List Placed) → Decides ended bytes xs → (job : List ℕ) → MayBe ended bytes job →
    (rest : Reading) × IsReading job (behind xs rest)
there_behind ended bytes xs decided job may =
    let one : HasOneReading job = one_reading job in
    let first = decided job (reading_of job) may one.read in
    let split = behind_front xs first.0 (reading_of job) first.1 in
    (split.0, subst (IsReading job) split.1 one.read)

-- ---- one item, or what comes behind the last

-- the outcome does not go by the item
pub same_outcome : (x : Placed) (rest : Reading) → reading_outcome (with_item x rest) ≡ reading_outcome rest
same_outcome x (Whole items place) = refl
same_outcome x (Stopped items place cause) = refl

pub goes_begins : (before after : Rendering) (x : Placed) (text : List ℕ) → RestGoesOn before after x text →
    BeginsWith before (StartsWith x) text
goes_begins before after x text goes = λ reading starts. (after.text starts.0, ap before.text starts.1 ∙ goes.due starts.0)

-- the text of an item was kept, and put
pub item_told : (before after : Rendering) (x : Placed) (old new : OutletState) (kept mid kept' text : List ℕ) →
    RestGoesOn before after x text → mid ≡ kept ++ text → Puts old new mid kept' [] →
    RendersItem before after x old new kept kept' (Ok None)
item_told before after x old new kept mid kept' text goes e puts = (text, Puts-passed old new kept mid kept' text e puts, goes)

-- the rendering failed when some front was written
pub tells_err : (before after : Rendering) (x : Placed) (old new : OutletState) (kept kept' : List ℕ) (r : Result (Option Outcome) Error) →
    IsErr r → (text : List ℕ) → AddsFront old new (kept ++ text) → BeginsWith before (StartsWith x) text →
    RendersItem before after x old new kept kept' r
tells_err before after x old new kept kept' (Ok rendered) is text front begins = absurd cc
tells_err before after x old new kept kept' (Err e) is text front begins = (text, front, begins)

pub ended_err : (rendering : Rendering) (Is : Reading → Type 0) (old new : OutletState) (kept kept' : List ℕ) (r : Result Outcome Error) →
    IsErr r → (text : List ℕ) → AddsFront old new (kept ++ text) → BeginsWith rendering Is text → Ended rendering Is old new kept kept' r
ended_err rendering Is old new kept kept' (Ok outcome) is text front begins = absurd cc
ended_err rendering Is old new kept kept' (Err e) is text front begins = (text, front, begins)

pub item_cut : (before after : Rendering) (x : Placed) (old new : OutletState) (kept mid kept' text : List ℕ)
    (r : Result (Option Outcome) Error) → IsErr r → RestGoesOn before after x text → mid ≡ kept ++ text → AddsFront old new mid →
    RendersItem before after x old new kept kept' r
item_cut before after x old new kept mid kept' text r is goes e front =
    tells_err before after x old new kept kept' r is text (subst (AddsFront old new) e front) (goes_begins before after x text goes)

-- nothing was put
pub item_none : (before after : Rendering) (x : Placed) (old : OutletState) (kept kept' : List ℕ) (r : Result (Option Outcome) Error) →
    IsErr r → RendersItem before after x old old kept kept' r
item_none before after x old kept kept' r is =
    tells_err before after x old old kept kept' r is [] (AddsFront-none old (kept ++ [])) (λ reading starts. (before.text reading, refl))

pub end_none : (rendering : Rendering) (Is : Reading → Type 0) (old : OutletState) (kept kept' : List ℕ) (r : Result Outcome Error) →
    IsErr r → Ended rendering Is old old kept kept' r
end_none rendering Is old kept kept' r is =
    ended_err rendering Is old old kept kept' r is [] (AddsFront-none old (kept ++ [])) (λ reading is. (rendering.text reading, refl))

-- the last text was kept
pub last_told : (rendering : Rendering) (reading : Reading) (old : OutletState) (kept kept' text : List ℕ) (outcome : Outcome) →
    kept' ≡ kept ++ text → rendering.text reading ≡ text → rendering.outcome reading ≡ outcome →
    Ended rendering (λ r. r ≡ reading) old old kept kept' (Ok outcome)
last_told rendering reading old kept kept' text outcome e due comes = (
  text,
  Puts-kept old kept kept' text e,
  record { due = λ r is. ap rendering.text is ∙ due; outcome_is = λ r is. ap rendering.outcome is ∙ comes },
)

-- an item of the list
pub list_goes : (x : Placed) → RestGoesOn list_rendering list_rendering x (item_line x)
list_goes x = record { due = by_rest; outcome = same_outcome x; fault = λ rest place cause. refl }
  where
    by_rest : (rest : Reading) → list_text (with_item x rest) ≡ item_line x ++ list_text rest
    by_rest (Whole items place) = refl
    by_rest (Stopped items place cause) = append_assoc (item_line x) (flat_map item_line items) (fault_line place cause)

-- ---- the rendering so far

-- no bytes decide nothing
pub nothing_decided : Undecided [] []
unfolding reading_of read_on first_of
nothing_decided =
    let one : HasOneReading [] = one_reading [] in
    record {
      no_item =
          λ x decided.
          let first = decided [] (reading_of []) ([], refl, λ e. refl) one.read in let none : [] ≡ x ∷ first.0 = first.1 in absurd cc;
      no_fault =
          λ place cause settled.
          let stops : Stopped [] place cause ≡ Whole [] 0 = one.only (Stopped [] place cause) (settled [] ([], refl, λ e. refl)) in
          absurd cc;
    }

abbrev pub rendered_none : (first : Rendering) (start : OutletState) (lexer : LexerState) → HasRead lexer [] [] →
    HasRendered first start [] lexer first start []
rendered_none first start lexer reads = record {
  items = [];
  reads = reads;
  text = [];
  puts = Puts-none start [];
  due = λ rest. ap first.text (behind_none rest);
  outcome = λ rest. ap first.outcome (behind_none rest);
  fault = λ rest place cause. refl;
}

module _ (first : Rendering) (start : OutletState) (bytes : List ℕ) (old : LexerState) (rendering : Rendering) (written : OutletState)
    (kept : List ℕ) (rendered : HasRendered first start bytes old rendering written kept) where
  -- one more piece is fed, or none follows
  pub rendered_fed : (new : LexerState) (piece : List ℕ) →
      ((bytes : List ℕ) (items : List Placed) → HasRead old bytes items → HasRead new (bytes ++ piece) items) →
      HasRendered first start (bytes ++ piece) new rendering written kept
  rendered_fed new piece reads = record {
    items = rendered.items;
    reads = reads bytes rendered.items rendered.reads;
    text = rendered.text;
    puts = rendered.puts;
    due = rendered.due;
    outcome = rendered.outcome;
    fault = rendered.fault;
  }

  pub rendered_to_end : (new : LexerState) → ((bytes : List ℕ) (items : List Placed) → HasRead old bytes items → HasRead new bytes items) →
      HasRendered first start bytes new rendering written kept
  rendered_to_end new reads = record {
    items = rendered.items;
    reads = reads bytes rendered.items rendered.reads;
    text = rendered.text;
    puts = rendered.puts;
    due = rendered.due;
    outcome = rendered.outcome;
    fault = rendered.fault;
  }

  -- what was kept is written
  abbrev pub rendered_written : (written' : OutletState) → Adds written written' kept →
      HasRendered first start bytes old rendering written' []
  rendered_written written' more = record {
    items = rendered.items;
    reads = rendered.reads;
    text = rendered.text;
    puts = Puts-written start written written' kept rendered.text rendered.puts more;
    due = rendered.due;
    outcome = rendered.outcome;
    fault = rendered.fault;
  }

  -- or a front of it, which is a front of what is due for each job that the bytes may be
  pub rendered_cut : (written' : OutletState) → AddsFront written written' kept → (job : List ℕ) → MayBe old.ended bytes job →
      IsFrontFor first start written' job
  rendered_cut written' q job may =
      let there =
      there_behind old.ended bytes rendered.items
      (decides old.ended bytes rendered.items old.context old.place old.rest rendered.reads.reads) job may in (
        behind rendered.items there.0,
        there.1,
        subst (AddsFront start written') (sym (rendered.due there.0))
            (AddsFront-more start written' rendered.text (rendering.text there.0)
            (Puts-cut start written written' kept rendered.text rendered.puts q)),
      )

  pub rendered_front : (job : List ℕ) → MayBe old.ended bytes job → IsFrontFor first start written job
  rendered_front = rendered_cut written (AddsFront-none written kept)

  -- readings of which what comes behind the items is one of these
  module _ (Is : Reading → Type 0) (ended : Bool)
      (there : (job : List ℕ) → MayBe ended bytes job → (rest : Reading) × Is rest × IsReading job (behind rendered.items rest))
      (written' : OutletState) (kept' : List ℕ) where
    pub rendered_ended : (outcome : Outcome) → Ended rendering Is written written' kept kept' (Ok outcome) →
        HasEnded first start ended bytes written' kept' outcome
    rendered_ended outcome h = (
      rendered.text ++ h.0,
      Puts-trans start written written' [] kept kept' rendered.text h.0 rendered.puts h.1,
      λ job may.
          let t = there job may in (
            behind rendered.items t.0,
            t.2,
            ap (λ l. rendered.text ++ l) (sym (h.2.due t.0 t.1)) ∙ sym (rendered.due t.0),
            sym (rendered.outcome t.0 ∙ h.2.outcome_is t.0 t.1),
          ),
    )

    pub rendered_failed : (e : Error) → Ended rendering Is written written' kept kept' (Err e) → IsFrontFor first start written' bytes
    rendered_failed e h =
        let t = there bytes ([], sym (append-nil bytes), λ e. refl) in
        let more = h.2 t.0 t.1 in (
          behind rendered.items t.0,
          t.2,
          subst (AddsFront start written')
              (append_assoc rendered.text h.0 more.0 ∙ (ap (λ l. rendered.text ++ l) (sym more.1) ∙ sym (rendered.due t.0)))
              (AddsFront-more start written' (rendered.text ++ h.0) more.0
              (Puts-front start written written' [] kept rendered.text h.0 rendered.puts h.1)),
        )

  module _ (answer : Result Lexed LexFault) (new : LexerState) (next : IsNext old answer new) where
    -- no item
    abbrev pub rendered_on : given answer ≡ [] → HasRendered first start bytes new rendering written kept
    rendered_on nothing = record {
      items = rendered.items;
      reads =
          subst (HasRead new bytes) (ap (λ l. rendered.items ++ l) nothing ∙ append-nil rendered.items)
          (next.reads bytes rendered.items rendered.reads);
      text = rendered.text;
      puts = rendered.puts;
      due = rendered.due;
      outcome = rendered.outcome;
      fault = rendered.fault;
    }

    -- no further item is decided
    pub rendered_all : answer ≡ Ok answers.NeedMore → RenderedTo first start new.ended bytes new rendering written kept (Ok None)
    rendered_all is = (
      rendered_on (ap given is),
      (subst (λ a. LexerTells old.ended bytes rendered.items a) is (next.tells bytes rendered.items rendered.reads)).1,
    )

    module _ (place : ℕ) (item : Item) (is : answer ≡ Ok (answers.Item place item)) where
      -- an item that went
      pub rendered_item : (rendering' : Rendering) (written' : OutletState) (kept' text : List ℕ) → Puts written written' kept kept' text →
          RestGoesOn rendering rendering' (at place (view item)) text → HasRendered first start bytes new rendering' written' kept'
      rendered_item rendering' written' kept' text puts goes =
          let x : Placed = at place (view item) in
          record {
            items = rendered.items ++ x ∷ [];
            reads = subst (λ a. HasRead new bytes (rendered.items ++ given a)) is (next.reads bytes rendered.items rendered.reads);
            text = rendered.text ++ text;
            puts = Puts-trans start written written' [] kept kept' rendered.text text rendered.puts puts;
            due = λ rest.
                ap first.text (behind_more rendered.items x rest)
                ∙ (rendered.due (with_item x rest)
                ∙ (ap (λ t. rendered.text ++ t) (goes.due rest)
                ∙ sym (append_assoc rendered.text text (rendering'.text rest))));
            outcome =
                λ rest. ap first.outcome (behind_more rendered.items x rest) ∙ (rendered.outcome (with_item x rest) ∙ goes.outcome rest);
            fault = λ rest place cause.
                ap (λ l. first.at_fault l place cause) (append_assoc rendered.items (x ∷ []) rest)
                ∙ (rendered.fault (x ∷ rest) place cause
                ∙ goes.fault rest place cause);
          }

      -- the item stands first behind those that were rendered
      pub item_there : (ended : Bool) → old.ended ≡ ended → (job : List ℕ) → MayBe ended bytes job →
          (rest : Reading) × StartsWith (at place (view item)) rest × IsReading job (behind rendered.items rest)
      item_there ended same job may =
          let x : Placed = at place (view item) in
          let decided : Decides old.ended bytes (rendered.items ++ x ∷ []) =
          subst (λ a. LexerTells old.ended bytes rendered.items a) is (next.tells bytes rendered.items rendered.reads) in
          let t = there_behind old.ended bytes (rendered.items ++ x ∷ []) decided job (subst (λ w. MayBe w bytes job) (sym same) may) in
          (with_item x t.0, (t.0, refl), subst (IsReading job) (behind_more rendered.items x t.0) t.1)

    -- the end stands there
    pub end_there : answer ≡ Ok answers.End → (ended : Bool) → old.ended ≡ ended → (total : ℕ) → total ≡ length bytes → (job : List ℕ) →
        MayBe ended bytes job → (rest : Reading) × (rest ≡ Whole [] total) × IsReading job (behind rendered.items rest)
    end_there is ended same total total_is job may =
        let tells = subst (λ a. LexerTells old.ended bytes rendered.items a) is (next.tells bytes rendered.items rendered.reads) in
        let all : bytes ≡ job = sym (may.1 ∙ (ap (λ l. bytes ++ l) (may.2 (sym same ∙ tells.0)) ∙ append-nil bytes)) in
        let whole : Whole rendered.items (length bytes) ≡ behind rendered.items (Whole [] total) =
        ap (Whole rendered.items) (sym total_is) ∙ ap (λ l. Whole l total) (sym (append-nil rendered.items)) in (
          Whole [] total,
          refl,
          subst (λ (j : List ℕ). IsReading j (behind rendered.items (Whole [] total))) all (subst (IsReading bytes) whole tells.1),
        )

    -- a fault stands there
    pub fault_there : (fault : LexFault) → answer ≡ Err fault → (ended : Bool) → old.ended ≡ ended → (job : List ℕ) →
        MayBe ended bytes job → (rest : Reading) × (rest ≡ Stopped [] fault.place fault.cause) × IsReading job (behind rendered.items rest)
    fault_there fault is ended same job may =
        let tells : Settles old.ended bytes (Stopped rendered.items fault.place fault.cause) =
        subst (λ a. LexerTells old.ended bytes rendered.items a) is (next.tells bytes rendered.items rendered.reads) in
        let stopped : Stopped rendered.items fault.place fault.cause ≡ behind rendered.items (Stopped [] fault.place fault.cause) =
        ap (λ l. Stopped l fault.place fault.cause) (sym (append-nil rendered.items)) in (
          Stopped [] fault.place fault.cause,
          refl,
          subst (IsReading job) stopped (tells job (subst (λ w. MayBe w bytes job) (sym same) may)),
        )

-- ---- what an item came to

module _ (before after : Rendering) (x : Placed) (old new : OutletState) (kept kept' : List ℕ) (rendered : Option Outcome)
    (h : RendersItem before after x old new kept kept' (Ok rendered)) where
  pub renders_on : rendered ≡ None → (text : List ℕ) × Puts old new kept kept' text × RestGoesOn before after x text
  renders_on is = subst (λ t. RendersItem before after x old new kept kept' (Ok t)) is h

  pub renders_over : (outcome : Outcome) → rendered ≡ Some outcome → Ended before (StartsWith x) old new kept kept' (Ok outcome)
  renders_over outcome is = subst (λ t. RendersItem before after x old new kept kept' (Ok t)) is h

pub follows_on : {R : Type 0} (is_in : R → Mode → Type 0) (old new : R) (item : Entry) (rendered : Option Outcome) → rendered ≡ None →
    StaysIn is_in old new item (Ok rendered) → (mode next : Mode) → is_in old mode → follows mode item ≡ Some next → is_in new next
follows_on is_in old new item rendered is h = subst (λ t. StaysIn is_in old new item (Ok t)) is h

pub admits_item : {R : Type 0} (is_in : R → Mode → Type 0) (renderer : R) (item : Entry) (mode next : Mode) → is_in renderer mode →
    follows mode item ≡ Some next → MayCome is_in renderer item
admits_item is_in renderer item mode next stands admitted = (mode, stands, ap is_some admitted)

-- ---- what the items came to

module _ (first : Rendering) (start : OutletState) (ended : Bool) (bytes : List ℕ) (lexer : LexerState) (rendering : Rendering)
    (written : OutletState) (kept : List ℕ) where
  pub came_err : (r : Result (Option Outcome) Error) → IsErr r → IsFrontFor first start written bytes →
      RenderedTo first start ended bytes lexer rendering written kept r
  came_err (Ok rendered) is h = absurd cc
  came_err (Err e) is h = h

  module _ (rendered : Option Outcome) (h : RenderedTo first start ended bytes lexer rendering written kept (Ok rendered)) where
    pub came_on : rendered ≡ None → RenderedTo first start ended bytes lexer rendering written kept (Ok None)
    came_on is = subst (λ t. RenderedTo first start ended bytes lexer rendering written kept (Ok t)) is h

    pub came_over : (outcome : Outcome) → rendered ≡ Some outcome → HasEnded first start ended bytes written kept outcome
    came_over outcome is = subst (λ t. RenderedTo first start ended bytes lexer rendering written kept (Ok t)) is h

  -- what was kept is written
  pub came_written : (written' : OutletState) → Adds written written' kept → (rendered : Option Outcome) →
      RenderedTo first start ended bytes lexer rendering written kept (Ok rendered) →
      RenderedTo first start ended bytes lexer rendering written' [] (Ok rendered)
  came_written written' adds None h = (rendered_written first start bytes lexer rendering written kept h.0 written' adds, h.1)
  came_written written' adds (Some outcome) h = (h.0, Puts-written start written written' kept h.0 h.1 adds, h.2)

  -- or a front of it
  pub came_cut : (written' : OutletState) → AddsFront written written' kept → (rendered : Option Outcome) →
      RenderedTo first start ended bytes lexer rendering written kept (Ok rendered) → IsFrontFor first start written' bytes
  came_cut written' front None h =
      rendered_cut first start bytes lexer rendering written kept h.0 written' front bytes ([], sym (append-nil bytes), λ e. refl)
  came_cut written' front (Some outcome) h =
      let due = h.2 bytes ([], sym (append-nil bytes), λ e. refl) in
      (due.0, due.1, subst (AddsFront start written') due.2 (Puts-cut start written written' kept h.0 h.1 front))

-- what is rendered of an outlet and of what is kept for it is rendered of the same ones under another name
pub same_places : {W K : Type 0} (P : W → K → Type 0) (outlet outlet' : W) (kept kept' : K) → outlet ≡ outlet' → kept ≡ kept' →
    P outlet kept → P outlet' kept'
same_places P outlet outlet' kept kept' e f h = subst (λ o. P o kept') e (subst (λ k. P outlet k) f h)
