-- What one call of a lexer does to what it has read.
use Rattle.std.proofs.Common.{◌≡◌, ℕ, zero, suc, ◌+◌, ◌<◌, ◌≤◌, Option, None, Some, List, [], ◌∷◌, ◌++◌, length, drop, arith, Bool, true}
use Rattle.std.proofs.Common.{false, Result, Ok, Err, refl, sym, ap, subst, ◌∙◌}
use Rattle.std.proofs.lemmas.List.{append-nil, length-append}
use Rattle.pcl_items.specs.declared.fault.LexCause.{LexCause}
use Rattle.pcl_items.specs.declared.fault.LexFault.{LexFault}
use Rattle.pcl_lexer.specs.Lexing.Contexts.{Context, Pcl, Sequence, Frame, Letters, Numbered, Pjl, item_place}
use Rattle.pcl_lexer.specs.declared.lexer.lexed.Lexed.{Lexed}
use Rattle.pcl_lexer.specs.declared.lexer.lexed.Lexed.TheVariants as answers
use Rattle.pcl_items.specs.declared.item.Item.{Item}
use Rattle.pcl_items.specs.declared.item.Mode.{Mode}
use Rattle.pcl_items.specs.Modes.{follows, mode_after}
use Rattle.pcl_lexer.specs.Modes.{mode_of}
use Rattle.pcl_items.specs.Items.{Entry, Placed, view, at, entries}
use Rattle.pcl_lexer.specs.Reader.{First, Open, Passes, Begins, Faulty, first_of}
use Rattle.pcl_lexer.specs.Fault.{end_cause, IsFault}
use Rattle.pcl_lexer.specs.Reading.{ReadsTo, here, passes, begins, Reading, Whole, Stopped, IsReadFrom, items_of, left, ends_so, end_of}
use Rattle.pcl_lexer.specs.Reading.{with_item}
use Rattle.pcl_lexer.specs.Lexing.State.{LexerState, at_start, WantsMore}
use Rattle.pcl_lexer.specs.Lexing.Answers.{Answers, AdvancesOver}
use Rattle.pcl_lexer.specs.Lexing.Meaning.{MayBe, Decides, Settles, HasRead, given, Undecided, Tells, Advances, KeepsMode, Allows, IsNext}
use Rattle.pcl_lexer.proofs.Lexing.Spans.{begins-taken, passes-taken}
use Rattle.pcl_lexer.proofs.Lexing.Decided.{stays_decided}
use Rattle.pcl_lexer.proofs.Reading.ReadsTo.{ReadsTo-at, ReadsTo-append, ReadsTo-place, grows, closes, behind_front}
use Rattle.pcl_lexer.proofs.Reading.Stopping.{read_by_rules}
use Rattle.pcl_lexer.proofs.Reading.Readings.{end_read, item_read, pass_read, end_last, fault_last, one_only}
use Rattle.pcl_lexer.proofs.Lexing.Opening.{IsAtEnd}
use Rattle.pcl_lexer.proofs.Frames.Opening.{Refuses, IsEnding, Opened, refuses, completes, opened, end_ending}
use Rattle.pcl_lexer.proofs.Lexing.FirstModes.{begins_in_mode, passes_in_mode}

-- ---- feeding

pub starts : HasRead at_start [] []
starts = record { reads = here }

pub start_wants_more : WantsMore at_start
unfolding first_of
start_wants_more = refl

-- a piece that comes behind the bytes that are not read yet
pub slid : (ended : Bool) (bytes piece rest window : List ℕ) (items : List Placed) (context : Context) (place place2 : ℕ) →
    ended ≡ false → place2 ≡ place → window ≡ rest ++ piece → ReadsTo ended Pcl 0 bytes items context place rest →
    ReadsTo ended Pcl 0 (bytes ++ piece) items context place2 window
slid ended bytes piece rest window items context place place2 e p w h =
    subst (λ (l : List ℕ). ReadsTo ended Pcl 0 (bytes ++ piece) items context place2 l) (sym w)
    (ReadsTo-at refl refl (sym p) (grows ended piece e h))

pub at_end : (old : LexerState) (bytes : List ℕ) (items : List Placed) → HasRead old bytes items →
    HasRead (record old { ended = true }) bytes items
at_end old bytes items r = record { reads = closes r.reads }

-- ---- what was read, in a job that the bytes may be

record InJob (job : List ℕ) (xs : List Placed) (c : Context) (p : ℕ) (rest : List ℕ) (w : Bool) : Type 0 where
  more : List ℕ
  reads : ReadsTo true Pcl 0 job xs c p (rest ++ more)
  none : w ≡ true → more ≡ []

in_job : (w : Bool) (bytes job : List ℕ) (xs : List Placed) (c : Context) (p : ℕ) (rest : List ℕ) → ReadsTo w Pcl 0 bytes xs c p rest →
    MayBe w bytes job → InJob job xs c p rest w
in_job true bytes job xs c p rest h may =
    let same : bytes ≡ job = sym (append-nil bytes) ∙ sym (ap (λ l. bytes ++ l) (may.2 refl)) ∙ sym may.1 in
    record {
      more = [];
      reads = subst (λ (l : List ℕ). ReadsTo true Pcl 0 job xs c p l) (sym (append-nil rest)) (ReadsTo-at refl same refl h);
      none = λ _. refl;
    }
in_job false bytes job xs c p rest h may =
    record { more = may.0; reads = ReadsTo-at refl (sym may.1) refl (grows true may.0 refl h); none = may.2 }

front_read : (job : List ℕ) (reading : Reading) (xs : List Placed) (c : Context) (p : ℕ) (rest : List ℕ) →
    ReadsTo true Pcl 0 job xs c p rest → IsReadFrom Pcl 0 job reading → (others : List Placed) × (items_of reading ≡ xs ++ others)
front_read job (Whole ys q) xs c p rest h k = let b = behind_front h k.2 (end_last k.0 k.1) in (b.others, b.items)
front_read job (Stopped ys q cause) xs c p rest h k =
    let b = behind_front h k.reads (fault_last k.last k.rest cause k.fault) in (b.others, b.items)

pub decides : (w : Bool) (bytes : List ℕ) (xs : List Placed) (c : Context) (p : ℕ) (rest : List ℕ) → ReadsTo w Pcl 0 bytes xs c p rest →
    Decides w bytes xs
decides w bytes xs c p rest h job reading may is =
    let j = in_job w bytes job xs c p rest h may in
    front_read job reading xs c p (rest ++ j.more) j.reads ((read_by_rules job reading).complete is)

-- ---- a fault

faulty_stays : (c : Context) (rest more : List ℕ) (cause : LexCause) (f : First) → first_of false c rest ≡ f →
    IsFault false f c rest cause → IsFault true (first_of true c (rest ++ more)) c (rest ++ more) cause
faulty_stays c rest more cause (Faulty other) e h =
    let read : first_of true c (rest ++ more) ≡ Faulty other =
    stays_decided c rest true more (λ o. let both : Open ≡ Faulty other = sym o ∙ e in absurd cc) ∙ e in
    subst (λ (g : First). IsFault true g c (rest ++ more) cause) (sym read) h
faulty_stays c rest more cause (Passes len next) e h = absurd h
faulty_stays c rest more cause (Begins item len next) e h = absurd h
faulty_stays c rest more cause Open e h = absurd h

fault_stays : (w : Bool) (c : Context) (rest more : List ℕ) (cause : LexCause) → (w ≡ true → more ≡ []) →
    IsFault w (first_of w c rest) c rest cause → IsFault true (first_of true c (rest ++ more)) c (rest ++ more) cause
fault_stays true c rest more cause none h =
    let same : rest ≡ rest ++ more = sym (append-nil rest) ∙ ap (λ l. rest ++ l) (sym (none refl)) in
    subst (λ (l : List ℕ). IsFault true (first_of true c l) c l cause) same h
fault_stays false c rest more cause none h = faulty_stays c rest more cause (first_of false c rest) refl h

settles : (w : Bool) (bytes : List ℕ) (xs : List Placed) (c : Context) (p : ℕ) (rest : List ℕ) (place : ℕ) (cause : LexCause) →
    ReadsTo w Pcl 0 bytes xs c p rest → place ≡ item_place c p → IsFault w (first_of w c rest) c rest cause →
    Settles w bytes (Stopped xs place cause)
settles w bytes xs c p rest place cause h e k job may =
    let j = in_job w bytes job xs c p rest h may in
    (read_by_rules job (Stopped xs place cause)).sound
    (record { last = c; end = p; rest = rest ++ j.more; reads = j.reads; at_end = e; fault = fault_stays w c rest j.more cause j.none k })

-- ---- bytes that decide nothing

-- what such bytes spell if no more come: nothing stops them but their end
pub record OpenEnd (c : Context) (p : ℕ) (rest : List ℕ) : Type 0 where
  pub reading : Reading
  pub read : IsReadFrom c p rest reading
  pub at_end : (ys : List Placed) (q : ℕ) (cause : LexCause) → reading ≡ Stopped ys q cause → IsAtEnd cause

abbrev IsEndCause : Option LexCause → Type 0
IsEndCause None = Unit {0}
IsEndCause (Some cause) = IsAtEnd cause

nothing_left : (c : Context) (p : ℕ) (rest : List ℕ) → first_of true c rest ≡ Open → OpenEnd c p rest
nothing_left c p rest e = record {
  reading = end_of c p rest;
  read = end_read c p rest e;
  at_end = λ ys q cause k. go (end_cause c rest) (causes c rest) ys q cause k;
}
  where
    causes : (c : Context) (rest : List ℕ) → IsEndCause (end_cause c rest)
    causes Pcl [] = tt
    causes Pcl (b ∷ rest) = tt
    causes Pjl [] = tt
    causes Pjl (b ∷ rest) = tt
    causes (Sequence g) [] = tt
    causes (Sequence g) (b ∷ rest) = tt
    causes Frame [] = tt
    causes Frame (b ∷ rest) = tt
    causes (Letters m n) [] = tt
    causes (Letters m n) (b ∷ rest) = tt
    causes (Numbered x gap n) [] = tt
    causes (Numbered x gap n) (b ∷ rest) = tt

    go : (o : Option LexCause) → IsEndCause o → (ys : List Placed) (q : ℕ) (cause : LexCause) → ends_so o c p ≡ Stopped ys q cause →
        IsAtEnd cause
    go None h ys q cause k = absurd cc
    go (Some d) h ys q cause k = let same : d ≡ cause = cc in subst IsAtEnd same h

one_step : (c : Context) (p : ℕ) (rest : List ℕ) (f : First) → first_of true c rest ≡ f → IsEnding rest f →
    ((next : Context) (len : ℕ) → drop len rest ≡ [] → left next (drop len rest) < left c rest → OpenEnd next (p + len) (drop len rest)) →
    OpenEnd c p rest
one_step c p rest Open e h more = nothing_left c p rest e
one_step c p rest (Passes len next) e h more =
    let r = more next len h (passes-taken true c rest len next e).less in
    record { reading = r.reading; read = pass_read c p rest len next r.reading e r.read; at_end = r.at_end }
one_step c p rest (Begins entry len next) e h more =
    let r = more next len h (begins-taken true c rest entry len next e).less in
    record {
      reading = with_item (at (item_place c p) entry) r.reading;
      read = item_read c p rest entry len next r.reading e r.read;
      at_end = λ ys q cause k. with_end r.reading r.at_end ys q cause k;
    }
  where
    with_end : (r : Reading) → ((ys : List Placed) (q : ℕ) (cause : LexCause) → r ≡ Stopped ys q cause → IsAtEnd cause) → (ys : List Placed)
        (q : ℕ) (cause : LexCause) → with_item (at (item_place c p) entry) r ≡ Stopped ys q cause → IsAtEnd cause
    with_end (Whole items place) h ys q cause k = absurd cc
    with_end (Stopped items place d) h ys q cause k = let same : d ≡ cause = cc in subst IsAtEnd same (h items place d refl)
one_step c p rest (Faulty cause) e h more = absurd h

-- where no byte is left, each step ends there
none_left : (n : ℕ) (c : Context) (p : ℕ) (rest : List ℕ) → rest ≡ [] → left c rest < n → OpenEnd c p rest
none_left zero c p rest e h = absurd (omega arith)
none_left (suc n) c p rest e h =
    one_step c p rest (first_of true c rest) refl (subst (λ (l : List ℕ). IsEnding l (first_of true c l)) (sym e) (end_ending c))
    (λ next len d less. none_left n next (p + len) (drop len rest) d (omega (arith, less, h)))

pub open_end : (c : Context) (p : ℕ) (rest : List ℕ) → IsEnding rest (first_of true c rest) → OpenEnd c p rest
open_end c p rest ending =
    one_step c p rest (first_of true c rest) refl ending
    (λ next len d less. none_left (suc (left next (drop len rest))) next (p + len) (drop len rest) d (omega arith))

-- behind items
abbrev pub with_items : List Placed → Reading → Reading
with_items xs (Whole items place) = Whole (xs ++ items) place
with_items xs (Stopped items place cause) = Stopped (xs ++ items) place cause

pub read_behind : {c d : Context} {p q : ℕ} {bytes rest : List ℕ} {xs : List Placed} (r : Reading) → ReadsTo true c p bytes xs d q rest →
    IsReadFrom d q rest r → IsReadFrom c p bytes (with_items xs r)
read_behind (Whole items place) h k = (k.0, k.1, ReadsTo-append h k.2)
read_behind (Stopped items place cause) h k =
    record { last = k.last; end = k.end; rest = k.rest; reads = ReadsTo-append h k.reads; at_end = k.at_end; fault = k.fault }

pub behind_end : (xs : List Placed) (r : Reading) →
    ((ys : List Placed) (q : ℕ) (cause : LexCause) → r ≡ Stopped ys q cause → IsAtEnd cause) → (ys : List Placed) (q : ℕ)
    (cause : LexCause) → with_items xs r ≡ Stopped ys q cause → IsAtEnd cause
behind_end xs (Whole items place) h ys q cause k = absurd cc
behind_end xs (Stopped items place d) h ys q cause k = let same : d ≡ cause = cc in subst IsAtEnd same (h items place d refl)

itself : (bytes : List ℕ) → MayBe false bytes bytes
itself bytes = ([], sym (append-nil bytes), λ e. refl)

goes_on : (bytes more : List ℕ) → MayBe false bytes (bytes ++ more)
goes_on bytes more = (more, refl, λ e. absurd cc)

no_more : (xs others : List Placed) (x : Placed) → xs ≡ (xs ++ x ∷ []) ++ others → ⊥
no_more xs others x e =
    let long : length xs ≡ length ((xs ++ x ∷ []) ++ others) = ap length e in
    absurd (omega (arith, length-append (xs ++ x ∷ []) others, length-append xs (x ∷ []), long))

-- what bytes that decide nothing at the end spell
items_end : (xs : List Placed) (o : Option LexCause) (c : Context) (p : ℕ) → items_of (with_items xs (ends_so o c p)) ≡ xs
items_end xs None c p = append-nil xs
items_end xs (Some cause) c p = append-nil xs

-- where bytes behind which nothing is decided may go on to a fault at once
refused_there : (bytes : List ℕ) (xs : List Placed) (c : Context) (p : ℕ) (rest more : List ℕ) → ReadsTo false Pcl 0 bytes xs c p rest →
    Refuses (first_of true c (rest ++ more)) → IsEnding rest (first_of true c rest) → Undecided bytes xs
refused_there bytes xs c p rest more h r ending =
    let there : IsReadFrom Pcl 0 (bytes ++ more) (Stopped xs (item_place c p) r.cause) = record {
      last = c;
      end = p;
      rest = rest ++ more;
      reads = grows true more refl h;
      at_end = refl;
      fault = subst (λ (f : First). IsFault true f c (rest ++ more) r.cause) (sym r.is) refl;
    } in
    let end = open_end c p rest ending in
    record {
      no_item = λ x d.
          let t =
          d (bytes ++ more) (Stopped xs (item_place c p) r.cause) (goes_on bytes more)
          ((read_by_rules (bytes ++ more) (Stopped xs (item_place c p) r.cause)).sound there) in
          no_more xs t.0 x t.1;
      no_fault = λ place cause s.
          let all = read_behind end.reading (closes h) end.read in
          let last =
          one_only bytes (with_items xs end.reading) (Stopped xs place cause) all
          ((read_by_rules bytes (Stopped xs place cause)).complete (s bytes (itself bytes))) in
          let at_end : IsAtEnd cause = behind_end xs end.reading end.at_end xs place cause last in
          let same =
          one_only (bytes ++ more) (Stopped xs (item_place c p) r.cause) (Stopped xs place cause) there
          ((read_by_rules (bytes ++ more) (Stopped xs place cause)).complete (s (bytes ++ more) (goes_on bytes more))) in
          let cause_is : r.cause ≡ cause = cc in
          r.other (subst IsAtEnd (sym cause_is) at_end);
    }

-- where they may go on to an item
completed_there : (bytes : List ℕ) (xs : List Placed) (c : Context) (p : ℕ) (rest more : List ℕ) (entry : Entry) (len : ℕ)
    (next : Context) →
    ReadsTo false Pcl 0 bytes xs c p rest → first_of true c (rest ++ more) ≡ Begins entry len next → first_of true c rest ≡ Open →
    Undecided bytes xs
completed_there bytes xs c p rest more entry len next h e at_end =
    let end : IsReadFrom Pcl 0 bytes (with_items xs (end_of c p rest)) =
    read_behind (end_of c p rest) (closes h) (end_read c p rest at_end) in
    let x : Placed = at (item_place c p) entry in
    let longer : ReadsTo true Pcl 0 (bytes ++ more) (xs ++ x ∷ []) next (p + len) (drop len (rest ++ more)) =
    ReadsTo-append (grows true more refl h) (begins entry len next e here) in
    record {
      no_item = λ y d.
          let t =
          d bytes (with_items xs (end_of c p rest)) (itself bytes)
          ((read_by_rules bytes (with_items xs (end_of c p rest))).sound end) in
          no_more xs t.0 y (sym (items_end xs (end_cause c rest) c p) ∙ t.1);
      no_fault = λ place cause s.
          let is = (read_by_rules (bytes ++ more) (Stopped xs place cause)).complete (s (bytes ++ more) (goes_on bytes more)) in
          let front =
          front_read (bytes ++ more) (Stopped xs place cause) (xs ++ x ∷ []) next (p + len) (drop len (rest ++ more)) longer is in
          no_more xs front.0 x front.1;
    }

undecided : (bytes : List ℕ) (xs : List Placed) (c : Context) (p : ℕ) (rest : List ℕ) → ReadsTo false Pcl 0 bytes xs c p rest →
    first_of false c rest ≡ Open → Undecided bytes xs
undecided bytes xs c p rest h e = go (opened c rest e)
  where
    go : Opened c rest → Undecided bytes xs
    go (refuses more r ending) = refused_there bytes xs c p rest more h r ending
    go (completes more entry len next f at_end) = completed_there bytes xs c p rest more entry len next h f at_end

-- ---- one answer

went_on : (old new : LexerState) (bytes : List ℕ) (items ys : List Placed) → AdvancesOver old ys new → HasRead old bytes items →
    HasRead new bytes (items ++ ys)
went_on old new bytes items ys g r = record {
  reads =
      subst (λ (w : Bool). ReadsTo w Pcl 0 bytes (items ++ ys) new.context new.place new.rest) (sym g.ended)
      (ReadsTo-append r.reads g.reads);
}

-- how the lexer went on
goes : (old : LexerState) (result : Result Lexed LexFault) (new : LexerState) → Answers old result new → AdvancesOver old (given result) new
goes old (Ok (answers.Item place item)) new a = a
goes old (Ok answers.NeedMore) new a = a.0
goes old (Ok answers.End) new a = a.0
goes old (Err fault) new a = a.0

here_read : (old new : LexerState) (bytes : List ℕ) (items : List Placed) → AdvancesOver old [] new → HasRead old bytes items →
    HasRead new bytes items
here_read old new bytes items g r =
    subst (λ (xs : List Placed). HasRead new bytes xs) (append-nil items) (went_on old new bytes items [] g r)

tells : (old : LexerState) (result : Result Lexed LexFault) (new : LexerState) → Answers old result new → (bytes : List ℕ)
    (items : List Placed) → HasRead old bytes items → Tells old.ended bytes items result
tells old (Ok (answers.Item place item)) new a bytes items r =
    let read = went_on old new bytes items (at place (view item) ∷ []) a r in
    subst (λ (w : Bool). Decides w bytes (items ++ at place (view item) ∷ [])) a.ended
    (decides new.ended bytes (items ++ at place (view item) ∷ []) new.context new.place new.rest read.reads)
tells old (Ok answers.NeedMore) new a bytes items r =
    let read = here_read old new bytes items a.0 r in (
      sym a.0.ended ∙ a.1,
      undecided bytes items new.context new.place new.rest
          (subst (λ (w : Bool). ReadsTo w Pcl 0 bytes items new.context new.place new.rest) a.1 read.reads) a.2,
    )
tells old (Ok answers.End) new a bytes items r =
    let read = here_read old new bytes items a.0 r in
    let all : ReadsTo true Pcl 0 bytes items new.context new.place [] =
    subst (λ (l : List ℕ). ReadsTo true Pcl 0 bytes items new.context new.place l) a.3 (closes read.reads) in (
      sym a.0.ended ∙ a.1,
      (read_by_rules bytes (Whole items (length bytes))).sound
          (new.context, a.2, ReadsTo-at refl refl (omega (arith, ReadsTo-place all)) all),
    )
tells old (Err fault) new a bytes items r =
    let read = here_read old new bytes items a.0 r in
    subst (λ (w : Bool). Settles w bytes (Stopped items fault.place fault.cause)) a.0.ended
    (settles new.ended bytes items new.context new.place new.rest fault.place fault.cause read.reads a.1 a.2)

-- ---- what is left

reads_left : {w : Bool} {c d : Context} {p q : ℕ} {bytes rest : List ℕ} {items : List Placed} → ReadsTo w c p bytes items d q rest →
    left d rest ≤ left c bytes
reads_left here = omega arith
reads_left (passes {whole = w} {context = c} {bytes = bytes} len next e h) =
    omega (arith, reads_left h, (passes-taken w c bytes len next e).less)
reads_left (begins {whole = w} {context = c} {bytes = bytes} entry len next e h) =
    omega (arith, reads_left h, (begins-taken w c bytes entry len next e).less)

item_left : {w : Bool} {c d : Context} {p q : ℕ} {bytes rest : List ℕ} {items : List Placed} → ReadsTo w c p bytes items d q rest →
    (items ≡ [] → ⊥) → left d rest < left c bytes
item_left here h = absurd (h refl)
item_left (passes {whole = w} {context = c} {bytes = bytes} len next e h) k =
    omega (arith, reads_left h, (passes-taken w c bytes len next e).less)
item_left (begins {whole = w} {context = c} {bytes = bytes} entry len next e h) k =
    omega (arith, reads_left h, (begins-taken w c bytes entry len next e).less)

advances : (old : LexerState) (result : Result Lexed LexFault) (new : LexerState) → Answers old result new → Advances old result new
advances old (Ok (answers.Item place item)) new a = item_left a.reads (λ e. absurd cc)
advances old (Ok answers.NeedMore) new a = reads_left a.0.reads
advances old (Ok answers.End) new a = reads_left a.0.reads
advances old (Err fault) new a = reads_left a.0.reads

-- ---- the mode

-- the modes admit the items one behind another
pub reads_mode : {w : Bool} {c d : Context} {p q : ℕ} {bytes rest : List ℕ} {items : List Placed} → ReadsTo w c p bytes items d q rest →
    mode_after (Some (mode_of c)) (entries items) ≡ Some (mode_of d)
reads_mode here = refl
reads_mode (passes {whole = w} {context = c} {bytes = bytes} {items = items} len next e h) =
    ap (λ m. mode_after (Some m) (entries items)) (sym (passes_in_mode w c bytes len next e)) ∙ reads_mode h
reads_mode (begins {whole = w} {context = c} {bytes = bytes} {items = items} entry len next e h) =
    ap (λ o. mode_after o (entries items)) (begins_in_mode w c bytes entry len next e) ∙ reads_mode h

after_none : (o : Option Mode) → mode_after o [] ≡ o
after_none None = refl
after_none (Some mode) = refl

same_mode : (m n : Mode) → Some m ≡ Some n → n ≡ m
same_mode m n e = cc

admits : (old : LexerState) (result : Result Lexed LexFault) (new : LexerState) → Answers old result new → KeepsMode old result new
admits old (Ok (answers.Item place item)) new a = sym (after_none (follows (mode_of old.context) (view item))) ∙ reads_mode a.reads
admits old (Ok answers.NeedMore) new a = same_mode (mode_of old.context) (mode_of new.context) (reads_mode a.0.reads)
admits old (Ok answers.End) new a = same_mode (mode_of old.context) (mode_of new.context) (reads_mode a.0.reads)
admits old (Err fault) new a = same_mode (mode_of old.context) (mode_of new.context) (reads_mode a.0.reads)

allows : (old : LexerState) (result : Result Lexed LexFault) (new : LexerState) → Answers old result new → Allows result new
allows old (Ok (answers.Item place item)) new a = tt
allows old (Ok answers.NeedMore) new a = (a.1, a.2)
allows old (Ok answers.End) new a = (a.1, a.2, a.3)
allows old (Err fault) new a = (a.1, a.2)

-- an answer behind a call that left all as it was
pub next_behind : (old between new : LexerState) (result : Result Lexed LexFault) → between ≡ old → IsNext between result new →
    IsNext old result new
next_behind old between new result e next = subst (λ (s : LexerState). IsNext s result new) e next

pub is_next : (old : LexerState) (result : Result Lexed LexFault) (new : LexerState) → Answers old result new → IsNext old result new
is_next old result new a =
    let g = goes old result new a in
    record {
      reads = λ bytes items r. went_on old new bytes items (given result) g r;
      advances = advances old result new a;
      total = ReadsTo-place g.reads;
      ended = g.ended;
      held = g.held;
      admits = admits old result new a;
      allows = allows old result new a;
      tells = tells old result new a;
    }

-- the mode before it admits an item that is read
pub item_admitted : (old new : LexerState) (answer : Result Lexed LexFault) → IsNext old answer new → (place : ℕ) (item : Item) →
    answer ≡ Ok (answers.Item place item) → follows (mode_of old.context) (view item) ≡ Some (mode_of new.context)
item_admitted old new answer next place item is = subst (λ a. KeepsMode old a new) is next.admits
