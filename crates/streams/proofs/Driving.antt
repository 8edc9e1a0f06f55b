-- The reads of a job: its start, one more piece, and its end.
use Rattle.std.specs.Prelude.{IsErrOf, ⊤}
use Rattle.streams.specs.Errors.{is_err_of_write, is_write}
use Rattle.std.proofs.Common.{Bool, false, ◌≡◌, ◌≢◌, ◌+◌, ◌≤◌, ◌<◌, ℕ, List, [], ◌∷◌, ◌++◌, length, take, refl, ap, sym, ◌∙◌, subst}
use Rattle.std.proofs.Common.{append-nil, Option, None, Some, Result, Ok, Err, IfOk, IfErr, arith, length-append}
use Rattle.std.specs.Io.KnownBytes.{Consumes, IsAtEnd, Keeps}
use Rattle.std.specs.List.{concat}
use Rattle.std.proofs.KnownBytes.{Consumes-kept, Consumes-nil, Consumes-trans}
use Rattle.streams.specs.declared.error.Error.{Error}
use Rattle.streams.specs.declared.error.Error.TheVariants.{Memory, Read, Write, Turns, NoProfile, Items}
use Rattle.streams.specs.Pieces.{ByReads, MayBeBy, Spell}
use Rattle.streams.specs.Source.{SourceState}
use Rattle.streams.specs.Driving.{ComesByEnd, ComesByPiece, IsAnswered, IsErrorOfPiece, IsStopped, IsUnderWay, OpenBefore, StopsBy}
use Rattle.streams.proofs.OutletFacts.{concat_more}
use Rattle.streams.proofs.Pieces.{all_read, at_front, at_job, by_length, given_more, spell_none, spell_more}

-- an error of what takes the pieces stops it there
own_error : (Open : Type 0) (Stops : Error → Type 0) (error : Error) → Stops error → IsErrorOfPiece error → StopsBy Open Stops error
own_error Open Stops Memory h own = h
own_error Open Stops Read h own = absurd own
own_error Open Stops Write h own = h
own_error Open Stops Turns h own = absurd own
own_error Open Stops NoProfile h own = absurd own
own_error Open Stops Items h own = absurd own

module _ {C : Type 0} (goes_on : C → List ℕ → C → Type 0) (stops : C → Error → List ℕ → C → Type 0) (first : C) (source : SourceState) where
  -- nothing was read
  pub under_way_none : goes_on first [] first → IsUnderWay goes_on first first source source 0
  under_way_none fresh = record {
    pieces = [];
    bytes = [];
    given_is = sym (append-nil source.given);
    joined = refl;
    spelled = spell_none;
    count = refl;
    consumed = Consumes-nil source.remaining;
    most = omega arith;
    least = omega arith;
    left_open = fresh;
  }

  module _ (now : C) (mid : SourceState) (reads : ℕ) (way : IsUnderWay goes_on first now source mid reads) where
    -- all that was read left it open
    open_now : OpenBefore goes_on first way.pieces
    open_now = record {
      pieces_before = way.pieces;
      last = [];
      split = sym (append-nil way.pieces);
      at_most_one = omega arith;
      bytes = way.bytes;
      spelled = way.spelled;
      between = now;
      left_open = way.left_open;
    }

    -- no more is read
    pub stopped_turning : IsStopped goes_on stops first now Turns source mid
    stopped_turning = record {
      pieces = way.pieces;
      bytes = way.bytes;
      given_is = way.given_is;
      joined = way.joined;
      consumed = way.consumed;
      spelled = way.spelled;
      was_open = open_now;
      came = way.left_open;
    }

    -- the job is as long as it has reads
    pub as_long : {n : ℕ} → n ≤ reads → ByReads source mid (λ job. n ≤ length job)
    as_long few = by_length source mid way.pieces way.bytes way.given_is way.spelled way.consumed (omega (arith, few, way.least))

    module _ (after : SourceState) where
      -- a read failed
      pub stopped_unread : after.given ≡ mid.given ++ [] → Keeps mid.remaining after.remaining →
          IsStopped goes_on stops first now Read source after
      stopped_unread none keeps = record {
        pieces = way.pieces;
        bytes = way.bytes;
        given_is = none ∙ (append-nil mid.given ∙ way.given_is);
        joined = way.joined;
        consumed = Consumes-kept source.remaining mid.remaining after.remaining way.bytes way.consumed keeps;
        spelled = way.spelled;
        was_open = open_now;
        came = way.left_open;
      }

      module _ (piece : List ℕ) (given_is : after.given ≡ mid.given ++ piece ∷ [])
          (consumed : Consumes mid.remaining after.remaining piece) where
        all_given : after.given ≡ source.given ++ (way.pieces ++ piece ∷ [])
        all_given = given_more source.given mid.given after.given way.pieces piece way.given_is given_is

        all_joined : concat (way.pieces ++ piece ∷ []) ≡ way.bytes ++ piece
        all_joined = concat_more way.pieces piece ∙ ap (λ l. l ++ piece) way.joined

        all_consumed : Consumes source.remaining after.remaining (way.bytes ++ piece)
        all_consumed = Consumes-trans source.remaining mid.remaining after.remaining way.bytes piece way.consumed consumed

        -- the piece came to an error
        pub stopped_by_piece : (next : C) (error : Error) → stops first error (way.bytes ++ piece) next → IsErrorOfPiece error →
            IsStopped goes_on stops first next error source after
        stopped_by_piece next error h own = record {
          pieces = way.pieces ++ piece ∷ [];
          bytes = way.bytes ++ piece;
          given_is = all_given;
          joined = all_joined;
          consumed = all_consumed;
          spelled = own_error (Spell (way.pieces ++ piece ∷ []) (way.bytes ++ piece)) (λ e. ⊤) error tt own;
          was_open = record {
            pieces_before = way.pieces;
            last = piece ∷ [];
            split = refl;
            at_most_one = omega arith;
            bytes = way.bytes;
            spelled = way.spelled;
            between = now;
            left_open = way.left_open;
          };
          came = own_error (goes_on first (way.bytes ++ piece) next) (λ e. stops first e (way.bytes ++ piece) next) error h own;
        }

        module _ (some : 0 < length piece) (short : length piece ≤ 4096) where
          all_spelled : Spell (way.pieces ++ piece ∷ []) (way.bytes ++ piece)
          all_spelled = spell_more way.pieces way.bytes piece some way.spelled

          -- the answer is still open
          pub under_way_more : (next : C) → goes_on first (way.bytes ++ piece) next → IsUnderWay goes_on first next source after (reads + 1)
          under_way_more next goes = record {
            pieces = way.pieces ++ piece ∷ [];
            bytes = way.bytes ++ piece;
            given_is = all_given;
            joined = all_joined;
            spelled = all_spelled;
            count = length-append way.pieces (piece ∷ []) ∙ ap (λ n. n + 1) way.count;
            consumed = all_consumed;
            most = omega (arith, way.most, short, length-append way.bytes piece);
            least = omega (arith, way.least, some, length-append way.bytes piece);
            left_open = goes;
          }

          pub still_open : {A : Type 0} (answers : C → A → List (List ℕ) → C → Type 0) (next : C) (came : Option A) → came ≡ None →
              ComesByPiece goes_on answers stops first way.bytes piece next (Ok came) →
              IsUnderWay goes_on first next source after (reads + 1)
          still_open answers next came is h =
              under_way_more next (subst (λ o. ComesByPiece goes_on answers stops first way.bytes piece next (Ok o)) is h)

          -- the piece came to the answer
          pub answered_by_piece : {A : Type 0} (answers : C → A → List (List ℕ) → C → Type 0) (next : C) (came : Option A) (answer : A) →
              came ≡ Some answer → ComesByPiece goes_on answers stops first way.bytes piece next (Ok came) →
              IsAnswered goes_on answers first next answer source after
          answered_by_piece answers next came answer is h = record {
            pieces_before = way.pieces;
            last = piece;
            given_is = all_given;
            short = short;
            bytes = way.bytes;
            spelled = way.spelled;
            between = now;
            left_open = way.left_open;
            answered =
                subst (λ o. ComesByPiece goes_on answers stops first way.bytes piece next (Ok o)) is h
                (way.pieces ++ piece ∷ []) all_spelled;
            known = at_front (way.pieces ++ piece ∷ []) source.remaining after.remaining (way.bytes ++ piece) all_consumed
                (λ more. subst (λ ps. MayBeBy ps ((way.bytes ++ piece) ++ more)) (append-nil (way.pieces ++ piece ∷ []))
                (all_spelled.led [] more tt));
          }

      -- the end was read
      module _ (buf : List ℕ) (n : ℕ) (none : n ≡ 0) (given_is : after.given ≡ mid.given ++ take n buf ∷ [])
          (consumed : Consumes mid.remaining after.remaining (take n buf)) where
        no_byte : take n buf ≡ []
        no_byte = ap (λ m. take m buf) none

        pub stopped_by_end : {A : Type 0} (answers : C → A → List (List ℕ) → C → Type 0) (next : C) (result : Result A Error) →
            ComesByEnd answers stops first way.bytes next result →
            IfErr result (λ error. IsStopped goes_on stops first next error source after)
        stopped_by_end answers next (Ok answer) h = tt
        stopped_by_end answers next (Err error) h =
            let same : way.bytes ≡ way.bytes ++ take n buf = sym (ap (λ l. way.bytes ++ l) no_byte ∙ append-nil way.bytes) in
            stopped_by_piece (take n buf) given_is consumed next error (subst (λ l. stops first error l next) same h.0) h.1

        pub answered_by_end : {A : Type 0} (answers : C → A → List (List ℕ) → C → Type 0) (next : C) (result : Result A Error) →
            IsAtEnd after.remaining → ComesByEnd answers stops first way.bytes next result →
            IfOk result (λ answer. IsAnswered goes_on answers first next answer source after)
        answered_by_end answers next (Err error) at_end h = tt
        answered_by_end answers next (Ok answer) at_end h = record {
          pieces_before = way.pieces;
          last = [];
          given_is =
              given_more source.given mid.given after.given way.pieces [] way.given_is (given_is ∙ ap (λ l. mid.given ++ l ∷ []) no_byte);
          short = omega arith;
          bytes = way.bytes;
          spelled = way.spelled;
          between = now;
          left_open = way.left_open;
          answered = h way.pieces way.spelled;
          known =
              at_job (way.pieces ++ [] ∷ []) source.remaining way.bytes
              (subst (MayBeBy (way.pieces ++ [] ∷ [])) (append-nil way.bytes) (way.spelled.led ([] ∷ []) [] refl))
              (all_read source.remaining mid.remaining after.remaining way.bytes buf n way.consumed consumed none at_end);
        }

-- ---- what an answer or a stop gives

pub answer_gives : {A E : Type 0} {P Q : A → Type 0} (r : Result A E) → IfOk r P → ((x : A) → P x → Q x) → IfOk r Q
answer_gives (Ok x) h f = f x h
answer_gives (Err e) h f = tt

pub stop_gives : {A E : Type 0} {P Q : E → Type 0} (r : Result A E) → IfErr r P → ((e : E) → P e → Q e) → IfErr r Q
stop_gives (Ok x) h f = tt
stop_gives (Err e) h f = f e h

-- by whose error it was
pub by_whose : (Open : Type 0) (Stops : Error → Type 0) (P : Error → Type 0) (e : Error) → StopsBy Open Stops e → (Open → P Read) →
    (Open → P Turns) → ((e : Error) → Stops e → P e) → P e
by_whose Open Stops P Memory h read turns own = own Memory h
by_whose Open Stops P Read h read turns own = read h
by_whose Open Stops P Write h read turns own = own Write h
by_whose Open Stops P Turns h read turns own = turns h
by_whose Open Stops P NoProfile h read turns own = absurd h
by_whose Open Stops P Items h read turns own = absurd h

-- no error is that of an empty fleet
pub never_none : (Open : Type 0) (Stops : Error → Type 0) (e : Error) → StopsBy Open Stops e → e ≢ NoProfile
never_none Open Stops e h = λ is. subst (StopsBy Open Stops) is h

-- nor that of a limit
pub never_items : (Open : Type 0) (Stops : Error → Type 0) (e : Error) → StopsBy Open Stops e → e ≢ Items
never_items Open Stops e h = λ is. subst (StopsBy Open Stops) is h

-- an error that is not of the reads is none of theirs
pub own_read : (Open : Type 0) (Stops : Error → Type 0) (e : Error) → StopsBy Open Stops e → StopsBy Open (λ e. Stops e × (e ≡ Read → ⊥)) e
own_read Open Stops Memory h = (h, λ is. absurd cc)
own_read Open Stops Read h = h
own_read Open Stops Write h = (h, λ is. absurd cc)
own_read Open Stops Turns h = h
own_read Open Stops NoProfile h = h
own_read Open Stops Items h = h

-- two facts of the reads go together
pub stops_both : (P Q : Type 0) (Stops : Error → Type 0) (e : Error) → StopsBy P Stops e → StopsBy Q (λ e. ⊤) e → StopsBy (P × Q) Stops e
stops_both P Q Stops Memory p q = p
stops_both P Q Stops Read p q = (p, q)
stops_both P Q Stops Write p q = p
stops_both P Q Stops Turns p q = (p, q)
stops_both P Q Stops NoProfile p q = p
stops_both P Q Stops Items p q = p

-- what follows from an error
pub of_error : {A : Type 0} (r : Result A Error) (e : Error) (Q : Error → Type 0) → IfErr r (λ e. Q e) → IsErrOf r e → Q e
of_error r e Q h is = subst (λ r. IfErr r Q) is h

-- what follows from an error of a read
pub of_read : {A : Type 0} (r : Result A Error) (Q : Error → Type 0) → IfErr r (λ e. Q e) → IsErrOf r Read → Q Read
of_read r Q h is = subst (λ r. IfErr r Q) is h

-- whether a write failed, by the result
pub write_status : {A : Type 0} (r : Result A Error) (failed : Bool) → IfOk r (λ _. failed ≡ false) → IfErr r (λ e. failed ≡ is_write e) →
    failed ≡ is_err_of_write r
write_status (Ok x) failed ok err = ok
write_status (Err e) failed ok err = err
