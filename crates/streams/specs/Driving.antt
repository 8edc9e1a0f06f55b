-- How what takes a job in pieces comes through it.
use Rattle.std.specs.Prelude.{◌≡◌, ◌*◌, ◌≤◌, ℕ, List, [], ◌∷◌, ◌++◌, length, Option, None, Some, IfSome, Result, Ok}
use Rattle.std.specs.Prelude.{Err, ⊤}
use Rattle.std.specs.List.{concat}
use Rattle.std.specs.Io.KnownBytes.{Consumes}
use Rattle.streams.specs.declared.error.Error.{Error}
use Rattle.streams.specs.declared.error.Error.TheVariants.{Memory, Read, Write, Turns, NoProfile, Items}
use Rattle.streams.specs.Pieces.{MayBeBy, Spell}
use Rattle.streams.specs.Source.{SourceState}

-- an error of what takes the pieces
abbrev pub IsErrorOfPiece : Error → Type 0
IsErrorOfPiece Memory = Unit {0}
IsErrorOfPiece Read = ⊥
IsErrorOfPiece Write = Unit {0}
IsErrorOfPiece Turns = ⊥
IsErrorOfPiece NoProfile = ⊥
IsErrorOfPiece Items = ⊥

-- what one more piece came to, behind these bytes
abbrev pub ComesByPiece : {C A : Type 0} → (C → List ℕ → C → Type 0) → (C → A → List (List ℕ) → C → Type 0) →
    (C → Error → List ℕ → C → Type 0)
    → C → List ℕ → List ℕ → C → Result (Option A) Error → Type 0
ComesByPiece goes_on answers stops first bytes piece now (Ok None) = goes_on first (bytes ++ piece) now
ComesByPiece goes_on answers stops first bytes piece now (Ok (Some answer)) =
    (pieces : List (List ℕ)) → Spell pieces (bytes ++ piece) → answers first answer pieces now
ComesByPiece goes_on answers stops first bytes piece now (Err error) =
    stops first error (bytes ++ piece) now × IsErrorOfPiece error

-- what the end came to, behind these bytes
abbrev pub ComesByEnd : {C A : Type 0} → (C → A → List (List ℕ) → C → Type 0) → (C → Error → List ℕ → C → Type 0)
    → C → List ℕ → C → Result A Error → Type 0
ComesByEnd answers stops first bytes now (Ok answer) =
    (pieces : List (List ℕ)) → Spell pieces bytes → answers first answer (pieces ++ [] ∷ []) now
ComesByEnd answers stops first bytes now (Err error) = stops first error bytes now × IsErrorOfPiece error

-- What the reads gave so far is these bytes, in so many pieces, and they leave the answer open.
pub record IsUnderWay {C : Type 0} (goes_on : C → List ℕ → C → Type 0) (first now : C)
    (source source' : SourceState) (reads : ℕ) : Type 0 where
  pub pieces : List (List ℕ)
  pub bytes : List ℕ
  pub given_is : source'.given ≡ source.given ++ pieces
  pub joined : concat pieces ≡ bytes
  pub spelled : Spell pieces bytes
  pub count : length pieces ≡ reads
  pub consumed : Consumes source.remaining source'.remaining bytes
  pub most : length bytes ≤ 4096 * reads
  pub least : reads ≤ length bytes
  pub left_open : goes_on first bytes now

-- The answer on every job that may be by what the reads gave. What those before the last one gave left it open.
pub record IsAnswered {C A : Type 0} (goes_on : C → List ℕ → C → Type 0) (answers : C → A → List (List ℕ) → C → Type 0)
    (first now : C) (answer : A) (source source' : SourceState) : Type 0 where
  pub pieces_before : List (List ℕ)
  pub last : List ℕ
  pub given_is : source'.given ≡ source.given ++ (pieces_before ++ last ∷ [])
  pub short : length last ≤ 4096
  pub bytes : List ℕ
  pub spelled : Spell pieces_before bytes
  pub between : C
  pub left_open : goes_on first bytes between
  pub answered : answers first answer (pieces_before ++ last ∷ []) now
  pub known : IfSome source.remaining (MayBeBy (pieces_before ++ last ∷ []))

-- whose error it was: that of what takes the pieces, or of the reads, where the bytes before leave the answer open
abbrev pub StopsBy : Type 0 → (Error → Type 0) → Error → Type 0
StopsBy Open Stops Memory = Stops Memory
StopsBy Open Stops Read = Open
StopsBy Open Stops Write = Stops Write
StopsBy Open Stops Turns = Open
StopsBy Open Stops NoProfile = ⊥
StopsBy Open Stops Items = ⊥

-- what the reads before the last one gave, or what all gave, left the answer open
pub record OpenBefore {C : Type 0} (goes_on : C → List ℕ → C → Type 0) (first : C)
    (pieces : List (List ℕ)) : Type 0 where
  pub pieces_before : List (List ℕ)
  pub last : List (List ℕ)
  pub split : pieces ≡ pieces_before ++ last
  pub at_most_one : length last ≤ 1
  pub bytes : List ℕ
  pub spelled : Spell pieces_before bytes
  pub between : C
  pub left_open : goes_on first bytes between

-- The reads gave these bytes, and then it stopped. Where a read failed, or they came to no end, none gave the end;
-- and the answer was open before the last one, or behind it.
pub record IsStopped {C : Type 0} (goes_on : C → List ℕ → C → Type 0) (stops : C → Error → List ℕ → C → Type 0)
    (first now : C) (error : Error) (source source' : SourceState) : Type 0 where
  pub pieces : List (List ℕ)
  pub bytes : List ℕ
  pub given_is : source'.given ≡ source.given ++ pieces
  pub joined : concat pieces ≡ bytes
  pub consumed : Consumes source.remaining source'.remaining bytes
  pub spelled : StopsBy (Spell pieces bytes) (λ e. ⊤) error
  pub was_open : OpenBefore goes_on first pieces
  pub came : StopsBy (goes_on first bytes now) (λ e. stops first e bytes now) error
