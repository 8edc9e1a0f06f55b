-- The pieces that reads gave: their bytes, and the jobs that may be by them.
use Rattle.std.proofs.Common.{◌≡◌, ◌<◌, ◌≤◌, ℕ, List, [], ◌∷◌, ◌++◌, length, take, refl, ap, sym, ◌∙◌, subst, append-nil, append_assoc}
use Rattle.std.proofs.Common.{length-append, Option, None, Some, IfSome, arith, ◌⊎◌, inl, inr}
use Rattle.std.specs.Io.KnownBytes.{Consumes, IsAtEnd}
use Rattle.std.proofs.KnownBytes.{Consumes-trans, Consumes-all}
use Rattle.streams.specs.Pieces.{MayBeBy, ByReads, Spell}
use Rattle.streams.specs.Source.{SourceState}

-- no piece
pub spell_none : Spell [] []
spell_none = record { leads = λ later job h. (job, refl, h); led = λ later more h. h }

-- a piece that is not empty stands at the front
front_of : (piece : List ℕ) (later : List (List ℕ)) (job : List ℕ) → 0 < length piece → MayBeBy (piece ∷ later) job →
    (more : List ℕ) × (job ≡ piece ++ more) × MayBeBy later more
front_of [] later job some h = absurd (omega (arith, some))
front_of (b ∷ bs) later job some h = h

in_front : (piece : List ℕ) (later : List (List ℕ)) (more : List ℕ) → 0 < length piece → MayBeBy later more →
    MayBeBy (piece ∷ later) (piece ++ more)
in_front [] later more some h = absurd (omega (arith, some))
in_front (b ∷ bs) later more some h = (more, refl, h)

-- one more piece
pub spell_more : (pieces : List (List ℕ)) (bytes piece : List ℕ) → 0 < length piece → Spell pieces bytes →
    Spell (pieces ++ piece ∷ []) (bytes ++ piece)
spell_more pieces bytes piece some spelled = record {
  leads = λ later job h.
      let first = spelled.leads (piece ∷ later) job (subst (λ ps. MayBeBy ps job) (append_assoc pieces (piece ∷ []) later) h) in
      let second = front_of piece later first.0 some first.2 in
      (second.0, first.1 ∙ ap (λ more. bytes ++ more) second.1 ∙ sym (append_assoc bytes piece second.0), second.2);
  led = λ later more h.
      let both = spelled.led (piece ∷ later) (piece ++ more) (in_front piece later more some h) in
      subst (λ ps. MayBeBy ps (bytes ++ piece ++ more)) (sym (append_assoc pieces (piece ∷ []) later))
      (subst (MayBeBy (pieces ++ piece ∷ later)) (sym (append_assoc bytes piece more)) both);
}

-- one more piece was given
pub given_more : (before mid after pieces : List (List ℕ)) (piece : List ℕ) → mid ≡ before ++ pieces → after ≡ mid ++ piece ∷ [] →
    after ≡ before ++ (pieces ++ piece ∷ [])
given_more before mid after pieces piece first second =
    second ∙ ap (λ front. front ++ piece ∷ []) first ∙ append_assoc before pieces (piece ∷ [])

pub at_job : (pieces : List (List ℕ)) (before : Option (List ℕ)) (bytes : List ℕ) → MayBeBy pieces bytes →
    IfSome before (λ job. bytes ≡ job) → IfSome before (MayBeBy pieces)
at_job pieces None bytes h same = tt
at_job pieces (Some job) bytes h same = subst (MayBeBy pieces) same h

-- what was read is the job, where no byte is left
pub all_read : (before mid after : Option (List ℕ)) (bytes piece : List ℕ) (n : ℕ) → Consumes before mid bytes →
    Consumes mid after (take n piece) → n ≡ 0 → IsAtEnd after → IfSome before (λ job. bytes ≡ job)
all_read before mid after bytes piece n first second none end =
    let e : bytes ++ take n piece ≡ bytes = ap (λ m. bytes ++ take m piece) none ∙ append-nil bytes in
    Consumes-all before after bytes [] bytes
    (subst (Consumes before after) e (Consumes-trans before mid after bytes (take n piece) first second)) end refl

-- a read found the end behind these bytes, so the job is these
pub by_end : (before mid after : SourceState) (pieces : List (List ℕ)) (bytes piece : List ℕ) (n : ℕ) (P : List ℕ → Type 0)
    → mid.given ≡ before.given ++ pieces → after.given ≡ mid.given ++ take n piece ∷ [] → n ≡ 0 → Spell pieces bytes
    → IfSome before.remaining (λ job. bytes ≡ job) → P bytes → ByReads before after P
by_end before mid after pieces bytes piece n P first second none spelled same holds =
    let last : after.given ≡ mid.given ++ [] ∷ [] = second ∙ ap (λ m. mid.given ++ take m piece ∷ []) none in
    record {
      pieces = pieces ++ [] ∷ [];
      given = given_more before.given mid.given after.given pieces [] first last;
      each = λ job h.
          let split = spelled.leads ([] ∷ []) job h in
          subst P (sym (split.1 ∙ ap (λ more. bytes ++ more) split.2 ∙ append-nil bytes)) holds;
      known =
          at_job (pieces ++ [] ∷ []) before.remaining bytes
          (subst (MayBeBy (pieces ++ [] ∷ [])) (append-nil bytes) (spelled.led ([] ∷ []) [] refl)) same;
    }

pub at_front : (pieces : List (List ℕ)) (before after : Option (List ℕ)) (bytes : List ℕ) → Consumes before after bytes →
    ((more : List ℕ) → MayBeBy pieces (bytes ++ more)) → IfSome before (MayBeBy pieces)
at_front pieces None after bytes consumed h = tt
at_front pieces (Some job) None bytes consumed h = absurd consumed
at_front pieces (Some job) (Some rest) bytes consumed h = subst (MayBeBy pieces) (sym consumed) (h rest)

-- whatever follows
pub by_front : (before after : SourceState) (pieces : List (List ℕ)) (bytes : List ℕ) (P : List ℕ → Type 0)
    → after.given ≡ before.given ++ pieces → Spell pieces bytes → Consumes before.remaining after.remaining bytes
    → ((more : List ℕ) → P (bytes ++ more)) → ByReads before after P
by_front before after pieces bytes P given spelled consumed holds = record {
  pieces = pieces;
  given = given;
  each = λ job h.
      let split = spelled.leads [] job (subst (λ ps. MayBeBy ps job) (sym (append-nil pieces)) h) in
      subst P (sym split.1) (holds split.0);
  known =
      at_front pieces before.remaining after.remaining bytes consumed
      (λ more. subst (λ ps. MayBeBy ps (bytes ++ more)) (append-nil pieces) (spelled.led [] more tt));
}

-- the job begins with the bytes, so it has as many
pub by_length : (before after : SourceState) (pieces : List (List ℕ)) (bytes : List ℕ) {n : ℕ}
    → after.given ≡ before.given ++ pieces → Spell pieces bytes → Consumes before.remaining after.remaining bytes → n ≤ length bytes
    → ByReads before after (λ job. n ≤ length job)
by_length before after pieces bytes {n} given spelled consumed long =
    by_front before after pieces bytes (λ job. n ≤ length job) given spelled consumed
    (λ more. omega (arith, long, length-append bytes more))

-- what is true of every job that may be is true of the job that was known
pub known_by : (old new : SourceState) (P : List ℕ → Type 0) → ByReads old new P → IfSome old.remaining P
known_by old new P by = it old.remaining by.known
  where
    it : (remaining : Option (List ℕ)) → IfSome remaining (MayBeBy by.pieces) → IfSome remaining P
    it None known = tt
    it (Some job) known = by.each job known

-- ---- a verdict before the end

-- some piece is empty, or whatever follows some bytes may be the job
abbrev Open : List (List ℕ) → Type 0
Open pieces = (bytes : List ℕ) × ((more : List ℕ) → MayBeBy pieces (bytes ++ more))

abbrev Ended : List (List ℕ) → Type 0
Ended pieces = (front : List (List ℕ)) × (later : List (List ℕ)) × (pieces ≡ front ++ [] ∷ later)

behind : (piece : List ℕ) (pieces : List (List ℕ)) → 0 < length piece → (Ended pieces ⊎ Open pieces) →
    Ended (piece ∷ pieces) ⊎ Open (piece ∷ pieces)
behind piece pieces some (inl ended) = inl (piece ∷ ended.0, ended.1, ap (λ ps. piece ∷ ps) ended.2)
behind piece pieces some (inr open_) =
    inr (
      piece ++ open_.0,
      λ more. subst (MayBeBy (piece ∷ pieces)) (sym (append_assoc piece open_.0 more))
          (in_front piece pieces (open_.0 ++ more) some (open_.1 more)),
    )

pub ended_or_open : (pieces : List (List ℕ)) → Ended pieces ⊎ Open pieces
ended_or_open [] = inr ([], λ more. tt)
ended_or_open ([] ∷ pieces) = inl ([], pieces, refl)
ended_or_open ((b ∷ bs) ∷ pieces) = behind (b ∷ bs) pieces (omega arith) (ended_or_open pieces)
