-- Lemmas on the front of what a source has.
use Rattle.std.proofs.Common.{◌≡◌, ◌≤◌, ◌<◌, ℕ, List, [], ◌∷◌, ◌++◌, take, length, Option, Some, None, IfSome, refl, sym, ◌∙◌, ap}
use Rattle.std.proofs.Common.{append-nil, subst}
use Rattle.std.proofs.Math.Seq.{take-append_seam}
use Rattle.std.proofs.lemmas.List.{take_all}
use Rattle.std.specs.Io.KnownBytes.{Consumes, IsAtEnd}
use Rattle.std.proofs.KnownBytes.{Consumes-trans}
use Rattle.streams.specs.Pieces.{ByReads, MayBeBy, Spell}
use Rattle.streams.specs.Source.{SourceState}
use Rattle.named_inputs.specs.Texts.{IsTextBy}
use Rattle.streams.proofs.Pieces.{spell_none, spell_more, given_more, all_read, by_end, by_front}

-- a source that gave so many bytes had them in front
pub front_given : (a b : Option (List ℕ)) (front : List ℕ) (most : ℕ) → Consumes a b front → length front ≡ most →
    IfSome a (λ input. front ≡ take most input)
front_given None b front most given is = tt
front_given (Some x) None front most given is = absurd given
front_given (Some x) (Some y) front most given is =
    sym (ap (λ n. take n x) (sym is) ∙ ap (take (length front)) given ∙ take-append_seam front y)

all_given : (a b : Option (List ℕ)) (front : List ℕ) (most : ℕ) → Consumes a b front → IsAtEnd b → length front ≤ most →
    IfSome a (λ input. front ≡ take most input)
all_given None b front most given end few = tt
all_given (Some x) None front most given end few = absurd given
all_given (Some x) (Some y) front most given end few =
    sym (ap (take most) (given ∙ ap (λ l. front ++ l) end ∙ append-nil front) ∙ take_all most front few)

-- a source that gave these bytes, then none, and is at its end had these bytes
pub ended_after : (a b c : Option (List ℕ)) (front piece : List ℕ) (n most : ℕ) → Consumes a b front → Consumes b c (take n piece) → n ≡ 0 →
    IsAtEnd c → length front ≤ most → IfSome a (λ input. front ≡ take most input)
ended_after a b c front piece n most first second none end few =
    let same : front ++ take n piece ≡ front = ap (λ m. front ++ take m piece) none ∙ append-nil front in
    all_given a c front most (subst (Consumes a c) same (Consumes-trans a b c front (take n piece) first second)) end few

-- what was not read took nothing
pub Consumes-nothing : (a : Option (List ℕ)) → Consumes a a []
Consumes-nothing None = tt
Consumes-nothing (Some x) = refl

-- a read that gave none took none
pub Consumes-none : (a b c : Option (List ℕ)) (front piece : List ℕ) (n : ℕ) → Consumes a b front → Consumes b c (take n piece) → n ≡ 0 →
    Consumes a c front
Consumes-none a b c front piece n first second none =
    let same : front ++ take n piece ≡ front = ap (λ m. front ++ take m piece) none ∙ append-nil front in
    subst (Consumes a c) same (Consumes-trans a b c front (take n piece) first second)

-- reads gave these bytes, and no end
pub record HasGiven (old new : SourceState) (bytes : List ℕ) : Type 0 where
  pub pieces : List (List ℕ)
  pub given : new.given ≡ old.given ++ pieces
  pub spelled : Spell pieces bytes

pub HasGiven-none : (old : SourceState) → HasGiven old old []
HasGiven-none old = record { pieces = []; given = sym (append-nil old.given); spelled = spell_none }

pub HasGiven-more : (old mid new : SourceState) (bytes piece : List ℕ) → HasGiven old mid bytes → new.given ≡ mid.given ++ piece ∷ [] →
    0 < length piece → HasGiven old new (bytes ++ piece)
HasGiven-more old mid new bytes piece before more some = record {
  pieces = before.pieces ++ piece ∷ [];
  given = given_more old.given mid.given new.given before.pieces piece before.given more;
  spelled = spell_more before.pieces bytes piece some before.spelled;
}

-- the front of every input that may be by the reads: where these gave so many bytes
pub front_by_length : (old new : SourceState) (front : List ℕ) (most : ℕ) → HasGiven old new front →
    Consumes old.remaining new.remaining front → length front ≡ most → ByReads old new (λ input. front ≡ take most input)
front_by_length old new front most reads consumed full =
    by_front old new reads.pieces front (λ input. front ≡ take most input) reads.given reads.spelled consumed
    (λ more. sym (take-append_seam front more) ∙ ap (λ n. take n (front ++ more)) full)

-- and where they found the end
pub front_by_end : (old mid new : SourceState) (front piece : List ℕ) (n most : ℕ) → HasGiven old mid front →
    new.given ≡ mid.given ++ take n piece ∷ [] → Consumes old.remaining mid.remaining front →
    Consumes mid.remaining new.remaining (take n piece) → n ≡ 0 → IsAtEnd new.remaining → length front ≤ most →
    ByReads old new (λ input. front ≡ take most input)
front_by_end old mid new front piece n most reads more first second none end few =
    by_end old mid new reads.pieces front piece n (λ input. front ≡ take most input) reads.given more none reads.spelled
    (all_read old.remaining mid.remaining new.remaining front piece n first second none end) (sym (take_all most front few))

-- what was read of a source of which nothing was read before is its text
pub text_by : (old new : SourceState) (text : List ℕ) → old.given ≡ [] → ByReads old new (λ input. text ≡ take 65_537 input) →
    IsTextBy new.given text
text_by old new text unread by =
    λ input may. by.each input (subst (λ pieces. MayBeBy pieces input) (by.given ∙ ap (λ given. given ++ by.pieces) unread) may)
