-- What the reads of a job gave: none, one more piece, and the end.
use Rattle.std.proofs.Common.{◌≡◌, ◌<◌, ℕ, true, false, List, [], ◌∷◌, ◌++◌, length, take, ap, sym, ◌∙◌, subst}
use Rattle.std.proofs.Common.{append-nil, append_assoc}
use Rattle.std.proofs.KnownBytes.{Consumes-nil, Consumes-trans}
use Rattle.std.proofs.lemmas.Bool.{false≢true}
use Rattle.std.specs.Io.KnownBytes.{Consumes, IsAtEnd}
use Rattle.streams.proofs.Pieces.{all_read, spell_more, spell_none}
use Rattle.streams.specs.Source.{SourceState}
use Rattle.comparison.specs.Running.{Gave}

pub gave_none : (first : SourceState) → Gave first first false []
gave_none first = record {
  pieces = [];
  given_is = sym (append-nil first.given);
  spelled = spell_none;
  consumed = Consumes-nil first.remaining;
  whole = λ e. absurd (false≢true e);
}

-- the pieces so far, where the end was not given
given_so_far : (first now : SourceState) (bytes : List ℕ) (gave : Gave first now false bytes) → now.given ≡ first.given ++ gave.pieces
given_so_far first now bytes gave = gave.given_is ∙ ap (λ ps. first.given ++ ps) (append-nil gave.pieces)

pub gave_more : (first mid now : SourceState) (bytes piece : List ℕ) → 0 < length piece → Gave first mid false bytes →
    now.given ≡ mid.given ++ piece ∷ [] → Consumes mid.remaining now.remaining piece → Gave first now false (bytes ++ piece)
gave_more first mid now bytes piece some gave given consumed = record {
  pieces = gave.pieces ++ piece ∷ [];
  given_is =
      given
      ∙ (ap (λ front. front ++ piece ∷ []) (given_so_far first mid bytes gave)
      ∙ (append_assoc first.given gave.pieces (piece ∷ [])
      ∙ ap (λ ps. first.given ++ ps) (sym (append-nil (gave.pieces ++ piece ∷ [])))));
  spelled = spell_more gave.pieces bytes piece some gave.spelled;
  consumed = Consumes-trans first.remaining mid.remaining now.remaining bytes piece gave.consumed consumed;
  whole = λ e. absurd (false≢true e);
}

-- a read that gave nothing is the end
pub gave_end : (first mid now : SourceState) (bytes buf : List ℕ) (n : ℕ) → n ≡ 0 → Gave first mid false bytes →
    now.given ≡ mid.given ++ take n buf ∷ [] → Consumes mid.remaining now.remaining (take n buf) → IsAtEnd now.remaining →
    Gave first now true bytes
gave_end first mid now bytes buf n none gave given consumed over =
    let empty : take n buf ≡ [] = ap (λ m. take m buf) none in record {
      pieces = gave.pieces;
      given_is =
          given
          ∙ (ap (λ piece. mid.given ++ piece ∷ []) empty
          ∙ (ap (λ front. front ++ [] ∷ []) (given_so_far first mid bytes gave) ∙ append_assoc first.given gave.pieces ([] ∷ [])));
      spelled = gave.spelled;
      consumed =
          subst (Consumes first.remaining now.remaining) (ap (λ piece. bytes ++ piece) empty ∙ append-nil bytes)
          (Consumes-trans first.remaining mid.remaining now.remaining bytes (take n buf) gave.consumed consumed);
      whole = λ e. all_read first.remaining mid.remaining now.remaining bytes buf n gave.consumed consumed none over;
    }
