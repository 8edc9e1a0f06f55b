-- Lemmas on what was written of a text.
use Rattle.std.proofs.Common.{◌≡◌, ℕ, List, [], ◌∷◌, ◌++◌, take, drop, length, ◌-◌, true, not, ◌&&◌, ◌==◌, Result, Ok, Err, refl, sym, ◌∙◌}
use Rattle.std.proofs.Common.{ap, append_assoc, append-nil, subst, take-append-drop}
use Rattle.std.proofs.lemmas.List.{take_rest}
use Rattle.std.proofs.lemmas.List.Folds.{concat-append}
use Rattle.std.proofs.KnownBytes.{Appends-nil, Appends-trans}
use Rattle.std.specs.Io.KnownBytes.{Appends, Keeps, WriteAppends}
use Rattle.std.specs.List.{concat}
use Rattle.streams.specs.Outlet.{OutletState, Adds, AddsFront, Takes}

-- one more piece
pub concat_more : (pieces : List (List ℕ)) (piece : List ℕ) → concat (pieces ++ piece ∷ []) ≡ concat pieces ++ piece
concat_more pieces piece = concat-append pieces (piece ∷ []) ∙ ap (λ l. concat pieces ++ l) (append-nil piece)

pub Adds-none : (a : OutletState) → Adds a a []
Adds-none a = record { taken = sym (append-nil a.taken); contents = Appends-nil a.contents }

pub Adds-trans : (a b c : OutletState) (first second : List ℕ) → Adds a b first → Adds b c second → Adds a c (first ++ second)
Adds-trans a b c first second p q = record {
  taken = q.taken ∙ ap (λ l. l ++ second) p.taken ∙ append_assoc a.taken first second;
  contents = Appends-trans a.contents b.contents c.contents first second p.contents q.contents;
}

-- what one write of a writer of std took, where its pieces are kept
pub takes_ok : {E : Type 0} (old new : OutletState) (result : Result ℕ E) (piece : List ℕ) (n : ℕ) (pieces more : List (List ℕ)) →
    result ≡ Ok n → old.taken ≡ concat pieces → new.taken ≡ concat more → more ≡ pieces ++ take n piece ∷ []
    → WriteAppends old.contents new.contents result piece → new.failed ≡ (n == 0) && not (length piece == 0) → Takes old new result piece
takes_ok old new result piece n pieces more is before after one written failed =
    let appended : Appends old.contents new.contents (take n piece) =
    subst (λ r. WriteAppends old.contents new.contents r piece) is written in
    subst (λ r. Takes old new r piece) (sym is) (record {
      bytes = record {
        taken = after ∙ (ap concat one ∙ (concat_more pieces (take n piece) ∙ ap (λ l. l ++ take n piece) (sym before)));
        contents = appended;
      };
      failed = failed;
    })

pub takes_none : {E : Type 0} (old new : OutletState) (result : Result ℕ E) (piece : List ℕ) (e : E) → result ≡ Err e →
    new.taken ≡ old.taken → WriteAppends old.contents new.contents result piece → new.failed ≡ true → Takes old new result piece
takes_none old new result piece e is same written failed =
    let kept : Keeps old.contents new.contents = subst (λ r. WriteAppends old.contents new.contents r piece) is written in
    subst (λ r. Takes old new r piece) (sym is) (record { bytes = record { taken = same; contents = kept }; failed = failed })

-- all of the text but the rest was taken
pub record AddsBefore (old new : OutletState) (text rest : List ℕ) : Type 0 where
  pub front : List ℕ
  pub split : text ≡ front ++ rest
  pub adds : Adds old new front

pub AddsBefore-none : (a : OutletState) (text : List ℕ) → AddsBefore a a text text
AddsBefore-none a text = record { front = []; split = refl; adds = Adds-none a }

pub AddsBefore-more : (a b c : OutletState) (text rest : List ℕ) (n : ℕ) → AddsBefore a b text rest → Adds b c (take n rest) →
    AddsBefore a c text (take (length rest - n) (drop n rest))
AddsBefore-more a b c text rest n before more = record {
  front = before.front ++ take n rest;
  split =
      before.split
      ∙ (ap (λ l. before.front ++ l) (sym (take-append-drop n rest))
      ∙ (sym (append_assoc before.front (take n rest) (drop n rest))
      ∙ ap (λ l. (before.front ++ take n rest) ++ l) (sym (take_rest rest n))));
  adds = Adds-trans a b c before.front (take n rest) before.adds more;
}

pub AddsBefore-all : (a b : OutletState) (text rest : List ℕ) → AddsBefore a b text rest → rest ≡ [] → Adds a b text
AddsBefore-all a b text rest before e =
    subst (Adds a b) (sym (before.split ∙ (ap (λ l. before.front ++ l) e ∙ append-nil before.front))) before.adds

pub AddsBefore-prefix : (a b : OutletState) (text rest : List ℕ) → AddsBefore a b text rest → AddsFront a b text
AddsBefore-prefix a b text rest before = (before.front, rest, before.split, before.adds)
