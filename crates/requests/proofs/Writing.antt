-- Lemmas on what was written of pieces.
use Rattle.std.proofs.Common.{◌≡◌, ◌<◌, ◌+◌, suc, ℕ, List, [], ◌∷◌, ◌++◌, map, take, drop, length, get_or, true, false, sym, ◌∙◌, ap}
use Rattle.std.proofs.Common.{append_assoc, append-nil, subst, codes, decimal}
use Rattle.std.proofs.Math.Seq.{split_at}
use Rattle.std.proofs.lemmas.List.{map_more, map-append}
use Rattle.std.proofs.lemmas.List.Folds.{concat-append}
use Rattle.std.specs.List.{concat}
use Rattle.streams.proofs.OutletFacts.{Adds-trans}
use Rattle.device_profile.specs.declared.fault.Cause.{Cause}
use Rattle.streams.specs.Outlet.{OutletState, Adds, AddsFront}
use Rattle.streams.specs.Writing.{Writes}
use Rattle.requests.specs.Status.{cause_name, refusal_line}

-- the texts before a piece, its own and those behind it
pieces_split : {X : Type 0} (f : X → List ℕ) (xs : List X) (i : ℕ) (d : X) → i < length xs →
    concat (map f xs) ≡ concat (map f (take i xs)) ++ (f (get_or xs i d) ++ concat (map f (drop (suc i) xs)))
pieces_split f xs i d h =
    ap (λ l. concat (map f l)) (split_at xs i d h)
    ∙ ap concat (map-append f (take i xs) (get_or xs i d ∷ drop (suc i) xs))
    ∙ concat-append (map f (take i xs)) (f (get_or xs i d) ∷ map f (drop (suc i) xs))

pieces_next : {X : Type 0} (f : X → List ℕ) (xs : List X) (i : ℕ) (d : X) → i < length xs →
    concat (map f (take (i + 1) xs)) ≡ concat (map f (take i xs)) ++ f (get_or xs i d)
pieces_next f xs i d h =
    ap concat (map_more f xs i d h)
    ∙ concat-append (map f (take i xs)) (f (get_or xs i d) ∷ [])
    ∙ ap (λ l. concat (map f (take i xs)) ++ l) (append-nil (f (get_or xs i d)))

-- one more piece was written whole
pub pieces_more : {X : Type 0} (f : X → List ℕ) (xs : List X) (i : ℕ) (d : X) (a b c : OutletState) → i < length xs →
    Adds a b (concat (map f (take i xs))) → Adds b c (f (get_or xs i d)) → Adds a c (concat (map f (take (i + 1) xs)))
pieces_more f xs i d a b c h before more =
    subst (Adds a c) (sym (pieces_next f xs i d h)) (Adds-trans a b c (concat (map f (take i xs))) (f (get_or xs i d)) before more)

-- a front of one more piece was written
pieces_cut : {X : Type 0} (f : X → List ℕ) (xs : List X) (i : ℕ) (d : X) (a b c : OutletState) → i < length xs →
    Adds a b (concat (map f (take i xs))) → AddsFront b c (f (get_or xs i d)) → AddsFront a c (concat (map f xs))
pieces_cut f xs i d a b c h before cut =
    let behind = concat (map f (drop (suc i) xs)) in
    let front = concat (map f (take i xs)) in (
      front ++ cut.0,
      cut.1 ++ behind,
      pieces_split f xs i d h
          ∙ ap (λ l. front ++ (l ++ behind)) cut.2
          ∙ ap (λ l. front ++ l) (append_assoc cut.0 cut.1 behind)
          ∙ sym (append_assoc front cut.0 (cut.1 ++ behind)),
      Adds-trans a b c front cut.0 before cut.3,
    )

-- the writer failed at one more piece
pub Writes-cut : {X : Type 0} (f : X → List ℕ) (xs : List X) (i : ℕ) (d : X) (a b c : OutletState) → i < length xs → c.failed ≡ true →
    Adds a b (concat (map f (take i xs))) → AddsFront b c (f (get_or xs i d)) → Writes a c (concat (map f xs))
Writes-cut f xs i d a b c h failure before cut = record {
  front = pieces_cut f xs i d a b c h before cut;
  whole = λ working. let bad : true ≡ false = sym failure ∙ working in absurd cc;
}

to_the_left : (a b c d e f g : List ℕ) → a ++ (b ++ (c ++ (d ++ (e ++ (f ++ g))))) ≡ a ++ b ++ c ++ d ++ e ++ f ++ g
to_the_left a b c d e f g = sym (
    append_assoc (a ++ b ++ c ++ d ++ e) f g ∙ append_assoc (a ++ b ++ c ++ d) e (f ++ g) ∙ append_assoc (a ++ b ++ c) d (e ++ (f ++ g))
    ∙ append_assoc (a ++ b) c (d ++ (e ++ (f ++ g))) ∙ append_assoc a b (c ++ (d ++ (e ++ (f ++ g))))
    )

-- the pieces of a refusal's line
pub Writes-refusal : (a b : OutletState) (number line : ℕ) (cause : Cause) (first second third : List ℕ) → first ≡ decimal number →
    second ≡ decimal line → third ≡ cause_name cause →
    Writes a b (codes "ERROR profile " ++ (first ++ (codes " " ++ (second ++ (codes " " ++ (third ++ codes "\n")))))) →
    Writes a b (refusal_line number line cause)
Writes-refusal a b number line cause first second third e1 e2 e3 written =
    subst (Writes a b) (
    to_the_left (codes "ERROR profile ") first (codes " ") second (codes " ") third (codes "\n")
    ∙ ap (λ l. codes "ERROR profile " ++ l ++ codes " " ++ second ++ codes " " ++ third ++ codes "\n") e1
    ∙ ap (λ l. codes "ERROR profile " ++ decimal number ++ codes " " ++ l ++ codes " " ++ third ++ codes "\n") e2
    ∙ ap (λ l. codes "ERROR profile " ++ decimal number ++ codes " " ++ decimal line ++ codes " " ++ l ++ codes "\n") e3
    ) written
