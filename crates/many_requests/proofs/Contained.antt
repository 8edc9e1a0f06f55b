-- Words that are one of some.
use Rattle.std.proofs.Common.{◌<◌, Bor, List, ℕ, get_or, length, map, subst}
use Rattle.std.proofs.Math.ListN.{get_or-map}
use Rattle.std.proofs.lemmas.List.{length-map}
use Rattle.std.proofs.lemmas.List.Elements.{Contains-get_or}
use Rattle.std.specs.Prelude.{Contains}

-- the word at a place
pub contained : (words : List (Bor (List ℕ))) (place : ℕ) (other : Bor (List ℕ)) → place < length words →
    Contains (map (λ word. word.now) words) (get_or words place other).now
contained words place other within =
    let named = map (λ (word : Bor (List ℕ)). word.now) words in
    let inside : place < length named = rw length-map within in
    subst (Contains named) (get_or-map (λ word. word.now) words place other) (Contains-get_or named place other.now inside)
