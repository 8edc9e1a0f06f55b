-- Lemmas on groups of printers.
use Rattle.std.proofs.Common.{◌≡◌, ◌∙◌, ℕ, Bool, true, false, List, ap, drop, map, refl, sym, take}
use Rattle.std.proofs.lemmas.List.{drop-map, take-map}
use Rattle.job_reports.specs.Groups.{of_group}

-- the names of a group are those of its elements
pub map_of_group : {X Y : Type 0} (f : X → Y) (is_each : Bool) (all : List X) (number : ℕ) →
    map f (of_group is_each all number) ≡ of_group is_each (map f all) number
map_of_group f true all number = sym (take-map f 1 (drop number all)) ∙ ap (take 1) (sym (drop-map f number all))
map_of_group f false all number = refl
