-- Marks that are counted at once.
use Rattle.std.proofs.Common.{◌≡◌, suc, ◌+◌, ◌-◌, ◌^◌, ◌<◌, min, map, length, List, [], ◌∷◌, ◌∙◌, arith}
use Rattle.page_env.specs.Mark.{Shape}
use Rattle.page_machine.specs.Event.{Marked}
use Rattle.sinks.specs.declared.counts.Counts.{Counts}
use Rattle.sinks.specs.Counts.{capped, counted, counts_after}

pub counts_marked : (shapes : List Shape) (counts : Counts) → counts.marks < 2 ^ 64 →
    counts_after (map Marked shapes) counts ≡ record counts { marks = capped (counts.marks + length shapes) }
counts_marked [] counts small =
    let same : counts.marks ≡ min (counts.marks + 0) (2 ^ 64 - 1) = omega (arith, small) in
    λ i. record counts { marks = same i }
counts_marked (shape ∷ shapes) counts small =
    let next : Counts = counted (Marked shape) counts in
    let fits : next.marks < 2 ^ 64 = omega arith in
    let sum :
    min (min (counts.marks + 1) (2 ^ 64 - 1) + length shapes) (2 ^ 64 - 1) ≡ min (counts.marks + suc (length shapes)) (2 ^ 64 - 1) =
    omega arith in
    counts_marked shapes next fits ∙ (λ i. record counts { marks = sum i })
