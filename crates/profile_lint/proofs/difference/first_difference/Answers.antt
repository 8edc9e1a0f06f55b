use Rattle.std.proofs.Common.{◌≡◌, ◌+◌, ◌-◌, ◌<◌, ◌∙◌, ◌∷◌, ℕ, List, Some, ap, sym, drop, get_or, length, take}
use Rattle.std.proofs.lemmas.List.{drop_more}
use Rattle.std.specs.Option.{option_map_or}
use Rattle.device_profile.specs.Printer.{Printer}
use Rattle.profile_lint.specs.Differences.{difference_from}
use Rattle.profile_lint.proofs.difference.first_difference.Goals as goal

next_other : (first : Printer) (others : List Printer) (i : ℕ) (other : Printer) → i < length others → other ≡ get_or others i other →
    difference_from (i + 1) first (drop i others) ≡ difference_from (i + 1) first (other ∷ drop (i + 1) others)
next_other first others i other within is =
    ap (difference_from (i + 1) first) (drop_more others i other within ∙ ap (λ o. o ∷ drop (i + 1) others) (sym is))

pub loop-index-preserved : goal.loop-index-preserved
loop-index-preserved g c =
    let i = c.loop-index.index in
    let first = c.first-item.result in
    let others = take (length c.args.profiles.now - 1) (drop 1 c.args.profiles.now) in
    let rest = difference_from (i + 1 + 1) first (drop (i + 1) others) in
    sym
    (next_other first others i c.index-others-index.result c.loop-index-test.true c.index-others-index.is
    ∙ ap (λ found. option_map_or (λ difference. Some (record { other = i + 1; difference = difference })) found rest)
    (sym c.difference_of.ensures ∙ c.in_default-difference_of.is))
    ∙ c.loop-index.invariant
