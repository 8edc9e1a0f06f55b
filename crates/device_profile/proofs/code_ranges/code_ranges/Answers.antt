use Rattle.std.proofs.Common.{◌≡◌, ◌==◌, ◌+◌, ◌++◌, ◌∷◌, [], ℕ, List, Option, Bor, Some, None, ap, sym, ◌∙◌, rules}
use Rattle.std.specs.List.{slice_split}
use Rattle.std.specs.Option.{option_map_or}
use Rattle.device_profile.specs.FaceLine.{range_of}
use Rattle.device_profile.proofs.CodeRanges.{from, ranges_with, ranges-start, ranges-step, ranges-stop, ranges-end}
use Rattle.device_profile.proofs.code_ranges.code_ranges.Goals as goal

abbrev parts_of : Option (Bor (List ℕ)) → List (List ℕ)
parts_of rest = option_map_or (λ text. slice_split (λ b. b == 44) text.now) rest []

pub loop-rest-init : goal.loop-rest-init
loop-rest-init g c =
    let word = c.args.word.now in
    ranges-start word ∙ ap (λ r. ranges_with r 33 (slice_split (λ b. b == 44) word)) (sym c.new-ranges.ensures.items)

pub returns-in_default-range_from : goal.returns-in_default-range_from
returns-in_default-range_from g c =
    let part = c.first_part.result.0.now in
    let others = parts_of c.first_part.result.1 in
    let cut : parts_of c.loop-rest.rest ≡ part ∷ others = search rules in
    let stops : None ≡ from c.loop-rest.least (range_of part) = search rules in
    sym (c.loop-rest.invariant ∙ ranges-stop c.loop-rest.ranges.items c.loop-rest.least (parts_of c.loop-rest.rest) part others cut stops)

pub loop-rest-preserved : goal.loop-rest-preserved
loop-rest-preserved g c =
    let part = c.first_part.result.0.now in
    let others = parts_of c.first_part.result.1 in
    let range = c.in-Some-range_from.range in
    let cut : parts_of c.loop-rest.rest ≡ part ∷ others = search rules in
    let gives : Some range ≡ from c.loop-rest.least (range_of part) = search rules in
    let pushed : c.push.new.self.items ≡ c.loop-rest.ranges.items ++ range ∷ [] = search rules in
    let last : c.from-least.result ≡ range.last = search rules in
    c.loop-rest.invariant
    ∙ (ranges-step c.loop-rest.ranges.items c.loop-rest.least (parts_of c.loop-rest.rest) part others range cut gives
    ∙ (ap (λ r. ranges_with r (range.last + 1) others) (sym pushed)
    ∙ ap (λ n. ranges_with c.push.new.self.items (n + 1) others) (sym last)))

pub returns : goal.returns
returns g c =
    let ended : parts_of c.loop-rest.rest ≡ [] = search rules in
    sym (c.loop-rest.invariant
    ∙ (ap (λ p. ranges_with c.loop-rest.ranges.items c.loop-rest.least p) ended
    ∙ ranges-end c.loop-rest.ranges.items c.loop-rest.least))
