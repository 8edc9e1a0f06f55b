use Rattle.std.proofs.Common.{◌≡◌, ◌==◌, ◌∷◌, [], ℕ, List, Bor, true, is_some, rules}
use Rattle.std.specs.List.{slice_split}
use Rattle.std.specs.Option.{option_map_or}
use Rattle.device_profile.proofs.CodeRanges.{no_third}
use Rattle.device_profile.proofs.code_ranges.range_from.Goals as goal

pub returns-then-is_some : goal.returns-then-is_some
returns-then-is_some c =
    let word = c.args.word.now in
    let first = c.first_part.result.0.now in
    let last = c.first_part-2.result.0.now in
    let more = c.first_part-2.result.1 in
    let parts :
    slice_split (λ b. b == 45) word ≡ first ∷ last ∷ option_map_or (λ (rest : Bor (List ℕ)). slice_split (λ b. b == 45) rest.now) more [] =
    search rules in
    let some : is_some more ≡ true = search rules in
    no_third c.args.least word first last more parts some
