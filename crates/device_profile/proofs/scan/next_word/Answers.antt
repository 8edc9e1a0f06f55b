use Rattle.std.proofs.Common.{◌<◌, ◌∙◌, sym, rules}
use Rattle.device_profile.proofs.ScanFacts.{place-positive, words-cut}
use Rattle.device_profile.proofs.scan.next_word.Goals as goal

pub returns-clause-word : goal.returns-clause-word
returns-clause-word c =
    let rest = c.without_spaces-rest.result.now in
    let n = c.place_of-end.result in
    let some : 0 < n = place-positive rest n (search rules) c.without_spaces-rest.ensures.start c.place_of-end.ensures.found in
    sym c.without_spaces-rest.ensures.words
    ∙ words-cut rest n some c.place_of-end.ensures.within c.place_of-end.ensures.before c.place_of-end.ensures.found
