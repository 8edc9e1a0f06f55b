use Rattle.std.proofs.Common.{◌++◌, ℕ, List, codes, decimal, ◌∙◌}
use Rattle.profile_lint.specs.HintLines.{differ_words, number_hint_words, numbers_words}
use Rattle.profile_lint.proofs.Pushed.{joined, last_is_pushed}
use Rattle.profile_lint.proofs.hint_line.push_number_hint.Goals as goal

pub returns : goal.returns
unfolding number_hint_words
returns g c =
    let old = c.args.out.now.items in
    let start : List ℕ = codes "face " ++ decimal c.args.face ++ codes ": advance, ascent and descent are " in
    let own = numbers_words c.args.own in
    let wanted = numbers_words c.args.wanted in
    last_is_pushed c.push_differ.result c.push_differ.new.out.items _
    (old ++ ((((start ++ own) ++ codes ", but ") ++ wanted) ++ differ_words))
    (joined old (((start ++ own) ++ codes ", but ") ++ wanted) _ differ_words (c.in_ok-push_numbers-2.ensures
    ∙ joined old ((start ++ own) ++ codes ", but ") _ wanted (c.in_ok-extend_from_slice.ensures.items
    ∙ joined old (start ++ own) _ (codes ", but ") (c.in_ok-push_numbers.ensures
    ∙ joined old start _ own c.in_ok-push_number_in.ensures))))
    c.push_differ.ensures
