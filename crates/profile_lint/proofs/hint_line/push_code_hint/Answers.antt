use Rattle.std.proofs.Common.{◌++◌, ℕ, List, ap, codes, decimal, ◌∙◌}
use Rattle.device_profile.specs.declared.font.CodeRange.{CodeRange}
use Rattle.printer_models.specs.Face.{codes_in}
use Rattle.profile_lint.specs.HintLines.{code_hint_words, lack_words, ranges_words}
use Rattle.profile_lint.proofs.Pushed.{joined, last_is_pushed}
use Rattle.profile_lint.proofs.hint_line.push_code_hint.Goals as goal

pub returns : goal.returns
unfolding code_hint_words
returns g c =
    let old = c.args.out.now.items in
    let start : List ℕ = codes "face " ++ decimal c.args.face ++ codes ": its codes are not the " in
    let ranges = ranges_words (codes_in c.args.set) in
    last_is_pushed c.push_lack.result c.push_lack.new.out.items _ (old ++ ((start ++ ranges) ++ lack_words))
    (joined old (start ++ ranges) _ lack_words (c.in_ok-push_ranges.ensures
    ∙ ap (λ (ranges : List CodeRange). c.push_number_in.new.out.items ++ ranges_words ranges) c.codes.ensures
    ∙ joined old start _ ranges c.in_ok-push_number_in.ensures))
    c.push_lack.ensures
