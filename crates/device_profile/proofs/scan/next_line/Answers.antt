use Rattle.std.proofs.Common.{◌+◌, ◌-◌, ◌<◌, ap, sym, ◌∙◌, ◌∷◌, take, drop, length, rules, arith, subst}
use Rattle.std.proofs.lemmas.List.{take_all}
use Rattle.std.specs.Str.Lines.{lines}
use Rattle.device_profile.proofs.ScanFacts.{Lacks, lines-cut, lines-whole}
use Rattle.device_profile.proofs.scan.next_line.Goals as goal

pub returns-then-end-text-clause-line : goal.returns-then-end-text-clause-line
returns-then-end-text-clause-line c =
    let text = c.args.text.now in
    lines-whole text (search rules) (subst (Lacks 10) (take_all c.place_of-end.result text (omega arith)) c.place_of-end.ensures.before)

pub returns-clause-line : goal.returns-clause-line
returns-clause-line c =
    let text = c.args.text.now in
    let n = c.place_of-end.result in
    let inside : n < length text = search rules in
    lines-cut text n inside c.place_of-end.ensures.before (c.place_of-end.ensures.found inside)
    ∙ ap (λ l. l ∷ lines (take (length text - (n + 1)) (drop (n + 1) text))) (sym c.without_return.ensures)
