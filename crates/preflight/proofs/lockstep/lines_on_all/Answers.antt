use Rattle.std.proofs.Common.{◌≡◌, ◌≤◌, ◌∙◌, ap, subst, take, arith}
use Rattle.std.proofs.lemmas.List.{length-take-le, take-take}
use Rattle.preflight.specs.Carriers.TextInStep.{GoOnAll}
use Rattle.sinks.proofs.TextLines.{lines_of_more}
use Rattle.preflight.proofs.TextInStep.{fewer_go}
use Rattle.preflight.proofs.lockstep.lines_on_all.Goals as goal

pub returns-clause-lines : goal.returns-clause-lines
returns-clause-lines g c =
    let bytes = c.args.bytes.now in
    let most = length-take-le c.lines_ahead-lines.result.count bytes c.lines_ahead-lines.ensures.short in
    lines_of_more c.args.measure.now c.args.from.now bytes c.in_ok-count.count c.lines_ahead.result c.lines_ahead.ensures
    (omega (arith, c.in_ok-count.ensures.short, most, c.lines_ahead-lines.ensures.short))

pub returns-clause-go : goal.returns-clause-go
returns-clause-go g c =
    let bytes = c.args.bytes.now in
    let all = c.lines_ahead-lines.result.count in
    let count = c.in_ok-count.count in
    let n = c.lines_ahead.result.count in
    let most = length-take-le all bytes c.lines_ahead-lines.ensures.short in
    let few : count ≤ all = omega (arith, c.in_ok-count.ensures.short, most) in
    let len = length-take-le count bytes (omega (arith, few, c.lines_ahead-lines.ensures.short)) in
    let short : n ≤ count = omega (arith, c.lines_ahead.ensures.short, len) in
    let same : take n (take count (take all bytes)) ≡ take n bytes =
    ap (take n) (take-take count all bytes few) ∙ take-take n count bytes short in
    subst (λ codes. GoOnAll c.args.measure.now.look c.args.from.now codes c.args.others.now) same
    (fewer_go c.args.measure.now.look c.args.from.now n (take count (take all bytes)) c.args.others.now c.in_ok-count.ensures.go)
