use Rattle.std.proofs.Common.{◌≡◌, ◌+◌, ◌^◌, ◌<◌, ◌∙◌, length, sym, arith}
use Rattle.sinks.specs.Counts.{capped}
use Rattle.sinks.proofs.Counting.{counts_marked}
use Rattle.sinks.proofs.counts.Counts.add_marks.Goals as goal

pub returns : goal.returns
returns c = λ shapes is.
    let old = c.args.self.now in
    let small : old.marks < 2 ^ 64 = omega arith in
    let sum : c.saturating_add-self.result ≡ capped (old.marks + length shapes) = omega (arith, c.saturating_add-self.ensures, is) in
    (λ i. record old { marks = sum i }) ∙ sym (counts_marked shapes old small)
