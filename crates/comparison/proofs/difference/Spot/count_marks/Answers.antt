use Rattle.std.proofs.Common.{◌≡◌, ◌+◌, ◌^◌, ◌<◌, ◌∙◌, length, sym, arith}
use Rattle.sinks.specs.Counts.{capped}
use Rattle.comparison.proofs.SameLines.{spot_marked}
use Rattle.comparison.proofs.difference.Spot.count_marks.Goals as goal

pub returns : goal.returns
returns c = λ shapes is.
    let old = c.args.self.now in
    let small : old.on_page < 2 ^ 64 = omega arith in
    let sum : c.saturating_add-self.result ≡ capped (old.on_page + length shapes) = omega (arith, c.saturating_add-self.ensures, is) in
    (λ i. record { counts = c.add_marks.ensures shapes is i; on_page = sum i }) ∙ sym (spot_marked shapes old small)
