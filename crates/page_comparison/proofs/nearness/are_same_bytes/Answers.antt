use Rattle.std.proofs.lemmas.Bool.Decides.{same_from_decides}
use Rattle.sinks.specs.Same.{are_same_bytes}
use Rattle.page_comparison.proofs.Near.{bytes_decide}
use Rattle.page_comparison.proofs.nearness.are_same_bytes.Goals as goal

pub returns : goal.returns
returns c =
    let one = c.args.one.now in
    let other = c.args.other.now in
    same_from_decides c.are_equal_bytes.result (are_same_bytes one other) c.are_equal_bytes.ensures (bytes_decide one other)
