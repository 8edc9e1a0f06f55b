use Rattle.std.proofs.Common.{◌≤◌, arith, length}
use Rattle.page_comparison.proofs.Finding.{resumed_by}
use Rattle.page_comparison.proofs.turn.is_resumed.Goals as goal

pub returns-clause-value : goal.returns-clause-value
returns-clause-value g c =
    let of_old : c.args.turn.old ≤ length c.args.old.now = omega arith in
    let of_new : c.args.turn.new ≤ length c.args.new.now = omega arith in
    resumed_by c.args.within c.args.old.now c.args.new.now c.args.turn of_old of_new c.go_alike.result c.go_alike.ensures
