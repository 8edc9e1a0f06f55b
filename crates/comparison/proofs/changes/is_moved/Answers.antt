use Rattle.std.proofs.lemmas.Bool.Decides.{same_from_decides}
use Rattle.comparison.specs.Changes.{is_moved}
use Rattle.sinks.specs.Owned.{shape_of_owned}
use Rattle.comparison.proofs.Sameness.{moved_decides}
use Rattle.comparison.proofs.changes.is_moved.Goals as goal

pub returns : goal.returns
returns g c =
    let one = shape_of_owned c.args.one.now in
    let other = shape_of_owned c.args.other.now in
    same_from_decides c.is_same_at_origin.result (is_moved one other) c.is_same_at_origin.ensures (moved_decides one other)
