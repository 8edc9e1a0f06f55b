use Rattle.std.proofs.Common.{rules, ◌≡◌, ◌&&◌, ℤ, pos, cond, Some, None}
use Rattle.std.specs.Prelude.{◌+ℤ◌}
use Rattle.page_env.specs.Mark.{pixel_of}
use Rattle.page_env.specs.Places.{is_between}
use Rattle.page_env.proofs.Ends.{first_of_both}
use Rattle.page_env.proofs.raster_rows.row_top.Goals as goal

pub returns : goal.returns
returns c =
    let edge : ℤ = c.args.place.y in
    let below : ℤ = edge +ℤ pos (pixel_of c.args.resolution) in
    let is_inside = is_between c.args.low c.args.high edge && is_between c.args.low c.args.high below in
    let both : Some (c.in_ok-edge.edge, c.in_ok-edge.field-0-1) ≡ cond is_inside (Some (edge, below)) None = search rules in
    first_of_both is_inside edge below (Some (c.in_ok-edge.edge, c.in_ok-edge.field-0-1)) both
