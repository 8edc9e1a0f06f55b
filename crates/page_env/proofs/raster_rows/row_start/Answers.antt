use Rattle.std.proofs.Common.{rules, arith, ◌≡◌, ◌*◌, pos, true}
use Rattle.std.specs.Prelude.{◌+ℤ◌}
use Rattle.std.proofs.lemmas.Int.{ints}
use Rattle.tick_length.specs.Length.{IsInRange}
use Rattle.page_env.specs.Mark.{pixel_of}
use Rattle.page_env.specs.Places.{is_between}
use Rattle.page_env.proofs.Ends.{start_in_range}
use Rattle.page_env.proofs.raster_rows.row_start.Goals as goal

pub from_ticks-requires : goal.from_ticks-requires
from_ticks-requires c =
    let fits : is_between c.args.low c.args.high (c.args.left +ℤ pos (c.args.white * pixel_of c.args.resolution)) ≡ true = search rules in
    let low : IsInRange c.args.low = search rules in
    let high : IsInRange c.args.high = search rules in
    let near = start_in_range c.args.low c.args.high c.args.left c.args.white c.args.resolution c.requires.white low high fits in
    let least = near.0 in
    let most = near.1 in
    (omega (arith, ints), omega (arith, ints))
