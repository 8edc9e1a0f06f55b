use Rattle.std.proofs.Common.{◌≡◌, ◌+◌, ◌-◌, ◌*◌, length}
use Rattle.page_picture.specs.Rows.{black_from}
use Rattle.page_picture.proofs.rows.black_from.Given as goal

abbrev pub invariant-loop-pixel : goal.invariant-loop-pixel
invariant-loop-pixel l =
    (l.start + l.count ≡ l.pixel)
    × (l.count + black_from l.bytes l.pixel (8 * length l.bytes - l.pixel) ≡ black_from l.bytes l.start (8 * length l.bytes - l.start))
