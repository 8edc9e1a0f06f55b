use Rattle.std.proofs.Common.{◌≡◌, false, take}
use Rattle.std.specs.List.{list_any}
use Rattle.page_comparison.specs.AnyOrder.{is_crossed}
use Rattle.page_comparison.proofs.bag.is_crossed_by.Given as goal

abbrev pub invariant-loop-matched : goal.invariant-loop-matched
invariant-loop-matched l = list_any (is_crossed l.place l.footprint) (take l.matched-index l.earlier) ≡ false
