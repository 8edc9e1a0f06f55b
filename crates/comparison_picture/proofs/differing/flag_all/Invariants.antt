use Rattle.std.proofs.Common.{◌≡◌, drop}
use Rattle.comparison_picture.specs.Differing.{flagged_all}
use Rattle.comparison_picture.proofs.differing.flag_all.Given as goal

abbrev pub invariant-loop-difference : goal.invariant-loop-difference
invariant-loop-difference l =
    flagged_all l.which (drop l.difference-index l.differences) l.flags ≡ flagged_all l.which l.differences l.initial.flags
