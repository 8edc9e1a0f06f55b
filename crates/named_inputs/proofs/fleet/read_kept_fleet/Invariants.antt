use Rattle.std.proofs.Common.{◌≡◌, ◌++◌, IsFalse, map, take}
use Rattle.named_inputs.specs.Fleet.{DescribeBy, DescribeFleet}
use Rattle.named_inputs.proofs.fleet.read_kept_fleet.Given as goal

abbrev pub invariant-loop-i : goal.invariant-loop-i
invariant-loop-i g l =
    IsFalse (g.T.ProfileTexts.failed l.texts)
    × (g.T.ProfileTexts.text_of l.texts ≡ g.T.ProfileTexts.text_of l.initial.texts)
    × DescribeFleet (map (λ word. g.T.ProfileTexts.text_of l.initial.texts word.now) (take l.i l.words)) l.fleet.items
    × DescribeBy (g.T.ProfileTexts.given l.initial.texts) (g.T.ProfileTexts.given l.texts) l.fleet.items
    × DescribeBy (map (λ text. text.items) l.initial.kept.items) (map (λ text. text.items) l.kept.items) l.fleet.items
    × (g.T.ProfileTexts.named l.texts ≡ g.T.ProfileTexts.named l.initial.texts ++ map (λ word. word.now) (take l.i l.words))
