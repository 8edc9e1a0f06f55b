use Rattle.std.proofs.Common.{◌≡◌, ◌+◌, drop, option_map}
use Rattle.page_comparison.specs.AnyOrder.{first_free}
use Rattle.page_comparison.specs.Pages.{made_mark, made_marks}
use Rattle.page_comparison.proofs.bag.Bag.find.Given as goal

abbrev pub invariant-loop-place : goal.invariant-loop-place
invariant-loop-place g l =
    first_free l.within (made_mark l.one) (made_marks l.marks) l.self.taken
    ≡ option_map (λ i. i + l.place)
    (first_free l.within (made_mark l.one) (made_marks (drop l.place l.marks)) (drop l.place l.self.taken))
