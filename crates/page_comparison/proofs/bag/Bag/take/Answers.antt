use Rattle.std.proofs.Common.{◌<◌, length, subst, sym}
use Rattle.page_comparison.specs.AnyOrder.{Matching}
use Rattle.page_comparison.proofs.Free.{before_more, front_marked}
use Rattle.page_comparison.proofs.bag.Bag.take.Goals as goal

pub invariant_of-self-2 : goal.invariant_of-self-2
invariant_of-self-2 g c =
    let l = c.self.inside in
    let before = c.self.invariant in
    let here : c.args.place < length l.taken.items =
    subst (λ (m : Matching). c.args.place < length m.taken) (sym c.self.view_is) c.requires in
    let front =
    front_marked l.taken.items l.front c.args.place before.0 here before.1 c.next_front-self-inside.result
    c.next_front-self-inside.ensures in (
      front.0,
      front.1,
      rw c.in_ok-push.ensures.items
          (before_more l.beyond c.max-self-inside.result l.earlier.items c.args.place c.args.footprint c.max-self-inside.ensures before.2),
    )
