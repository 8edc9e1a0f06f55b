use Rattle.std.proofs.Common.{◌≡◌, false, subst}
use Rattle.std.specs.List.{list_any}
use Rattle.page_comparison.specs.AnyOrder.{Matching, is_crossed}
use Rattle.page_comparison.proofs.Free.{none_crossed}
use Rattle.page_comparison.proofs.bag.Bag.is_crossed.Goals as goal

pub returns-then-last : goal.returns-then-last
returns-then-last g c =
    let place = c.args.place in
    let footprint = c.args.footprint.now in
    subst (λ (m : Matching). false ≡ list_any (is_crossed place footprint) m.earlier) c.self.view_is
    (none_crossed c.self.inside.beyond place footprint c.self.inside.earlier.items
    c.if-last.true c.self.invariant.2)
