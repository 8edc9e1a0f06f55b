use Rattle.std.proofs.Common.{◌≡◌, ◌<◌, Some, length, refl, slice_get, subst, sym}
use Rattle.std.proofs.lemmas.Option.{slice_get_read}
use Rattle.page_comparison.specs.AnyOrder.{Matching}
use Rattle.page_comparison.proofs.bag.Bag.is_taken.Goals as goal

pub returns : goal.returns
returns g c =
    let inside : c.args.place < length c.self.inside.taken.items =
    subst (λ (m : Matching). c.args.place < length m.taken) (sym c.self.view_is) c.requires in
    subst (λ (m : Matching). slice_get m.taken c.args.place ≡ Some c.index.result.now) c.self.view_is
    (slice_get_read c.self.inside.taken.items (length c.self.inside.taken.items) c.args.place c.index.result.now refl inside
    c.index.ensures)
