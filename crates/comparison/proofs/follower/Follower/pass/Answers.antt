use Rattle.std.proofs.Common.{◌≡◌, ◌+◌, ◌<◌, ap, arith, length, subst, sym, ◌∙◌}
use Rattle.std.proofs.lemmas.List.{length-map}
use Rattle.sinks.specs.Owned.{event_of}
use Rattle.comparison.specs.Comparing.{Following}
use Rattle.comparison.proofs.follower.Follower.pass.Goals as goal

pub next_place-self-inside-requires : goal.next_place-self-inside-requires
next_place-self-inside-requires g c =
    let inside : c.self.inside.taken < length c.self.inside.job.events =
    subst (λ (f : Following). f.taken < length f.run.events) (sym c.self.view_is) c.requires in
    let size : length c.events-count.result.now ≡ length c.self.inside.job.events =
    sym (length-map c.events-count.result.now event_of) ∙ ap length c.events-count.ensures in
    omega (arith, inside, size)

pub invariant_of-self : goal.invariant_of-self
invariant_of-self g c =
    let inside : c.self.inside.taken < length c.self.inside.job.events =
    subst (λ (f : Following). f.taken < length f.run.events) (sym c.self.view_is) c.requires in
    omega (arith, inside, c.next_place-self-inside.ensures)

pub returns : goal.returns
returns g c =
    (λ i. record { run = c.self.inside.job; taken = c.next_place-self-inside.ensures i })
    ∙ ap (λ (f : Following). record f { taken = f.taken + 1 }) c.self.view_is
