use Rattle.std.proofs.Common.{rules, ◌≡◌, ◌<◌, length}
use Rattle.std.proofs.lemmas.List.{same_lists}
use Rattle.device_profile.proofs.likeness.are_same_faces.Goals as goal

pub returns : goal.returns
returns g c = λ h.
    let long : length c.args.b.now ≡ length c.args.a.now = search rules in
    same_lists c.args.b.now c.args.a.now long
    (λ k d inside. let before : k < c.loop-index.index = search rules in c.loop-index.invariant k d before)
