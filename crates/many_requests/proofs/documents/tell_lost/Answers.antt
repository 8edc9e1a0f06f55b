use Rattle.std.proofs.Common.{◌∙◌, List, ℕ, inl, refl, subst}
use Rattle.many_requests.specs.Documents.{WritesIfSound}
use Rattle.many_requests.proofs.documents.tell_lost.Goals as goal

pub returns-in-Ok : goal.returns-in-Ok
returns-in-Ok g c =
    subst
    (λ (text : List ℕ). WritesIfSound text (g.E.Outlet.state c.args.stderr.now) (g.E.Outlet.state c.write_if_sound.new.stderr))
    (c.as_slice.ensures.value ∙ c.in-Ok.ensures) c.write_if_sound.ensures

pub returns-in-Err : goal.returns-in-Err
returns-in-Err g c = inl refl
