use Rattle.std.proofs.Common.{◌+◌, ℕ, Some, drop, refl, ap, sym, ◌∙◌, arith}
use Rattle.std.proofs.lemmas.List.{drop_all, drop_more}
use Rattle.device_profile.specs.declared.font.FontRequest.{FontRequest}
use Rattle.device_profile.specs.Faces.{Face}
use Rattle.device_profile.specs.Nearest.{nearer, nearest_from}
use Rattle.device_profile.proofs.nearest.nearest_request.Goals as goal

pub loop-face-init : goal.loop-face-init
loop-face-init g c = refl

pub loop-face-preserved : goal.loop-face-preserved
loop-face-preserved g c =
    let request : FontRequest = c.args.request.now in
    let i : ℕ = c.loop-face.face-index in
    let nearest = c.loop-face.nearest in
    let rest = drop (i + 1) c.args.faces.now in
    ap (λ x. nearest_from request (Some x) rest) (c.nearer.ensures ∙ ap (nearer request nearest) c.request.ensures)
    ∙ ap (λ (f : Face). nearest_from request (Some (nearer request nearest f.request)) rest) c.face-item.is
    ∙ sym (ap (nearest_from request nearest) (drop_more c.args.faces.now i c.face-item.result c.loop-face-test.true))
    ∙ c.loop-face.invariant

pub returns : goal.returns
returns g c =
    sym
    (ap (nearest_from c.args.request.now c.loop-face.nearest)
    (drop_all c.loop-face.face-index c.args.faces.now (omega (arith, c.loop-face-test.false))))
    ∙ c.loop-face.invariant
