use Rattle.std.proofs.Common.{◌∙◌, ◌++◌, ◌∷◌, [], List, ℕ, ap}
use Rattle.streams.specs.Used.{SameFile}
use Rattle.many_requests.proofs.documents.is_at.Goals as goal

pub returns-in-Ok-clause-told : goal.returns-in-Ok-clause-told
returns-in-Ok-clause-told g c = λ same.
    c.is_same_file.ensures.told same
    ∙ ap (λ (name : List ℕ). c.args.used.now ++ SameFile c.args.path.now name ∷ []) c.in-Ok.ensures.cases.0
