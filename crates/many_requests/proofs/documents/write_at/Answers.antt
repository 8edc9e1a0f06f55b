use Rattle.std.proofs.Common.{◌⊎◌, List, ℕ, inr, refl, subst}
use Rattle.streams.specs.declared.error.Error.TheVariants.{Read}
use Rattle.many_requests.specs.AskedDocuments.{documents_asked}
use Rattle.many_requests.specs.Documents.{LosesDocument, WritesPdf}
use Rattle.many_requests.proofs.documents.write_at.Goals as goal

pub returns-in-Some : goal.returns-in-Some
returns-in-Some g c =
    let asked = documents_asked c.args.documents.now in
    let word = c.args.word.now in
    let well = c.write_apart.result in
    let used = c.args.used.now in
    let used' = c.write_apart.new.used in
    let err = g.E.Outlet.state c.args.stderr.now in
    let err' = g.E.Outlet.state c.write_apart.new.stderr in
    subst
    (λ (job : List ℕ). WritesPdf asked word job c.args.path.now well used used' err err'
    ⊎ LosesDocument asked job c.args.path.now well used used' err err')
    c.in-Some.ensures.0
    (subst
    (λ (path : List ℕ). WritesPdf asked word c.in-Some.name.now path well used used' err err'
    ⊎ LosesDocument asked c.in-Some.name.now path well used used' err err')
    c.in-Some.ensures.1 c.write_apart.ensures)

pub returns-in-None : goal.returns-in-None
returns-in-None g c =
    inr (record { error = Read; cause = (c.in-None.ensures, refl); well_is = refl; told = refl })
