use Rattle.std.proofs.Common.{◌⊎◌, ◌∙◌, List, ℕ, false, inr, refl, subst, sym, true}
use Rattle.job_rows.specs.Links.{document_path}
use Rattle.many_jobs.specs.JobRow.{document_in}
use Rattle.many_requests.specs.AskedDocuments.{documents_asked}
use Rattle.streams.specs.declared.error.Error.TheVariants.{Memory}
use Rattle.many_requests.specs.Documents.{LosesDocument, WritesDocumentBy, WritesPdf}
use Rattle.many_requests.proofs.documents.write_document.Goals as goal

pub returns-then-is_read_once : goal.returns-then-is_read_once
returns-then-is_read_once g c =
    subst
    (λ once. WritesDocumentBy once (documents_asked c.args.documents.now) c.args.job.now true c.args.used.now c.args.used.now
    (g.E.Outlet.state c.args.stderr.now) (g.E.Outlet.state c.args.stderr.now))
    (sym (sym c.is_read_once.ensures ∙ c.if-is_read_once.true)) (refl, refl, refl)

pub returns-in-Ok : goal.returns-in-Ok
returns-in-Ok g c =
    let asked = documents_asked c.args.documents.now in
    let job = c.args.job.now in
    let err = g.E.Outlet.state c.args.stderr.now in
    let err' = g.E.Outlet.state c.write_at.new.stderr in
    let well = c.write_at.result in
    let either =
    λ (word path : List ℕ).
    WritesPdf asked word job path well c.args.used.now c.write_at.new.used err err'
    ⊎ LosesDocument asked job path well c.args.used.now c.write_at.new.used err err' in
    subst
    (λ once. WritesDocumentBy once asked job well c.args.used.now c.write_at.new.used err err')
    (sym (sym c.is_read_once.ensures ∙ c.if-is_read_once.false))
    (subst (λ (word : List ℕ). either word (document_path (document_in asked.folder job))) c.word_of-word.ensures
    (subst (λ (path : List ℕ). either c.word_of-word.result.now path) (c.as_slice.ensures.value ∙ c.in-Ok.ensures)
    c.write_at.ensures))

pub returns-in-Err : goal.returns-in-Err
returns-in-Err g c =
    subst
    (λ once. WritesDocumentBy once (documents_asked c.args.documents.now) c.args.job.now false c.args.used.now c.args.used.now
    (g.E.Outlet.state c.args.stderr.now) (g.E.Outlet.state c.tell_lost.new.stderr))
    (sym (sym c.is_read_once.ensures ∙ c.if-is_read_once.false))
    (inr (record { error = Memory; cause = refl; well_is = refl; told = c.tell_lost.ensures }))
