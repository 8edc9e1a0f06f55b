use Rattle.std.proofs.Common.{List, ℕ, inl, inr, refl, subst}
use Rattle.requests.specs.Status.{error_words}
use Rattle.streams.specs.declared.error.Error.TheVariants.{Write}
use Rattle.streams.specs.Used.{FileUse}
use Rattle.many_requests.specs.AskedDocuments.{documents_asked}
use Rattle.many_requests.specs.Documents.{WritesIfSound, WritesPdf, lost_line}
use Rattle.many_requests.proofs.documents.write_apart.Goals as goal

pub returns-in-Some : goal.returns-in-Some
returns-in-Some g c =
    let err = g.E.Outlet.state c.args.stderr.now in
    let err' = g.E.Outlet.state c.tell_lost.new.stderr in
    inr (record {
      error = Write;
      cause = (_, c.in-Some.ensures.is_read, c.in-Some.ensures.found);
      well_is = refl;
      told =
          subst (λ (job : List ℕ). WritesIfSound (lost_line job (error_words Write)) err err') c.as_bytes.ensures.value
          c.tell_lost.ensures;
    })

pub returns-in-None : goal.returns-in-None
returns-in-None g c =
    let asked = documents_asked c.args.documents.now in
    let err = g.E.Outlet.state c.args.stderr.now in
    let err' = g.E.Outlet.state c.write_pdf.new.stderr in
    inl (subst
    (λ (used : List FileUse). WritesPdf asked c.args.word.now c.args.job.now c.args.path.now c.write_pdf.result used
    c.write_pdf.new.used err err')
    c.in-None.ensures.found c.write_pdf.ensures)
