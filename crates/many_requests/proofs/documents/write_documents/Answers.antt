use Rattle.std.proofs.Common.{◌∙◌, refl, subst, sym}
use Rattle.many_requests.specs.AskedDocuments.{documents_asked}
use Rattle.many_requests.specs.Documents.{WritesBehind}
use Rattle.many_requests.proofs.documents.write_documents.Goals as goal

pub returns-then-has_lines : goal.returns-then-has_lines
returns-then-has_lines g c =
    subst
    (λ has_lines. WritesBehind has_lines (documents_asked c.args.documents.now) c.args.answer c.end_with.result c.args.used.now
    c.write_all-is_well.new.used (g.E.Outlet.state c.args.stderr.now) (g.E.Outlet.state c.write_all-is_well.new.stderr))
    (sym (sym c.has_lines.ensures ∙ c.if-has_lines.true))
    (c.write_all-is_well.result, c.write_all-is_well.ensures, c.end_with.ensures)

pub returns : goal.returns
returns g c =
    subst
    (λ has_lines. WritesBehind has_lines (documents_asked c.args.documents.now) c.args.answer c.args.answer c.args.used.now
    c.args.used.now (g.E.Outlet.state c.args.stderr.now) (g.E.Outlet.state c.args.stderr.now))
    (sym (sym c.has_lines.ensures ∙ c.if-has_lines.false)) (refl, refl, refl)
