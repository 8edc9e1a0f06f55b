use Rattle.std.proofs.Common.{◌∙◌, IfErr, List, OnOk, subst, sym, ℕ}
use Rattle.streams.specs.Outlet.{Adds}
use Rattle.many_jobs.specs.Document.{CutsText}
use Rattle.many_jobs.proofs.Documents.{no_start, start_is}
use Rattle.many_jobs.proofs.document.begin_document.Goals as goal

pub returns-then-is_html-clause-told : goal.returns-then-is_html-clause-told
returns-then-is_html-clause-told g c =
    subst
    (λ (text : List ℕ).
    OnOk c.write_start.result (Adds (g.O.Outlet.state c.args.stdout.now) (g.O.Outlet.state c.write_start.new.stdout) text))
    (start_is c.args.format c.args.printers.now.names (sym c.is_html.ensures ∙ c.if-is_html.true)) c.write_start.ensures.told

pub returns-then-is_html-clause-cut : goal.returns-then-is_html-clause-cut
returns-then-is_html-clause-cut g c =
    subst
    (λ (text : List ℕ).
    IfErr c.write_start.result
    (λ error. CutsText error text (g.O.Outlet.state c.args.stdout.now) (g.O.Outlet.state c.write_start.new.stdout)))
    (start_is c.args.format c.args.printers.now.names (sym c.is_html.ensures ∙ c.if-is_html.true)) c.write_start.ensures.cut

pub returns-clause-told : goal.returns-clause-told
returns-clause-told g c =
    no_start c.args.format c.args.printers.now.names (g.O.Outlet.state c.args.stdout.now) (sym c.is_html.ensures ∙ c.if-is_html.false)
