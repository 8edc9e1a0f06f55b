use Rattle.std.proofs.Common.{flat_map, inl, inr, map, refl}
use Rattle.many_jobs.specs.Asked.{told_by}
use Rattle.many_jobs.specs.Document.{TellsDocumentFront, end_text, start_text}
use Rattle.many_jobs.specs.JobChecks.{due_of, work}
use Rattle.many_jobs.proofs.Documents.{cut_front}
use Rattle.many_jobs.proofs.JobChecks.{where_err}
use Rattle.many_jobs.proofs.document.tell_document.Goals as goal

pub returns-in_err-begin_document-clause-front : goal.returns-in_err-begin_document-clause-front
returns-in_err-begin_document-clause-front g c =
    let printers = c.args.printers.now in
    let telling = told_by c.args.telling.now in
    let due = flat_map (due_of printers) (map (λ name. name.now) c.args.names.now) in
    let ended = g.J.Jobs.ended c.args.jobs.now in
    let old = work (g.O.Outlet.state c.args.stdout.now) ended in
    let new = work (g.O.Outlet.state c.begin_document.new.stdout) ended in
    let front =
    cut_front c.in_err-begin_document.field-0.0 (start_text telling.format printers.names) old.out new.out
    c.in_err-begin_document.ensures.cut in
    let stopped : TellsDocumentFront printers telling (g.J.Jobs.start c.args.jobs.now) due old new = inl (front, refl) in
    where_err c.from_residual.result _ stopped

pub returns-in_err-ending-clause-front : goal.returns-in_err-ending-clause-front
returns-in_err-ending-clause-front g c =
    let printers = c.args.printers.now in
    let telling = told_by c.args.telling.now in
    let due = flat_map (due_of printers) (map (λ name. name.now) c.args.names.now) in
    let behind_start = g.O.Outlet.state c.begin_document.new.stdout in
    let old = work (g.O.Outlet.state c.args.stdout.now) (g.J.Jobs.ended c.args.jobs.now) in
    let new = work (g.O.Outlet.state c.check_jobs.new.stdout) (g.J.Jobs.ended c.check_jobs.new.jobs) in
    let stopped : TellsDocumentFront printers telling (g.J.Jobs.start c.args.jobs.now) due old new =
    inr (inl (behind_start, c.in_ok-begin_document.ensures.told, c.in_err-ending.ensures.front)) in
    where_err c.from_residual-in_err-ending.result _ stopped

pub returns-in_err-end_document-clause-front : goal.returns-in_err-end_document-clause-front
returns-in_err-end_document-clause-front g c =
    let printers = c.args.printers.now in
    let telling = told_by c.args.telling.now in
    let due = flat_map (due_of printers) (map (λ name. name.now) c.args.names.now) in
    let behind_start = g.O.Outlet.state c.begin_document.new.stdout in
    let behind = g.O.Outlet.state c.check_jobs.new.stdout in
    let old = work (g.O.Outlet.state c.args.stdout.now) (g.J.Jobs.ended c.args.jobs.now) in
    let new = work (g.O.Outlet.state c.end_document.new.stdout) (g.J.Jobs.ended c.check_jobs.new.jobs) in
    let front =
    cut_front c.in_err-end_document.field-0.0 (end_text telling.format) behind new.out c.in_err-end_document.ensures.cut in
    let stopped : TellsDocumentFront printers telling (g.J.Jobs.start c.args.jobs.now) due old new =
    inr
    (inr (c.in_ok-ending.ending, behind_start, behind, c.in_ok-begin_document.ensures.told, c.in_ok-ending.ensures.told, front)) in
    where_err c.from_residual-in_err-end_document.result _ stopped

pub returns-clause-told : goal.returns-clause-told
returns-clause-told g c = record {
  behind_start = g.O.Outlet.state c.begin_document.new.stdout;
  behind = g.O.Outlet.state c.check_jobs.new.stdout;
  begun = c.in_ok-begin_document.ensures.told;
  lines = c.in_ok-ending.ensures.told;
  closed = c.in_ok-end_document.ensures.told;
}
