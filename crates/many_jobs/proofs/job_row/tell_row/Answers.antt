use Rattle.std.proofs.Common.{◌≡◌, ◌∙◌, Bool, ℕ, List, Option, Result, ap, subst}
use Rattle.std.proofs.lemmas.Result.{err_from_is_err_and}
use Rattle.job_rows.specs.Kept.{kept_part}
use Rattle.job_rows.specs.Links.{DocumentTold}
use Rattle.job_rows.specs.Rows.{PartsTold}
use Rattle.streams.specs.declared.error.Error.{Error}
use Rattle.many_jobs.specs.Asked.{told_by}
use Rattle.many_jobs.specs.JobChecks.{AddsTold, CutsTold, ending_of, worse}
use Rattle.many_jobs.specs.JobRow.{Rereads, document_of, ending_of_kept, near_of_job, page_of_job, row_with}
use Rattle.many_jobs.proofs.JobRow.{has_read, row_adds, row_cuts}
use Rattle.many_jobs.proofs.job_row.tell_row.Goals as goal

-- what is told of a job in its row
abbrev parts_told : (notes near page : Option (Result (List ℕ) Error)) → (is_once : Bool) → Option DocumentTold → PartsTold
parts_told notes near page is_once document =
    record { notes = notes; near = near; page = page; is_once = is_once; document = document }

pub returns-clause-told : goal.returns-clause-told
returns-clause-told g c =
    let group = c.args.group.now in
    let telling = told_by c.args.telling.now in
    let name = c.args.name.now in
    let answer = c.args.answer in
    let start_of = g.J.Jobs.start c.args.jobs.now in
    let notes = kept_part (λ text. text.items) c.reread_notes-notes.result in
    let near = kept_part (λ text. text.items) c.reread_near-near.result in
    let page = kept_part (λ text. text.items) c.reread_page-page.result in
    let ended = g.J.Jobs.ended c.args.jobs.now in
    let first = g.J.Jobs.ended c.reread_notes-notes.new.jobs in
    let second = g.J.Jobs.ended c.reread_near-near.new.jobs in
    let third = g.J.Jobs.ended c.reread_page-page.new.jobs in
    let listing =
    subst (λ start. Rereads (near_of_job telling name answer) (start name) name near first second) c.reread_notes-notes.ensures.start
    c.reread_near-near.ensures.read in
    let drawing =
    subst (λ start. Rereads (page_of_job telling group name answer) (start name) name page second third)
    (c.reread_near-near.ensures.start ∙ c.reread_notes-notes.ensures.start) c.reread_page-page.ensures.read in
    let read =
    has_read group telling (start_of name) name answer notes near page ended first second third c.reread_notes-notes.ensures.read
    listing drawing in
    let counts : c.worse.result ≡ worse (ending_of telling answer) (ending_of_kept notes) =
    c.worse.ensures ∙ ap (λ e. worse e c.of_notes-noted.result) c.of-judged.ensures
    ∙ ap (worse (ending_of telling answer)) c.of_notes-noted.ensures in
    let parts = λ (is_once : Bool) (document : Option DocumentTold). parts_told notes near page is_once document in
    let told =
    subst
    (λ (is_once : Bool).
    AddsTold (λ cause. row_with telling group name answer cause (parts is_once (document_of telling name)))
    (g.O.Outlet.state c.args.stdout.now) (g.O.Outlet.state c.write_row.new.stdout))
    c.is_read_once-once.ensures
    (subst
    (λ (document : Option DocumentTold).
    AddsTold (λ cause. row_with telling group name answer cause (parts c.is_read_once-once.result document))
    (g.O.Outlet.state c.args.stdout.now) (g.O.Outlet.state c.write_row.new.stdout))
    c.document_of-document.ensures c.in_ok-write_row.ensures.told) in
    row_adds group telling (start_of name) name answer notes near page ended third read
    (g.O.Outlet.state c.args.stdout.now) (g.O.Outlet.state c.write_row.new.stdout) c.worse.result counts told

pub returns-in_err-write_row-clause-cut : goal.returns-in_err-write_row-clause-cut
returns-in_err-write_row-clause-cut g c =
    let group = c.args.group.now in
    let telling = told_by c.args.telling.now in
    let name = c.args.name.now in
    let answer = c.args.answer in
    let start_of = g.J.Jobs.start c.args.jobs.now in
    let notes = kept_part (λ text. text.items) c.reread_notes-notes.result in
    let near = kept_part (λ text. text.items) c.reread_near-near.result in
    let page = kept_part (λ text. text.items) c.reread_page-page.result in
    let ended = g.J.Jobs.ended c.args.jobs.now in
    let first = g.J.Jobs.ended c.reread_notes-notes.new.jobs in
    let second = g.J.Jobs.ended c.reread_near-near.new.jobs in
    let third = g.J.Jobs.ended c.reread_page-page.new.jobs in
    let listing =
    subst (λ start. Rereads (near_of_job telling name answer) (start name) name near first second) c.reread_notes-notes.ensures.start
    c.reread_near-near.ensures.read in
    let drawing =
    subst (λ start. Rereads (page_of_job telling group name answer) (start name) name page second third)
    (c.reread_near-near.ensures.start ∙ c.reread_notes-notes.ensures.start) c.reread_page-page.ensures.read in
    let read =
    has_read group telling (start_of name) name answer notes near page ended first second third c.reread_notes-notes.ensures.read
    listing drawing in
    let error = c.in_err-write_row.field-0.0 in
    let parts = λ (is_once : Bool) (document : Option DocumentTold). parts_told notes near page is_once document in
    let cut =
    subst
    (λ (is_once : Bool).
    CutsTold error (λ cause. row_with telling group name answer cause (parts is_once (document_of telling name)))
    (g.O.Outlet.state c.args.stdout.now) (g.O.Outlet.state c.write_row.new.stdout))
    c.is_read_once-once.ensures
    (subst
    (λ (document : Option DocumentTold).
    CutsTold error (λ cause. row_with telling group name answer cause (parts c.is_read_once-once.result document))
    (g.O.Outlet.state c.args.stdout.now) (g.O.Outlet.state c.write_row.new.stdout))
    c.document_of-document.ensures c.in_err-write_row.ensures.cut) in
    let ends = err_from_is_err_and c.from_residual.result c.from_residual.ensures.1 in
    rw (ends.1, ends.2)
    (row_cuts group telling (start_of name) name answer notes near page ended third read
    (g.O.Outlet.state c.args.stdout.now) (g.O.Outlet.state c.write_row.new.stdout) error cut)
