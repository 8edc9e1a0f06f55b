use Rattle.std.proofs.Common.{◌≡◌, ◌||◌, ◌∙◌, ap, false, refl, sym, subst, true≢false}
use Rattle.std.proofs.Math.Bool.{or-false}
use Rattle.job_pdf.specs.JobPdf.{pdf_rendering}
use Rattle.job_pdf.specs.Plan.{plan_of}
use Rattle.renderings.specs.Carriers.Rests.{faults_matter}
use Rattle.requests.specs.Status.{IsEndOfOpening, is_err_at_read, is_err_at_write, is_overwriting}
use Rattle.streams.specs.Outlet.{OutletState}
use Rattle.streams.specs.Source.{SourceState}
use Rattle.subcommands.proofs.JobTexts.{ended, ended_write_beside, opening_left, out_left, rendered_from, sound_beside}
use Rattle.subcommands.proofs.JudgedFirst.{ends_by}
use Rattle.pdf_command.proofs.Leaving.{limit_told, opening_ends, opening_gives_up}
use Rattle.pdf_command.specs.Pdf.{IsEndOfPages}
use Rattle.pdf_command.proofs.command.write_pages.Goals as goal

pub end_by-status-requires : goal.end_by-status-requires
end_by-status-requires g c = sound_beside c.pdf_of-work.result _ c.requires.stdout

-- ---- the job is not open beside an OUT that was created

pub returns-in-Err-clause-ends : goal.returns-in-Err-clause-ends
returns-in-Err-clause-ends g c =
    let opening = c.open_and_create.ensures in
    let status = c.in-Err.status in
    let pages = c.args.pages.now in
    let rendering = pdf_rendering pages.profile.now pages.panel (plan_of pages.wanted) in
    record {
      left =
          opening_left status rendering (faults_matter rendering (λ place. refl)) _ _ _ _ _ _ _ c.in-Err.ensures.err opening.source
          opening.outlet;
      read = ap (λ (s : SourceState). s.failed) opening.source ∙ ap is_err_at_read c.in-Err.is;
      write =
          ap (λ failed. (g.W.Outlet.state c.open_and_create.new.out).failed || failed) c.requires.stdout
          ∙ or-false (g.W.Outlet.state c.open_and_create.new.out).failed
          ∙ ap (λ (o : OutletState). o.failed) opening.outlet ∙ ap is_err_at_write c.in-Err.is;
      turns = λ is. absurd (subst IsEndOfOpening is c.in-Err.ensures.err);
    }

pub returns-in-Err-clause-end : goal.returns-in-Err-clause-end
returns-in-Err-clause-end g c = opening_ends c.in-Err.status c.in-Err.ensures.err

pub returns-in-Err-clause-limit : goal.returns-in-Err-clause-limit
returns-in-Err-clause-limit g c = opening_gives_up c.in-Err.status _ _ c.in-Err.ensures.err

-- ---- the document

pub returns-clause-ends : goal.returns-clause-ends
returns-clause-ends g c =
    let pages = c.args.pages.now in
    let work = c.pdf_of-work.result in
    let job = g.S.Source.state c.args.job.now in
    let job' = g.S.Source.state c.pdf_of-work.new.reader in
    let old = g.W.Outlet.state c.args.out.now in
    let new = g.W.Outlet.state c.pdf_of-work.new.writer in
    let start = g.O.Outlet.state c.args.stdout.now in
    let end = g.O.Outlet.state c.end_by-status.new.stdout in
    let opening = c.in_default.ensures in
    let rendering = pdf_rendering pages.profile.now pages.panel (plan_of pages.wanted) in
    let rendered =
    rendered_from rendering job _ job' old _ new work c.requires.job opening.source c.requires.out opening.outlet
    c.pdf_of-work.ensures in
    record {
      left =
          out_left c.end_by-status.result rendering job job' old new start end
          (ended g.O.Outlet.state c.args.stdout.now c.end_by-status.new.stdout work c.end_by-status.result rendering job job' old new
          rendered c.end_by-status.ensures.ok c.end_by-status.ensures.err);
      read = rendered.read ∙ sym c.end_by-status.ensures.read;
      write =
          ended_write_beside g.O.Outlet.state c.args.stdout.now c.end_by-status.new.stdout work c.end_by-status.result _ rendered.write
          c.requires.stdout c.end_by-status.ensures.err c.end_by-status.ensures.write;
      turns = λ is. rendered.turns (c.end_by-status.ensures.turns is);
    }

pub returns-clause-kept : goal.returns-clause-kept
returns-clause-kept g c = λ is.
    absurd
    (true≢false (sym is ∙ ends_by (λ status. is_overwriting status ≡ false) refl refl (λ error. refl) c.end_by-status.result
    c.end_by-status.ensures.end))

pub returns-clause-end : goal.returns-clause-end
returns-clause-end g c = ends_by IsEndOfPages tt tt (λ error. tt) c.end_by-status.result c.end_by-status.ensures.end

pub returns-clause-limit : goal.returns-clause-limit
returns-clause-limit g c =
    limit_told c.args.stdout.now c.end_by-status.new.stdout c.pdf_of-work.result c.end_by-status.result c.passes_limit.result
    (g.O.Outlet.state c.args.stdout.now) (g.O.Outlet.state c.end_by-status.new.stdout) c.passes_limit.ensures c.end_by-status.ensures.ok
    c.end_by-status.ensures.err
