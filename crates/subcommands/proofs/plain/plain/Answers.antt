use Rattle.std.proofs.Common.{◌||◌, ◌∙◌, ap, refl, sym, subst}
use Rattle.std.proofs.Math.Bool.{or-false}
use Rattle.renderings.specs.Carriers.Rests.{faults_matter}
use Rattle.renderings.specs.Expected.{plain_rendering}
use Rattle.streams.specs.Outlet.{OutletState}
use Rattle.streams.specs.Source.{SourceState}
use Rattle.requests.specs.Status.{is_err_at_read, is_err_at_write, IsEndOfOpening}
use Rattle.subcommands.proofs.JobTexts.{ended, ended_write_beside, opening_left, out_left, rendered_from, sound_beside}
use Rattle.subcommands.proofs.plain.plain.Goals as goal

pub end_by-requires : goal.end_by-requires
end_by-requires g c = sound_beside c.plain_job-work.result _ c.requires.stdout

pub returns-in-Err-clause-ends : goal.returns-in-Err-clause-ends
returns-in-Err-clause-ends g c =
    let opening = c.open_and_create.ensures in
    record {
      left =
          opening_left c.in-Err.status plain_rendering (faults_matter plain_rendering (λ place. refl)) _ _ _ _ _ _ _
          c.in-Err.ensures.err opening.source opening.outlet;
      read = ap (λ (s : SourceState). s.failed) opening.source ∙ ap is_err_at_read c.in-Err.is;
      write =
          ap (λ failed. (g.W.Outlet.state c.open_and_create.new.out).failed || failed) c.requires.stdout
          ∙ or-false (g.W.Outlet.state c.open_and_create.new.out).failed
          ∙ ap (λ (o : OutletState). o.failed) opening.outlet ∙ ap is_err_at_write c.in-Err.is;
      turns = λ is. absurd (subst IsEndOfOpening is c.in-Err.ensures.err);
    }

pub returns-clause-ends : goal.returns-clause-ends
returns-clause-ends g c =
    let opening = c.open_and_create.ensures in
    let work = c.plain_job-work.result in
    let job = g.S.Source.state c.args.job.now in
    let job' = g.S.Source.state c.plain_job-work.new.reader in
    let old = g.W.Outlet.state c.args.out.now in
    let new = g.W.Outlet.state c.plain_job-work.new.writer in
    let rendered =
    rendered_from plain_rendering job _ job' old _ new work c.requires.job c.in_default.ensures.source c.requires.out
    c.in_default.ensures.outlet c.plain_job-work.ensures in
    record {
      left = out_left c.end_by.result plain_rendering job job' old new _ _
          (ended g.O.Outlet.state c.args.stdout.now c.end_by.new.stdout work c.end_by.result plain_rendering job job' old new rendered
          c.end_by.ensures.ok c.end_by.ensures.err);
      read = rendered.read ∙ sym c.end_by.ensures.read;
      write =
          ended_write_beside g.O.Outlet.state c.args.stdout.now c.end_by.new.stdout work c.end_by.result _ rendered.write c.requires.stdout
          c.end_by.ensures.err c.end_by.ensures.write;
      turns = λ is. rendered.turns (c.end_by.ensures.turns is);
    }
