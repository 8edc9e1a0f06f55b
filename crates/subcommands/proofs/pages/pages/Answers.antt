use Rattle.std.proofs.Common.{◌||◌, ◌∙◌, ap, sym, subst}
use Rattle.std.proofs.Math.Bool.{or-false}
use Rattle.device_profile.specs.Printer.{first_panel}
use Rattle.renderings.specs.Expected.{Renders, pages_rendering}
use Rattle.named_inputs.specs.Fleet.{IsEndOfProfile, IsNamed}
use Rattle.requests.specs.Status.{is_err_at_read}
use Rattle.named_inputs.proofs.FleetFacts.{no_write_before}
use Rattle.subcommands.proofs.JobTexts.{ended, ended_write, no_pages, pages_left, sound_for_line}
use Rattle.subcommands.proofs.pages.pages.Goals as goal

pub end_by-requires : goal.end_by-requires
end_by-requires g c = sound_for_line c.pages_of-work.result _ c.pages_of-work.ensures.write

pub returns-in-Err-clause-ends : goal.returns-in-Err-clause-ends
returns-in-Err-clause-ends g c = record {
  left = no_pages 1 _ c.in-Err.status _ _ _ c.in-Err.ensures.profile;
  read =
      ap (λ failed. failed || g.T.ProfileTexts.failed c.read_profile.new.texts) c.requires.job
      ∙ (c.read_profile.ensures.read ∙ ap is_err_at_read c.in-Err.is);
  write = c.requires.stdout ∙ no_write_before 1 _ c.in-Err.status c.in-Err.ensures.profile;
  turns = λ is. absurd (subst (IsEndOfProfile 1 _) is c.in-Err.ensures.profile);
}

pub returns-clause-ends : goal.returns-clause-ends
returns-clause-ends g c =
    let printer = c.in-Ok.profile in
    let named =
    IsNamed (g.T.ProfileTexts.text_of c.args.texts.now c.args.profile.now) (g.T.ProfileTexts.given c.args.texts.now)
    (g.T.ProfileTexts.given c.read_profile.new.texts) in
    let work = c.pages_of-work.result in
    let job = g.S.Source.state c.args.job.now in
    let job' = g.S.Source.state c.pages_of-work.new.reader in
    let old = g.O.Outlet.state c.args.stdout.now in
    let behind = g.O.Outlet.state c.pages_of-work.new.writer in
    let rendered =
    subst
    (λ panel. Renders (pages_rendering printer panel) job job' old behind work) c.first_panel-panel.ensures.value c.pages_of-work.ensures in
    record {
      left = pages_left c.end_by.result named job job' old (g.O.Outlet.state c.end_by.new.stdout) (
        printer,
        (c.in-Ok.ensures.profile, c.in-Ok.ensures.given),
        behind,
        ended g.O.Outlet.state c.pages_of-work.new.writer c.end_by.new.stdout work c.end_by.result
            (pages_rendering printer (first_panel printer)) job job' old behind
            rendered c.end_by.ensures.ok c.end_by.ensures.err,
      );
      read =
          ap (λ failed. job'.failed || failed) (c.read_profile.ensures.read ∙ ap is_err_at_read c.in-Ok.is)
          ∙ or-false job'.failed ∙ rendered.read ∙ sym c.end_by.ensures.read;
      write =
          ended_write g.O.Outlet.state c.pages_of-work.new.writer c.end_by.new.stdout work c.end_by.result rendered.write
          c.end_by.ensures.err c.end_by.ensures.write;
      turns = λ is. rendered.turns (c.end_by.ensures.turns is);
    }
