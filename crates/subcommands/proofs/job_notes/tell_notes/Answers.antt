use Rattle.std.proofs.Common.{◌||◌, ◌∙◌, ap, subst, sym}
use Rattle.std.proofs.Math.Bool.{or-false}
use Rattle.named_inputs.specs.Fleet.{IsEndOfProfile, IsNamed}
use Rattle.requests.specs.Status.{is_err_at_read}
use Rattle.named_inputs.proofs.FleetFacts.{no_write_before}
use Rattle.subcommands.proofs.JobNotes.{never_refused, no_notes, noted_of, notes_left, stop_state}
use Rattle.subcommands.proofs.JudgedFirst.{judged_first}
use Rattle.subcommands.proofs.job_notes.tell_notes.Goals as goal

pub returns-in-Err-clause-ends : goal.returns-in-Err-clause-ends
returns-in-Err-clause-ends g c = record {
  left = no_notes 1 _ c.in-Err.status _ _ _ c.in-Err.ensures.profile;
  read =
      ap (λ failed. failed || g.T.ProfileTexts.failed c.read_profile.new.texts) c.requires.job
      ∙ (c.read_profile.ensures.read ∙ ap is_err_at_read c.in-Err.is);
  write = c.requires.stdout ∙ no_write_before 1 _ c.in-Err.status c.in-Err.ensures.profile;
  turns = λ is. absurd (subst (IsEndOfProfile 1 _) is c.in-Err.ensures.profile);
}

pub returns-clause-ends : goal.returns-clause-ends
returns-clause-ends g c =
    let printer = c.in-Ok.profile in
    let named =
    IsNamed (g.T.ProfileTexts.text_of c.args.texts.now c.args.profile.now) (g.T.ProfileTexts.given c.args.texts.now)
    (g.T.ProfileTexts.given c.read_profile.new.texts) in
    let work = c.notes_of-work.result in
    let job = g.S.Source.state c.args.job.now in
    let job' = g.S.Source.state c.notes_of-work.new.reader in
    let old = g.O.Outlet.state c.args.stdout.now in
    let rendered =
    noted_of printer _ c.first_panel-panel.result job job' _ _ work c.limit_items.ensures
    c.first_panel-panel.ensures.value c.notes_of-work.ensures in
    record {
      left =
          notes_left named printer (c.in-Ok.ensures.profile, c.in-Ok.ensures.given) job job' work c.end_notes.result _ _ old
          (g.O.Outlet.state c.end_notes.new.stdout)
          rendered c.new-text.ensures.bytes c.end_notes.ensures.ok
          (stop_state g.O.Outlet.state c.args.stdout.now c.end_notes.new.stdout work c.end_notes.result c.end_notes.ensures.err);
      read =
          ap (λ failed. job'.failed || failed) (c.read_profile.ensures.read ∙ ap is_err_at_read c.in-Ok.is)
          ∙ or-false job'.failed ∙ rendered.read ∙ sym c.end_notes.ensures.read;
      write = c.end_notes.ensures.write;
      turns = λ is. rendered.turns (c.end_notes.ensures.turns is);
    }

pub returns-clause-first : goal.returns-clause-first
returns-clause-first g c =
    judged_first c.end_notes.result _ _ _ _ _ _
    (never_refused c.notes_of-work.result c.end_notes.result _ _ _ _ c.end_notes.ensures.ok c.end_notes.ensures.err)
    (c.read_profile.ensures.read ∙ ap is_err_at_read c.in-Ok.is)
