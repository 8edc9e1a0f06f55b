use Rattle.std.proofs.Common.{◌≡◌, ◌∙◌, ◌||◌, ℕ, List, ap, refl, subst, sym}
use Rattle.job_reports.specs.Groups.{Groups}
use Rattle.named_inputs.specs.Fleet.{IsNamed}
use Rattle.requests.specs.Status.{is_err_at_read}
use Rattle.std.proofs.Math.Bool.{or-false}
use Rattle.streams.specs.Outlet.{Stays}
use Rattle.picture_command.specs.Picture.{BeforeAndAfter, Draws, IsNamedBy}
use Rattle.picture_command.proofs.Commands.{Stays-none, choice_ends, choice_told, early_end, names_of, no_choice, no_panel, no_printer}
use Rattle.picture_command.proofs.Commands.{no_text_refused, none_refused, picture_left, refused_nothing}
use Rattle.picture_command.proofs.command.picture.Goals as goal

-- ---- the profile is not had

pub returns-in-Err-clause-left : goal.returns-in-Err-clause-left
returns-in-Err-clause-left g c =
    no_printer _ _ _ _ _ 1 _ c.in-Err.status ((refl, (refl, Stays-none _)), Stays-none _) c.in-Err.ensures.printer

pub returns-in-Err-clause-read : goal.returns-in-Err-clause-read
returns-in-Err-clause-read g c =
    let second = (g.S.Source.state c.args.second.now).failed in
    let texts = g.T.ProfileTexts.failed c.read_printer.new.texts in
    ap (λ failed. (failed || second) || texts) c.requires.first
    ∙ (ap (λ failed. failed || texts) c.requires.second
    ∙ (c.read_printer.ensures.read
    ∙ ap is_err_at_read c.in-Err.is))

pub returns-in-Err-clause-write : goal.returns-in-Err-clause-write
returns-in-Err-clause-write g c = c.requires.stdout ∙ (early_end _ c.in-Err.status c.in-Err.ensures.printer).write

pub returns-in-Err-clause-turns : goal.returns-in-Err-clause-turns
returns-in-Err-clause-turns g c = λ is. absurd ((early_end _ c.in-Err.status c.in-Err.ensures.printer).turns is)

pub returns-in-Err-clause-refusal : goal.returns-in-Err-clause-refusal
returns-in-Err-clause-refusal g c = (early_end _ c.in-Err.status c.in-Err.ensures.printer).one

pub returns-in-Err-clause-refused : goal.returns-in-Err-clause-refused
returns-in-Err-clause-refused g c = c.in-Err.ensures.refused

-- ---- a choice is refused

pub returns-in-Err-chosen_panel-clause-left : goal.returns-in-Err-chosen_panel-clause-left
returns-in-Err-chosen_panel-clause-left g c =
    no_panel _ _ _ _ _ c.refuse_choice.result c.in-Ok.printer.profile c.in-Err-chosen_panel.choice (refl, (refl, Stays-none _))
    (λ quiet. subst (λ err. Stays (g.E.Outlet.state c.args.stderr.now) (g.E.Outlet.state err))
    (sym (c.refuse_choice.ensures.quiet quiet)) (Stays-none _))
    c.refuse_choice.ensures.choice

pub returns-in-Err-chosen_panel-clause-read : goal.returns-in-Err-chosen_panel-clause-read
returns-in-Err-chosen_panel-clause-read g c =
    let second = (g.S.Source.state c.args.second.now).failed in
    let texts = g.T.ProfileTexts.failed c.read_printer.new.texts in
    ap (λ failed. (failed || second) || texts) c.requires.first
    ∙ (ap (λ failed. failed || texts) c.requires.second
    ∙ (c.read_printer.ensures.read
    ∙ (ap is_err_at_read c.in-Ok.is
    ∙ (choice_ends c.refuse_choice.result _ _ _ _ c.refuse_choice.ensures.choice).read)))

pub returns-in-Err-chosen_panel-clause-write : goal.returns-in-Err-chosen_panel-clause-write
returns-in-Err-chosen_panel-clause-write g c =
    c.requires.stdout ∙ (choice_ends c.refuse_choice.result _ _ _ _ c.refuse_choice.ensures.choice).write

pub returns-in-Err-chosen_panel-clause-turns : goal.returns-in-Err-chosen_panel-clause-turns
returns-in-Err-chosen_panel-clause-turns g c =
    λ is. absurd ((choice_ends c.refuse_choice.result _ _ _ _ c.refuse_choice.ensures.choice).turns is)

pub returns-in-Err-chosen_panel-clause-refusal : goal.returns-in-Err-chosen_panel-clause-refusal
returns-in-Err-chosen_panel-clause-refusal g c = (choice_ends c.refuse_choice.result _ _ _ _ c.refuse_choice.ensures.choice).one _

pub returns-in-Err-chosen_panel-clause-refused : goal.returns-in-Err-chosen_panel-clause-refused
returns-in-Err-chosen_panel-clause-refused g c = (choice_ends c.refuse_choice.result _ _ _ _ c.refuse_choice.ensures.choice).text _ _

pub returns-in-Err-chosen_panel-clause-choice : goal.returns-in-Err-chosen_panel-clause-choice
returns-in-Err-chosen_panel-clause-choice g c =
    let named =
    IsNamed (g.T.ProfileTexts.text_of c.args.texts.now c.args.asked.now.setting.profile.now) (g.T.ProfileTexts.given c.args.texts.now)
    (g.T.ProfileTexts.given c.read_printer.new.texts) in
    choice_told c.refuse_choice.result c.in-Ok.printer.profile c.in-Err-chosen_panel.choice named _ _ _ c.in-Ok.ensures.printer.2.0
    (sym c.in-Err-chosen_panel.ensures.value) c.refuse_choice.ensures.choice

-- ---- the job is gone through

pub returns-clause-left : goal.returns-clause-left
returns-clause-left g c =
    let around : BeforeAndAfter = record {
      first = g.S.Source.state c.args.first.now;
      first' = g.S.Source.state c.draw.new.first;
      second = g.S.Source.state c.args.second.now;
      second' = g.S.Source.state c.draw.new.second;
      out = g.O.Outlet.state c.args.stdout.now;
      out' = g.O.Outlet.state c.draw.new.stdout;
      err = g.E.Outlet.state c.args.stderr.now;
      err' = g.E.Outlet.state c.draw.new.stderr;
    } in
    let asked = c.args.asked.now in
    picture_left _ _ _ _ _ c.draw.result c.draw.ensures.end record {
      printer = c.in-Ok.printer.profile;
      name = c.in-Ok.ensures.printer.0;
      is_printer = c.in-Ok.ensures.printer.2;
      panel = c.in-Ok-chosen_panel.panel;
      panel_is = sym c.in-Ok-chosen_panel.ensures.value;
      group = c.new-printers.result;
      names_are =
          names_of _ _ _ _ c.new-printers.result
          (ap (λ (group : Groups). group.names) c.new-printers.ensures) c.as_slice.ensures.value c.in-Ok.ensures.printer.1;
      is_whole = ap (λ (group : Groups). group.is_each) c.new-printers.ensures;
      draws =
          subst
          (λ (job : List ℕ).
          Draws c.draw.result c.in-Ok.printer.profile c.in-Ok-chosen_panel.panel asked.selection job c.new-printers.result around)
          c.as_bytes.ensures.value c.draw.ensures.left;
    }

pub returns-clause-read : goal.returns-clause-read
returns-clause-read g c =
    let first = (g.S.Source.state c.draw.new.first).failed in
    let second = (g.S.Source.state c.draw.new.second).failed in
    ap (λ failed. (first || second) || failed) (c.read_printer.ensures.read ∙ ap is_err_at_read c.in-Ok.is)
    ∙ (or-false (first || second)
    ∙ c.draw.ensures.read)

pub returns-clause-turns : goal.returns-clause-turns
returns-clause-turns g c = c.draw.ensures.turns

pub returns-clause-refusal : goal.returns-clause-refusal
returns-clause-refusal g c = none_refused c.draw.result _ c.draw.ensures.end

pub returns-clause-refused : goal.returns-clause-refused
returns-clause-refused g c = no_text_refused c.draw.result _ _ c.draw.ensures.end

pub returns-clause-unread : goal.returns-clause-unread
returns-clause-unread g c =
    λ unread. absurd (refused_nothing _ _ c.draw.ensures.end (c.read_printer.ensures.read ∙ ap is_err_at_read c.in-Ok.is) unread)

pub returns-clause-choice : goal.returns-clause-choice
returns-clause-choice g c = no_choice c.draw.result _ _ _ _ c.draw.ensures.end
