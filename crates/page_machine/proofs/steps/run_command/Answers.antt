use Rattle.std.proofs.Common.{Ok, Err, refl, ap, sym, ◌∙◌, subst}
use Rattle.pcl_items.specs.declared.pcl.command.Command.TheVariants.{FillRectangle}
use Rattle.pcl_items.specs.Items.{Entry, Parameterized, amount}
use Rattle.page_env.specs.Action.{Acts}
use Rattle.page_env.proofs.Steps.{as_valued}
use Rattle.page_env.specs.Settings.{state_at}
use Rattle.page_machine.specs.Defining.{LeavesMacros}
use Rattle.page_machine.specs.Run.{begun_run}
use Rattle.page_machine.proofs.AtOnce.{Follows-begun, StaysFound-begun, begun_stays, step_leaves, step_runs}
use Rattle.page_machine.proofs.Composed.{Follows-found, Follows-is, Follows-stepped}
use Rattle.page_machine.proofs.steps.run_command.Goals as goal

pub returns-in-Err : goal.returns-in-Err
unfolding Acts
returns-in-Err g c =
    let item : Entry = Parameterized c.args.command (amount c.args.n) in
    let acts =
    as_valued c.args.profile.now c.args.command c.args.n c.begin_command.new.page c.carry_out_usual_command.new.page
    (Err c.in-Err.finding) c.in-Err.ensures in
    rw c.halted.ensures (
      step_leaves c.args.profile.now item c.begin_command.new.page c.carry_out_usual_command.new.page (Err c.in-Err.finding) acts.0 acts.1,
      λ conditions.
          Follows-found _ _ _ _ _ _ _
          (λ panel. ap (begun_run c.args.profile.now (conditions panel) item) (c.begin_command.ensures (amount c.args.n) panel)
          ∙ step_runs c.args.profile.now item c.begin_command.new.page c.carry_out_usual_command.new.page
          (Err c.in-Err.finding) acts.0 acts.1 (conditions panel) panel),
      λ one.
          begun_stays item c.args.page.now c.begin_command.new.page (c.begin_command.ensures (amount c.args.n))
          c.carry_out_usual_command.new.page acts.2,
    )

pub returns-in-Ok-Stepped : goal.returns-in-Ok-Stepped
unfolding Acts
returns-in-Ok-Stepped g c =
    let item : Entry = Parameterized c.args.command (amount c.args.n) in
    let acts =
    as_valued c.args.profile.now c.args.command c.args.n c.begin_command.new.page c.carry_out_usual_command.new.page _
    (rw c.in-Ok-Stepped.field-0-is at c.in-Ok-Stepped.ensures) in (
      step_leaves c.args.profile.now item c.begin_command.new.page c.carry_out_usual_command.new.page (Ok tt) acts.0 acts.1,
      λ conditions.
          Follows-is _ _ _ _ _ _ _ _ _
          (λ panel. ap (begun_run c.args.profile.now (conditions panel) item) (c.begin_command.ensures (amount c.args.n) panel)
          ∙ step_runs c.args.profile.now item c.begin_command.new.page c.carry_out_usual_command.new.page (Ok tt) acts.0 acts.1
          (conditions panel) panel)
          (Follows-stepped _ _ _ _ c.carry_out_usual_command.new.page _),
      λ one. tt,
    )

pub returns-in-Ok-Fill : goal.returns-in-Ok-Fill
unfolding Acts
returns-in-Ok-Fill g c =
    let item : Entry = Parameterized c.args.command (amount c.args.n) in
    let acts =
    as_valued c.args.profile.now c.args.command c.args.n c.begin_command.new.page c.carry_out_usual_command.new.page _
    (rw c.in-Ok-Fill.field-0-is at c.in-Ok-Fill.ensures) in (
      subst LeavesMacros (sym acts.1) (refl, refl),
      Follows-begun item c.args.page.now c.begin_command.new.page (c.begin_command.ensures (amount c.args.n)) _ _ _ _ _ _ c.args.profile.now
          _ (Parameterized FillRectangle (amount c.args.n)) c.carry_out_usual_command.new.page acts.1 acts.0 c.run_fill.ensures.run,
      λ one.
          StaysFound-begun item c.args.page.now c.begin_command.new.page (c.begin_command.ensures (amount c.args.n))
          c.carry_out_usual_command.new.page c.run_fill.new.page acts.0 c.run_fill.result c.run_fill.ensures.still,
    )

pub returns-in-Ok-Page : goal.returns-in-Ok-Page
unfolding Acts
returns-in-Ok-Page g c =
    let acts =
    as_valued c.args.profile.now c.args.command c.args.n c.begin_command.new.page c.carry_out_usual_command.new.page _
    (rw c.in-Ok-Page.field-0-is at c.in-Ok-Page.ensures) in
    (acts.1, refl, λ panel. c.begin_command.ensures (amount c.args.n) panel ∙ ap (state_at panel) (sym acts.0))
