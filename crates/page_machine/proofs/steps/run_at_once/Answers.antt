use Rattle.std.proofs.Common.{◌≡◌, true, false, Ok, Err, refl, ap, sym, ◌∙◌, subst}
use Rattle.pcl_items.specs.declared.pcl.command.Command.TheVariants.{FillRectangle}
use Rattle.pcl_items.specs.Items.{Entry, Move, Parameterized, Text, WithData, amount, pair, simple_view, view}
use Rattle.page_env.specs.declared.page.Page.{Page}
use Rattle.page_env.specs.Action.{Acts, EndsWithStep}
use Rattle.page_env.specs.Answers.{CarriesOut, carried_of}
use Rattle.page_env.specs.Settings.{state_at}
use Rattle.page_env.specs.Table.{transition_of}
use Rattle.page_machine.specs.Defining.{LeavesMacros}
use Rattle.page_machine.specs.Run.{begun_run}
use Rattle.page_machine.specs.Still.{is_one_step}
use Rattle.page_machine.proofs.AtOnce.{Follows-begun, StaysFound-begun, begun_stays, step_leaves, step_runs}
use Rattle.page_machine.proofs.Composed.{Follows-found, Follows-is, Follows-stepped}
use Rattle.page_machine.proofs.Still.{row_alone}
use Rattle.page_machine.proofs.steps.run_at_once.Goals as goal

pub returns-in-Text : goal.returns-in-Text
returns-in-Text g c =
    let is : view c.args.item.now ≡ Text c.in-Text.byte.code = ap view c.in-Text.is in (
      subst LeavesMacros (sym is) (refl, refl),
      Follows-begun (view c.args.item.now) c.args.page.now c.begin_item.new.page c.begin_item.ensures _ _ _ _ _ _ c.args.profile.now _
          (Text c.in-Text.byte.code) c.begin_item.new.page is refl c.run_text.ensures.run,
      λ one.
          StaysFound-begun (view c.args.item.now) c.args.page.now c.begin_item.new.page c.begin_item.ensures c.begin_item.new.page
          c.run_text.new.page refl c.run_text.result c.run_text.ensures.still,
    )

pub returns-in-WithData : goal.returns-in-WithData
returns-in-WithData g c =
    let is : view c.args.item.now ≡ WithData c.in-WithData.command c.in-WithData.«data».bytes.now = ap view c.in-WithData.is in (
      subst LeavesMacros (sym is) (refl, refl),
      Follows-begun (view c.args.item.now) c.args.page.now c.begin_item.new.page c.begin_item.ensures _ _ _ _ _ _ c.args.profile.now _
          (WithData c.in-WithData.command c.in-WithData.«data».bytes.now) c.begin_item.new.page is refl c.run_data.ensures.run,
      λ one.
          StaysFound-begun (view c.args.item.now) c.args.page.now c.begin_item.new.page c.begin_item.ensures c.begin_item.new.page
          c.run_data.new.page refl c.run_data.result
          (c.run_data.ensures.still
          (row_alone c.in-WithData.command c.in-WithData.«data».bytes.now (sym (ap is_one_step is) ∙ one))),
    )

pub returns-in-PjlLine : goal.returns-in-PjlLine
unfolding CarriesOut
returns-in-PjlLine g c =
    let item : Entry = view c.args.item.now in
    let begun : Page = c.begin_item.new.page in
    let ends : EndsWithStep item = rw c.in-PjlLine.is (refl, refl) in
    let carried : CarriesOut (λ defaults s. transition_of c.args.profile.now defaults s item) begun begun (carried_of (Ok tt)) =
    rw c.in-PjlLine.is (λ panel defaults. refl) in (
      step_leaves c.args.profile.now item begun begun (Ok tt) ends carried,
      λ conditions.
          Follows-is _ _ _ _ _ _ _ _ _
          (λ panel. ap (begun_run c.args.profile.now (conditions panel) item) (c.begin_item.ensures panel)
          ∙ step_runs c.args.profile.now item begun begun (Ok tt) ends carried (conditions panel) panel)
          (Follows-stepped _ _ _ _ begun _),
      λ one. tt,
    )

pub returns-in-Err : goal.returns-in-Err
unfolding Acts
returns-in-Err g c =
    let item : Entry = simple_view c.in-Simple.item in
    let is : view c.args.item.now ≡ item = ap view c.in-Simple.is in
    rw c.halted.ensures (
      subst LeavesMacros (sym is)
          (step_leaves c.args.profile.now item c.begin_item.new.page c.carry_out.new.page
          (Err c.in-Err.finding) c.in-Err.ensures.0 c.in-Err.ensures.1),
      λ conditions.
          Follows-found _ _ _ _ _ _ _
          (λ panel. ap (begun_run c.args.profile.now (conditions panel) (view c.args.item.now)) (c.begin_item.ensures panel)
          ∙ ap (λ entry. begun_run c.args.profile.now (conditions panel) entry (state_at panel c.begin_item.new.page)) is
          ∙ step_runs c.args.profile.now item c.begin_item.new.page c.carry_out.new.page
          (Err c.in-Err.finding) c.in-Err.ensures.0 c.in-Err.ensures.1 (conditions panel) panel),
      λ one.
          begun_stays (view c.args.item.now) c.args.page.now c.begin_item.new.page c.begin_item.ensures c.carry_out.new.page
          c.in-Err.ensures.2,
    )

pub returns-in-Ok-Stepped : goal.returns-in-Ok-Stepped
unfolding Acts
returns-in-Ok-Stepped g c =
    let item : Entry = simple_view c.in-Simple.item in
    let is : view c.args.item.now ≡ item = ap view c.in-Simple.is in
    let acts = rw c.in-Ok-Stepped.field-0-is at c.in-Ok-Stepped.ensures in (
      subst LeavesMacros (sym is) (step_leaves c.args.profile.now item c.begin_item.new.page c.carry_out.new.page (Ok tt) acts.0 acts.1),
      λ conditions.
          Follows-is _ _ _ _ _ _ _ _ _
          (λ panel. ap (begun_run c.args.profile.now (conditions panel) (view c.args.item.now)) (c.begin_item.ensures panel)
          ∙ ap (λ entry. begun_run c.args.profile.now (conditions panel) entry (state_at panel c.begin_item.new.page)) is
          ∙ step_runs c.args.profile.now item c.begin_item.new.page c.carry_out.new.page (Ok tt) acts.0 acts.1 (conditions panel) panel)
          (Follows-stepped _ _ _ _ c.carry_out.new.page _),
      λ one. tt,
    )

pub returns-in-Ok-Fill : goal.returns-in-Ok-Fill
unfolding Acts
returns-in-Ok-Fill g c =
    let acts = rw c.in-Ok-Fill.field-0-is at c.in-Ok-Fill.ensures in
    let is : view c.args.item.now ≡ Parameterized FillRectangle (amount c.in-Ok-Fill.n) = ap view c.in-Simple.is ∙ acts.1 in (
      subst LeavesMacros (sym is) (refl, refl),
      Follows-begun (view c.args.item.now) c.args.page.now c.begin_item.new.page c.begin_item.ensures _ _ _ _ _ _ c.args.profile.now _
          (Parameterized FillRectangle (amount c.in-Ok-Fill.n)) c.carry_out.new.page is acts.0 c.run_fill.ensures.run,
      λ one.
          StaysFound-begun (view c.args.item.now) c.args.page.now c.begin_item.new.page c.begin_item.ensures c.carry_out.new.page
          c.run_fill.new.page acts.0 c.run_fill.result c.run_fill.ensures.still,
    )

pub returns-in-Ok-Move : goal.returns-in-Ok-Move
unfolding Acts
returns-in-Ok-Move g c =
    let acts = rw c.in-Ok-Move.field-0-is at c.in-Ok-Move.ensures in
    let is : view c.args.item.now ≡ Move c.in-Ok-Move.motion (pair c.in-Ok-Move.to) = ap view c.in-Simple.is ∙ acts.1 in (
      subst LeavesMacros (sym is) (refl, refl),
      Follows-begun (view c.args.item.now) c.args.page.now c.begin_item.new.page c.begin_item.ensures _ _ _ _ _ _ c.args.profile.now _
          (Move c.in-Ok-Move.motion (pair c.in-Ok-Move.to)) c.carry_out.new.page is acts.0 c.run_motion.ensures,
      λ one. let both : false ≡ true = sym (ap is_one_step is) ∙ one in absurd cc,
    )

pub returns-in-Ok-Page : goal.returns-in-Ok-Page
unfolding Acts
returns-in-Ok-Page g c =
    let acts = rw c.in-Ok-Page.field-0-is at c.in-Ok-Page.ensures in
    (ap view c.in-Simple.is ∙ acts.1, refl, λ panel. c.begin_item.ensures panel ∙ ap (state_at panel) (sym acts.0))
