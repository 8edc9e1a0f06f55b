use Rattle.std.proofs.Common.{[], None, Some, ap, sym, ◌∙◌, refl, cond, is_some, ◌<◌, suc, arith}
use Rattle.device_profile.specs.declared.panel.Panel.{Panel}
use Rattle.pcl_items.specs.Items.{view, amount, simple_view}
use Rattle.page_env.specs.declared.finding.Finding.TheVariants.{InMacro}
use Rattle.page_env.specs.Action.{page_view}
use Rattle.page_env.specs.Answers.{CarriesOut, Changes, Marks, changed, effect_at}
use Rattle.page_env.specs.Settings.{State, settings_at, state_at}
use Rattle.page_machine.specs.declared.nesting.Nesting.TheVariants.{Overlaid}
use Rattle.page_machine.specs.Run.{Run, followed_by, just, Done, Halts, goes, peaks_of, marked_close, close_and_change, effect_run}
use Rattle.page_machine.specs.Run.{item_run, entries_run}
use Rattle.page_machine.specs.Macros.{put_back, give_up, refused, at_level, raster_ended, ended, overlay_run, body_run, macro_item_run}
use Rattle.page_machine.specs.Macros.{control_body, close_in}
use Rattle.page_machine.specs.Machine.{context_with, conditions_with}
use Rattle.page_machine.proofs.AtOnce.{item_run-begun, page_run}
use Rattle.page_machine.proofs.Cases.{page_close-deep, page_close-unset, page_close-passes, overlay_run-unknown, overlay_run-found}
use Rattle.page_machine.proofs.Cases.{marked_close-marked, marked_close-unmarked, control_run-found, control_run-goes, execute-is, call-is}
use Rattle.page_machine.proofs.Cases.{no_body, executed_body, called_body, body_run-none, body_run-some, entries_run-end, entries_run-next}
use Rattle.page_machine.proofs.Composed.{Follows-handed, TakesUpTo-none, TakesUpTo-is, TakesUpTo-rest, TakesUpTo-first, TakesUpTo-after}
use Rattle.page_machine.proofs.Composed.{TakesUpTo-done, Follows-done, Follows-found, Follows-is, Follows-step, Follows-stepped}
use Rattle.page_machine.proofs.Composed.{Follows-onward, Follows-overlay_stopped, Follows-stopped, Follows-took, Follows-after}
use Rattle.page_machine.proofs.Composed.{Follows-put_back, Follows-call_stopped, Follows-give_up}
use Rattle.page_machine.proofs.carrying.+run.Goals as goal

-- ---- closing a page

pub close_page-returns-in-Job : goal.close_page-returns-in-Job
close_page-returns-in-Job g t c =
    Follows-is _ _ _ _ _ _ _ _ _
    (λ panel. ap (λ n. close_in (context_with c.args.around.now panel) n (state_at panel c.args.page.now)) c.in-Job.is) c.page_close.ensures

pub close_page-returns-in-Executed : goal.close_page-returns-in-Executed
close_page-returns-in-Executed g t c =
    Follows-is _ _ _ _ _ _ _ _ _
    (λ panel. ap (λ n. close_in (context_with c.args.around.now panel) n (state_at panel c.args.page.now)) c.in-Executed.is)
    c.page_close-in-Executed.ensures

pub close_page-returns-in-Called : goal.close_page-returns-in-Called
close_page-returns-in-Called g t c =
    Follows-is _ _ _ _ _ _ _ _ _
    (λ panel. ap (λ n. close_in (context_with c.args.around.now panel) n (state_at panel c.args.page.now)) c.in-Called.is)
    c.page_close-in-Called.ensures

pub close_page-returns-in-Overlaid : goal.close_page-returns-in-Overlaid
close_page-returns-in-Overlaid g t c =
    Follows-found _ _ _ _ _ _ _
    (λ panel. ap (λ n. close_in (context_with c.args.around.now panel) n (state_at panel c.args.page.now)) c.in-Overlaid.is)

pub close_marked-returns-then-page : goal.close_marked-returns-then-page
close_marked-returns-then-page g t c =
    Follows-is _ _ _ _ _ _ _ _ _
    (λ panel. marked_close-marked (state_at panel c.args.page.now)
    (close_in (context_with c.args.around.now panel) c.args.around.now.nesting) c.if-page.true)
    c.close_page.ensures

pub close_marked-returns-else-page : goal.close_marked-returns-else-page
close_marked-returns-else-page g t c =
    Follows-done _ _ _ _ _ _ _ (λ panel.
    marked_close-unmarked (state_at panel c.args.page.now)
    (close_in (context_with c.args.around.now panel) c.args.around.now.nesting) c.if-page.false)

pub page_close-returns-then-is_too_deep : goal.page_close-returns-then-is_too_deep
page_close-returns-then-is_too_deep g t c =
    Follows-found _ _ _ _ _ _ _ (λ panel.
    page_close-deep (context_with c.args.around.now panel) (state_at panel c.args.page.now)
    (c.is_too_deep.ensures panel ∙ c.if-is_too_deep.true))

pub page_close-returns-in-Err : goal.page_close-returns-in-Err
page_close-returns-in-Err g t c =
    Follows-found _ _ _ _ _ _ _ (λ panel.
    page_close-unset (context_with c.args.around.now panel) (state_at panel c.args.page.now) c.in-Err.field
    (c.is_too_deep.ensures panel ∙ c.if-is_too_deep.false) (c.in-Err.ensures panel))

pub page_close-returns-in_err-run_overlay-in-Ok : goal.page_close-returns-in_err-run_overlay-in-Ok
page_close-returns-in_err-run_overlay-in-Ok g t c =
    Follows-handed _ _ _ _ _ _ _ c.in_err-run_overlay-in-Ok.field-0.0 c.from_residual.result c.from_residual.ensures.1
    (Follows-is _ _ _ _ _ _ _ _ _ (λ panel.
    page_close-passes (context_with c.args.around.now panel) (state_at panel c.args.page.now)
    (c.is_too_deep.ensures panel ∙ c.if-is_too_deep.false) (c.in-Ok.ensures panel).0)
    (Follows-stopped _ _ _ _ _ c.run_overlay.new.page _ _ (λ panel. ended) _
    (c.in_err-run_overlay-in-Ok.ensures.runs (λ panel. c.overlay_page-overlaid.ensures panel))))

pub page_close-returns-in_ok-run_overlay-in-Ok : goal.page_close-returns-in_ok-run_overlay-in-Ok
page_close-returns-in_ok-run_overlay-in-Ok g t c =
    Follows-is _ _ _ _ _ _ _ _ _ (λ panel.
    page_close-passes (context_with c.args.around.now panel) (state_at panel c.args.page.now)
    (c.is_too_deep.ensures panel ∙ c.if-is_too_deep.false) (c.in-Ok.ensures panel).0)
    (Follows-onward _ _ _ _ _ _ c.run_overlay.new.page _ _ (λ panel. ended) _ _
    (c.in_ok-run_overlay-in-Ok.ensures.runs (λ panel. c.overlay_page-overlaid.ensures panel)) c.end_page.ensures)

pub run_overlay-returns-in_default-body-clause-runs : goal.run_overlay-returns-in_default-body-clause-runs
run_overlay-returns-in_default-body-clause-runs g t c = λ begins.
    Follows-done _ _ _ _ _ _ _ (λ panel.
    overlay_run-unknown (context_with c.args.around.now panel)
    (state_at panel c.args.page.now) c.args.page.now.env.job.overlay c.in-Some.id c.in-Some.is (sym c.body.ensures ∙ c.in_default-body.is))

pub run_overlay-returns-in_err-run_body-clause-runs : goal.run_overlay-returns-in_err-run_body-clause-runs
run_overlay-returns-in_err-run_body-clause-runs g t c = λ begins.
    Follows-handed _ _ _ _ _ _ _ c.in_err-run_body.field-0.0 c.from_residual.result c.from_residual.ensures.1
    (Follows-is _ _ _ _ _ _ _ _ _
    (λ panel. overlay_run-found (context_with c.args.around.now panel)
    (state_at panel c.args.page.now) c.args.page.now.env.job.overlay c.in-Some.id c.in-Some.is c.in-Some-body.body
    (state_at panel c.args.overlaid.now) (sym c.body.ensures ∙ c.in-Some-body.is) (begins panel)
    ∙ ap
    (λ n. give_up (state_at panel c.args.page.now)
    (body_run (context_with c.args.around.now panel) refused n 1 Overlaid c.in-Some-body.body (state_at panel c.args.overlaid.now)))
    (sym c.depth.ensures))
    (Follows-overlay_stopped _ _ _ _ _ c.run_body.new.page c.args.page.now _ _ _ (c.in_err-run_body.ensures 1)))

pub run_overlay-returns-clause-runs : goal.run_overlay-returns-clause-runs
run_overlay-returns-clause-runs g t c = λ begins.
    Follows-is _ _ _ _ _ _ _ _ _
    (λ panel.
    overlay_run-found (context_with c.args.around.now panel) (state_at panel c.args.page.now) c.args.page.now.env.job.overlay c.in-Some.id
    c.in-Some.is c.in-Some-body.body (state_at panel c.args.overlaid.now) (sym c.body.ensures ∙ c.in-Some-body.is) (begins panel)
    ∙ ap
    (λ n. give_up (state_at panel c.args.page.now)
    (body_run (context_with c.args.around.now panel) refused n 1 Overlaid c.in-Some-body.body (state_at panel c.args.overlaid.now)))
    (sym c.depth.ensures))
    (Follows-give_up _ _ _ _ _ c.run_body.new.page c.args.page.now _ _ _ (c.in_ok-run_body.ensures 1))

-- ---- bodies

pub run_body-returns-then-around-eq0 : goal.run_body-returns-then-around-eq0
run_body-returns-then-around-eq0 g t c = λ level.
    Follows-found _ _ _ _ _ _ _ (λ panel.
    body_run-none (context_with c.args.around.now panel) (close_in (context_with c.args.around.now panel) c.args.nesting) level
    c.args.nesting c.args.body.now (state_at panel c.args.page.now) c.args.around.now.left c.if-around-eq0.true)

pub run_body-returns-in_err-run_items : goal.run_body-returns-in_err-run_items
run_body-returns-in_err-run_items g t c = λ level.
    let some : 0 < c.args.around.now.left = omega arith in
    Follows-handed _ _ _ _ _ _ _ c.in_err-run_items.field-0.0 c.from_residual.result c.from_residual.ensures.1
    (Follows-is _ _ _ _ _ _ _ _ _ (λ panel.
    body_run-some (context_with c.args.around.now panel) (close_in (context_with c.args.around.now panel) c.args.nesting) level
    c.args.nesting c.args.body.now (state_at panel c.args.page.now) c.args.around.now.left some)
    (Follows-step _ _ _ _ _ _ _ (λ panel. at_level level) _
    (Follows-stopped _ _ _ _ _ c.run_items.new.page _ _ (λ panel. raster_ended) _ (c.in_err-run_items.ensures (suc level)))))

pub run_body-returns : goal.run_body-returns
run_body-returns g t c = λ level.
    let some : 0 < c.args.around.now.left = omega arith in
    Follows-is _ _ _ _ _ _ _ _ _ (λ panel.
    body_run-some (context_with c.args.around.now panel) (close_in (context_with c.args.around.now panel) c.args.nesting) level
    c.args.nesting c.args.body.now (state_at panel c.args.page.now) c.args.around.now.left some)
    (Follows-step _ _ _ _ _ _ _ (λ panel. at_level level) _
    (Follows-onward _ _ _ _ _ _ c.run_items.new.page _ _ (λ panel. raster_ended) _ _ (c.in_ok-run_items.ensures (suc level))
    (Follows-done _ _ _ c.run_items.new.sink (record c.run_items.new.page { raster = None })
    (λ panel. raster_ended (state_at panel c.run_items.new.page)) _ (λ panel. refl))))

pub run_items-loop-item-init : goal.run_items-loop-item-init
run_items-loop-item-init g t c = λ level. TakesUpTo-none _ g.S.MarkSink.refuses _ _ _ (λ panel. refl)

pub run_items-returns-in_default-next : goal.run_items-returns-in_default-next
run_items-returns-in_default-next g t c = λ level.
    Follows-took _ _ _ _ _ c.loop-item.page _ _
    (TakesUpTo-rest _ g.S.MarkSink.refuses _ _ _ _ _
    (λ panel. entries_run-end (macro_item_run c.args.around.now.profile.now (conditions_with c.args.around.now level panel))
    c.loop-item.body (state_at panel c.loop-item.page) (sym c.in_default.ensures.none ∙ c.in_default-next.ensures.0))
    (c.loop-item.invariant level))

pub run_items-loop-item-preserved-in-Some : goal.run_items-loop-item-preserved-in-Some
run_items-loop-item-preserved-in-Some g t c = λ level.
    TakesUpTo-after _ g.S.MarkSink.refuses _ _ _ _ _ _ (c.loop-item.invariant level)
    (TakesUpTo-is _ g.S.MarkSink.refuses _ _ _ _ _ (λ panel.
    entries_run-next (macro_item_run c.args.around.now.profile.now (conditions_with c.args.around.now level panel)) c.loop-item.body
    c.next_command.new.self (simple_view c.in-Some.item) (state_at panel c.loop-item.page) (c.in-Some.ensures.some))
    (TakesUpTo-first _ g.S.MarkSink.refuses _ _
    (λ panel. macro_item_run c.args.around.now.profile.now (conditions_with c.args.around.now level panel) (simple_view c.in-Some.item)
    (state_at panel c.loop-item.page))
    (λ panel. state_at panel c.run_macro_item.new.page) (λ panel.
    entries_run (macro_item_run c.args.around.now.profile.now (conditions_with c.args.around.now level panel)) c.next_command.new.self)
    (TakesUpTo-done _ g.S.MarkSink.refuses _ _ _ c.run_macro_item.new.page _ _ (c.in_ok-run_macro_item.ensures level))))

pub run_items-loop-item-preserved : goal.run_items-loop-item-preserved
run_items-loop-item-preserved g t c = λ level.
    TakesUpTo-after _ g.S.MarkSink.refuses _ _ _ _ _ _ (c.loop-item.invariant level)
    (TakesUpTo-is _ g.S.MarkSink.refuses _ _ _ _ _ (λ panel.
    entries_run-next (macro_item_run c.args.around.now.profile.now (conditions_with c.args.around.now level panel)) c.loop-item.body
    c.next.new.self (view c.in-Some-next.item) (state_at panel c.loop-item.page) (sym c.in_default.ensures.none ∙ c.in-Some-next.ensures))
    (TakesUpTo-first _ g.S.MarkSink.refuses _ _
    (λ panel. macro_item_run c.args.around.now.profile.now (conditions_with c.args.around.now level panel) (view c.in-Some-next.item)
    (state_at panel c.loop-item.page))
    (λ panel. state_at panel c.run_macro_item-in-loop-item.new.page) (λ panel.
    entries_run (macro_item_run c.args.around.now.profile.now (conditions_with c.args.around.now level panel)) c.next.new.self)
    (TakesUpTo-done _ g.S.MarkSink.refuses _ _ _ c.run_macro_item-in-loop-item.new.page _ _ (c.in_ok-run_macro_item-2.ensures level))))

pub run_items-returns-in_err-run_macro_item : goal.run_items-returns-in_err-run_macro_item
run_items-returns-in_err-run_macro_item g t c = λ level.
    Follows-handed _ _ _ _ _ _ _ c.in_err-run_macro_item.field-0.0 c.from_residual.result c.from_residual.ensures.1
    (Follows-after _ _ _ _ _ _ c.run_macro_item.new.page _ _ _ (c.loop-item.invariant level)
    (Follows-is _ _ _ _ _ _ _ _ _ (λ panel.
    entries_run-next (macro_item_run c.args.around.now.profile.now (conditions_with c.args.around.now level panel)) c.loop-item.body
    c.next_command.new.self (simple_view c.in-Some.item) (state_at panel c.loop-item.page) (c.in-Some.ensures.some))
    (Follows-stopped _ _ _ _ _ c.run_macro_item.new.page _
    (λ panel. macro_item_run c.args.around.now.profile.now (conditions_with c.args.around.now level panel) (simple_view c.in-Some.item)
    (state_at panel c.loop-item.page))
    (λ panel.
    entries_run (macro_item_run c.args.around.now.profile.now (conditions_with c.args.around.now level panel)) c.next_command.new.self)
    _ (c.in_err-run_macro_item.ensures level))))

pub run_items-returns-in_err-run_macro_item-2 : goal.run_items-returns-in_err-run_macro_item-2
run_items-returns-in_err-run_macro_item-2 g t c = λ level.
    Follows-handed _ _ _ _ _ _ _ c.in_err-run_macro_item-2.field-0.0 c.from_residual-in_err-run_macro_item-2.result
    c.from_residual-in_err-run_macro_item-2.ensures.1
    (Follows-after _ _ _ _ _ _ c.run_macro_item-in-loop-item.new.page _ _ _ (c.loop-item.invariant level)
    (Follows-is _ _ _ _ _ _ _ _ _ (λ panel.
    entries_run-next
    (macro_item_run c.args.around.now.profile.now (conditions_with c.args.around.now level panel)) c.loop-item.body c.next.new.self
    (view c.in-Some-next.item) (state_at panel c.loop-item.page) (sym c.in_default.ensures.none ∙ c.in-Some-next.ensures))
    (Follows-stopped _ _ _ _ _ c.run_macro_item-in-loop-item.new.page _
    (λ panel. macro_item_run c.args.around.now.profile.now (conditions_with c.args.around.now level panel) (view c.in-Some-next.item)
    (state_at panel c.loop-item.page))
    (λ panel.
    entries_run (macro_item_run c.args.around.now.profile.now (conditions_with c.args.around.now level panel)) c.next.new.self)
    _ (c.in_err-run_macro_item-2.ensures level))))

pub run_macro_item-returns-in-Err : goal.run_macro_item-returns-in-Err
unfolding Marks
run_macro_item-returns-in-Err g t c = λ level.
    Follows-found _ _ _ _ _ _ _
    (λ panel. ap
    (λ e. followed_by (effect_run (conditions_with c.args.around.now level panel) e)
    (item_run c.args.around.now.profile.now (conditions_with c.args.around.now level panel) (view c.args.item.now)))
    (c.in-Err.ensures.0 panel))

pub run_macro_item-returns-in-Ok : goal.run_macro_item-returns-in-Ok
unfolding Marks
run_macro_item-returns-in-Ok g t c = λ level.
    Follows-is _ _ _ _ _ _ _ _ _
    (λ panel. ap
    (λ e. followed_by (effect_run (conditions_with c.args.around.now level panel) e)
    (item_run c.args.around.now.profile.now (conditions_with c.args.around.now level panel) (view c.args.item.now)))
    (c.in-Ok.ensures.0 panel))
    (Follows-onward _ _ _ _ _ _ c.spend_item.new.page _ _
    (λ panel. item_run c.args.around.now.profile.now (conditions_with c.args.around.now level panel) (view c.args.item.now)) _ _
    (Follows-stepped _ _ _ _ c.spend_item.new.page _) (c.run_next.ensures level))

-- ---- controls

pub execute-returns-in-None : goal.execute-returns-in-None
execute-returns-in-None g t c = λ level.
    Follows-done _ _ _ _ _ _ _ (λ panel.
    execute-is c.args.around.now.macros.now
    (body_run (context_with c.args.around.now panel)
    (close_in (context_with c.args.around.now panel) c.args.around.now.nesting) c.args.around.now.left level)
    c.args.around.now.nesting (state_at panel c.args.page.now) None (sym c.body.ensures ∙ c.in-None.is))

pub execute-returns-in-Some : goal.execute-returns-in-Some
execute-returns-in-Some g t c = λ level.
    Follows-is _ _ _ _ _ _ _ _ _
    (λ panel. execute-is c.args.around.now.macros.now
    (body_run (context_with c.args.around.now panel)
    (close_in (context_with c.args.around.now panel) c.args.around.now.nesting) c.args.around.now.left level)
    c.args.around.now.nesting (state_at panel c.args.page.now) (Some c.in-Some.body) (sym c.body.ensures ∙ c.in-Some.is)
    ∙ executed_body (context_with c.args.around.now panel) c.args.around.now.left level c.args.around.now.nesting c.executed.result
    c.in-Some.body (state_at panel c.args.page.now) c.executed.ensures)
    (c.run_body.ensures level)

pub call-returns-in_default : goal.call-returns-in_default
call-returns-in_default g t c = λ level.
    Follows-done _ _ _ _ _ _ _ (λ panel.
    call-is c.args.around.now.macros.now
    (body_run (context_with c.args.around.now panel)
    (close_in (context_with c.args.around.now panel) c.args.around.now.nesting) c.args.around.now.left level)
    c.args.around.now.nesting (state_at panel c.args.page.now) None (sym c.body.ensures ∙ c.in_default.is))

pub call-returns-in_err-run_body : goal.call-returns-in_err-run_body
call-returns-in_err-run_body g t c = λ level.
    Follows-handed _ _ _ _ _ _ _ c.in_err-run_body.field-0.0 c.from_residual.result c.from_residual.ensures.1
    (Follows-is _ _ _ _ _ _ _ _ _
    (λ panel. call-is c.args.around.now.macros.now
    (body_run (context_with c.args.around.now panel)
    (close_in (context_with c.args.around.now panel) c.args.around.now.nesting) c.args.around.now.left level)
    c.args.around.now.nesting (state_at panel c.args.page.now) (Some c.in-Some.body) (sym c.body.ensures ∙ c.in-Some.is)
    ∙ ap (put_back (settings_at panel c.args.page.now.env))
    (called_body (context_with c.args.around.now panel) c.args.around.now.left level c.args.around.now.nesting c.called.result
    c.in-Some.body (state_at panel c.args.page.now) c.called.ensures))
    (Follows-call_stopped _ _ _ _ _ c.run_body.new.page _ c.args.page.now.env _ _ (c.in_err-run_body.ensures level)))

pub call-returns : goal.call-returns
call-returns g t c = λ level.
    Follows-is _ _ _ _ _ _ _ _ _
    (λ panel. call-is c.args.around.now.macros.now
    (body_run (context_with c.args.around.now panel)
    (close_in (context_with c.args.around.now panel) c.args.around.now.nesting) c.args.around.now.left level)
    c.args.around.now.nesting (state_at panel c.args.page.now) (Some c.in-Some.body) (sym c.body.ensures ∙ c.in-Some.is)
    ∙ ap (put_back (settings_at panel c.args.page.now.env))
    (called_body (context_with c.args.around.now panel) c.args.around.now.left level c.args.around.now.nesting c.called.result
    c.in-Some.body (state_at panel c.args.page.now) c.called.ensures))
    (Follows-put_back _ _ _ _ _ c.run_body.new.page c.args.page.now.env _ _ _ (c.in_ok-run_body.ensures level))

pub run_control-returns-in-Err : goal.run_control-returns-in-Err
unfolding Marks
run_control-returns-in-Err g t c = λ level.
    Follows-found _ _ _ _ _ _ _ (λ panel.
    control_run-found c.args.around.now.macros.now
    (body_run (context_with c.args.around.now panel)
    (close_in (context_with c.args.around.now panel) c.args.around.now.nesting) c.args.around.now.left level)
    c.args.around.now.nesting (amount c.args.n) (state_at panel c.args.page.now) c.is_some-known.result c.is_macro.result
    c.control_of-control.result (c.is_some-known.ensures ∙ ap (λ o. is_some o) c.body.ensures) c.is_macro.ensures
    c.control_of-control.ensures c.in-Err.finding (c.in-Err.ensures.0 panel))

pub run_control-returns-in-Ok : goal.run_control-returns-in-Ok
unfolding Marks
run_control-returns-in-Ok g t c = λ level.
    let next : Panel → State → Run =
    λ panel. control_body c.args.around.now.macros.now
    (body_run (context_with c.args.around.now panel)
    (close_in (context_with c.args.around.now panel) c.args.around.now.nesting) c.args.around.now.left level)
    c.args.around.now.nesting c.control_of-control.result in
    Follows-is _ _ _ _ _ _ _ _ _ (λ panel.
    control_run-goes c.args.around.now.macros.now
    (body_run (context_with c.args.around.now panel)
    (close_in (context_with c.args.around.now panel) c.args.around.now.nesting) c.args.around.now.left level)
    c.args.around.now.nesting (amount c.args.n) (state_at panel c.args.page.now) c.is_some-known.result c.is_macro.result
    c.control_of-control.result (c.is_some-known.ensures ∙ ap (λ o. is_some o) c.body.ensures) c.is_macro.ensures
    c.control_of-control.ensures (state_at panel c.carry_out_control.new.page) (c.in-Ok.ensures.0 panel))
    (Follows-onward _ _ _ _ _ _ c.carry_out_control.new.page _ (λ panel. goes (state_at panel c.carry_out_control.new.page) []) next _ _
    (Follows-stepped _ _ _ _ c.carry_out_control.new.page _)
    (c.run_controlled.ensures level))

-- ---- what is left of an item

pub go_on-returns-in-Err : goal.go_on-returns-in-Err
go_on-returns-in-Err g t c = λ level effect is.
    Follows-found _ _ _ _ _ _ _ (λ panel. ap (effect_run (conditions_with c.args.around.now level panel)) (rw c.in-Err.is at is panel))

pub go_on-returns-in-Stepped : goal.go_on-returns-in-Stepped
go_on-returns-in-Stepped g t c = λ level effect is.
    Follows-is _ _ _ _ _ _ _ _ _
    (λ panel. ap (effect_run (conditions_with c.args.around.now level panel)) (rw (c.in-Ok.is, c.in-Stepped.is) at is panel))
    (Follows-stepped _ _ _ _ c.args.page.now _)

pub go_on-returns-in-Closing : goal.go_on-returns-in-Closing
go_on-returns-in-Closing g t c = λ level effect is.
    Follows-is _ _ _ _ _ _ _ _ _
    (λ panel. ap (effect_run (conditions_with c.args.around.now level panel)) (rw (c.in-Ok.is, c.in-Closing.is) at is panel))
    (c.close_and_change.ensures level)

pub go_on-returns-in-Ending : goal.go_on-returns-in-Ending
go_on-returns-in-Ending g t c = λ level effect is.
    Follows-is _ _ _ _ _ _ _ _ _
    (λ panel. ap (effect_run (conditions_with c.args.around.now level panel)) (rw (c.in-Ok.is, c.in-Ending.is) at is panel))
    (Follows-step _ _ _ _ _ _
    (λ panel. close_in (context_with c.args.around.now panel) c.args.around.now.nesting (state_at panel c.args.page.now))
    (λ panel. peaks_of (state_at panel c.args.page.now)) _ c.close_page.ensures)

pub go_on-returns-in-Controlling : goal.go_on-returns-in-Controlling
go_on-returns-in-Controlling g t c = λ level effect is.
    Follows-is _ _ _ _ _ _ _ _ _
    (λ panel. ap (effect_run (conditions_with c.args.around.now level panel)) (rw (c.in-Ok.is, c.in-Controlling.is) at is panel))
    (c.run_control.ensures level)

pub close_and_change-returns-then-refuses : goal.close_and_change-returns-then-refuses
close_and_change-returns-then-refuses g t c = λ level.
    Follows-found _ _ _ _ _ _ _ (λ panel.
    ap
    (λ b. cond b (just [] (Halts InMacro))
    (close_and_change (conditions_with c.args.around.now level panel) (state_at panel c.args.page.now)
    (λ u. changed (settings_at panel c.args.around.now.defaults.now) u c.args.change)))
    (sym c.refuses.ensures ∙ c.if-refuses.true))

pub close_and_change-returns-in_err-close_marked : goal.close_and_change-returns-in_err-close_marked
close_and_change-returns-in_err-close_marked g t c = λ level.
    Follows-handed _ _ _ _ _ _ _ c.in_err-close_marked.field-0.0 c.from_residual.result c.from_residual.ensures.1
    (Follows-is _ _ _ _ _ _ _ _ _ (λ panel.
    ap
    (λ b. cond b (just [] (Halts InMacro))
    (close_and_change (conditions_with c.args.around.now level panel) (state_at panel c.args.page.now)
    (λ u. changed (settings_at panel c.args.around.now.defaults.now) u c.args.change)))
    (sym c.refuses.ensures ∙ c.if-refuses.false))
    (Follows-step _ _ _ _ _ _ _ (λ panel. peaks_of (state_at panel c.args.page.now)) _
    (Follows-stopped _ _ _ _ _ c.close_marked.new.page _
    (λ panel. marked_close (close_in (context_with c.args.around.now panel) c.args.around.now.nesting) (state_at panel c.args.page.now))
    (λ panel u. just [] (Done (changed (settings_at panel c.args.around.now.defaults.now) u c.args.change))) _
    c.in_err-close_marked.ensures)))

pub close_and_change-returns : goal.close_and_change-returns
unfolding Changes
close_and_change-returns g t c = λ level.
    Follows-is _ _ _ _ _ _ _ _ _ (λ panel.
    ap
    (λ b. cond b (just [] (Halts InMacro))
    (close_and_change (conditions_with c.args.around.now level panel) (state_at panel c.args.page.now)
    (λ u. changed (settings_at panel c.args.around.now.defaults.now) u c.args.change)))
    (sym c.refuses.ensures ∙ c.if-refuses.false))
    (Follows-step _ _ _ _ _ _ _ (λ panel. peaks_of (state_at panel c.args.page.now)) _
    (Follows-onward _ _ _ _ c.close_marked.new.sink _ c.close_marked.new.page _
    (λ panel. marked_close (close_in (context_with c.args.around.now panel) c.args.around.now.nesting) (state_at panel c.args.page.now))
    (λ panel u. just [] (Done (changed (settings_at panel c.args.around.now.defaults.now) u c.args.change))) _ _
    c.in_ok-close_marked.ensures
    (Follows-done _ _ _ c.close_marked.new.sink c.change_page.new.page _ _
    (λ panel. ap (λ s. just [] (Done s)) (c.change_page.ensures panel)))))

-- ---- items

pub run_page_item-returns : goal.run_page_item-returns
unfolding CarriesOut
run_page_item-returns g t c = λ level.
    Follows-is _ _ _ _ _ _ _ _ _
    (λ panel.
    page_run c.args.around.now.profile.now (conditions_with c.args.around.now level panel) c.args.item (state_at panel c.args.page.now)
    ∙ ap (effect_run (conditions_with c.args.around.now level panel))
    (c.carry_out_page_item-carried.ensures panel (settings_at panel c.args.around.now.defaults.now)))
    (c.go_on.ensures level
    (λ panel. effect_at panel
    (settings_at panel c.args.around.now.defaults.now) c.carry_out_page_item-carried.new.page c.carry_out_page_item-carried.result)
    (λ panel. refl))

pub run_next-returns-in-Ended : goal.run_next-returns-in-Ended
run_next-returns-in-Ended g t c = λ level. c.in-Ended.ensures.1 (conditions_with c.args.around.now level)

pub run_next-returns-in-Left : goal.run_next-returns-in-Left
run_next-returns-in-Left g t c = λ level.
    Follows-is _ _ _ _ _ _ _ _ _
    (λ panel. item_run-begun (view c.args.item.now) c.args.page.now c.run_at_once.new.page c.in-Left.ensures.2 c.args.around.now.profile.now
    (conditions_with c.args.around.now level panel) panel (page_view c.in-Left.item) c.run_at_once.new.page c.in-Left.ensures.0 refl)
    (rw c.in-Left.ensures.1 at c.run_page_item.ensures level)

pub run_overlay-returns-in_default-clause-runs : goal.run_overlay-returns-in_default-clause-runs
run_overlay-returns-in_default-clause-runs g t c = λ begins.
    Follows-done _ _ _ _ _ _ _
    (λ panel. ap (overlay_run (context_with c.args.around.now panel) (state_at panel c.args.page.now)) c.in_default.is)

pub run_controlled-returns-then-is_execute : goal.run_controlled-returns-then-is_execute
run_controlled-returns-then-is_execute g t c = λ level.
    Follows-is _ _ _ _ _ _ _ _ _ (λ panel.
    ap
    (λ k. control_body c.args.around.now.macros.now
    (body_run (context_with c.args.around.now panel)
    (close_in (context_with c.args.around.now panel) c.args.around.now.nesting) c.args.around.now.left level)
    c.args.around.now.nesting k (state_at panel c.args.page.now))
    (c.is_execute.ensures.yes c.if-is_execute.true))
    (c.execute.ensures level)

pub run_controlled-returns-then-is_call : goal.run_controlled-returns-then-is_call
run_controlled-returns-then-is_call g t c = λ level.
    Follows-is _ _ _ _ _ _ _ _ _ (λ panel.
    ap
    (λ k. control_body c.args.around.now.macros.now
    (body_run (context_with c.args.around.now panel)
    (close_in (context_with c.args.around.now panel) c.args.around.now.nesting) c.args.around.now.left level)
    c.args.around.now.nesting k (state_at panel c.args.page.now))
    (c.is_call.ensures.yes c.if-is_call.true))
    (c.call.ensures level)

pub run_controlled-returns-else-is_call : goal.run_controlled-returns-else-is_call
run_controlled-returns-else-is_call g t c = λ level.
    Follows-done _ _ _ _ _ _ _ (λ panel.
    no_body c.args.around.now.macros.now
    (body_run (context_with c.args.around.now panel)
    (close_in (context_with c.args.around.now panel) c.args.around.now.nesting) c.args.around.now.left level)
    c.args.around.now.nesting (state_at panel c.args.page.now) c.args.control (c.is_execute.ensures.no c.if-is_execute.false)
    (c.is_call.ensures.no c.if-is_call.false))
