use Rattle.std.proofs.Common.{rules, take, drop, suc, get_or, [], refl, ap, sym}
use Rattle.std.proofs.lemmas.List.{take_all}
use Rattle.device_profile.specs.declared.panel.Panel.{Panel}
use Rattle.page_env.specs.Settings.{State, state_at}
use Rattle.page_machine.specs.Run.{Run, just, Done, peaks_of, followed_by, unmoved, byte_run, printing}
use Rattle.page_machine.proofs.Composed.{Follows-handed, Follows-is, Follows-step, Follows-done, Follows-onward}
use Rattle.page_machine.proofs.Printing.{printing-next, printing-split, Follows-cut}
use Rattle.page_machine.proofs.steps.run_bytes.Goals as goal

pub loop-code-init : goal.loop-code-init
loop-code-init g c = λ conditions.
    let here : Panel → State = λ panel. state_at panel c.args.page.now in
    Follows-step _ _ _ _ _ _ (λ panel. just [] (Done (here panel))) (λ panel. peaks_of (here panel)) _
    (Follows-done _ _ _ _ c.args.page.now (λ panel. just [] (Done (here panel))) _ (λ panel. refl))

pub returns-in_err-run_byte : goal.returns-in_err-run_byte
returns-in_err-run_byte g c = λ conditions.
    let start : Panel → Run = λ panel. unmoved (state_at panel c.args.page.now) in
    let i = c.loop-code.code-index in
    Follows-handed _ _ _ _ _ _ _ c.in_err-run_byte.field-0.0 c.from_residual.result c.from_residual.ensures.1
    (Follows-is _ _ _ _ _ _ _ _ _
    (λ panel. printing-split c.args.profile.now (conditions panel) (start panel) c.args.bytes.now i _ (search rules))
    (Follows-cut _ _ _ _ _ _ c.args.profile.now conditions
    (λ panel. followed_by (printing c.args.profile.now (conditions panel) (start panel) (take i c.args.bytes.now))
    (byte_run c.args.profile.now (conditions panel) (get_or c.args.bytes.now i _)))
    c.in_err-run_byte.field-0.0 (drop (suc i) c.args.bytes.now)
    (Follows-onward _ _ _ _ c.loop-code.sink _ c.loop-code.page _ _
    (λ panel. byte_run c.args.profile.now (conditions panel) (get_or c.args.bytes.now i _)) _ _ (c.loop-code.invariant conditions)
    (c.in_err-run_byte.ensures conditions))))

pub loop-code-preserved : goal.loop-code-preserved
loop-code-preserved g c = λ conditions.
    let start : Panel → Run = λ panel. unmoved (state_at panel c.args.page.now) in
    let i = c.loop-code.code-index in
    Follows-is _ _ _ _ _ _ _ _ _
    (λ panel. printing-next c.args.profile.now (conditions panel) (start panel) c.args.bytes.now i _ (search rules))
    (Follows-onward _ _ _ _ c.loop-code.sink _ c.loop-code.page _ _
    (λ panel. byte_run c.args.profile.now (conditions panel) (get_or c.args.bytes.now i _)) _ _ (c.loop-code.invariant conditions)
    (c.in_ok-run_byte.ensures conditions))

pub returns : goal.returns
returns g c = λ conditions.
    let start : Panel → Run = λ panel. unmoved (state_at panel c.args.page.now) in
    Follows-is _ _ _ _ _ _ _ _ _
    (λ panel. ap (λ xs. printing c.args.profile.now (conditions panel) (start panel) xs)
    (sym (take_all c.loop-code.code-index c.args.bytes.now (search rules))))
    (c.loop-code.invariant conditions)
