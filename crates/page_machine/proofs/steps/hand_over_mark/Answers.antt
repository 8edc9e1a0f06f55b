use Rattle.std.proofs.Common.{[], ◌∷◌, ap, refl}
use Rattle.device_profile.specs.declared.panel.Panel.{Panel}
use Rattle.page_env.specs.Mark.{shape_of}
use Rattle.page_env.specs.Settings.{State, state_at}
use Rattle.page_machine.specs.Event.{Marked}
use Rattle.page_machine.specs.Run.{Run, just, Done, peaks_of, effect_run}
use Rattle.page_machine.proofs.Composed.{Follows-is, Follows-step, Follows-stepped, Follows-taken, Follows-refused}
use Rattle.page_machine.proofs.steps.hand_over_mark.Goals as goal

pub returns-in-None-clause-run : goal.returns-in-None-clause-run
returns-in-None-clause-run g c = λ conditions effect is.
    Follows-is _ _ _ _ _ _ _ _ _ (λ panel. ap (effect_run (conditions panel)) (rw c.in-None.is at is panel))
    (Follows-stepped _ _ _ _ c.args.page.now _)

pub returns-in-Err-clause-run : goal.returns-in-Err-clause-run
returns-in-Err-clause-run g c = λ conditions effect is.
    let here : Panel → State = λ panel. state_at panel c.args.page.now in
    let marked : Panel → Run = λ panel. just (Marked (shape_of c.in-Some.mark) ∷ []) (Done (here panel)) in
    Follows-is _ _ _ _ _ _ _ _ _ (λ panel. ap (effect_run (conditions panel)) (rw c.in-Some.is at is panel))
    (Follows-step _ _ _ _ _ _ marked (λ panel. peaks_of (here panel)) _
    (Follows-refused _ _ _ _ _ (Marked (shape_of c.in-Some.mark)) _ marked (λ panel. just [] (Done (here panel))) _
    (λ panel. refl) c.in-Err.ensures.err))

pub returns-in-Ok-clause-run : goal.returns-in-Ok-clause-run
returns-in-Ok-clause-run g c = λ conditions effect is.
    let here : Panel → State = λ panel. state_at panel c.args.page.now in
    let marked : Panel → Run = λ panel. just (Marked (shape_of c.in-Some.mark) ∷ []) (Done (here panel)) in
    Follows-is _ _ _ _ _ _ _ _ _ (λ panel. ap (effect_run (conditions panel)) (rw c.in-Some.is at is panel))
    (Follows-step _ _ _ _ _ _ marked (λ panel. peaks_of (here panel)) _
    (Follows-taken _ _ _ _ _ (Marked (shape_of c.in-Some.mark)) _ marked _ (λ panel. refl) c.in-Ok.ensures.ok))
