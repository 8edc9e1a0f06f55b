use Rattle.std.proofs.Common.{◌≡◌, false, is_some, refl, ap, subst, sym}
use Rattle.page_env.specs.Action.{page_view}
use Rattle.pcl_items.specs.Items.{Entry}
use Rattle.page_env.specs.Answers.{effect_at}
use Rattle.page_env.specs.Settings.{settings_at}
use Rattle.page_machine.specs.MachineState.{MachineState}
use Rattle.page_machine.specs.Machine.{context_of, fields_of}
use Rattle.page_machine.specs.Macros.{in_job}
use Rattle.page_machine.specs.Defining.{StandsIn, carried_after, is_defining}
use Rattle.page_machine.proofs.AtOnce.{left_runs}
use Rattle.page_machine.proofs.Answering.{carried, item-is_carried, Carries-is, Carries-done, Carries-memory, Carries-halted}
use Rattle.page_machine.proofs.Composed.{Follows-is}
use Rattle.page_machine.proofs.Modes.{carried_stands}
use Rattle.page_machine.proofs.machine.go_on_page_item.Goals as goal

pub returns-in-Err-clause-carries : goal.returns-in-Err-clause-carries
returns-in-Err-clause-carries g c = λ page_before id begun carried_out.
    let item : Entry = page_view c.args.left.item in
    let machine : MachineState = fields_of c.args.profile.now c.args.defaults.now page_before c.args.macros.now in
    let open_is : is_defining machine.macros ≡ false = ap (λ d. is_some d) c.requires.no_definition in
    rw c.stop_of.ensures
    (Carries-is _ _ _ _ _ _ (carried item machine) _ _ _ (item-is_carried item machine open_is)
    (Carries-halted _ _ _ _ _ _ (carried item machine) _ _
    (Follows-is _ _ _ _ _ _ _ _ _ (λ panel.
    left_runs c.args.profile.now (page_view c.args.left.item) c.args.left.item page_before c.args.page.now c.args.left.carried refl begun
    carried_out (in_job (context_of machine panel)) panel)
    (rw c.depth.ensures at c.in-Err.ensures 1
    (λ panel. effect_at panel (settings_at panel c.args.defaults.now) c.args.page.now c.args.left.carried) (λ panel. refl)))))

pub returns-in-Ok-keep-clause-carries : goal.returns-in-Ok-keep-clause-carries
returns-in-Ok-keep-clause-carries g c = λ page_before id begun carried_out.
    let item : Entry = page_view c.args.left.item in
    let machine : MachineState = fields_of c.args.profile.now c.args.defaults.now page_before c.args.macros.now in
    let open_is : is_defining machine.macros ≡ false = ap (λ d. is_some d) c.requires.no_definition in
    Carries-is _ _ _ _ _ _ (carried item machine) _ _ _ (item-is_carried item machine open_is)
    (Carries-done _ _ _ _ _ _ (carried item machine) _ _ _
    (Follows-is _ _ _ _ _ _ _ _ _ (λ panel.
    left_runs c.args.profile.now (page_view c.args.left.item) c.args.left.item page_before c.args.page.now c.args.left.carried refl begun
    carried_out (in_job (context_of machine panel)) panel)
    (rw c.depth.ensures at c.in-Ok.ensures 1
    (λ panel. effect_at panel (settings_at panel c.args.defaults.now) c.args.page.now c.args.left.carried) (λ panel. refl)))
    (subst (λ n. c.keep.new.macros ≡ carried_after n item c.args.macros.now) (sym id) c.in-Ok-keep.ensures.ok))

pub returns-in-Err-keep-clause-carries : goal.returns-in-Err-keep-clause-carries
returns-in-Err-keep-clause-carries g c = λ page_before id begun carried_out.
    let item : Entry = page_view c.args.left.item in
    let machine : MachineState = fields_of c.args.profile.now c.args.defaults.now page_before c.args.macros.now in
    let open_is : is_defining machine.macros ≡ false = ap (λ d. is_some d) c.requires.no_definition in
    Carries-is _ _ _ _ _ _ (carried item machine) _ _ _ (item-is_carried item machine open_is)
    (Carries-memory _ _ _ _ _ _ (carried item machine) _ _ _ c.in-Err-keep.ensures.err
    (Follows-is _ _ _ _ _ _ _ _ _ (λ panel.
    left_runs c.args.profile.now (page_view c.args.left.item) c.args.left.item page_before c.args.page.now c.args.left.carried refl begun
    carried_out (in_job (context_of machine panel)) panel)
    (rw c.depth.ensures at c.in-Ok.ensures 1
    (λ panel. effect_at panel (settings_at panel c.args.defaults.now) c.args.page.now c.args.left.carried) (λ panel. refl))))

pub returns-in-Ok-keep-clause-stands : goal.returns-in-Ok-keep-clause-stands
returns-in-Ok-keep-clause-stands g c = λ mode next e.
    subst (λ macros. StandsIn macros next) (sym c.in-Ok-keep.ensures.ok)
    (carried_stands c.args.macros.now c.requires.no_definition c.args.left.id (page_view c.args.left.item) mode next e)
