use Rattle.std.proofs.Common.{◌≡◌, false, is_some, Ok, refl, ap, ◌∙◌}
use Rattle.page_env.specs.Action.{page_view}
use Rattle.pcl_items.specs.Items.{Entry}
use Rattle.page_env.specs.declared.change.Carried.TheVariants.{Stepped}
use Rattle.page_env.specs.Answers.{effect_at}
use Rattle.page_env.specs.Settings.{settings_at}
use Rattle.page_machine.specs.MachineState.{MachineState}
use Rattle.page_machine.specs.Machine.{context_of, fields_of}
use Rattle.page_machine.specs.Run.{effect_run}
use Rattle.page_machine.specs.Macros.{in_job}
use Rattle.page_machine.specs.Defining.{is_defining}
use Rattle.page_machine.proofs.AtOnce.{left_leaves, left_runs}
use Rattle.page_machine.proofs.Answering.{alone, item-is_alone, Carries-is, Carries-done}
use Rattle.page_machine.proofs.Composed.{Follows-is, Follows-stepped}
use Rattle.page_machine.proofs.machine.run_page_item.Goals as goal

pub returns-in-Ok-Stepped-clause-carries : goal.returns-in-Ok-Stepped-clause-carries
returns-in-Ok-Stepped-clause-carries g c =
    let item : Entry = page_view c.args.item in
    let machine : MachineState = fields_of c.args.profile.now c.args.defaults.now c.args.page.now c.args.macros.now in
    let open_is : is_defining machine.macros ≡ false = ap (λ d. is_some d) c.requires.no_definition in
    let field = rw c.in-Ok-Stepped.is at c.in-Ok-Stepped.field-0-is in
    let stepped : c.carry_out_page_item-carried.result ≡ Ok Stepped = c.in-Ok-Stepped.is ∙ ap Ok field in
    Carries-is _ _ _ _ _ _ (alone item machine) _ _ _
    (item-is_alone item machine open_is
    (left_leaves c.args.profile.now (page_view c.args.item) c.args.item c.args.page.now c.carry_out_page_item-carried.new.page
    c.carry_out_page_item-carried.result refl c.requires.begun c.carry_out_page_item-carried.ensures stepped))
    (Carries-done _ _ _ _ _ _ (alone item machine) _ tt _
    (Follows-is _ _ _ _ _ _ _ _ _ (λ panel.
    left_runs c.args.profile.now (page_view c.args.item) c.args.item c.args.page.now c.carry_out_page_item-carried.new.page
    c.carry_out_page_item-carried.result refl c.requires.begun c.carry_out_page_item-carried.ensures
    (in_job (context_of machine panel)) panel
    ∙ ap
    (λ result. effect_run (in_job (context_of machine panel))
    (effect_at panel (settings_at panel c.args.defaults.now) c.carry_out_page_item-carried.new.page result))
    stepped)
    (Follows-stepped _ _ _ _ c.carry_out_page_item-carried.new.page tt)) refl)

pub returns-clause-carries : goal.returns-clause-carries
returns-clause-carries g c = c.go_on_page_item.ensures.carries c.args.page.now refl c.requires.begun c.carry_out_page_item-carried.ensures
