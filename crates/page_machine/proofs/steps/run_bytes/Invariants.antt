use Rattle.std.proofs.Common.{take, Ok}
use Rattle.device_profile.specs.declared.panel.Panel.{Panel}
use Rattle.page_env.specs.Settings.{state_at}
use Rattle.page_machine.specs.Run.{Conditions, unmoved, printing}
use Rattle.page_machine.specs.Follows.{Follows}
use Rattle.page_machine.proofs.steps.run_bytes.Given as goal

abbrev pub invariant-loop-code : goal.invariant-loop-code
invariant-loop-code g l =
    (conditions : Panel → Conditions) → Follows {F = g.row.S-Fault.Denot} g.S.MarkSink.takes g.S.MarkSink.refuses
    (λ panel. printing l.profile (conditions panel) (unmoved (state_at panel l.initial.page)) (take l.code-index l.bytes))
    l.initial.sink l.sink l.page (Ok tt)
