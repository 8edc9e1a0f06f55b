use Rattle.std.proofs.Common.{Bool, None, Option, Some, ap, if◌then◌else◌, sym, ◌∙◌}
use Rattle.page_comparison.specs.declared.turn.Turn.{Turn}
use Rattle.page_comparison.specs.InOrder.{is_resumed, leaving}
use Rattle.page_comparison.specs.Pages.{made_marks}
use Rattle.page_comparison.proofs.turn.last_way.Goals as goal

pub returns-then-is_resumed-clause-found : goal.returns-then-is_resumed-clause-found
returns-then-is_resumed-clause-found g c =
    let p : Turn → Bool = is_resumed c.args.within (made_marks c.args.old.now) (made_marks c.args.new.now) in
    let way : Turn = leaving c.args.together 0 in
    let found : Bool → Option Turn = λ b. if b then Some way else None in
    ap Some c.leaving-turn.ensures
    ∙ ap found (sym c.if-is_resumed.true ∙ (c.is_resumed.ensures.value ∙ ap p c.leaving-turn.ensures))

pub returns-else-is_resumed-clause-found : goal.returns-else-is_resumed-clause-found
returns-else-is_resumed-clause-found g c =
    let p : Turn → Bool = is_resumed c.args.within (made_marks c.args.old.now) (made_marks c.args.new.now) in
    let way : Turn = leaving c.args.together 0 in
    let found : Bool → Option Turn = λ b. if b then Some way else None in
    ap found (sym c.if-is_resumed.false ∙ (c.is_resumed.ensures.value ∙ ap p c.leaving-turn.ensures))
