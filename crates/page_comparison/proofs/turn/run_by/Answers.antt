use Rattle.std.proofs.Common.{◌∷◌, Bool, Option, Some, [], ap, cond, find, sym, ◌∙◌}
use Rattle.page_comparison.specs.declared.turn.Turn.{Turn}
use Rattle.page_comparison.specs.InOrder.{is_resumed, leaving}
use Rattle.page_comparison.specs.Pages.{made_marks}
use Rattle.page_comparison.proofs.turn.run_by.Goals as goal

pub returns-then-is_resumed-clause-found : goal.returns-then-is_resumed-clause-found
returns-then-is_resumed-clause-found g c =
    let p : Turn → Bool = is_resumed c.args.within (made_marks c.args.old.now) (made_marks c.args.new.now) in
    let way : Turn = leaving 0 c.args.many in
    let found : Bool → Option Turn = λ b. cond b (Some way) (find p (leaving c.args.many 0 ∷ [])) in
    ap Some c.leaving-turn.ensures
    ∙ ap found (sym c.if-is_resumed.true ∙ (c.is_resumed.ensures.value ∙ ap p c.leaving-turn.ensures))

pub returns-clause-found : goal.returns-clause-found
returns-clause-found g c =
    let p : Turn → Bool = is_resumed c.args.within (made_marks c.args.old.now) (made_marks c.args.new.now) in
    let way : Turn = leaving 0 c.args.many in
    let found : Bool → Option Turn = λ b. cond b (Some way) (find p (leaving c.args.many 0 ∷ [])) in
    c.last_way.ensures.found
    ∙ ap found (sym c.if-is_resumed.false ∙ (c.is_resumed.ensures.value ∙ ap p c.leaving-turn.ensures))
