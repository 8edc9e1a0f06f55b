use Rattle.std.proofs.Common.{◌≡◌, ◌≤◌, ◌-◌, Bool, Some, ap, arith, find, refl, ◌∙◌}
use Rattle.page_comparison.specs.declared.turn.Turn.{Turn}
use Rattle.page_comparison.specs.InOrder.{is_resumed, leaving, splits}
use Rattle.page_comparison.specs.Pages.{made_marks}
use Rattle.page_comparison.proofs.Finding.{split_found, split_last, split_more}
use Rattle.page_comparison.proofs.turn.resumed_by.Goals as goal

pub loop-count-init : goal.loop-count-init
loop-count-init g c =
    let p : Turn → Bool = is_resumed c.args.within (made_marks c.args.old.now) (made_marks c.args.new.now) in
    let all : c.args.together - 0 ≡ c.args.together = omega arith in
    ap (λ n. find p (splits 0 n)) all

pub loop-count-preserved : goal.loop-count-preserved
loop-count-preserved g c =
    let p : Turn → Bool = is_resumed c.args.within (made_marks c.args.old.now) (made_marks c.args.new.now) in
    let test = c.is_resumed.ensures.value ∙ ap p c.leaving-turn.ensures in
    split_more p c.loop-count.count c.args.together (find p (splits 0 c.args.together)) c.loop-count-test.true c.is_resumed.result
    test c.if-is_resumed.false c.loop-count.invariant

pub returns-then-is_resumed-clause-found : goal.returns-then-is_resumed-clause-found
returns-then-is_resumed-clause-found g c =
    let p : Turn → Bool = is_resumed c.args.within (made_marks c.args.old.now) (made_marks c.args.new.now) in
    let test = c.is_resumed.ensures.value ∙ ap p c.leaving-turn.ensures in
    ap Some c.leaving-turn.ensures
    ∙ split_found p c.loop-count.count c.args.together (find p (splits 0 c.args.together)) c.loop-count-test.true c.is_resumed.result
    test c.if-is_resumed.true c.loop-count.invariant

pub returns-clause-found : goal.returns-clause-found
returns-clause-found g c =
    let p : Turn → Bool = is_resumed c.args.within (made_marks c.args.old.now) (made_marks c.args.new.now) in
    let within : c.loop-count.count ≤ c.args.together = omega arith in
    c.last_way.ensures.found
    ∙ split_last p c.loop-count.count c.args.together (find p (splits 0 c.args.together)) within c.loop-count-test.false
    (p (leaving c.args.together 0)) refl c.loop-count.invariant
