use Rattle.std.proofs.Common.{◌≡◌, ◌-◌, Bool, ap, arith, find}
use Rattle.page_comparison.specs.declared.turn.Turn.{Turn}
use Rattle.page_comparison.specs.InOrder.{is_resumed, runs}
use Rattle.page_comparison.specs.Pages.{made_marks}
use Rattle.page_comparison.proofs.Finding.{run_end, run_found, run_more}
use Rattle.page_comparison.proofs.turn.first_run.Goals as goal

pub loop-before-init : goal.loop-before-init
loop-before-init g c =
    let p : Turn → Bool = is_resumed c.args.within (made_marks c.args.old.now) (made_marks c.args.new.now) in
    let all : c.args.most - 0 ≡ c.args.most = omega arith in
    ap (λ n. find p (runs 65 n)) all

pub loop-before-preserved : goal.loop-before-preserved
loop-before-preserved g c =
    let p : Turn → Bool = is_resumed c.args.within (made_marks c.args.old.now) (made_marks c.args.new.now) in
    run_more p c.loop-before.before c.args.most (find p (runs 65 c.args.most)) c.loop-before-test.true c.in-None.ensures.found
    c.loop-before.invariant

pub returns-in-Some-clause-found : goal.returns-in-Some-clause-found
returns-in-Some-clause-found g c =
    let p : Turn → Bool = is_resumed c.args.within (made_marks c.args.old.now) (made_marks c.args.new.now) in
    run_found p c.loop-before.before c.args.most (find p (runs 65 c.args.most)) c.loop-before-test.true c.in-Some.turn
    c.in-Some.ensures.found c.loop-before.invariant

pub returns-clause-found : goal.returns-clause-found
returns-clause-found g c =
    let p : Turn → Bool = is_resumed c.args.within (made_marks c.args.old.now) (made_marks c.args.new.now) in
    run_end p c.loop-before.before c.args.most (find p (runs 65 c.args.most)) c.loop-before-test.false c.loop-before.invariant
