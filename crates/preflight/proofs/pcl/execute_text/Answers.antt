use Rattle.std.proofs.Common.{◌≡◌, length, subst, take, ap, arith}
use Rattle.std.proofs.lemmas.List.{length-take-le}
use Rattle.pcl_lexer.specs.Lexing.Passing.{ahead_of}
use Rattle.preflight.specs.Carriers.Lockstep.{machines_of, counts_of}
use Rattle.preflight.specs.Carriers.TextInStep.{PrintInStep}
use Rattle.preflight.proofs.TextInStep.{lines_done, lines_less, line_modes, still_run}
use Rattle.preflight.proofs.pcl.execute_text.Goals as goal

pub returns-clause-running : goal.returns-clause-running
returns-clause-running g c = still_run _ _ _ _ _ c.execute_ahead-passed.ensures.step c.requires.running

pub returns-clause-modes : goal.returns-clause-modes
returns-clause-modes g c =
    let before = c.args.machines.now in
    let after = c.execute_ahead-passed.new.machines in
    let step =
    subst
    (λ ahead.
    PrintInStep (take c.execute_ahead-passed.result ahead) (machines_of before) (machines_of after) (counts_of before) (counts_of after))
    c.ahead.ensures c.execute_ahead-passed.ensures.step in
    line_modes _ _ _ c.pass_lines.ensures _ _ _ _ step c.requires.modes

pub returns-clause-executed : goal.returns-clause-executed
returns-clause-executed g c = λ fleet bytes executed.
    let before = c.args.machines.now in
    let after = c.execute_ahead-passed.new.machines in
    let step =
    subst
    (λ ahead.
    PrintInStep (take c.execute_ahead-passed.result ahead) (machines_of before) (machines_of after) (counts_of before) (counts_of after))
    c.ahead.ensures c.execute_ahead-passed.ensures.step in
    lines_done fleet bytes _ _ _ _ _ _ _ c.pass_lines.ensures step executed

pub returns-clause-no_more : goal.returns-clause-no_more
returns-clause-no_more g c =
    let ahead = ahead_of c.args.lexer.now in
    let some : length (take c.execute_ahead-passed.result ahead) ≡ c.execute_ahead-passed.result =
    length-take-le c.execute_ahead-passed.result ahead (omega (arith, c.execute_ahead-passed.ensures.short, ap length c.ahead.ensures)) in
    let less = lines_less _ _ _ c.pass_lines.ensures (omega (arith, some)) in
    omega (arith, less)

pub returns-clause-less : goal.returns-clause-less
returns-clause-less g c = λ is.
    let ahead = ahead_of c.args.lexer.now in
    let some : length (take c.execute_ahead-passed.result ahead) ≡ c.execute_ahead-passed.result =
    length-take-le c.execute_ahead-passed.result ahead (omega (arith, c.execute_ahead-passed.ensures.short, ap length c.ahead.ensures)) in
    lines_less _ _ _ c.pass_lines.ensures (omega (arith, some))
