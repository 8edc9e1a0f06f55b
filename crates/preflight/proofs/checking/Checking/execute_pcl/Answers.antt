use Rattle.std.proofs.Common.{refl}
use Rattle.preflight.proofs.Loops.{answered, goes_behind, goes_none, goes_same, goes_text, may_again, on_behind, on_open}
use Rattle.preflight.proofs.checking.Checking.execute_pcl.Goals as goal

pub loop-is_open-init : goal.loop-is_open-init
loop-is_open-init g c = record { knows = record { forms = tt; measures = tt }; goes = goes_none _ c.requires }

-- ---- a command with a short number

pub execute_command-requires-clause-may : goal.execute_command-requires-clause-may
execute_command-requires-clause-may g c = may_again _ _ c.loop-is_open.invariant.goes

pub execute_command-requires-clause-knows : goal.execute_command-requires-clause-knows
execute_command-requires-clause-knows g c = c.loop-is_open.invariant.knows

pub loop-is_open-preserved-else-not-is_open : goal.loop-is_open-preserved-else-not-is_open
loop-is_open-preserved-else-not-is_open g c =
    let one = c.in-Some.ensures.executed in
    record {
      knows = one.knows c.if-not-is_open.false;
      goes = goes_behind _ _ _ _ c.loop-is_open.invariant.goes c.if-not-is_open.false one.executes;
    }

pub returns-then-not-is_open : goal.returns-then-not-is_open
returns-then-not-is_open g c =
    answered _ _ _ _ c.if-not-is_open.true (on_behind _ _ _ _ c.loop-is_open.invariant.goes c.in-Some.ensures.executed.executes)

-- ---- lines of text, where there is none

pub execute_text-requires-clause-running : goal.execute_text-requires-clause-running
execute_text-requires-clause-running g c =
    (goes_same _ _ _ c.in_default.ensures.none c.loop-is_open.invariant.goes).through.running

pub execute_text-requires-clause-modes : goal.execute_text-requires-clause-modes
execute_text-requires-clause-modes g c = (goes_same _ _ _ c.in_default.ensures.none c.loop-is_open.invariant.goes).through.modes

pub execute_text-requires-clause-known : goal.execute_text-requires-clause-known
execute_text-requires-clause-known g c = c.in_default.ensures.knows.forms

pub execute_text-requires-clause-measured : goal.execute_text-requires-clause-measured
execute_text-requires-clause-measured g c = c.in_default.ensures.knows.measures

pub loop-is_open-preserved-then-execute_text : goal.loop-is_open-preserved-then-execute_text
loop-is_open-preserved-then-execute_text g c =
    let text = c.execute_text.ensures in
    let so_far = goes_same _ _ _ c.in_default.ensures.none c.loop-is_open.invariant.goes in
    record {
      knows = record { forms = text.known; measures = text.measured };
      goes =
          goes_text _ c.execute_command.new.self _ c.execute_text.new.lexer c.execute_text.new.machines refl so_far
          record { ended = text.ended; place = text.place; no_more = text.no_more }
          record { running = text.running; modes = text.modes; executed = text.executed };
    }

-- ---- any other escape sequence, behind no text

pub execute_escape-requires-clause-may : goal.execute_escape-requires-clause-may
execute_escape-requires-clause-may g c =
    let text = c.execute_text.ensures in
    let so_far = goes_same _ _ _ c.in_default.ensures.none c.loop-is_open.invariant.goes in
    may_again _ _
    (goes_text _ c.execute_command.new.self _ c.execute_text.new.lexer c.execute_text.new.machines refl so_far
    record { ended = text.ended; place = text.place; no_more = text.no_more }
    record { running = text.running; modes = text.modes; executed = text.executed })

pub execute_escape-requires-clause-knows : goal.execute_escape-requires-clause-knows
execute_escape-requires-clause-knows g c = record { forms = c.execute_text.ensures.known; measures = c.execute_text.ensures.measured }

pub loop-is_open-preserved-else-not-is_open-2 : goal.loop-is_open-preserved-else-not-is_open-2
loop-is_open-preserved-else-not-is_open-2 g c =
    let text = c.execute_text.ensures in
    let so_far = goes_same _ _ _ c.in_default.ensures.none c.loop-is_open.invariant.goes in
    let goes =
    goes_text _ c.execute_command.new.self _ c.execute_text.new.lexer c.execute_text.new.machines refl so_far
    record { ended = text.ended; place = text.place; no_more = text.no_more }
    record { running = text.running; modes = text.modes; executed = text.executed } in
    let one = c.in-Some-execute_escape.ensures.executed in
    record { knows = one.knows c.if-not-is_open-2.false; goes = goes_behind _ _ _ _ goes c.if-not-is_open-2.false one.executes }

pub returns-then-not-is_open-2 : goal.returns-then-not-is_open-2
returns-then-not-is_open-2 g c =
    let text = c.execute_text.ensures in
    let so_far = goes_same _ _ _ c.in_default.ensures.none c.loop-is_open.invariant.goes in
    let goes =
    goes_text _ c.execute_command.new.self _ c.execute_text.new.lexer c.execute_text.new.machines refl so_far
    record { ended = text.ended; place = text.place; no_more = text.no_more }
    record { running = text.running; modes = text.modes; executed = text.executed } in
    answered _ _ _ _ c.if-not-is_open-2.true (on_behind _ _ _ _ goes c.in-Some-execute_escape.ensures.executed.executes)

-- ---- the end of a line that is not known to go

pub execute_line_end-requires-clause-may : goal.execute_line_end-requires-clause-may
execute_line_end-requires-clause-may g c =
    let text = c.execute_text.ensures in
    let so_far = goes_same _ _ _ c.in_default.ensures.none c.loop-is_open.invariant.goes in
    let goes =
    goes_text _ c.execute_command.new.self _ c.execute_text.new.lexer c.execute_text.new.machines refl so_far
    record { ended = text.ended; place = text.place; no_more = text.no_more }
    record { running = text.running; modes = text.modes; executed = text.executed } in
    may_again _ _ (goes_same _ _ _ c.in_default-execute_escape.ensures.none goes)

pub loop-is_open-preserved : goal.loop-is_open-preserved
loop-is_open-preserved g c =
    let text = c.execute_text.ensures in
    let so_far = goes_same _ _ _ c.in_default.ensures.none c.loop-is_open.invariant.goes in
    let goes =
    goes_text _ c.execute_command.new.self _ c.execute_text.new.lexer c.execute_text.new.machines refl so_far
    record { ended = text.ended; place = text.place; no_more = text.no_more }
    record { running = text.running; modes = text.modes; executed = text.executed } in
    let here = goes_same _ _ _ c.in_default-execute_escape.ensures.none goes in
    let one = c.in-Some-execute_line_end.ensures.executed in
    record { knows = one.knows c.if-not-is_open-3.false; goes = goes_behind _ _ _ _ here c.if-not-is_open-3.false one.executes }

pub returns-then-not-is_open-3 : goal.returns-then-not-is_open-3
returns-then-not-is_open-3 g c =
    let text = c.execute_text.ensures in
    let so_far = goes_same _ _ _ c.in_default.ensures.none c.loop-is_open.invariant.goes in
    let goes =
    goes_text _ c.execute_command.new.self _ c.execute_text.new.lexer c.execute_text.new.machines refl so_far
    record { ended = text.ended; place = text.place; no_more = text.no_more }
    record { running = text.running; modes = text.modes; executed = text.executed } in
    let here = goes_same _ _ _ c.in_default-execute_escape.ensures.none goes in
    answered _ _ _ _ c.if-not-is_open-3.true (on_behind _ _ _ _ here c.in-Some-execute_line_end.ensures.executed.executes)

-- ---- neither

pub returns-in_default-execute_line_end : goal.returns-in_default-execute_line_end
returns-in_default-execute_line_end g c =
    let text = c.execute_text.ensures in
    let so_far = goes_same _ _ _ c.in_default.ensures.none c.loop-is_open.invariant.goes in
    let goes =
    goes_text _ c.execute_command.new.self _ c.execute_text.new.lexer c.execute_text.new.machines refl so_far
    record { ended = text.ended; place = text.place; no_more = text.no_more }
    record { running = text.running; modes = text.modes; executed = text.executed } in
    let here = goes_same _ _ _ c.in_default-execute_escape.ensures.none goes in
    on_open _ _ (goes_same _ _ _ c.in_default-execute_line_end.ensures.none here)
