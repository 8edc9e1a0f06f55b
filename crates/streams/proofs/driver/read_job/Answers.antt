use Rattle.std.proofs.Common.{take, rules, arith}
use Rattle.std.proofs.lemmas.Result.{err_from_is_err_and}
use Rattle.streams.proofs.Driving.{answered_by_end, answered_by_piece, as_long, still_open, stopped_by_end, stopped_by_piece}
use Rattle.streams.proofs.Driving.{stopped_turning, stopped_unread}
use Rattle.streams.proofs.driver.read_job.Goals as goal

pub returns-in_default-clause-stopped : goal.returns-in_default-clause-stopped
returns-in_default-clause-stopped g c =
    stopped_unread g.C.Consumer.goes_on g.C.Consumer.stops (c.args.consumer.now, c.args.outlet.now) _ _ _ _ c.loop.invariant.way _
    c.in_default.ensures.read.given c.in_default.ensures.read.bytes

pub returns-then-count-eq0-clause-answered : goal.returns-then-count-eq0-clause-answered
returns-then-count-eq0-clause-answered g c =
    let way = c.loop.invariant.way in
    answered_by_end g.C.Consumer.goes_on g.C.Consumer.stops (c.args.consumer.now, c.args.outlet.now) _ _ _ _ way _ c.read.new.buf
    c.in-Ok.count (search rules) c.in-Ok.ensures.read.given c.in-Ok.ensures.read.bytes.0
    g.C.Consumer.answers (c.end.new.self, c.end.new.outlet) c.end.result (c.in-Ok.ensures.read.bytes.1 (search rules) (search rules))
    (c.end.ensures _ _ way.left_open)

pub returns-then-count-eq0-clause-stopped : goal.returns-then-count-eq0-clause-stopped
returns-then-count-eq0-clause-stopped g c =
    let way = c.loop.invariant.way in
    stopped_by_end g.C.Consumer.goes_on g.C.Consumer.stops (c.args.consumer.now, c.args.outlet.now) _ _ _ _ way _ c.read.new.buf
    c.in-Ok.count (search rules) c.in-Ok.ensures.read.given c.in-Ok.ensures.read.bytes.0
    g.C.Consumer.answers (c.end.new.self, c.end.new.outlet) c.end.result (c.end.ensures _ _ way.left_open)

pub returns-in_err-came-clause-stopped : goal.returns-in_err-came-clause-stopped
returns-in_err-came-clause-stopped g c =
    let way = c.loop.invariant.way in
    let same = err_from_is_err_and c.from_residual.result c.from_residual.ensures.1 in
    let came = c.in_err-came.ensures _ _ way.left_open in
    rw (same.1, same.2)
    (stopped_by_piece g.C.Consumer.goes_on g.C.Consumer.stops (c.args.consumer.now, c.args.outlet.now) _ _ _ _ way _
    (take c.in-Ok.count c.read.new.buf) c.in-Ok.ensures.read.given c.in-Ok.ensures.read.bytes.0
    (c.piece.new.self, c.piece.new.outlet) c.in_err-came.field-0.0 came.0 came.1)

pub returns-in-Some-clause-answered : goal.returns-in-Some-clause-answered
returns-in-Some-clause-answered g c =
    let way = c.loop.invariant.way in
    answered_by_piece g.C.Consumer.goes_on g.C.Consumer.stops (c.args.consumer.now, c.args.outlet.now) _ _ _ _ way _
    (take c.in-Ok.count c.read.new.buf) c.in-Ok.ensures.read.given c.in-Ok.ensures.read.bytes.0
    (search rules) (search rules) g.C.Consumer.answers
    (c.piece.new.self, c.piece.new.outlet) c.in_ok-came.came c.in-Some.answer c.in-Some.is (c.in_ok-came.ensures _ _ way.left_open)

pub loop-preserved : goal.loop-preserved
loop-preserved g c =
    let way = c.loop.invariant.way in
    record {
      way =
          still_open g.C.Consumer.goes_on g.C.Consumer.stops (c.args.consumer.now, c.args.outlet.now) _ _ _ _ way _
          (take c.in-Ok.count c.read.new.buf) c.in-Ok.ensures.read.given c.in-Ok.ensures.read.bytes.0
          (search rules) (search rules) g.C.Consumer.answers (c.piece.new.self, c.piece.new.outlet) c.in_ok-came.came c.in-None.is
          (c.in_ok-came.ensures _ _ way.left_open);
      working = search rules;
    }

pub returns-clause-long : goal.returns-clause-long
returns-clause-long g c = λ is.
    as_long g.C.Consumer.goes_on g.C.Consumer.stops (c.args.consumer.now, c.args.outlet.now) _ _ _ _ c.loop.invariant.way
    (omega (arith, c.loop-test.false))

pub returns-clause-stopped : goal.returns-clause-stopped
returns-clause-stopped g c =
    stopped_turning g.C.Consumer.goes_on g.C.Consumer.stops (c.args.consumer.now, c.args.outlet.now) _ _ _ _ c.loop.invariant.way
