use Rattle.std.proofs.Common.{ap, arith, rules, ◌∙◌}
use Rattle.comparison.specs.Running.{RunState, is_open}
use Rattle.comparison.proofs.Running.{nothing_made}
use Rattle.comparison.proofs.running_job.RunningJob.read.Goals as goal

pub take_end-requires-clause-few : goal.take_end-requires-clause-few
take_end-requires-clause-few g c =
    let reads = ap (λ (s : RunState). s.reads) c.self.view_is in
    let ready = c.self.invariant (ap (λ (s : RunState). is_open s.progress) c.self.view_is ∙ c.requires.waits.running) in
    omega (arith, reads, ready.4)

pub take_piece-requires-clause-few : goal.take_piece-requires-clause-few
take_piece-requires-clause-few g c =
    let reads = ap (λ (s : RunState). s.reads) c.self.view_is in
    let ready = c.self.invariant (ap (λ (s : RunState). is_open s.progress) c.self.view_is ∙ c.requires.waits.running) in
    omega (arith, reads, ready.4)

pub take_piece-requires-clause-small : goal.take_piece-requires-clause-small
take_piece-requires-clause-small g c =
    let reads = ap (λ (s : RunState). s.reads) c.self.view_is in
    let total = ap (λ (s : RunState). s.total) c.self.view_is in
    let ready = c.self.invariant (ap (λ (s : RunState). is_open s.progress) c.self.view_is ∙ c.requires.waits.running) in
    omega (arith, reads, total, ready.3)

pub returns-then-count-eq0-clause-run : goal.returns-then-count-eq0-clause-run
returns-then-count-eq0-clause-run g c = λ printer panel first made h.
    let mid = g.S.Source.state c.args.source.now in
    let now = g.S.Source.state c.read.new.self in
    nothing_made printer panel first now made c.take_end.new.self c.take_end.ensures.none
    (c.take_end.ensures.ended printer panel first mid now made c.read.new.buf c.in-Ok.count (search rules) h c.in-Ok.ensures.read.given
    c.in-Ok.ensures.read.bytes.0 (c.in-Ok.ensures.read.bytes.1 (search rules) (search rules)))

pub returns-clause-run : goal.returns-clause-run
returns-clause-run g c = λ printer panel first made h.
    let mid = g.S.Source.state c.args.source.now in
    let now = g.S.Source.state c.read.new.self in
    nothing_made printer panel first now made c.take_piece.new.self c.in_ok-take_piece.ensures.none
    (c.in_ok-take_piece.ensures.fed printer panel first mid now made h c.in-Ok.ensures.read.given c.in-Ok.ensures.read.bytes.0)
