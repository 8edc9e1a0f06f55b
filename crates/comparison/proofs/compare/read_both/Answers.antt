use Rattle.std.proofs.Common.{[], arith, ap, rules, subst, take, IfOk, None, Ok, Option, Some, ◌∙◌}
use Rattle.comparison.specs.Running.{RunState}
use Rattle.comparison.specs.Together.{TakenOfBoth}
use Rattle.comparison.proofs.Partings.{both_read, over_by, parted_read}
use Rattle.comparison.proofs.compare.read_both.Goals as goal

pub returns-in-Ok-None-clause-stand : goal.returns-in-Ok-None-clause-stand
returns-in-Ok-None-clause-stand g c = λ spot.
    let old_now' = g.S.Source.state c.read.new.self in
    let new_now' = g.T.Source.state c.read-2.new.self in
    let piece = take c.in-Ok.count c.read.new.buf in
    let other = take c.in-Ok-read.new_count c.read-2.new.buf in
    let run' : RunState = c.take_of_both.new.both in
    both_read (g.S.Source.state c.args.old_job.now) old_now' (g.T.Source.state c.args.new_job.now) new_now' piece other
    c.in-Ok.ensures.read.given c.in-Ok-read.ensures.read.given c.in-Ok.ensures.read.bytes.0 c.in-Ok-read.ensures.read.bytes.0
    (over_by c.read.new.buf c.in-Ok.count old_now'.remaining c.in-Ok.ensures.bound.0 (search rules) c.in-Ok.ensures.read.bytes.1)
    (over_by c.read-2.new.buf c.in-Ok-read.new_count new_now'.remaining c.in-Ok-read.ensures.bound.0 (search rules)
    c.in-Ok-read.ensures.read.bytes.1)
    c.args.both.now run' spot
    (subst (λ r. IfOk r (λ (parted : Option RunState). TakenOfBoth piece other c.args.both.now run' parted))
    (c.in-Ok-None.is ∙ ap Ok c.in-Ok-None.field-0-is) c.take_of_both.ensures.taken)

pub returns-in-Ok-Some-clause-stand : goal.returns-in-Ok-Some-clause-stand
returns-in-Ok-Some-clause-stand g c = λ spot.
    let old_now' = g.S.Source.state c.read.new.self in
    let new_now' = g.T.Source.state c.read-2.new.self in
    let piece = take c.in-Ok.count c.read.new.buf in
    let other = take c.in-Ok-read.new_count c.read-2.new.buf in
    let run' : RunState = c.take_of_both.new.both in
    parted_read (g.S.Source.state c.args.old_job.now) old_now' (g.T.Source.state c.args.new_job.now) new_now' piece other
    c.in-Ok.ensures.read.given c.in-Ok-read.ensures.read.given c.in-Ok.ensures.read.bytes.0 c.in-Ok-read.ensures.read.bytes.0
    (over_by c.read.new.buf c.in-Ok.count old_now'.remaining c.in-Ok.ensures.bound.0 (search rules) c.in-Ok.ensures.read.bytes.1)
    (over_by c.read-2.new.buf c.in-Ok-read.new_count new_now'.remaining c.in-Ok-read.ensures.bound.0 (search rules)
    c.in-Ok-read.ensures.read.bytes.1)
    c.args.both.now run' spot c.in-Ok-Some.second c.behind.result
    (subst (λ r. IfOk r (λ (parted : Option RunState). TakenOfBoth piece other c.args.both.now run' parted))
    (c.in-Ok-Some.is ∙ ap Ok c.in-Ok-Some.field-0-is) c.take_of_both.ensures.taken)
    c.behind.ensures
