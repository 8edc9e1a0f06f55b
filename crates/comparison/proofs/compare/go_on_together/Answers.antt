use Rattle.std.proofs.Common.{◌<◌, ap, Ok, ◌∙◌}
use Rattle.std.proofs.lemmas.Result.{IfOk-weaker, on_ok_weaker}
use Rattle.comparison.specs.Running.{work}
use Rattle.comparison.specs.Together.{StandBehind}
use Rattle.comparison.proofs.Partings.{sooner_read, stand_further, stand_on}
use Rattle.comparison.proofs.compare.go_on_together.Goals as goal

pub read_both-requires-clause-waits : goal.read_both-requires-clause-waits
read_both-requires-clause-waits g c = c.count_fed.ensures.waits (c.in-Ok-true.is ∙ ap Ok c.in-Ok-true.field-0-test)

pub returns-in-Ok-true-clause-stand : goal.returns-in-Ok-true-clause-stand
returns-in-Ok-true-clause-stand g c =
    let old_now = g.S.Source.state c.args.old_job.now in
    let new_now = g.T.Source.state c.args.new_job.now in
    let old_now' = g.S.Source.state c.read_both.new.old_job in
    let new_now' = g.T.Source.state c.read_both.new.new_job in
    let mid = c.count_fed.new.both in
    let spot = c.count_fed.new.spot in
    IfOk-weaker c.read_both.result
    (StandBehind old_now old_now' new_now new_now' mid c.read_both.new.both spot spot)
    (StandBehind old_now old_now' new_now new_now' c.args.both.now c.read_both.new.both c.args.spot.now spot)
    (λ parted stand.
    stand_further old_now old_now old_now' new_now new_now new_now' c.args.both.now mid c.read_both.new.both c.args.spot.now spot spot
    parted (stand_on old_now new_now c.args.both.now mid c.args.spot.now spot c.in-Ok-true.ensures.counted) stand)
    (c.read_both.ensures.stand spot)

pub returns-in-Ok-true-clause-less : goal.returns-in-Ok-true-clause-less
returns-in-Ok-true-clause-less g c =
    on_ok_weaker c.read_both.result
    (λ (less : work c.read_both.new.both < work c.count_fed.new.both).
    sooner_read (work c.read_both.new.both) (work c.count_fed.new.both) (work c.args.both.now) less c.in-Ok-true.ensures.few)
    c.read_both.ensures.less

pub returns-in-Ok-false-clause-stand : goal.returns-in-Ok-false-clause-stand
returns-in-Ok-false-clause-stand g c =
    stand_on (g.S.Source.state c.args.old_job.now) (g.T.Source.state c.args.new_job.now) c.args.both.now c.count_fed.new.both
    c.args.spot.now c.count_fed.new.spot c.in-Ok-false.ensures.counted

pub returns-in-Ok-false-clause-less : goal.returns-in-Ok-false-clause-less
returns-in-Ok-false-clause-less g c =
    c.count_fed.ensures.less (c.in-Ok-false.is ∙ ap Ok c.in-Ok-false.field-0-test) c.requires.running
