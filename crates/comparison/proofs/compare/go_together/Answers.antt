use Rattle.std.proofs.Common.{◌≡◌, IfSome, Option, Some, ap, refl, subst, sym, ◌∙◌}
use Rattle.comparison.specs.Comparing.{Following}
use Rattle.comparison.specs.Running.{RunState}
use Rattle.comparison.specs.Together.{StandBehind}
use Rattle.comparison.proofs.Partings.{part_here, stand_further, stand_still}
use Rattle.comparison.proofs.compare.go_together.Goals as goal

pub pieces-init : goal.pieces-init
pieces-init g c = record {
  old_working = c.requires.old_job;
  new_working = c.requires.new_job;
  none = c.requires.none;
  number = refl;
  stand =
      stand_still (g.S.Source.state c.args.old_job.now) (g.T.Source.state c.args.new_job.now) c.args.both.now c.args.spot.now;
}

pub go_on_together-requires-clause-running : goal.go_on_together-requires-clause-running
go_on_together-requires-clause-running g c = sym c.is_open.ensures ∙ c.pieces-test.true

pub pieces-preserved : goal.pieces-preserved
pieces-preserved g c =
    let so_far = c.pieces.invariant in
    let old_first = g.S.Source.state c.args.old_job.now in
    let old_mid = g.S.Source.state c.pieces.old_job in
    let old_now = g.S.Source.state c.go_on_together.new.old_job in
    let new_first = g.T.Source.state c.args.new_job.now in
    let new_mid = g.T.Source.state c.pieces.new_job in
    let new_now = g.T.Source.state c.go_on_together.new.new_job in
    let new = c.go_on_together.new in
    record {
      old_working = c.in_ok-parted.ensures.old_read;
      new_working = c.in_ok-parted.ensures.new_read;
      none = c.in_ok-parted.ensures.none;
      number = c.go_on_together.ensures.number ∙ so_far.number;
      stand =
          subst (StandBehind old_first old_now new_first new_now c.args.both.now new.both c.args.spot.now new.spot) c.in-None.is
          (stand_further old_first old_mid old_now new_first new_mid new_now c.args.both.now c.pieces.both new.both c.args.spot.now
          c.pieces.spot new.spot c.in_ok-parted.parted so_far.stand c.in_ok-parted.ensures.stand);
    }

pub pieces-smaller : goal.pieces-smaller
pieces-smaller g c = c.in_ok-parted.ensures.less

pub returns-in-Some-clause-stand : goal.returns-in-Some-clause-stand
returns-in-Some-clause-stand g c =
    let so_far = c.pieces.invariant in
    let old_first = g.S.Source.state c.args.old_job.now in
    let old_mid = g.S.Source.state c.pieces.old_job in
    let old_now = g.S.Source.state c.go_on_together.new.old_job in
    let new_first = g.T.Source.state c.args.new_job.now in
    let new_mid = g.T.Source.state c.pieces.new_job in
    let new_now = g.T.Source.state c.go_on_together.new.new_job in
    let new = c.go_on_together.new in
    subst (StandBehind old_first old_now new_first new_now c.args.both.now new.both c.args.spot.now new.spot) c.in-Some.is
    (stand_further old_first old_mid old_now new_first new_mid new_now c.args.both.now c.pieces.both new.both c.args.spot.now
    c.pieces.spot new.spot c.in_ok-parted.parted so_far.stand c.in_ok-parted.ensures.stand)

pub returns-in-Some-clause-number : goal.returns-in-Some-clause-number
returns-in-Some-clause-number g c = c.go_on_together.ensures.number ∙ c.pieces.invariant.number

pub returns-in-Some-clause-new_number : goal.returns-in-Some-clause-new_number
returns-in-Some-clause-new_number g c =
    subst (λ (o : Option Following). IfSome o (λ second. second.run.number ≡ c.pieces.both.number)) c.in-Some.is
    c.in_ok-parted.ensures.new_number
    ∙ c.pieces.invariant.number

pub returns-in_err-parted-clause-number : goal.returns-in_err-parted-clause-number
returns-in_err-parted-clause-number g c = c.go_on_together.ensures.number ∙ c.pieces.invariant.number

pub returns-in-Ok-clause-stand : goal.returns-in-Ok-clause-stand
returns-in-Ok-clause-stand g c =
    let so_far = c.pieces.invariant in
    let old_first = g.S.Source.state c.args.old_job.now in
    let old_now = g.S.Source.state c.pieces.old_job in
    let new_first = g.T.Source.state c.args.new_job.now in
    let new_now = g.T.Source.state c.pieces.new_job in
    let both : RunState = c.pieces.both in
    stand_further old_first old_now old_now new_first new_now new_now c.args.both.now both both c.args.spot.now c.pieces.spot c.pieces.spot
    (Some c.behind.result) so_far.stand
    (part_here old_now new_now both c.in-Ok.second c.pieces.spot c.behind.result so_far.none c.in-Ok.ensures c.behind.ensures)

pub returns-in-Ok-clause-number : goal.returns-in-Ok-clause-number
returns-in-Ok-clause-number g c = c.pieces.invariant.number

pub returns-in-Ok-clause-new_number : goal.returns-in-Ok-clause-new_number
returns-in-Ok-clause-new_number g c =
    ap (λ (f : Following). f.run.number) c.behind.ensures
    ∙ (ap (λ (s : RunState). s.number) c.in-Ok.ensures ∙ c.pieces.invariant.number)

pub returns-in-Err-clause-number : goal.returns-in-Err-clause-number
returns-in-Err-clause-number g c = c.pieces.invariant.number
