use Rattle.std.proofs.Common.{map, rules}
use Rattle.named_inputs.specs.Fleet.{IsEndOfFleet, RefusesBy}
use Rattle.named_inputs.proofs.FleetFacts.{DescribeBy-more, DescribeFleet-all, DescribeFleet-next, fleet_ends, refused_behind}
use Rattle.named_inputs.proofs.FleetFacts.{named_all, named_front, named_more}
use Rattle.named_inputs.proofs.fleet.read_kept_fleet.Goals as goal

pub returns-in_err-profile-clause-fleet : goal.returns-in_err-profile-clause-fleet
returns-in_err-profile-clause-fleet g c =
    let start = g.T.ProfileTexts.text_of c.args.texts.now in
    let now = g.T.ProfileTexts.text_of c.loop-i.texts in
    let ended : IsEndOfFleet (map (λ word. start word.now) c.args.words.now) c.in_err-profile.field-0.0 =
    fleet_ends start now (λ word. word.now) c.args.words.now c.loop-i.i _ c.loop-i.fleet.items c.in_err-profile.field-0.0
    (search rules) c.loop-i.invariant.1 c.loop-i.invariant.2 c.in_err-profile.ensures.profile in
    search rules

pub returns-in_err-profile-clause-given : goal.returns-in_err-profile-clause-given
returns-in_err-profile-clause-given g c =
    let start = g.T.ProfileTexts.text_of c.args.texts.now in
    let refused :
    RefusesBy (g.T.ProfileTexts.given c.args.texts.now) (g.T.ProfileTexts.given c.read_kept.new.texts) c.in_err-profile.field-0.0 =
    refused_behind (λ word. start word.now) c.args.words.now c.loop-i.i _ _ _ c.loop-i.fleet.items c.in_err-profile.field-0.0
    (search rules) c.loop-i.invariant.2 c.loop-i.invariant.3 c.in_err-profile.ensures.given in
    search rules

pub returns-in_err-profile-clause-named : goal.returns-in_err-profile-clause-named
returns-in_err-profile-clause-named g c =
    named_front (λ word. word.now) c.args.words.now c.loop-i.i _ _ _ _ (search rules) c.loop-i.invariant.5 c.read_kept.ensures.named

pub returns-in_err-push-clause-named : goal.returns-in_err-push-clause-named
returns-in_err-push-clause-named g c =
    named_front (λ word. word.now) c.args.words.now c.loop-i.i _ _ _ _ (search rules) c.loop-i.invariant.5 c.read_kept.ensures.named

pub loop-i-preserved : goal.loop-i-preserved
loop-i-preserved g c =
    let start = g.T.ProfileTexts.text_of c.args.texts.now in
    let now = g.T.ProfileTexts.text_of c.loop-i.texts in (
      search rules,
      search rules,
      rw c.in_ok-push.ensures.items
          (DescribeFleet-next start now (λ word. word.now) c.args.words.now c.loop-i.i _ c.loop-i.fleet.items c.in_ok-profile.profile
          (search rules) c.loop-i.invariant.1 c.loop-i.invariant.2 c.in_ok-profile.ensures.profile),
      rw c.in_ok-push.ensures.items (DescribeBy-more _ _ _ c.loop-i.fleet.items _ c.loop-i.invariant.3 c.in_ok-profile.ensures.given),
      rw c.in_ok-push.ensures.items (DescribeBy-more _ _ _ c.loop-i.fleet.items _ c.loop-i.invariant.4 c.in_ok-profile.ensures.kept),
      named_more (λ word. word.now) c.args.words.now c.loop-i.i _ _ _ _ (search rules) c.loop-i.invariant.5 c.read_kept.ensures.named,
    )

pub returns-clause-fleet : goal.returns-clause-fleet
returns-clause-fleet g c = DescribeFleet-all _ c.args.words.now c.loop-i.i c.loop-i.fleet.items c.loop-i.invariant.2 (search rules)

pub returns-clause-named : goal.returns-clause-named
returns-clause-named g c = named_all (λ word. word.now) c.args.words.now c.loop-i.i _ _ c.loop-i.invariant.5 (search rules)
