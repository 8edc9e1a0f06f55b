use Rattle.std.proofs.Common.{◌<◌, ◌≤◌, arith, refl, subst, sym, ◌∙◌}
use Rattle.std.proofs.lemmas.Bool.{false≢true}
use Rattle.comparison.specs.Running.{RunState, TakesWork, work}
use Rattle.comparison.specs.Together.{CountsBy}
use Rattle.comparison.proofs.Partings.{at_most, count_more, count_step, counted_none, counts_on, less_at_most, sooner_read}
use Rattle.comparison.proofs.Running.{less_made}
use Rattle.comparison.proofs.together.count_fed.Goals as goal

pub items-init : goal.items-init
items-init g c = record {
  none = c.requires.none;
  number = refl;
  counted = counted_none c.args.both.now c.args.spot.now;
  few = omega arith;
  less = λ over running. absurd (false≢true (sym over ∙ running));
}

pub count_lines-requires : goal.count_lines-requires
count_lines-requires g c = sym c.is_open.ensures ∙ c.items-test.true

-- lines
pub items-preserved : goal.items-preserved
items-preserved g c =
    let so_far = c.items.invariant in
    let some = c.if-not-count_lines.false in
    let less = c.count_lines.ensures.less some in
    let new : RunState = c.count_lines.new.job in
    record {
      none = c.count_lines.ensures.none some;
      number = c.count_lines.ensures.number ∙ so_far.number;
      counted =
          count_more c.args.both.now c.items.both new c.args.spot.now c.items.spot c.count_lines.new.spot so_far.counted
          (c.count_lines.ensures.counted some);
      few = less_at_most (work new) (work c.items.both) (work c.args.both.now) less so_far.few;
      less = λ over running. sooner_read (work new) (work c.items.both) (work c.args.both.now) less so_far.few;
    }

-- an item, or the end
pub items-preserved-in_default : goal.items-preserved-in_default
items-preserved-in_default g c =
    let so_far = c.items.invariant in
    let same = c.count_lines.ensures.same c.if-not-count_lines.true in
    let mid : RunState = c.count_lines.new.job in
    let new : RunState = c.count_next.new.self in
    let less : work new < work c.items.both =
    subst (λ (s : RunState). work new < work s) same
    (less_made c.count_next.result c.in_default.not-More c.in_default.not-Refused mid new c.count_next.ensures.less) in
    record {
      none = c.count_next.ensures.none;
      number = c.count_next.ensures.number ∙ (c.count_lines.ensures.number ∙ so_far.number);
      counted =
          count_step c.args.both.now c.items.both mid new c.args.spot.now c.items.spot c.count_lines.new.spot c.count_next.new.spot same
          (c.count_lines.ensures.spot_same c.if-not-count_lines.true) so_far.counted
          (counts_on c.count_next.result c.in_default.not-Refused mid new c.count_lines.new.spot c.count_next.new.spot
          c.count_next.ensures.counted);
      few = less_at_most (work new) (work c.items.both) (work c.args.both.now) less so_far.few;
      less = λ over running. sooner_read (work new) (work c.items.both) (work c.args.both.now) less so_far.few;
    }

pub items-smaller : goal.items-smaller
items-smaller g c = c.count_lines.ensures.less c.if-not-count_lines.false

pub items-smaller-in_default : goal.items-smaller-in_default
items-smaller-in_default g c =
    let new : RunState = c.count_next.new.self in
    subst (λ (s : RunState). work new < work s) (c.count_lines.ensures.same c.if-not-count_lines.true)
    (less_made c.count_next.result c.in_default.not-More c.in_default.not-Refused c.count_lines.new.job new c.count_next.ensures.less)

-- more bytes are wanted
pub returns-in-More-clause-counted : goal.returns-in-More-clause-counted
returns-in-More-clause-counted g c =
    let mid : RunState = c.count_lines.new.job in
    let new : RunState = c.count_next.new.self in
    count_step c.args.both.now c.items.both mid new c.args.spot.now c.items.spot c.count_lines.new.spot c.count_next.new.spot
    (c.count_lines.ensures.same c.if-not-count_lines.true) (c.count_lines.ensures.spot_same c.if-not-count_lines.true)
    c.items.invariant.counted
    (subst (λ s. CountsBy s mid new c.count_lines.new.spot c.count_next.new.spot) c.in-More.is c.count_next.ensures.counted)

pub returns-in-More-clause-waits : goal.returns-in-More-clause-waits
returns-in-More-clause-waits g c = λ _. c.count_next.ensures.waits c.in-More.is

pub returns-in-More-clause-few : goal.returns-in-More-clause-few
returns-in-More-clause-few g c =
    let mid : RunState = c.count_lines.new.job in
    let new : RunState = c.count_next.new.self in
    let less : work new ≤ work c.items.both =
    subst (λ (s : RunState). work new ≤ work s) (c.count_lines.ensures.same c.if-not-count_lines.true)
    (subst (λ s. TakesWork s mid new) c.in-More.is c.count_next.ensures.less) in
    at_most (work new) (work c.items.both) (work c.args.both.now) less c.items.invariant.few

pub returns-in-More-clause-number : goal.returns-in-More-clause-number
returns-in-More-clause-number g c = c.count_next.ensures.number ∙ (c.count_lines.ensures.number ∙ c.items.invariant.number)

pub returns-in-Refused-clause-number : goal.returns-in-Refused-clause-number
returns-in-Refused-clause-number g c = c.count_next.ensures.number ∙ (c.count_lines.ensures.number ∙ c.items.invariant.number)

-- the job is over
pub returns-clause-counted : goal.returns-clause-counted
returns-clause-counted g c = c.items.invariant.counted

pub returns-clause-few : goal.returns-clause-few
returns-clause-few g c = c.items.invariant.few

pub returns-clause-less : goal.returns-clause-less
returns-clause-less g c = λ _ running. c.items.invariant.less (sym c.is_open.ensures ∙ c.items-test.false) running

pub returns-clause-none : goal.returns-clause-none
returns-clause-none g c = c.items.invariant.none

pub returns-clause-number : goal.returns-clause-number
returns-clause-number g c = c.items.invariant.number
