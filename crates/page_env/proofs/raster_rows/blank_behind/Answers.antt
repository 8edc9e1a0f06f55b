use Rattle.std.proofs.Common.{◌≡◌, ◌-◌, ◌≤◌, ℕ, List, length, take, drop, ap, ◌∙◌, arith}
use Rattle.std.specs.Prelude.{reverse}
use Rattle.std.specs.List.{position}
use Rattle.std.proofs.lemmas.List.{length-reverse, take_rest}
use Rattle.page_env.specs.Rasters.{is_black}
use Rattle.page_env.proofs.Blanks.{none_blank, blank, more_blank, black_there, found, found_behind, found_none, front_reverse}
use Rattle.page_env.proofs.Blanks.{lanes_reverse}
use Rattle.page_env.proofs.raster_rows.blank_behind.Goals as goal

-- the lanes that are looked at, in reverse
lanes_are : (bytes : List ℕ) (behind k : ℕ) → behind ≤ length bytes → 16 ≤ length bytes - behind →
    k ≡ blank (reverse (take 16 (take (length bytes - (length bytes - behind - 16)) (drop (length bytes - behind - 16) bytes)))) →
    k ≡ blank (take 16 (drop behind (reverse bytes)))
lanes_are bytes behind k within room e =
    e ∙ ap (λ l. blank (reverse (take 16 l))) (take_rest bytes (length bytes - behind - 16))
    ∙ ap blank (lanes_reverse 16 bytes behind within room)

-- the few bytes that are left, in reverse
few_are : (bytes : List ℕ) (behind : ℕ) → behind ≤ length bytes →
    position is_black (reverse (take (length bytes - behind) bytes)) ≡ position is_black (drop behind (reverse bytes))
few_are bytes behind room = ap (position is_black) (front_reverse bytes behind room)

pub loop-behind-init : goal.loop-behind-init
loop-behind-init c = record { within = omega arith; blank = none_blank (reverse c.args.bytes.now) }

pub loop-behind-preserved : goal.loop-behind-preserved
loop-behind-preserved c =
    let bytes = c.args.bytes.now in
    let behind = c.loop-behind.behind in
    let so_far = c.loop-behind.invariant in
    let k = c.blank_lanes_behind-blank.result in
    record {
      within = omega (arith, c.loop-behind-test.true, c.blank_lanes_behind-blank.ensures.short);
      blank =
          more_blank 16 (reverse bytes) behind k so_far.blank (omega (arith, c.loop-behind-test.true, length-reverse bytes))
          (lanes_are bytes behind k so_far.within c.loop-behind-test.true c.blank_lanes_behind-blank.ensures.value)
          c.if-blank-lt-LANES.false;
    }

pub returns-then-blank-lt-LANES-clause-value : goal.returns-then-blank-lt-LANES-clause-value
returns-then-blank-lt-LANES-clause-value c =
    let bytes = c.args.bytes.now in
    let behind = c.loop-behind.behind in
    let so_far = c.loop-behind.invariant in
    let k = c.blank_lanes_behind-blank.result in
    let there =
    black_there 16 (reverse bytes) behind k so_far.blank (omega (arith, c.loop-behind-test.true, length-reverse bytes))
    (lanes_are bytes behind k so_far.within c.loop-behind-test.true c.blank_lanes_behind-blank.ensures.value) c.if-blank-lt-LANES.true in
    found (reverse bytes) _ there.0 there.1

pub returns-then-blank-lt-LANES-clause-short : goal.returns-then-blank-lt-LANES-clause-short
returns-then-blank-lt-LANES-clause-short c = omega (arith, c.loop-behind-test.true, c.if-blank-lt-LANES.true)

pub returns-in-None-clause-value : goal.returns-in-None-clause-value
returns-in-None-clause-value c =
    let bytes = c.args.bytes.now in
    let so_far = c.loop-behind.invariant in
    found_none (reverse bytes) c.loop-behind.behind so_far.blank
    (c.in-None.ensures.value ∙ few_are bytes c.loop-behind.behind so_far.within)

pub returns-in-Some-clause-value : goal.returns-in-Some-clause-value
returns-in-Some-clause-value c =
    let bytes = c.args.bytes.now in
    let so_far = c.loop-behind.invariant in
    (found_behind (reverse bytes) c.loop-behind.behind so_far.blank c.in-Some.few
    (c.in-Some.ensures.value ∙ few_are bytes c.loop-behind.behind so_far.within)).0

pub returns-in-Some-clause-short : goal.returns-in-Some-clause-short
returns-in-Some-clause-short c =
    let bytes = c.args.bytes.now in
    let so_far = c.loop-behind.invariant in
    let there =
    found_behind (reverse bytes) c.loop-behind.behind so_far.blank c.in-Some.few
    (c.in-Some.ensures.value ∙ few_are bytes c.loop-behind.behind so_far.within) in
    omega (arith, there.1, length-reverse bytes)
