use Rattle.std.proofs.Common.{take, ap, ◌∙◌}
use Rattle.std.specs.List.{position}
use Rattle.std.proofs.lemmas.List.{take_rest}
use Rattle.page_env.specs.Rasters.{is_black, blank_ahead}
use Rattle.page_env.proofs.Blanks.{none_blank, blank, more_blank, black_there, found, found_behind, found_none}
use Rattle.page_env.proofs.raster_rows.blank_ahead.Goals as goal

pub loop-ahead-init : goal.loop-ahead-init
loop-ahead-init c = none_blank c.args.bytes.now

pub loop-ahead-preserved : goal.loop-ahead-preserved
loop-ahead-preserved c =
    let bytes = c.args.bytes.now in
    let ahead = c.loop-ahead.ahead in
    let is = c.blank_lanes-blank.ensures.value ∙ ap (λ l. blank (take 16 l)) (take_rest bytes ahead) in
    more_blank 16 bytes ahead c.blank_lanes-blank.result c.loop-ahead.invariant c.loop-ahead-test.true is c.if-blank-lt-LANES.false

pub returns-then-blank-lt-LANES : goal.returns-then-blank-lt-LANES
unfolding blank_ahead
returns-then-blank-lt-LANES c =
    let bytes = c.args.bytes.now in
    let ahead = c.loop-ahead.ahead in
    let is = c.blank_lanes-blank.ensures.value ∙ ap (λ l. blank (take 16 l)) (take_rest bytes ahead) in
    let there =
    black_there 16 bytes ahead c.blank_lanes-blank.result c.loop-ahead.invariant c.loop-ahead-test.true is c.if-blank-lt-LANES.true in
    found bytes _ there.0 there.1

pub returns-in-None : goal.returns-in-None
unfolding blank_ahead
returns-in-None c =
    let bytes = c.args.bytes.now in
    found_none bytes c.loop-ahead.ahead c.loop-ahead.invariant
    (c.in-None.ensures.value ∙ ap (position is_black) (take_rest bytes c.loop-ahead.ahead))

pub returns-in-Some : goal.returns-in-Some
unfolding blank_ahead
returns-in-Some c =
    let bytes = c.args.bytes.now in
    (found_behind bytes c.loop-ahead.ahead c.loop-ahead.invariant c.in-Some.few
    (c.in-Some.ensures.value ∙ ap (position is_black) (take_rest bytes c.loop-ahead.ahead))).0
