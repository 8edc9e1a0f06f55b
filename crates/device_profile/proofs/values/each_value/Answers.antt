use Rattle.std.proofs.Common.{◌≡◌, true, ◌∙◌}
use Rattle.std.specs.Bool.{IsTrue}
use Rattle.std.specs.List.{list_all}
use Rattle.std.proofs.lemmas.List.{take_all, at_drop_all}
use Rattle.device_profile.specs.Values.{is_value}
use Rattle.device_profile.proofs.values.each_value.Goals as goal

pub returns : goal.returns
returns g c =
    let numbers = c.args.numbers.now in
    let all : IsTrue (list_all (is_value c.args.field) numbers) =
    c.loop-number.invariant.0
    ∙ at_drop_all (list_all (is_value c.args.field)) numbers c.loop-number.number-index c.loop-number-test.false in
    (all, c.loop-number.invariant.1 ∙ take_all c.loop-number.number-index numbers c.loop-number-test.false)
