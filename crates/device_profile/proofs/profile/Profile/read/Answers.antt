use Rattle.std.proofs.Common.{◌≤◌, length, arith}
use Rattle.device_profile.proofs.Reading.{draft_told}
use Rattle.device_profile.proofs.profile.Profile.read.Goals as goal

pub returns : goal.returns
returns g c =
    let few : length c.args.text.now ≤ 65_536 = omega arith in
    draft_told c.args.text.now c.in_ok-read_lines.field-0 c.finish.result few c.in_ok-read_lines.ensures c.finish.ensures
