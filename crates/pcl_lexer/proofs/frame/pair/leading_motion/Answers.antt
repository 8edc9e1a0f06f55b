use Rattle.std.proofs.Common.{◌≡◌, get_or, rules}
use Rattle.pcl_lexer.proofs.Frames.Pairs.{some_letters}
use Rattle.pcl_lexer.proofs.frame.pair.leading_motion.Goals as goal

pub returns-in-80 : goal.returns-in-80
returns-in-80 c =
    let bytes = c.args.bytes.now in
    let is_p : get_or bytes 0 0 ≡ 80 = search rules in
    some_letters bytes c.motion_of.result c.in-80.len_at_least is_p c.motion_of.ensures
