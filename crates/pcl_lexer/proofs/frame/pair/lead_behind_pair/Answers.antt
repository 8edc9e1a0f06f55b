use Rattle.std.proofs.Common.{◌≡◌, get_or, rules}
use Rattle.pcl_lexer.proofs.Frames.Pairs.{comma_leads, some_command}
use Rattle.pcl_lexer.proofs.frame.pair.lead_behind_pair.Goals as goal

pub returns-in-44 : goal.returns-in-44
returns-in-44 c =
    let bytes = c.args.bytes.now in
    let is_comma : get_or bytes 0 0 ≡ 44 = search rules in
    comma_leads c.args.motion c.args.place bytes c.in-44.len_at_least is_comma

pub returns-in_default : goal.returns-in_default
returns-in_default c = some_command c.command_lead.result c.args.motion c.args.place c.args.bytes.now c.command_lead.ensures
