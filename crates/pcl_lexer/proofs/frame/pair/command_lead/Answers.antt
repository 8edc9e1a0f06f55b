use Rattle.std.proofs.Common.{◌≡◌, ◌≤◌, get_or, length, rules}
use Rattle.pcl_lexer.proofs.Frames.Pairs.{letters_lead, line_leads, semicolon_leads}
use Rattle.pcl_lexer.proofs.frame.pair.command_lead.Goals as goal

pub returns-in_ok-leading_motion-in-59 : goal.returns-in_ok-leading_motion-in-59
returns-in_ok-leading_motion-in-59 c =
    let bytes = c.args.bytes.now in
    let is_semicolon : get_or bytes 0 0 ≡ 59 = search rules in
    let is_newline : get_or bytes 1 0 ≡ 10 = search rules in
    line_leads c.in_ok-leading_motion-in-59.field-0 c.args.place bytes c.in-59.len_at_least is_semicolon is_newline
    c.in_ok-leading_motion-in-59.ensures

pub returns-in_ok-leading_motion-in-59-2 : goal.returns-in_ok-leading_motion-in-59-2
returns-in_ok-leading_motion-in-59-2 c =
    let bytes = c.args.bytes.now in
    let is_semicolon : get_or bytes 0 0 ≡ 59 = search rules in
    let some : 1 ≤ length bytes = search rules in
    semicolon_leads c.in_ok-leading_motion-in-59-2.field-0 c.args.place bytes some is_semicolon c.in_ok-leading_motion-in-59-2.ensures

pub returns-in_ok-leading_motion-in_default : goal.returns-in_ok-leading_motion-in_default
returns-in_ok-leading_motion-in_default c =
    letters_lead c.in_ok-leading_motion-in_default.field-0 c.args.place c.args.bytes.now c.in_ok-leading_motion-in_default.ensures
