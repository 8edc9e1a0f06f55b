use Rattle.file_requests.proofs.OnFiles.{sheet_left}
use Rattle.file_requests.proofs.profiles.sheet.Goals as goal

pub returns : goal.returns
returns g c =
    sheet_left c.args.word.now c.args.out.now _ _ _ _ c.profile_sheet-answer.result _ _ _ _ _ c.end_out-status.new.out _ _ _ _ _
    c.new-texts.ensures.given c.new-outlet.ensures.file c.profile_sheet-answer.ensures.left c.end_out-status.ensures
    c.new-texts.ensures.named c.profile_sheet-answer.ensures.named c.end.ensures c.new-outlet.ensures.path c.written.ensures
