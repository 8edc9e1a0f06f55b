use Rattle.file_requests.proofs.OnFiles.{shown_left}
use Rattle.file_requests.proofs.profiles.show.Goals as goal

pub returns : goal.returns
returns g c =
    shown_left c.args.word.now _ _ _ _ _ _ _ _ _ _ _ _ c.new-texts.ensures.given c.profile_show-status.ensures.left
    c.new-texts.ensures.named c.profile_show-status.ensures.named c.end.ensures
