use Rattle.std.proofs.Common.{option_map}
use Rattle.file_requests.proofs.OnFiles.{answered_by_input}
use Rattle.file_requests.proofs.profiles.from_input.Goals as goal

pub returns : goal.returns
returns g c =
    answered_by_input c.args.answer.now (option_map (λ word. word.now) c.args.base) _ _ _ _ _ _ _ _ _ _ _ _ _ _
    c.new-texts.ensures.given c.job-input.ensures.start c.profile_from_pjl-status.ensures.left
    c.new-texts.ensures.named c.profile_from_pjl-status.ensures.named c.end.ensures c.requires.input
