use Rattle.std.proofs.Common.{map}
use Rattle.file_requests.proofs.OnFiles.{lint_left}
use Rattle.file_requests.proofs.profiles.lint.Goals as goal

pub returns : goal.returns
returns g c =
    lint_left (map (λ word. word.now) c.args.words.now) _ _ _ _ _ _ _ _ _ _ _ _ c.new-texts.ensures.given
    c.profile_lint-status.ensures.left c.new-texts.ensures.named c.profile_lint-status.ensures.named c.end.ensures
