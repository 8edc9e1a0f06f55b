use Rattle.std.proofs.Common.{ap, subst, sym, ◌∙◌}
use Rattle.comparison.specs.Comparing.{Following}
use Rattle.comparison.specs.Running.{is_open}
use Rattle.comparison.specs.Texts.{GoNext}
use Rattle.comparison.proofs.SameLines.{lines_followed}
use Rattle.comparison.proofs.follower.Follower.pass_lines.Goals as goal

pub pass_lines-requires-clause-running : goal.pass_lines-requires-clause-running
pass_lines-requires-clause-running g c = ap (λ (f : Following). is_open f.run.progress) c.self.view_is ∙ c.requires.running

pub pass_lines-requires-clause-next : goal.pass_lines-requires-clause-next
pass_lines-requires-clause-next g c =
    let look = c.requires.next.0 in
    let from = c.requires.next.1 in (
      look,
      from,
      subst (λ (f : Following). GoNext look from c.args.lines.now f.run) (sym c.self.view_is) c.requires.next.2,
    )

pub returns-clause-passed : goal.returns-clause-passed
returns-clause-passed g c =
    lines_followed c.args.lines.now c.self.inside.job c.pass_lines.new.self c.self.inside.taken c.args.self.now c.self.view_is
    c.requires.level c.pass_lines.ensures.passed c.pass_lines.ensures.none

pub returns-clause-number : goal.returns-clause-number
returns-clause-number g c = c.pass_lines.ensures.number ∙ ap (λ (f : Following). f.run.number) c.self.view_is
