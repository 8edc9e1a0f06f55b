use Rattle.std.proofs.Common.{◌≡◌, ◌↔◌, [], Err, IfOk, subst}
use Rattle.preflight.specs.Judgement.{IsAnswer}
use Rattle.streams.specs.declared.error.Error.TheVariants.{Items, NoProfile}
use Rattle.foreign_calls.specs.Checked.{PassesLimit}
use Rattle.foreign_calls.proofs.checking.check.Goals as goal

pub returns : goal.returns
returns g c =
    let answer = c.judge-answer.result in
    let is : c.profiles.result.now ≡ c.args.group.now.fleet = c.profiles.ensures in
    record {
      answer = answer;
      right = subst (λ fleet. IfOk answer (IsAnswer fleet c.args.job.now)) is c.judge-answer.ensures.right;
      no_printer = subst (λ fleet. (answer ≡ Err NoProfile) ↔ (fleet ≡ [])) is c.judge-answer.ensures.no_printer;
      within = c.judge-answer.ensures.within;
      items = subst (λ fleet. answer ≡ Err Items → PassesLimit fleet c.args.job.now) is c.judge-answer.ensures.items;
      number_is = c.leave.ensures.number;
      row_is = c.leave.ensures.row;
    }
