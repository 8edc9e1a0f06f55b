use Rattle.std.proofs.Common.{ap, refl, subst, sym, take, ◌∙◌}
use Rattle.std.proofs.lemmas.Option.{IfSome_then}
use Rattle.comparison.specs.Running.{RunState}
use Rattle.comparison.specs.Texts.{GoNext, codes_ahead}
use Rattle.comparison.proofs.Following.{lacks_tells}
use Rattle.comparison.proofs.SameLines.{go_next}
use Rattle.sinks.proofs.TextLines.{same_place}
use Rattle.comparison.proofs.texts.same_lines.Goals as goal

pub returns : goal.returns
returns g c =
    IfSome_then c.lines_of_both.result c.lines_of_both.ensures
    (λ lines both.
    let old = c.args.first.now in
    let new = c.args.second.now in
    let other : RunState = c.job-other.result.now in
    let from = c.in_ok-measure.from in
    let tells = lacks_tells new (sym c.lacks_next.ensures ∙ c.if-not-lacks_next.false) in record {
      look = c.in_ok-measure.measure.look;
      from = from;
      old_next =
          go_next old c.in_ok-measure.measure from from c.ahead.result.now lines c.in_ok-measure.ensures refl c.ahead.ensures both.some
          both.first;
      new_next =
          subst (λ (run : RunState). GoNext c.in_ok-measure.measure.look from lines run) c.job-other.ensures
          (subst (λ look. GoNext look from lines other) both.look
          (go_next other c.in_ok-own.own from c.in_ok-own.at c.ahead-2.result.now lines c.in_ok-own.ensures
          (same_place c.in_ok-own.at from (sym c.ne.ensures ∙ c.if-ne.false)) c.ahead-2.ensures both.some both.second));
      same =
          sym (ap (take lines.count) c.ahead.ensures)
          ∙ (both.same
          ∙ (ap (take lines.count) c.ahead-2.ensures
          ∙ ap (λ (run : RunState). codes_ahead lines run) c.job-other.ensures));
      level = tells.0;
      running = tells.1;
    })
