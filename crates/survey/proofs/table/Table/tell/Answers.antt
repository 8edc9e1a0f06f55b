use Rattle.std.proofs.Common.{◌≡◌, None, ap, ◌∙◌}
use Rattle.std.proofs.lemmas.Result.{on_ok_weaker}
use Rattle.survey.specs.Tally.{told_at, told_in}
use Rattle.survey.proofs.Telling.{told_again, told_anew}
use Rattle.survey.proofs.table.Table.tell.Goals as goal

pub returns-in-Some : goal.returns-in-Some
returns-in-Some g c =
    told_again c.args.job c.args.refusal c.self.inside.others c.in-Some.place c.as_slice.result.now c.self.inside.rows.items
    c.count_at.new.rows.items c.as_slice.ensures.value c.in-Some.ensures.place c.count_at.ensures
    ∙ ap (told_in c.args.job c.args.refusal) c.self.view_is

pub returns-in-None : goal.returns-in-None
returns-in-None g c =
    on_ok_weaker c.tell_new.result
    (λ (told : c.tell_new.new.self ≡ told_at None c.args.job c.args.refusal c.args.self.now).
    told_anew c.args.job c.args.refusal c.self.inside.others c.as_slice.result.now c.self.inside.rows.items c.args.self.now
    c.tell_new.new.self c.as_slice.ensures.value c.self.view_is c.in-None.ensures.place told)
    c.tell_new.ensures
