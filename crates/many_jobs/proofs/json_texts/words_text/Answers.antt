use Rattle.std.proofs.Common.{◌∙◌}
use Rattle.std.proofs.lemmas.Result.{IfOk-weaker}
use Rattle.shown_bytes.proofs.Texts.{text_of_utf8, text_of_others}
use Rattle.many_jobs.proofs.json_texts.words_text.Goals as goal

pub returns-in-Ok : goal.returns-in-Ok
returns-in-Ok c =
    let words = c.args.words.now in
    IfOk-weaker c.from_str.result _ _
    (λ text e. e ∙ c.in-Ok.ensures.cases.0 ∙ text_of_utf8 words words c.in-Ok.ensures.cases.1) c.from_str.ensures.ok

pub returns-in-Err : goal.returns-in-Err
returns-in-Err c =
    let words = c.args.words.now in
    IfOk-weaker c.shown_text.result _ _ (λ text e. e ∙ text_of_others words words c.in-Err.ensures.cases.0) c.shown_text.ensures
