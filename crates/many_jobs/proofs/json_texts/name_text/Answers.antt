use Rattle.std.proofs.Common.{flat_map, ap, ◌∙◌}
use Rattle.std.proofs.lemmas.Result.{IfOk-weaker}
use Rattle.shown_bytes.proofs.Texts.{text_of_utf8, text_of_others}
use Rattle.many_jobs.specs.JsonTexts.{backslash_doubled}
use Rattle.many_jobs.proofs.json_texts.name_text.Goals as goal

pub returns-in-Ok : goal.returns-in-Ok
returns-in-Ok c =
    let name = c.args.name.now in
    IfOk-weaker c.with_backslashes_doubled.result _ _
    (λ text e. e ∙ ap (flat_map backslash_doubled) c.in-Ok.ensures.cases.0
    ∙ text_of_utf8 name (flat_map backslash_doubled name) c.in-Ok.ensures.cases.1)
    c.with_backslashes_doubled.ensures

pub returns-in-Err : goal.returns-in-Err
returns-in-Err c =
    let name = c.args.name.now in
    IfOk-weaker c.shown_text.result _ _
    (λ text e. e ∙ text_of_others name (flat_map backslash_doubled name) c.in-Err.ensures.cases.0) c.shown_text.ensures
