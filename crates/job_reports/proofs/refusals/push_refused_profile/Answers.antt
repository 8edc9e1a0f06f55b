use Rattle.std.proofs.Common.{◌∙◌, ◌++◌, ◌∷◌, [], ap, append_assoc, codes}
use Rattle.line_words.specs.Figures.{named}
use Rattle.shown_bytes.specs.Shown.{shown}
use Rattle.job_reports.specs.Refusals.{fault_part}
use Rattle.job_reports.proofs.refusals.push_refused_profile.Goals as goal

pub returns : goal.returns
returns g c =
    let old = c.args.text.now.items in
    let number = named (codes "ERROR profile ") c.args.number in
    let word = shown c.as_bytes.result.now in
    let fault = fault_part c.args.line c.args.cause in
    c.in_ok-push_fault.ensures
    ∙ ap (λ l. l ++ fault)
    (c.in_ok-push_shown.ensures ∙ ap (λ l. l ++ word) (c.in_ok-push.ensures.items ∙ ap (λ l. l ++ 32 ∷ []) c.in_ok-push_named.ensures))
    ∙ append_assoc ((old ++ number) ++ 32 ∷ []) word fault
    ∙ append_assoc (old ++ number) (32 ∷ []) (word ++ fault)
    ∙ append_assoc old number (32 ∷ (word ++ fault))
    ∙ ap (λ w. old ++ (number ++ 32 ∷ (shown w ++ fault))) c.as_bytes.ensures.value
