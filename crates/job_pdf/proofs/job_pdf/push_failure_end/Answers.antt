use Rattle.std.proofs.Common.{◌≡◌, ◌∙◌, ◌++◌, ℕ, List, ap, subst}
use Rattle.std.specs.Prelude.{OnOk}
use Rattle.page_pdf.specs.Document.{HasWritten, Pdf}
use Rattle.page_pdf.proofs.Steps.{then_last}
use Rattle.job_pdf.specs.Plan.{plan_of}
use Rattle.job_pdf.specs.Sheet.{Spot, drawn_failure, end_text}
use Rattle.job_pdf.specs.Telling.{told_failure}
use Rattle.job_pdf.proofs.job_pdf.push_failure_end.Goals as goal

pub returns : goal.returns
returns g c =
    let old = c.args.document.now in
    let plan = plan_of c.args.wanted.now in
    let spot : Spot = record { x = c.args.spot.x; y = c.args.spot.y } in
    let sentence = told_failure plan old.page c.args.failure in
    let told_is = c.in_ok-told.ensures ∙ ap (λ (page : ℕ). told_failure plan page c.args.failure) c.page.ensures in
    let text = c.args.text.now.items in
    let mid = c.push_drawn_failure.new.text.items in
    let new = c.push_end_text.new.text.items in
    let behind = c.push_drawn_failure.new.document in
    then_last c.push_end_text.result (drawn_failure c.args.sheet.now spot sentence old)
    (λ (pdf : Pdf). end_text plan sentence pdf) text mid new behind
    (subst (λ (told : List ℕ). HasWritten (drawn_failure c.args.sheet.now spot told old) text mid behind)
    (c.as_slice.ensures.value ∙ told_is) c.in_ok-push_drawn_failure.ensures)
    (subst (λ (told : List ℕ). OnOk c.push_end_text.result (new ≡ mid ++ end_text plan told behind))
    (c.as_slice-2.ensures.value ∙ told_is) c.push_end_text.ensures)
