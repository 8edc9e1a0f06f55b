use Rattle.std.proofs.Common.{◌≡◌, ◌∙◌, ◌++◌, ℕ, List, subst}
use Rattle.std.specs.Prelude.{OnOk}
use Rattle.job_pdf.specs.Plan.{plan_of}
use Rattle.job_pdf.specs.Sheet.{end_text}
use Rattle.job_pdf.proofs.job_pdf.push_whole_end.Goals as goal

pub returns : goal.returns
returns g c =
    subst
    (λ (sentence : List ℕ). OnOk c.push_end_text.result
    (c.push_end_text.new.text.items
    ≡ c.args.text.now.items ++ end_text (plan_of c.args.wanted.now) sentence c.args.document.now))
    (c.as_slice.ensures.value ∙ c.in_ok-told.ensures) c.push_end_text.ensures
