use Rattle.std.proofs.Common.{◌≡◌, ◌∙◌, ◌++◌, ap, append_assoc, option_map, codes}
use Rattle.std.proofs.lemmas.Result.{on_ok_weaker}
use Rattle.job_reports.specs.JobSentences.{named_first}
use Rattle.compare_command.specs.Sentences.{unheld_cause, unheld_sentence}
use Rattle.compare_command.proofs.sentences.push_unheld_sentence.Goals as goal

pub returns : goal.returns
unfolding unheld_sentence
returns g c =
    let old = c.args.text.now.items in
    let named = named_first c.args.job.now in
    let words = codes "the pages of this job cannot be compared" in
    let cause = unheld_cause (option_map (λ told. told.now) c.args.cause) in
    let one : c.push_named_first.new.line.items ≡ old ++ named =
    c.in_ok-push_named_first.ensures ∙ ap (λ job. old ++ named_first job) c.as_bytes.ensures.value in
    let two : c.extend_from_slice.new.self.items ≡ old ++ (named ++ words) =
    c.in_ok-extend_from_slice.ensures.items ∙ (ap (λ l. l ++ words) one ∙ append_assoc old named words) in
    on_ok_weaker c.push_unheld_cause.result
    (λ (is : c.push_unheld_cause.new.text.items ≡ c.extend_from_slice.new.self.items ++ cause).
    is ∙ (ap (λ l. l ++ cause) two ∙ append_assoc old (named ++ words) cause))
    c.push_unheld_cause.ensures
