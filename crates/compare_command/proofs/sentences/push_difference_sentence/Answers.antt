use Rattle.std.proofs.Common.{◌∙◌, ◌++◌, List, ℕ, ap, append_assoc, codes}
use Rattle.job_reports.specs.JobSentences.{named_first}
use Rattle.shown_bytes.specs.Shown.{shown_text}
use Rattle.compare_command.specs.Sentences.{difference_phrase, difference_sentence}
use Rattle.compare_command.proofs.sentences.push_difference_sentence.Goals as goal

pub returns : goal.returns
unfolding difference_sentence
returns g c =
    let text : List ℕ = c.args.text.now.items in
    let name : List ℕ = named_first c.args.new_name.now in
    let words : List ℕ = codes "differs from " in
    let old : List ℕ = shown_text c.args.old_name.now in
    let rest : List ℕ = difference_phrase c.args.printer.now c.args.difference in
    c.in_ok-push_difference.ensures
    ∙ ap (λ (l : List ℕ). l ++ rest)
    (c.in_ok-push_shown_text.ensures
    ∙ ap (λ (bytes : List ℕ). c.extend_from_slice.new.self.items ++ shown_text bytes) c.as_bytes-2.ensures.value
    ∙ ap (λ (l : List ℕ). l ++ old)
    (c.in_ok-extend_from_slice.ensures.items
    ∙ ap (λ (l : List ℕ). l ++ words)
    (c.in_ok-push_named_first.ensures ∙ ap (λ (bytes : List ℕ). text ++ named_first bytes) c.as_bytes.ensures.value)
    ∙ append_assoc text name words)
    ∙ append_assoc text (name ++ words) old)
    ∙ append_assoc text (name ++ words ++ old) rest
