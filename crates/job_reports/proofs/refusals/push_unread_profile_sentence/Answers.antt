use Rattle.std.proofs.Common.{ap, codes, option_map, sym}
use Rattle.job_reports.specs.JobSentences.{cause_phrase, named_first}
use Rattle.job_reports.specs.Refusals.{unread_profile_sentence}
use Rattle.job_reports.proofs.Appending.{four_appended}
use Rattle.job_reports.proofs.refusals.push_unread_profile_sentence.Goals as goal

pub returns : goal.returns
returns g c =
    let cause = option_map (λ words. words.now) c.args.cause in
    four_appended c.extend_from_slice-2.result c.args.text.now.items _ _ _ _ (named_first c.as_bytes.result.now)
    (codes "this profile cannot be read") (cause_phrase cause) (codes " (ERROR read)\n") _
    c.in_ok-push_named_first.ensures c.in_ok-extend_from_slice.ensures.items c.in_ok-push_cause_phrase.ensures
    c.extend_from_slice-2.ensures.items
    (ap (λ word. unread_profile_sentence word cause) (sym c.as_bytes.ensures.value))
