use Rattle.std.proofs.Common.{◌≡◌, ◌∙◌, ◌++◌, ℕ, List, ap, flat_map, length, map, nat_lt, rules}
use Rattle.std.proofs.lemmas.List.{take_all}
use Rattle.device_profile.specs.Printer.{Printer}
use Rattle.profile_lint.specs.Lint.{findings_text, sound_printers, sound_words}
use Rattle.profile_lint.proofs.LintFacts.{flat_more, with_difference}
use Rattle.profile_lint.proofs.lint.lint_texts.Goals as goal

pub loop-named-preserved : goal.loop-named-preserved
loop-named-preserved g c =
    let texts = c.args.texts.now in
    let i = c.loop-named.named-index in
    let named = c.named-item.result in (
      c.in_ok-take_findings.ensures.lines ∙ ap (λ l. l ++ findings_text named) c.loop-named.invariant.0
          ∙ flat_more findings_text texts i named (search rules) c.named-item.is,
      c.in_ok-take_findings.ensures.words ∙ ap (λ l. l ++ sound_words named) c.loop-named.invariant.1
          ∙ flat_more sound_words texts i named (search rules) c.named-item.is,
      c.in_ok-take_findings.ensures.profiles ∙ ap (λ l. l ++ sound_printers named) c.loop-named.invariant.2
          ∙ flat_more sound_printers texts i named (search rules) c.named-item.is,
    )

pub returns-clause-faults : goal.returns-clause-faults
returns-clause-faults g c =
    let texts = c.args.texts.now in
    let count : c.len.result ≡ length c.loop-named.profiles.items = search rules in
    ap (λ n. nat_lt n (length texts))
    (count ∙ ap length c.loop-named.invariant.2
    ∙ ap (λ ts. length (flat_map sound_printers ts)) (take_all c.loop-named.named-index texts (search rules)))

pub returns-clause-lines : goal.returns-clause-lines
returns-clause-lines g c =
    let texts = c.args.texts.now in
    let all = take_all c.loop-named.named-index texts (search rules) in
    c.in_ok-push_first_difference.ensures
    ∙ with_difference _ _ _ _ _ _
    (c.loop-named.invariant.0 ∙ ap (flat_map findings_text) all)
    (ap (map (λ word. word.now)) c.deref.ensures.value ∙ c.loop-named.invariant.1 ∙ ap (flat_map sound_words) all)
    (c.deref-2.ensures.value ∙ c.loop-named.invariant.2 ∙ ap (flat_map sound_printers) all)
