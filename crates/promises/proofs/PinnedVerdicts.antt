-- The verdict for one printer alone is told by the events of its run and its finding.
use Rattle.std.proofs.Common.{◌≡◌, ℕ, ◌+◌, Bool, cond, List, [], ◌∷◌, ◌++◌, append-nil, Option, Some, None, refl, ap, sym, ◌∙◌}
use Rattle.pcl_lexer.specs.Reading.{Reading}
use Rattle.page_env.specs.declared.finding.Finding.{Finding}
use Rattle.page_machine.specs.Event.{Event}
use Rattle.page_machine.specs.Job.{ItemRun, JobRun, events_of}
use Rattle.page_machine.specs.Pinning.{found_at, finding_of, IsSameOutcome}
use Rattle.verdict.specs.declared.reason.Reason.TheVariants.{Differs, Finding as FindingOfRun}
use Rattle.verdict.specs.declared.verdict.Verdict.{Verdict}
use Rattle.verdict.specs.declared.verdict.Verdict.TheVariants.{Fail}
use Rattle.judgement.specs.Verdict.{verdict_by}
use Rattle.judgement.specs.Wrong.{Wrong, wrong, found_or, findings_in, differences_in, soonest, first_wrong}
use Rattle.sinks.proofs.Same.{same_events}

-- a run does not differ from itself
no_difference : (profile count_before : ℕ) (items : List ItemRun) → differences_in items profile count_before items ≡ []
no_difference profile count_before [] = refl
no_difference profile count_before (x ∷ items) =
    ap (λ (same : Bool). cond same (differences_in items profile (count_before + 1) items)
    (wrong count_before x.place profile Differs ∷ []))
    (same_events x.events x.events refl)
    ∙ no_difference profile (count_before + 1) items

-- a finding with its place, or what there is without one
abbrev told : Option (ℕ × Finding) → Verdict → Verdict
told None verdict = verdict
told (Some found) verdict = Fail found.0 1 (FindingOfRun found.1)

module _ (reading : Reading) (events : List Event) where
  abbrev by : List Wrong → Verdict
  by ws = verdict_by (soonest ws) reading events

  findings_tell : (count_before : ℕ) (items : List ItemRun) →
      by (findings_in 1 count_before items) ≡ told (finding_of items) (verdict_by None reading events)
  findings_tell count_before [] = refl
  findings_tell count_before (x ∷ items) = at x.finding (findings_tell (count_before + 1) items)
    where
      at : (found : Option Finding) → by (findings_in 1 (count_before + 1) items) ≡ told (finding_of items) (verdict_by None reading events)
          → by (found_or 1 count_before x.place found (findings_in 1 (count_before + 1) items))
          ≡ told (found_at x.place found (finding_of items)) (verdict_by None reading events)
      at None later = later
      at (Some finding) later = refl

  pub alone : (items : List ItemRun) →
      verdict_by (first_wrong (items ∷ [])) reading events ≡ told (finding_of items) (verdict_by None reading events)
  alone items =
      ap (λ (ws : List Wrong). by ((findings_in 1 0 items ++ []) ++ (ws ++ []))) (no_difference 1 0 items)
      ∙ (ap by (append-nil (findings_in 1 0 items ++ []))
      ∙ (ap by (append-nil (findings_in 1 0 items))
      ∙ findings_tell 0 items))

-- runs of the same outcome have the same verdict
pub same_verdict : (reading : Reading) (r r' : JobRun) → IsSameOutcome r r' →
    verdict_by (first_wrong (r'.items ∷ [])) reading (events_of r'.items)
    ≡ verdict_by (first_wrong (r.items ∷ [])) reading (events_of r.items)
same_verdict reading r r' same =
    alone reading (events_of r'.items) r'.items
    ∙ (ap (λ (found : Option (ℕ × Finding)). told found (verdict_by None reading (events_of r'.items))) same.finding
    ∙ (ap (λ (events : List Event). told (finding_of r.items) (verdict_by None reading events)) same.events
    ∙ sym (alone reading (events_of r.items) r.items)))
