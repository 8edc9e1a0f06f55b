use Rattle.std.proofs.Common.{◌≡◌, ℕ, List, ◌++◌, ap, ◌∙◌}
use Rattle.std.specs.Str.Lines.{lines}
use Rattle.device_profile.specs.declared.format.Format.{Format}
use Rattle.device_profile.specs.Draft.{Draft}
use Rattle.profile_lint.specs.declared.fault.TextFault.{TextFault}
use Rattle.profile_lint.specs.Faults.{draft_past_lines, faults_on_lines}
use Rattle.profile_lint.specs.TextFaults.{faults_past}
use Rattle.profile_lint.specs.Whole.{faults_of_whole}
use Rattle.profile_lint.proofs.text_faults.faults_past.Goals as goal

joined : (format : Format) (more : List (List ℕ)) (before past : Draft) (on_lines seen of_whole added all : List TextFault)
    → on_lines ≡ faults_on_lines format before 2 more → past ≡ draft_past_lines format before more
    → seen ≡ on_lines → of_whole ≡ faults_of_whole past seen → added ≡ of_whole → all ≡ on_lines ++ added
    → all ≡ faults_past format before more
joined format more before past on_lines seen of_whole added all told given is_seen is_whole is_added is_all =
    is_all
    ∙ ap (λ (w : List TextFault). on_lines ++ w) (is_added ∙ is_whole)
    ∙ ap (λ (l : List TextFault). on_lines ++ faults_of_whole past l) (is_seen ∙ told)
    ∙ ap (λ (l : List TextFault). l ++ faults_of_whole past (faults_on_lines format before 2 more)) told
    ∙ ap (λ (d : Draft). faults_on_lines format before 2 more ++ faults_of_whole d (faults_on_lines format before 2 more)) given

pub returns : goal.returns
returns g c =
    joined c.args.format (lines c.args.text.now) c.args.draft.now _ _ _ _ _ _
    c.in_ok-faults.ensures.faults c.in_ok-faults.ensures.draft
    c.deref.ensures.value c.in_ok-of_whole.ensures c.deref-2.ensures.value c.in_ok-extend_from_slice.ensures.items
