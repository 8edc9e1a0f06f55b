-- What an item makes of the rendering of a pinned job.
use Rattle.std.proofs.Common.{◌≡◌, ℕ, Bool, true, false, List, [], ◌∷◌, ◌++◌, Some, find, refl, ap, ◌∙◌, if◌then◌else◌}
use Rattle.device_profile.specs.declared.font.FontRequest.{FontRequest}
use Rattle.device_profile.specs.declared.panel.Panel.{Panel}
use Rattle.pcl_items.specs.Items.{Placed}
use Rattle.pcl_lexer.specs.Reading.{Reading, Whole, Stopped, items_of, with_item}
use Rattle.verdict.specs.declared.reason.Reason.TheVariants.{Unpinnable}
use Rattle.renderings.specs.declared.outcome.Outcome.{Outcome}
use Rattle.renderings.specs.declared.outcome.Outcome.TheVariants.{Fail}
use Rattle.renderings.specs.Texts.{reading_outcome}
use Rattle.renderings.specs.Carriers.Rendering.{RestGoesOn, EndsWith, StartsWith}
use Rattle.renderings.proofs.Renderings.{same_outcome}
use Rattle.page_env.specs.Pinned.{is_unpinnable}
use Rattle.page_machine.specs.Pinning.{is_due_behind}
use Rattle.renderings.specs.Pins.{pinned_item, pinned_text, unpinnable_or, pinned_outcome, pins_from}

items_behind : (x : Placed) (rest : Reading) → items_of (with_item x rest) ≡ x ∷ items_of rest
items_behind x (Whole items place) = refl
items_behind x (Stopped items place cause) = refl

module _ (panel : Panel) (request : FontRequest) (due : Bool) (x : Placed) where
  abbrev text_from : Bool → List Placed → List ℕ
  text_from unpinnable items =
      if unpinnable then [] else (pinned_item panel request due x.item ++ pinned_text panel request (is_due_behind due x.item) items)

  abbrev outcome_from : Bool → List Placed → Outcome → Outcome
  outcome_from unpinnable items outcome = unpinnable_or (if unpinnable then Some x else find (λ y. is_unpinnable y.item) items) outcome

  text_with : (rest : Reading) → (pins_from panel request due).text (with_item x rest) ≡ text_from (is_unpinnable x.item) (items_of rest)
  text_with rest = ap (pinned_text panel request due) (items_behind x rest)

  outcome_with : (rest : Reading) →
      pinned_outcome (with_item x rest) ≡ outcome_from (is_unpinnable x.item) (items_of rest) (reading_outcome rest)
  outcome_with rest =
      ap (λ items. unpinnable_or (find (λ y. is_unpinnable y.item) items) (reading_outcome (with_item x rest))) (items_behind x rest)
      ∙ ap (outcome_from (is_unpinnable x.item) (items_of rest)) (same_outcome x rest)

  -- an item that can be pinned goes with its text
  pub pins_goes : is_unpinnable x.item ≡ false →
      RestGoesOn (pins_from panel request due) (pins_from panel request (is_due_behind due x.item)) x (pinned_item panel request due x.item)
  pins_goes fine = record {
    due = λ rest. text_with rest ∙ ap (λ b. text_from b (items_of rest)) fine;
    outcome = λ rest. outcome_with rest ∙ ap (λ b. outcome_from b (items_of rest) (reading_outcome rest)) fine;
    fault = λ rest place cause. refl;
  }

  -- another one ends the rendering
  pub pins_end : is_unpinnable x.item ≡ true → EndsWith (pins_from panel request due) (StartsWith x) [] (Fail x.place 1 Unpinnable)
  pins_end not_so = record {
    due =
        λ reading starts.
        ap (pins_from panel request due).text starts.1 ∙ text_with starts.0 ∙ ap (λ b. text_from b (items_of starts.0)) not_so;
    outcome_is =
        λ reading starts.
        ap pinned_outcome starts.1 ∙ outcome_with starts.0 ∙ ap (λ b. outcome_from b (items_of starts.0) (reading_outcome starts.0)) not_so;
  }
