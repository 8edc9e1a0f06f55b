-- The text of a job that is pinned to one panel of a printer.
use Rattle.std.specs.Prelude.{ℕ, Bool, true, List, [], ◌∷◌, ◌++◌, flat_map, find, Option, None, Some, if◌then◌else◌}
use Rattle.device_profile.specs.declared.font.FontRequest.{FontRequest}
use Rattle.device_profile.specs.declared.panel.Panel.{Panel}
use Rattle.device_profile.specs.Printer.{Printer}
use Rattle.pcl_items.specs.Spellings.Canon.{canon}
use Rattle.pcl_items.specs.Items.{Entry, Placed}
use Rattle.pcl_lexer.specs.Reading.{Reading, items_of}
use Rattle.page_env.specs.FontInForce.{request_at}
use Rattle.page_env.specs.Pinned.{is_unpinnable}
use Rattle.page_machine.specs.Pinning.{written_before, written_behind, is_due_behind}
use Rattle.verdict.specs.Failing.{unpinnable_at}
use Rattle.renderings.specs.declared.outcome.Outcome.{Outcome}
use Rattle.renderings.specs.Expected.{Rendering, nothing_at_fault}
use Rattle.renderings.specs.Outcomes.{fails_with}
use Rattle.renderings.specs.Texts.{reading_outcome}

-- an item, with what belongs before and behind it, each in its canonical spelling
abbrev pub pinned_item : Panel → FontRequest → Bool → Entry → List ℕ
pinned_item panel request due item =
    flat_map canon (written_before panel request due item) ++ canon item ++ flat_map canon (written_behind panel item)

-- items up to the first that cannot be pinned, where a prologue is due or not
abbrev pub pinned_text : Panel → FontRequest → Bool → List Placed → List ℕ
pinned_text panel request due [] = []
pinned_text panel request due (x ∷ xs) =
    if is_unpinnable x.item then []
    else (pinned_item panel request due x.item ++ pinned_text panel request (is_due_behind due x.item) xs)

-- that item ends it
abbrev pub unpinnable_or : Option Placed → Outcome → Outcome
unpinnable_or (Some x) outcome = fails_with (unpinnable_at x.place)
unpinnable_or None outcome = outcome

abbrev pub pinned_outcome : Reading → Outcome
pinned_outcome reading = unpinnable_or (find (λ x. is_unpinnable x.item) (items_of reading)) (reading_outcome reading)

-- a job that is pinned to a panel whose font has this request, where a prologue is due or not
abbrev pub pins_from : Panel → FontRequest → Bool → Rendering
pins_from panel request due = record {
  text = λ reading. pinned_text panel request due (items_of reading);
  outcome = pinned_outcome;
  at_fault = nothing_at_fault;
}

-- a job that is pinned to a panel of a printer: at its start a prologue is due
abbrev pub pinned_rendering : Printer → Panel → Rendering
pinned_rendering printer panel = pins_from panel (request_at printer.faces panel.font) true
