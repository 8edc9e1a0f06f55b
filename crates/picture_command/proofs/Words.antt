-- What sentences say of a failure.
use Rattle.std.proofs.Common.{◌≡◌, ℕ, List, [], ◌∷◌, ◌++◌, Option, None, Some, drop, refl, ap, sym, ◌∙◌}
use Rattle.std.specs.Prelude.{codes, decimal, flat_map}
use Rattle.pcl_items.specs.declared.pcl.command.DataCommand.{DataCommand}
use Rattle.pcl_items.specs.declared.item.SimpleItem.{SimpleItem}
use Rattle.pcl_items.specs.declared.item.SimpleItem.TheVariants as simple
use Rattle.pcl_items.specs.Spellings.Canon.{canon}
use Rattle.pcl_items.specs.Escapes.Commands.{introducer_of, character_of, data_group_of, data_letter_of}
use Rattle.pcl_items.specs.Items.{Entry, simple_view}
use Rattle.device_profile.specs.Printer.{Printer}
use Rattle.page_env.specs.Settings.{State}
use Rattle.page_machine.specs.Still.{is_one_step}
use Rattle.judgement.specs.declared.failing_item.FailingItem.{FailingItem}
use Rattle.judgement.specs.declared.failing_item.FailingItem.TheVariants as failing_items
use Rattle.judgement.specs.declared.failing_item.MissingFont.{MissingFont}
use Rattle.judgement.specs.declared.failing_item.SheetSpot.{SheetSpot}
use Rattle.judgement.specs.FailingItem.{IsFailingItem}
use Rattle.job_reports.specs.CommandWords.{code_words, command_words}
use Rattle.job_reports.specs.JobSentences.{fails_where}
use Rattle.job_reports.specs.LeftOut.{left_out_in, left_out_of}
use Rattle.job_reports.specs.RefusedNames.{value_key}
use Rattle.picture_command.specs.PageSearch.{at_item, font_where, item_value, item_words, spot_where}

simple_words : (item : SimpleItem) → item_words (simple_view item) ≡ flat_map code_words (canon (simple_view item))
simple_words simple.CarriageReturn = refl
simple_words simple.LineFeed = refl
simple_words simple.FormFeed = refl
simple_words simple.Reset = refl
simple_words simple.ClearMargins = refl
simple_words simple.HalfLineFeed = refl
simple_words (simple.Parameterized command number) = refl
simple_words (simple.SymbolSet letter number) = refl
simple_words simple.DefaultFont = refl
simple_words (simple.EnterFrame handover) = refl
simple_words (simple.LeaveFrame handover) = refl
simple_words simple.Initialize = refl
simple_words (simple.Set setting magnitude) = refl
simple_words (simple.Move motion to) = refl
simple_words simple.ExitLanguage = refl

-- a command that counts so many bytes
abbrev counting : DataCommand → ℕ → List ℕ
counting command count =
    codes "ESC " ++ introducer_of (data_group_of command) ∷ character_of (data_group_of command)
    ∷ (decimal count ++ data_letter_of command ∷ [])

-- what is told of an item tells it in the same words
failing_item_words : (failing_item : FailingItem) (item : Entry) → IsFailingItem failing_item item →
    command_words failing_item ≡ item_words item
failing_item_words (failing_items.Text code) item is = sym (ap item_words is)
failing_item_words (failing_items.Simple plain) item is = sym (simple_words plain) ∙ sym (ap item_words is)
failing_item_words (failing_items.WithData command count) item is = ap (counting command) (sym is.2) ∙ sym (ap item_words is.1)
failing_item_words failing_items.Line item is = sym (ap item_words is.1)

-- and leaves out the same of its value
failing_item_leaves : (failing_item : FailingItem) (item : Entry) → IsFailingItem failing_item item →
    left_out_of (Some failing_item) ≡ left_out_in item
failing_item_leaves (failing_items.Text code) item is = sym (ap left_out_in is)
failing_item_leaves (failing_items.Simple plain) item is = sym (ap left_out_in is)
failing_item_leaves (failing_items.WithData command count) item is = sym (ap left_out_in is.1)
failing_item_leaves failing_items.Line item is = sym (ap left_out_in is.1)

simple_value : (item : SimpleItem) → item_value (simple_view item) ≡ Some (drop 1 (canon (simple_view item)))
simple_value simple.CarriageReturn = refl
simple_value simple.LineFeed = refl
simple_value simple.FormFeed = refl
simple_value simple.Reset = refl
simple_value simple.ClearMargins = refl
simple_value simple.HalfLineFeed = refl
simple_value (simple.Parameterized command number) = refl
simple_value (simple.SymbolSet letter number) = refl
simple_value simple.DefaultFont = refl
simple_value (simple.EnterFrame handover) = refl
simple_value (simple.LeaveFrame handover) = refl
simple_value simple.Initialize = refl
simple_value (simple.Set setting magnitude) = refl
simple_value (simple.Move motion to) = refl
simple_value simple.ExitLanguage = refl

-- and gives the command with its value the same key
failing_item_value : (failing_item : FailingItem) (item : Entry) → IsFailingItem failing_item item →
    value_key (Some failing_item) ≡ item_value item
failing_item_value (failing_items.Text code) item is = sym (ap item_value is)
failing_item_value (failing_items.Simple plain) item is = sym (simple_value plain) ∙ sym (ap item_value is)
failing_item_value (failing_items.WithData command count) item is = sym (ap item_value is.1)
failing_item_value failing_items.Line item is = sym (ap item_value is.1)

pub fails_at_item : (failing_item : FailingItem) (item : Entry) → IsFailingItem failing_item item → (printer : Printer) (s : State)
    (cursor : Option SheetSpot) → cursor ≡ spot_where (is_one_step item) printer s →
    (font : Option MissingFont) → font ≡ font_where (is_one_step item) printer s →
    fails_where None cursor font (Some failing_item) ≡ at_item printer s item
fails_at_item failing_item item is printer s cursor stood font asked = λ i. record {
  page = None;
  cursor = stood i;
  font = asked i;
  words = codes ", " ++ failing_item_words failing_item item is i;
  value = failing_item_value failing_item item is i;
  left_out = failing_item_leaves failing_item item is i;
}
