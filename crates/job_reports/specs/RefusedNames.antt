-- The name that HP's manual has for what a job fails at, where pclcheck does not check it.
use Rattle.std.specs.Prelude.{ℕ, ◌==◌, List, [], ◌++◌, codes, drop, length, if◌then◌else◌, Option, None, Some}
use Rattle.pcl_items.specs.declared.fault.LexCause.TheVariants.{NotInProfile}
use Rattle.pcl_items.specs.Items.{simple_view}
use Rattle.pcl_items.specs.Spellings.Canon.{canon}
use Rattle.page_env.specs.declared.finding.Finding.TheVariants.{BadValue}
use Rattle.verdict.specs.declared.reason.Reason.{Reason}
use Rattle.verdict.specs.declared.reason.Reason.TheVariants.{Fault, Finding}
use Rattle.line_words.specs.Reason.{name_words}
use Rattle.command_names.specs.CommandNames.{command_name}
use Rattle.judgement.specs.declared.failing_item.FailingItem.{FailingItem}
use Rattle.judgement.specs.declared.failing_item.FailingItem.TheVariants.{Simple}

-- the key of a command with its value, as `*b2M`: the item's spelling without ESC
abbrev pub value_key : Option FailingItem → Option (List ℕ)
value_key (Some (Simple item)) = Some (drop 1 (canon (simple_view item)))
value_key _ = None

abbrev pub value_name : Option (List ℕ) → List ℕ
value_name None = []
value_name (Some key) = command_name key

-- of the command that a fault names, or of a command whose value is not taken, by the key of that value
abbrev pub refused_name : Option (List ℕ) → Reason → List ℕ
refused_name value (Fault (NotInProfile name)) = command_name (name_words name)
refused_name value (Finding BadValue) = value_name value
refused_name value _ = []

-- as it stands in a sentence
abbrev pub called : List ℕ → List ℕ
called name = if length name == 0 then [] else codes ", " ++ name
