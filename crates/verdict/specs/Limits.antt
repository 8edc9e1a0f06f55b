-- The verdict that a limit stands behind, which says nothing of the printer.
use Rattle.std.specs.Prelude.{Bool, true, false}
use Rattle.page_env.specs.declared.finding.Finding.TheVariants.{ManyItems}
use Rattle.verdict.specs.declared.reason.Reason.{Reason}
use Rattle.verdict.specs.declared.reason.Reason.TheVariants.{Finding}
use Rattle.verdict.specs.declared.verdict.Verdict.{Verdict}
use Rattle.verdict.specs.declared.verdict.Verdict.TheVariants.{Pass, Fail}

-- macros carry out more items than are allowed
abbrev pub is_many_items : Reason → Bool
is_many_items (Finding ManyItems) = true
is_many_items _ = false

abbrev pub has_many_items : Verdict → Bool
has_many_items (Pass pages marks) = false
has_many_items (Fail place profile reason) = is_many_items reason
