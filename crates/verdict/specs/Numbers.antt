-- The numbers of faults, and those of all reasons; of findings they stand in the order of these.
use Rattle.std.specs.Prelude.{ℕ}
use Rattle.pcl_items.specs.declared.fault.LexCause.{LexCause}
use Rattle.pcl_items.specs.declared.fault.LexCause.TheVariants.{Syntax, Truncated, NotInProfile, BadNumber, Pjl}
use Rattle.pcl_items.specs.declared.fault.LexCause.TheVariants.{EndInFrame}
use Rattle.page_env.specs.Order.{number_of}
use Rattle.verdict.specs.declared.reason.Reason.{Reason}
use Rattle.verdict.specs.declared.reason.Reason.TheVariants.{Fault, Finding, Differs, Unpinnable}

abbrev pub cause_number : LexCause → ℕ
cause_number Syntax = 1
cause_number Truncated = 2
cause_number (NotInProfile name) = 3
cause_number BadNumber = 4
cause_number Pjl = 5
cause_number EndInFrame = 6

abbrev pub reason_number : Reason → ℕ
reason_number (Fault cause) = cause_number cause
reason_number (Finding finding) = number_of finding
reason_number Differs = 33
reason_number Unpinnable = 35
