-- Who says no to a job: the kind of each failure.
use Rattle.std.specs.Prelude.{ℕ, Bool, true, false, List, codes, Option, None, Some}
use Rattle.pcl_items.specs.declared.fault.LexCause.{LexCause}
use Rattle.pcl_items.specs.declared.fault.LexCause.TheVariants.{Syntax, Truncated, NotInProfile, BadNumber, Pjl}
use Rattle.pcl_items.specs.declared.fault.LexCause.TheVariants.{EndInFrame}
use Rattle.page_env.specs.declared.finding.Finding.{Finding}
use Rattle.page_env.specs.declared.finding.Finding.TheVariants as findings
use Rattle.verdict.specs.declared.reason.Reason.{Reason}
use Rattle.verdict.specs.declared.reason.Reason.TheVariants.{Fault, Finding as FindingOfRun, Differs, Unpinnable}
use Rattle.judgement.specs.declared.failing_item.FailingItem.{FailingItem}
use Rattle.job_reports.specs.declared.kind.Kind.{Kind}
use Rattle.job_reports.specs.declared.kind.Kind.TheVariants as kinds
use Rattle.job_reports.specs.declared.left_out.LeftOut.{LeftOut}
use Rattle.job_reports.specs.LeftOut.{left_out_of}

abbrev pub cause_kind : LexCause → Kind
cause_kind Syntax = kinds.Wrong
cause_kind Truncated = kinds.Wrong
cause_kind (NotInProfile name) = kinds.Unchecked
cause_kind BadNumber = kinds.Unchecked
cause_kind Pjl = kinds.Unchecked
cause_kind EndInFrame = kinds.Wrong

-- where something is left out of the value that is not taken, it is pclcheck that says no
abbrev pub value_kind : Option LeftOut → Kind
value_kind (Some left_out) = kinds.Unchecked
value_kind None = kinds.Wrong

abbrev pub finding_kind : Option LeftOut → Finding → Kind
finding_kind left_out findings.BadValue = value_kind left_out
finding_kind left_out findings.NotOnDevice = kinds.Printer
finding_kind left_out (findings.Unset field) = kinds.Panel
finding_kind left_out findings.NoFont = kinds.Printer
finding_kind left_out (findings.NoGlyph code) = kinds.Printer
finding_kind left_out findings.OffPage = kinds.Printer
finding_kind left_out findings.PastRightMargin = kinds.Printer
finding_kind left_out findings.NotPrintable = kinds.Printer
finding_kind left_out findings.StackFull = kinds.Wrong
finding_kind left_out findings.StackEmpty = kinds.Wrong
finding_kind left_out findings.NoMacro = kinds.Wrong
finding_kind left_out findings.MacroDepth = kinds.Printer
finding_kind left_out findings.MacroMemory = kinds.Printer
finding_kind left_out findings.InMacro = kinds.Wrong
finding_kind left_out findings.DefinitionOpen = kinds.Wrong
finding_kind left_out findings.RasterNotStarted = kinds.Unchecked
finding_kind left_out findings.RasterLocked = kinds.Wrong
finding_kind left_out findings.RasterTooBig = kinds.Wrong
finding_kind left_out findings.NoPen = kinds.Wrong
finding_kind left_out findings.OutsideFrame = kinds.Wrong
finding_kind left_out findings.EmptyRectangle = kinds.Wrong
finding_kind left_out findings.Inexact = kinds.Unchecked
finding_kind left_out findings.MarginIgnored = kinds.Wrong
finding_kind left_out findings.RotatedRaster = kinds.Unchecked
finding_kind left_out findings.ManyItems = kinds.Printer

-- the kind of a failure by this reason, where this is left out of the value at which it is
abbrev pub kind_by : Option LeftOut → Reason → Kind
kind_by left_out (Fault cause) = cause_kind cause
kind_by left_out (FindingOfRun finding) = finding_kind left_out finding
kind_by left_out Differs = kinds.Differs
kind_by left_out Unpinnable = kinds.Wrong

-- and at this item
abbrev pub kind_of : Reason → Option FailingItem → Kind
kind_of reason failing_item = kind_by (left_out_of failing_item) reason

abbrev pub is_unchecked : Kind → Bool
is_unchecked kinds.Unchecked = true
is_unchecked _ = false

abbrev pub kind_name : Kind → List ℕ
kind_name kinds.Unchecked = codes "unchecked"
kind_name kinds.Wrong = codes "wrong"
kind_name kinds.Printer = codes "printer"
kind_name kinds.Panel = codes "panel"
kind_name kinds.Differs = codes "differs"
