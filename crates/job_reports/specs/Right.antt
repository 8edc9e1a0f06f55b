-- Which verdicts are right.
use Rattle.std.specs.Prelude.{List}
use Rattle.device_profile.specs.Printer.{Printer}
use Rattle.verdict.specs.declared.verdict.Verdict.{Verdict}
use Rattle.streams.specs.Pieces.{ByReads}
use Rattle.streams.specs.Source.{SourceState}
use Rattle.judgement.specs.Verdict.{IsExact, VerdictHolds, NeedsEachRead}

-- of every job that may be by what the reads gave, the verdict is exact and keeps its promise; and each read was needed
pub record IsRightVerdict (job job' : SourceState) (fleet : List Printer) (verdict : Verdict) : Type 0 where
  pub exact : ByReads job job' (λ bytes. IsExact fleet bytes verdict)
  pub promise : ByReads job job' (λ bytes. VerdictHolds fleet bytes verdict)
  pub needed : NeedsEachRead fleet job job'
