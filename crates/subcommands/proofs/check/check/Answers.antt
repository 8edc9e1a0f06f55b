use Rattle.std.proofs.Common.{◌||◌, ◌∙◌, ap, sym, subst}
use Rattle.named_inputs.specs.Fleet.{DescribeBy, DescribeFleet, IsEndOfFleet}
use Rattle.requests.specs.Status.{is_err_at_read}
use Rattle.named_inputs.proofs.FleetFacts.{DescribeFleet-some, no_write}
use Rattle.subcommands.proofs.Leaves.{no_line, LeavesAtStop-more}
use Rattle.subcommands.proofs.check.check.Goals as goal

pub write_verdict-requires-clause-some : goal.write_verdict-requires-clause-some
write_verdict-requires-clause-some g c =
    DescribeFleet-some _ c.args.profiles.now c.as_slice.result.now
    (subst (DescribeFleet _) (sym c.as_slice.ensures.value) c.in-Ok.ensures.fleet) c.requires.some

pub returns-clause-line : goal.returns-clause-line
returns-clause-line g c =
    LeavesAtStop-more c.in-Err-write_verdict.error _ _ _ _
    (λ verdict right. (
      c.as_slice.result.now,
      subst (DescribeFleet _) (sym c.as_slice.ensures.value) c.in-Ok.ensures.fleet,
      subst (DescribeBy _ _) (sym c.as_slice.ensures.value) c.in-Ok.ensures.given,
      right,
    ))
    c.in-Err-write_verdict.ensures.err

pub returns-in-Err-clause-line : goal.returns-in-Err-clause-line
returns-in-Err-clause-line g c = no_line _ c.in-Err.status _ _ c.in-Err.ensures.fleet

pub returns-in-Err-clause-read : goal.returns-in-Err-clause-read
returns-in-Err-clause-read g c =
    ap (λ failed. failed || g.T.ProfileTexts.failed c.read_fleet.new.texts) c.requires.job
    ∙ (c.read_fleet.ensures.read ∙ ap is_err_at_read c.in-Err.is)

pub returns-in-Err-clause-write : goal.returns-in-Err-clause-write
returns-in-Err-clause-write g c = c.requires.stdout ∙ no_write _ c.in-Err.status c.in-Err.ensures.fleet

pub returns-in-Err-clause-turns : goal.returns-in-Err-clause-turns
returns-in-Err-clause-turns g c = λ is. absurd (subst (IsEndOfFleet _) is c.in-Err.ensures.fleet)

pub returns-in-Ok-Pass-clause-line : goal.returns-in-Ok-Pass-clause-line
returns-in-Ok-Pass-clause-line g c =
    let said = rw c.in-Ok-Pass.field-0-is at c.in-Ok-Pass.ensures.ok in
    let fleet = c.as_slice.result.now in
    let texts = subst (DescribeFleet _) (sym c.as_slice.ensures.value) c.in-Ok.ensures.fleet in
    let given = subst (DescribeBy _ _) (sym c.as_slice.ensures.value) c.in-Ok.ensures.given in
    (c.in-Ok-Pass.field-0-0, c.in-Ok-Pass.field-0-1, (fleet, texts, given, said.0), said.1)

pub returns-in-Ok-Fail-clause-line : goal.returns-in-Ok-Fail-clause-line
returns-in-Ok-Fail-clause-line g c =
    let said = rw c.in-Ok-Fail.field-0-is at c.in-Ok-Fail.ensures.ok in
    let fleet = c.as_slice.result.now in
    let texts = subst (DescribeFleet _) (sym c.as_slice.ensures.value) c.in-Ok.ensures.fleet in
    let given = subst (DescribeBy _ _) (sym c.as_slice.ensures.value) c.in-Ok.ensures.given in
    (c.in-Ok-Fail.field-0-0, c.in-Ok-Fail.field-0-1, c.in-Ok-Fail.field-0-2, (fleet, texts, given, said.0), said.1)
