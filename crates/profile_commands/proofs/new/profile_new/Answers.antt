use Rattle.std.proofs.Common.{◌<◌, inl, inr, length, refl, rules, subst}
use Rattle.printer_models.specs.declared.new_profile.NewError.TheVariants.{Paper as WrongPaper, Mismatch as OtherText, Memory as NoMemory}
use Rattle.profile_commands.proofs.AskedPapers.{name_told, told_of_one}
use Rattle.profile_commands.specs.WholeText.{WritesWhole}
use Rattle.profile_commands.proofs.new.profile_new.Goals as goal

pub bounds-papers-wrong : goal.bounds-papers-wrong
bounds-papers-wrong g c =
    told_of_one _ c.args.papers.now c.in-Err-Paper.wrong c.in-Err-Paper.field-0 c.in-Err-Paper.field-0-is c.in-Err-Paper.ensures.err

pub offset_bounds-papers-wrong : goal.offset_bounds-papers-wrong
offset_bounds-papers-wrong g c =
    let within : c.in-Err-Paper.wrong.index < length c.args.papers.now = bounds-papers-wrong g c in search rules

pub returns-in-Ok : goal.returns-in-Ok
returns-in-Ok g c =
    inl (
      c.in-Ok.text.items,
      c.in-Ok.ensures.text,
      subst (λ text. WritesWhole text c.write_whole.result (g.O.Outlet.state c.args.stdout.now) (g.O.Outlet.state c.write_whole.new.stdout))
          c.as_slice.ensures.value c.write_whole.ensures,
      refl,
    )

pub returns-in-Err-Paper : goal.returns-in-Err-Paper
returns-in-Err-Paper g c =
    let within =
    told_of_one _ c.args.papers.now c.in-Err-Paper.wrong c.in-Err-Paper.field-0 c.in-Err-Paper.field-0-is c.in-Err-Paper.ensures.err in
    inr (
      WrongPaper c.in-Err-Paper.wrong,
      rw c.in-Err-Paper.field-0-is at c.in-Err-Paper.ensures.err,
      (c.refuse_paper.ensures.status, name_told _ _ _ c.args.papers.now c.in-Err-Paper.wrong _ within c.refuse_paper.ensures.line),
      refl,
    )

pub returns-in-Err-Mismatch : goal.returns-in-Err-Mismatch
returns-in-Err-Mismatch g c =
    inr (
      OtherText,
      rw c.in-Err-Mismatch.field-0-is at c.in-Err-Mismatch.ensures.err,
      (c.tell_mismatch.ensures.status, c.tell_mismatch.ensures.line),
      refl,
    )

pub returns-in-Err-Memory : goal.returns-in-Err-Memory
returns-in-Err-Memory g c =
    inr (NoMemory, rw c.in-Err-Memory.field-0-is at c.in-Err-Memory.ensures.err, (refl, refl), refl)
